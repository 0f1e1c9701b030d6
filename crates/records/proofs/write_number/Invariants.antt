-- `records::write_number` meets its contract. The loop's invariant: the bytes written, and those of what is left.
use Prim.Native.Nat.{◌-◌}
use mathlib.Core.Path.{◌≡◌}
use mathlib.Core.List.{◌++◌}
use lib.ListN.{length, take}
use Rattle.model.specs.Bytes.{bytes}
use Rattle.records.proofs.write_number.Given as goal

abbrev pub invariant-loop-byte : goal.invariant-loop-byte
invariant-loop-byte l = take l.byte-index l.part ++ bytes (length l.initial.part - l.byte-index) l.rest ≡ bytes (length l.initial.part) l.x
