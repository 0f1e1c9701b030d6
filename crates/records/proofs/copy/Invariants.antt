-- `records::copy` meets its contract.
use lib.ListN.{length, drop}
use Rattle.records.proofs.WriteLoop.{Written}
use Rattle.records.proofs.copy.Given as goal

abbrev pub invariant-loop-i : goal.invariant-loop-i
invariant-loop-i l = Written (length l.bytes) l.initial.part l.bytes l.i l.part (drop l.i l.bytes)
