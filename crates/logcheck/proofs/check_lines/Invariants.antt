-- `logcheck::check_lines` meets its contract.
use Prim.Native.Nat.{◌+◌, ◌-◌, ◌≤◌}
use mathlib.Core.Path.{◌≡◌}
use mathlib.Core.List.{[]}
use lib.ListN.{length, drop}
use Rattle.lines.specs.Lines.{first_line}
use Rattle.logtable.specs.Tables.{table_size}
use Rattle.logcheck.specs.Checking.{after_bytes}
use Rattle.logcheck.proofs.BlockLaws.{at}
use Rattle.logcheck.proofs.check_lines.Given as goal

-- what is left of the block goes on from the lines that were judged
abbrev pub invariant-loop-end : goal.invariant-loop-end
invariant-loop-end l =
    (l.from ≤ length l.input) × (l.end ≤ length l.input) × (length l.table ≡ table_size) × (l.n + l.start ≤ l.above + l.from) × (l.end ≡ l.from + length (first_line (drop l.from l.input)))
    × (after_bytes (drop l.initial.from l.input) (at l.initial.table l.initial.n []) ≡ after_bytes (drop l.from l.input) (at l.table l.n []))

abbrev pub decreases-loop-end : goal.decreases-loop-end
decreases-loop-end l = length l.input - l.end
