-- `importing::is_bad` meets its contract.
use lib.ListN.{length}
use Rattle.importing.proofs.PassLaws.{Searching}
use Rattle.importing.proofs.is_bad.Given as goal

abbrev pub invariant-loop-left : goal.invariant-loop-left
invariant-loop-left l = Searching l.s l.left

abbrev pub decreases-loop-left : goal.decreases-loop-left
decreases-loop-left l = length l.left
