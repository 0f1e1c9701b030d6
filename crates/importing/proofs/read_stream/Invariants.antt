-- `importing::read_stream` meets its contract.
use lib.ListN.{length}
use Rattle.importing.proofs.ReadingLaws.{Reading}
use Rattle.importing.proofs.read_stream.Given as goal

abbrev pub invariant-loop-left : goal.invariant-loop-left
invariant-loop-left l = Reading l.s l.initial.room l.room l.txns l.kept l.rest l.last l.count l.left

abbrev pub decreases-loop-left : goal.decreases-loop-left
decreases-loop-left l = length l.left
