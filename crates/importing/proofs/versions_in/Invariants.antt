-- `importing::versions_in` meets its contract.
use Rattle.importing.proofs.VersionsRead.{VersionsSoFar}
use Rattle.importing.proofs.versions_in.Given as goal

abbrev pub invariant-loop-n : goal.invariant-loop-n
invariant-loop-n l = VersionsSoFar l.id l.s l.slot l.keys l.last l.rest l.n
