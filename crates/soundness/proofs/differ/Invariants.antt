use Rattle.std.proofs.Common.{◌≡◌, length}
use Rattle.soundness.proofs.Distinct.{Passed}
use Rattle.soundness.proofs.differ.Given as goal

abbrev pub invariant-loop-x : goal.invariant-loop-x
invariant-loop-x l = record { bytes : length l.seen ≡ 256; passed : Passed l.xs l.seen l.x-index }
