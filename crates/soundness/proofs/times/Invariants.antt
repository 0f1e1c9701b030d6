use Rattle.std.proofs.Common.{◌≡◌, ◌+◌, ◌≤◌, eqb, drop}
use Rattle.model.specs.Lists.{count}
use Rattle.soundness.proofs.times.Given as goal

abbrev pub invariant-loop-y : goal.invariant-loop-y
invariant-loop-y l = record {
  within : l.n ≤ l.y-index;
  counted : count (eqb l.x) l.xs ≡ l.n + count (eqb l.x) (drop l.y-index l.xs);
}
