use Rattle.std.proofs.Common.{eqb}
use Rattle.soundness.specs.Parts.{is_zero}
use Rattle.soundness.proofs.OrLoop.{OrPassed}
use Rattle.soundness.proofs.no_values.Given as goal

-- the values or-ed are 0 where those passed are
abbrev pub invariant-loop-value : goal.invariant-loop-value
invariant-loop-value l = OrPassed is_zero l.values (eqb l.any 0) l.value-index
