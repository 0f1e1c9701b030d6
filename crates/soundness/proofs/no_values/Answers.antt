use Rattle.std.proofs.Common.{sym, arith, get_or}
use Rattle.soundness.specs.Parts.{is_zero}
use Rattle.soundness.proofs.OrLoop.{or-start, or-next, or-done, or-zero}
use Rattle.soundness.proofs.no_values.Goals as goal

pub loop-value-init : goal.loop-value-init
loop-value-init c = or-start is_zero _

pub loop-value-preserved : goal.loop-value-preserved
loop-value-preserved c =
    let l = c.loop-value in
    or-next is_zero _ _ _ l.invariant 0 _ (omega arith) (sym (or-zero l.any (get_or c.args.values.now l.value-index 0)))

pub returns : goal.returns
returns c = or-done is_zero _ _ _ c.loop-value.invariant (omega arith)
