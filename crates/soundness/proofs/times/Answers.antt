use Rattle.std.proofs.Common.{sym, arith, eqb, get_or}
use borrow.Author.Tests.{eq-eqb, ne_eqb}
use Rattle.model.proofs.RestLaws.{count-more, count_less, count-end}
use Rattle.soundness.proofs.times.Goals.{then-y-x, else-y-x}
use Rattle.soundness.proofs.times.Goals as goal

pub loop-y-preserved : goal.loop-y-preserved
loop-y-preserved c =
    let a = c.args in
    let l = c.loop-y in
    elim c.if-y-x.branch [
      | then-y-x w ↦ record {
        within = omega arith;
        counted = omega (arith, w.n-is, l.invariant.counted, count-more (eqb a.x) a.xs.now l.y-index 0 (omega arith) (eq-eqb a.x (get_or a.xs.now l.y-index 0) (sym w.if-y-x.true)));
      }
      | else-y-x w ↦ record {
        within = omega arith;
        counted = omega (arith, w.n-is, l.invariant.counted, count_less (eqb a.x) a.xs.now l.y-index 0 (omega arith) (ne_eqb a.x (get_or a.xs.now l.y-index 0) (λ e. w.if-y-x.false (sym e))));
      }
    ]

pub returns : goal.returns
returns c = omega (arith, c.loop-y.invariant.counted, count-end (eqb c.args.x) c.args.xs.now c.loop-y.y-index (omega arith))
