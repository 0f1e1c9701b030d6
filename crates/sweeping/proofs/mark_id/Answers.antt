use mathlib.Core.Path.{sym, ◌∙◌}
use Rattle.sweeping.proofs.MarkLoop.{marking-hit, marking-skip}
use Rattle.sweeping.proofs.mark_id.Goals.{then-has_id, else-has_id}
use Rattle.sweeping.proofs.mark_id.Goals as goal

pub loop-d-preserved : goal.loop-d-preserved
loop-d-preserved c = elim c.if-has_id.branch [
  | then-has_id w ↦ rw w.marks-is (marking-hit _ _ _ _ _ c.loop-d.invariant c.loop-d-test.true (sym c.has_id.ensures ∙ w.if-has_id.true))
  | else-has_id w ↦ rw w.marks-is (marking-skip _ _ _ _ _ c.loop-d.invariant c.loop-d-test.true (sym c.has_id.ensures ∙ w.if-has_id.false))
]
