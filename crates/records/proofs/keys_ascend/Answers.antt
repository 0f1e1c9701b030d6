use mathlib.Core.Path.{sym, ◌∙◌}
use Rattle.records.proofs.ListSteps.{ascending-next, ascending-low, ascending-high, ascending-end}
use Rattle.records.proofs.keys_ascend.Goals.{then-k-low-via-then-k-low, then-k-low-via-else-k-low+then-k-ge-KEYS_U8}
use Rattle.records.proofs.keys_ascend.Goals as goal

pub returns-then-k-low : goal.returns-then-k-low
returns-then-k-low c =
    elim c.then-k-low.branch [
      | then-k-low-via-then-k-low w ↦ sym (c.loop-k.invariant ∙ ascending-low _ _ _ _ c.loop-k-test.true w.if-k-low.true)
      | then-k-low-via-else-k-low+then-k-ge-KEYS_U8 w ↦ sym (c.loop-k.invariant ∙ ascending-high _ _ _ _ c.loop-k-test.true w.if-k-ge-KEYS_U8.true)
    ]

pub loop-k-preserved : goal.loop-k-preserved
loop-k-preserved c = c.loop-k.invariant ∙ ascending-next _ _ _ _ c.loop-k-test.true c.if-k-low.false c.if-k-ge-KEYS_U8.false

pub returns : goal.returns
returns c = sym (c.loop-k.invariant ∙ ascending-end _ _ _ _ c.loop-k-test.false)
