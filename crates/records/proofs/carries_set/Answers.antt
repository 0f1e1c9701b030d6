use mathlib.Core.Path.{sym, ◌∙◌}
use mathlib.Core.List.{◌∷◌}
use Rattle.model.specs.KeySets.{key_set}
use Rattle.keysets.specs.Parts.{keys_left}
use Rattle.records.proofs.SlotSteps.{Left, left-starts, left-next, left-not, left-ends, carried}
use Rattle.records.proofs.carries_set.Goals.{In-Some}
use Rattle.records.proofs.carries_set.Goals as goal

pub loop-n-init : goal.loop-n-init
loop-n-init c = let e = c.enumerate-n-items.ensures in rw (c.into_iter-n-iterator.ensures.into_iter_gives, e.source, e.count) (left-starts _ _ (key_set c.args.set) c.requires)

-- a key is at hand
turn : (c : In-Some) → Left c.args.w.now c.args.id (key_set c.args.set) (c.in-Some.key ∷ keys_left c.next.new.self.iter) c.in-Some.n
turn c = rw (c.in-Some.ensures.steps.1, sym c.in-Some.ensures.steps.0) c.loop-n.invariant

pub returns-then-not-carries_version : goal.returns-then-not-carries_version
returns-then-not-carries_version c = λ κ.
    let i = (goal.at.returns-then-not-carries_version c).In-Some in
    sym (left-not _ _ _ _ _ _ (turn i) κ (carried _ _ _ _ _ c.carries_version.ensures κ ∙ c.if-not-carries_version.true))

pub loop-n-preserved : goal.loop-n-preserved
loop-n-preserved c =
    let i = (goal.at.loop-n-preserved c).In-Some in
    rw (i.in-Some.ensures.steps.2, sym i.in-Some.ensures.steps.1) (left-next _ _ _ _ _ _ (turn i) (λ κ. carried _ _ _ _ _ c.carries_version.ensures κ ∙ c.if-not-carries_version.false))

pub returns : goal.returns
returns c = λ κ. sym (left-ends _ _ _ _ _ c.loop-n.invariant c.in-None.ensures.steps.0.0 κ)
