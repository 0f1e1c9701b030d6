use Prim.Native.Nat.{ℕ, ◌+◌, ◌<◌}
use mathlib.Core.Path.{sym, ◌∙◌}
use mathlib.Core.List.{List, ◌∷◌}
use lib.ListN.{length, drop, get_or, drop_of_length-le}
use Rattle.model.specs.declared.Id.{Id}
use Rattle.model.proofs.RestLaws.{rest-next}
use Rattle.records.proofs.SlotSteps.{Left, left-next, left-not, left-ends, carried}
use Rattle.records.proofs.carries_keys.Goals as goal

-- a key is at hand
turn : (w : List ℕ) (i : Id) (ks : List ℕ) (n : ℕ) → n < length ks → Left w i ks (drop n ks) n → Left w i ks (get_or ks n 0 ∷ drop (n + 1) ks) n
turn w i ks n o h = rw (sym (rest-next ks n 0 o)) h

pub returns-then-not-carries_version : goal.returns-then-not-carries_version
returns-then-not-carries_version c = λ κ.
    sym (left-not _ _ _ _ _ _ (turn _ _ _ _ c.loop-n-test.true c.loop-n.invariant) κ (carried _ _ _ _ _ c.carries_version.ensures κ ∙ c.if-not-carries_version.true))

pub loop-n-preserved : goal.loop-n-preserved
loop-n-preserved c =
    left-next _ _ _ _ _ _ (turn _ _ _ _ c.loop-n-test.true c.loop-n.invariant) (λ κ. carried _ _ _ _ _ c.carries_version.ensures κ ∙ c.if-not-carries_version.false)

pub returns : goal.returns
returns c = λ κ. sym (left-ends _ _ _ _ _ c.loop-n.invariant (drop_of_length-le _ c.loop-n-test.false) κ)
