-- How many numbers of a list differ, with one more in front: `once` (specs/Verdicts).
use Prim.Native.Nat.{ℕ, suc}
use mathlib.Core.Path.{◌≡◌, refl, sym, ap, ◌∙◌}
use mathlib.Core.Bool.{Bool, true, false, true≢false}
use mathlib.Core.List.{List, [], ◌∷◌}
use lib.ListN.{length}
use native.Mathlib.Nat.{suc-ne-zero}
use Rattle.model.specs.Lists.{any, member}
use Rattle.shoplog.specs.Verdicts.{once}

pub once-seen : (n : ℕ) (ns : List ℕ) → member n ns ≡ true → once (n ∷ ns) ≡ once ns
unfolding once
once-seen n ns h = rw h

pub once-again : (n : ℕ) (ns : List ℕ) → member n ns ≡ true → length (once (n ∷ ns)) ≡ length (once ns)
once-again n ns h = ap length (once-seen n ns h)

pub once-new : (n : ℕ) (ns : List ℕ) → member n ns ≡ false → length (once (n ∷ ns)) ≡ suc (length (once ns))
unfolding once
once-new n ns h = rw h

-- none differ: there are none
pub once-none : (ns : List ℕ) → length (once ns) ≡ 0 → ns ≡ []
unfolding once member any
once-none [] h = refl
once-none (n ∷ ns) h = go (member n ns) refl (once-none ns)
  where
    go : (b : Bool) → member n ns ≡ b → (length (once ns) ≡ 0 → ns ≡ []) → n ∷ ns ≡ []
    go true e ih = absurd (true≢false (sym e ∙ ap (member n) (ih (sym (once-again n ns e) ∙ h))))
    go false e ih = absurd (suc-ne-zero _ (sym (once-new n ns e) ∙ h))
