-- Numbers of which none stands twice: the first so many stand once, and so do those after them.
use Prim.Native.Nat.{ℕ, zero, suc}
use mathlib.Core.Path.{◌≡◌, refl, sym, ◌∙◌}
use mathlib.Core.Logic.{◌≢◌, ◌⊎◌, inl, inr}
use mathlib.Core.Bool.{true, false}
use mathlib.Core.List.{List, [], ◌∷◌, ◌++◌}
use lib.Dec.{eqb}
use lib.ListN.{take, drop, get_or, length-take}
use lib.Seq.{get_or-take}
use native.Mathlib.Omega.{arith}
use borrow.Author.Tests.{eqb-false, ne_eqb, not-true}
use Rattle.model.specs.Lists.{any, first, member, distinct}
use Rattle.model.proofs.Tests.{and_left, and_right, and_intro, or_left, or_right, or-none, not_of_false, bool_cases}
use Rattle.model.proofs.ListLaws.{member-cons, member-finds}
use Rattle.model.proofs.DistinctLaws.{distinct_tail, distinct_cons, once-apart}
use Rattle.importing.specs.Passes.{once_among}

pub distinct-drop : (n : ℕ) (ts : List ℕ) → distinct ts ≡ true → distinct (drop n ts) ≡ true
distinct-drop zero ts h = h
distinct-drop (suc n) [] h = h
distinct-drop (suc n) (t ∷ ts) h = distinct-drop n ts (distinct_tail t ts h)

-- the first n stand once, and none of the others twice
pub once-rest : (n : ℕ) (ts : List ℕ) → once_among n ts ≡ true → distinct (drop n ts) ≡ true → distinct ts ≡ true
unfolding once_among
once-rest zero ts h d = d
once-rest (suc n) [] h d = d
once-rest (suc n) (t ∷ ts) h d = distinct_cons t ts (not-true _ (and_left _ _ h)) (once-rest n ts (and_right _ _ h) d)

-- ── one number more ──
member-last : (x t : ℕ) (ts : List ℕ) → member x ts ≡ false → eqb x t ≡ false → member x (ts ++ (t ∷ [])) ≡ false
unfolding member any
member-last x t [] h e = member-cons x t [] ∙ or-none _ _ e refl
member-last x t (y ∷ ts) h e =
    let q = sym (member-cons x y ts) ∙ h in
    member-cons x y (ts ++ (t ∷ [])) ∙ or-none _ _ (or_left _ _ q) (member-last x t ts (or_right _ _ q) e)

once-none : (n : ℕ) → once_among n [] ≡ true
unfolding once_among
once-none zero = refl
once-none (suc n) = refl

pub once_more : (n : ℕ) (ts : List ℕ) (t : ℕ) → once_among n ts ≡ true → member t (take n ts) ≡ false → once_among n (ts ++ (t ∷ [])) ≡ true
unfolding once_among member any
once_more zero ts t h m = refl
once_more (suc n) [] t h m = and_intro _ _ refl (once-none n)
once_more (suc n) (x ∷ ts) t h m =
    let q = sym (member-cons t x (take n ts)) ∙ m in
    let ne : eqb x t ≡ false = ne_eqb x t (λ e. eqb-false t x (or_left _ _ q) (sym e)) in
    and_intro _ _ (not_of_false _ (member-last x t ts (not-true _ (and_left _ _ h)) ne)) (once_more n ts t (and_right _ _ h) (or_right _ _ q))

-- one that stands among the first n stands twice
pub twice : (n : ℕ) (ts us : List ℕ) (t : ℕ) → t ≢ 0 → member t (take n ts) ≡ true → distinct (ts ++ (t ∷ us)) ≡ false
twice n ts us t z m = go (bool_cases (distinct (ts ++ (t ∷ us))))
  where
    i : ℕ
    i = first (eqb t) (take n ts)

    at : get_or ts i 0 ≡ t
    at = let r = member-finds t (take n ts) m in sym (get_or-take n ts i 0 (omega (arith, r.0, length-take n ts))) ∙ r.1

    go : (distinct (ts ++ (t ∷ us)) ≡ true) ⊎ (distinct (ts ++ (t ∷ us)) ≡ false) → distinct (ts ++ (t ∷ us)) ≡ false
    go (inl d) = absurd (once-apart ts (t ∷ us) d i 0 (λ e. z (sym at ∙ e)) at)
    go (inr d) = d
