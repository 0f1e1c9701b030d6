-- What a loop over the first n of a list, or over keys, has before it: one element more, and none. Slices compared.
use Prim.Native.Nat.{ℕ, suc, ◌+◌, ◌<◌, ◌≤◌}
use mathlib.Core.Path.{◌≡◌, refl, sym, ap, ◌∙◌}
use mathlib.Core.Bool.{Bool, true, false, ◌&&◌}
use mathlib.Core.List.{List, [], ◌∷◌}
use lib.Dec.{eqb, ltb, leb}
use lib.ListN.{length, take, drop, get_or, length-take, drop_of_length-le}
use lib.Seq.{get_or-take}
use native.Mathlib.Omega.{arith}
use native.Mathlib.Numerals.{add-one}
use borrow.Author.Tests.{lt-ltb, le-ltb, le-leb, lt-leb}
use Rattle.std.specs.Cmp.Lexicographic.{pointwise}
use Rattle.model.specs.Lists.{◌and◌, ascending, same}
use Rattle.model.proofs.Tests.{and_intro, and-none-left, and-none-right}
use Rattle.model.proofs.RestLaws.{rest-next}

-- ── the rest of a list ──
pub taken_next : (l : List ℕ) (n i : ℕ) → i < n → n ≤ length l → drop i (take n l) ≡ get_or l i 0 ∷ drop (i + 1) (take n l)
taken_next l n i o h =
    let k : i < length (take n l) = simp length-take (omega arith) in
    rest-next (take n l) i 0 k ∙ ap (λ (x : ℕ). x ∷ drop (i + 1) (take n l)) (get_or-take n l i 0 o)

pub taken-end : (l : List ℕ) (n i : ℕ) → n ≤ i → drop i (take n l) ≡ []
taken-end l n i h =
    let k : length (take n l) ≤ i = omega (arith, length-take n l) in
    drop_of_length-le (take n l) k

-- ── strictly ascending ──
ascending-yes : (lo hi n : ℕ) (ns : List ℕ) → (leb lo n and ltb n hi) ≡ true → ascending lo hi (n ∷ ns) ≡ ascending (suc n) hi ns
unfolding ascending
ascending-yes lo hi n ns h = rw (h, ascending)

ascending-no : (lo hi n : ℕ) (ns : List ℕ) → (leb lo n and ltb n hi) ≡ false → ascending lo hi (n ∷ ns) ≡ false
unfolding ascending
ascending-no lo hi n ns h = rw (h, ascending)

module _ (ks : List ℕ) (i lo hi : ℕ) (o : i < length ks) where
  pub ascending-next : lo ≤ get_or ks i 0 → get_or ks i 0 < hi → ascending lo hi (drop i ks) ≡ ascending (get_or ks i 0 + 1) hi (drop (i + 1) ks)
  ascending-next a b = ap (ascending lo hi) (rest-next ks i 0 o)
      ∙ ascending-yes lo hi (get_or ks i 0) (drop (i + 1) ks) (and_intro _ _ (le-leb lo (get_or ks i 0) a) (lt-ltb (get_or ks i 0) hi b))
      ∙ ap (λ (m : ℕ). ascending m hi (drop (i + 1) ks)) (sym (add-one (get_or ks i 0)))

  pub ascending-low : get_or ks i 0 < lo → ascending lo hi (drop i ks) ≡ false
  ascending-low a = ap (ascending lo hi) (rest-next ks i 0 o) ∙ ascending-no lo hi (get_or ks i 0) (drop (i + 1) ks) (and-none-left _ _ (lt-leb lo (get_or ks i 0) a))

  pub ascending-high : hi ≤ get_or ks i 0 → ascending lo hi (drop i ks) ≡ false
  ascending-high b = ap (ascending lo hi) (rest-next ks i 0 o) ∙ ascending-no lo hi (get_or ks i 0) (drop (i + 1) ks) (and-none-right _ _ (le-ltb (get_or ks i 0) hi b))

pub ascending-end : (ks : List ℕ) (i lo hi : ℕ) → length ks ≤ i → ascending lo hi (drop i ks) ≡ true
unfolding ascending
ascending-end ks i lo hi h = ap (ascending lo hi) (drop_of_length-le ks h)

-- ── the same bytes ──
eq_step : (b : Bool) (p q : Bool) → p ≡ q → (b && p) ≡ elim b [ true ↦ q | false ↦ false ]
eq_step true p q h = h
eq_step false p q h = refl

pub pointwise-same : (xs ys : List ℕ) → pointwise eqb xs ys ≡ same xs ys
unfolding same
pointwise-same [] [] = refl
pointwise-same [] (y ∷ ys) = refl
pointwise-same (x ∷ xs) [] = refl
pointwise-same (x ∷ xs) (y ∷ ys) = eq_step (eqb x y) _ _ (pointwise-same xs ys)
