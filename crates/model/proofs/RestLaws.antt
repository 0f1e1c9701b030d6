-- A loop over a list has the rest of the list before it: what a test of the rest comes to, one element further, and where none is left.
use Prim.Native.Nat.{ℕ, suc, ◌+◌, ◌<◌, ◌≤◌}
use mathlib.Core.Path.{◌≡◌, sym, ap, ap₂, ◌∙◌}
use mathlib.Core.Logic.{◌≢◌, ◌⊎◌, inl, inr}
use mathlib.Core.Bool.{Bool, true, false}
use mathlib.Core.List.{List, ◌∷◌}
use lib.Dec.{eqb}
use lib.ListN.{length, drop, get_or, drop_of_length-le}
use lib.Seq.{drop-cons}
use native.Mathlib.Numerals.{add-one}
use borrow.Author.Tests.{eq-eqb, ne_eqb}
use Rattle.model.specs.Lists.{◌and◌, all, first, count, same}
use Rattle.model.proofs.Tests.{bool_cases}
use Rattle.model.proofs.ListLaws.{count_yes, count_no}

pub rest-next : {A : Type 0} (l : List A) (i : ℕ) (d : A) → i < length l → drop i l ≡ get_or l i d ∷ drop (i + 1) l
rest-next l i d o = rw (add-one i) (drop-cons l i d o)

-- ── all, count, first ──
module _ {A : Type 0} (p : A → Bool) (xs : List A) (i : ℕ) where
  pub all_more : (d : A) → i < length xs → p (get_or xs i d) ≡ true → all p (drop i xs) ≡ all p (drop (i + 1) xs)
  unfolding all
  all_more d h e = rw (rest-next xs i d h, e, all)

  pub all-stop : (d : A) → i < length xs → p (get_or xs i d) ≡ false → all p (drop i xs) ≡ false
  unfolding all
  all-stop d h e = rw (rest-next xs i d h, e, all)

  pub all_end : length xs ≤ i → all p (drop i xs) ≡ true
  unfolding all
  all_end h = rw (drop_of_length-le xs h)

  pub count-more : (d : A) → i < length xs → p (get_or xs i d) ≡ true → count p (drop i xs) ≡ suc (count p (drop (i + 1) xs))
  count-more d h e = rw (rest-next xs i d h) (count_yes p (get_or xs i d) (drop (i + 1) xs) e)

  pub count_less : (d : A) → i < length xs → p (get_or xs i d) ≡ false → count p (drop i xs) ≡ count p (drop (i + 1) xs)
  count_less d h e = rw (rest-next xs i d h) (count_no p (get_or xs i d) (drop (i + 1) xs) e)

  pub count-end : length xs ≤ i → count p (drop i xs) ≡ 0
  unfolding count
  count-end h = rw (drop_of_length-le xs h)

  pub first_more : (d : A) → i < length xs → p (get_or xs i d) ≡ false → first p (drop i xs) ≡ suc (first p (drop (i + 1) xs))
  unfolding first
  first_more d h e = rw (rest-next xs i d h, e, first)

  pub first-stop : (d : A) → i < length xs → p (get_or xs i d) ≡ true → first p (drop i xs) ≡ 0
  unfolding first
  first-stop d h e = rw (rest-next xs i d h, e, first)

  pub first-end : length xs ≤ i → first p (drop i xs) ≡ 0
  unfolding first
  first-end h = rw (drop_of_length-le xs h)

  -- the first element's test, and the rest's
  pub all_split : (d : A) → i < length xs → all p (drop i xs) ≡ (p (get_or xs i d) and all p (drop (i + 1) xs))
  unfolding ◌and◌
  all_split d h = go (bool_cases (p (get_or xs i d)))
    where
      go : (p (get_or xs i d) ≡ true) ⊎ (p (get_or xs i d) ≡ false) → all p (drop i xs) ≡ (p (get_or xs i d) and all p (drop (i + 1) xs))
      go (inl e) = all_more d h e ∙ ap (λ (b : Bool). b and all p (drop (i + 1) xs)) (sym e)
      go (inr e) = all-stop d h e ∙ ap (λ (b : Bool). b and all p (drop (i + 1) xs)) (sym e)

-- ── two lists the same ──
pub same-yes : (x y : ℕ) (xs ys : List ℕ) → eqb x y ≡ true → same (x ∷ xs) (y ∷ ys) ≡ same xs ys
unfolding same
same-yes x y xs ys h = rw (h, same)

pub same-no : (x y : ℕ) (xs ys : List ℕ) → eqb x y ≡ false → same (x ∷ xs) (y ∷ ys) ≡ false
unfolding same
same-no x y xs ys h = rw (h, same)

module _ (xs ys : List ℕ) (i : ℕ) where
  pub same_next : i < length xs → i < length ys → get_or xs i 0 ≡ get_or ys i 0 → same (drop i xs) (drop i ys) ≡ same (drop (i + 1) xs) (drop (i + 1) ys)
  same_next o p h = ap₂ same (rest-next xs i 0 o) (rest-next ys i 0 p) ∙ same-yes (get_or xs i 0) (get_or ys i 0) (drop (i + 1) xs) (drop (i + 1) ys) (eq-eqb (get_or xs i 0) (get_or ys i 0) h)

  pub same_not : i < length xs → i < length ys → get_or xs i 0 ≢ get_or ys i 0 → same (drop i xs) (drop i ys) ≡ false
  same_not o p h = ap₂ same (rest-next xs i 0 o) (rest-next ys i 0 p) ∙ same-no (get_or xs i 0) (get_or ys i 0) (drop (i + 1) xs) (drop (i + 1) ys) (ne_eqb (get_or xs i 0) (get_or ys i 0) h)

  pub same_end : length xs ≤ i → length ys ≤ i → same (drop i xs) (drop i ys) ≡ true
  unfolding same
  same_end o p = ap₂ same (drop_of_length-le xs o) (drop_of_length-le ys p)
