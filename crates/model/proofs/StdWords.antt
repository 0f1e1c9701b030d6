-- The words of specs/Lists for a list that is searched are std's, which an iterator's methods answer by.
use Rattle.std.specs.Prelude.{ℕ, Bool, true, false, cond, not, max, List, [], ◌∷◌, eqb, ltb, length, ◌&&◌, ◌||◌}
use Rattle.std.proofs.Common.{◌≡◌, ◌≤◌, ◌+◌, suc, Option, Some, None, refl, sym, ◌∙◌, arith}
use borrow.Author.Tests.{eqb-true, eqb-false, eq-eqb, ne_eqb}
use Rattle.std.specs.Option.{unwrap_or}
use Rattle.std.specs.List.{list_all, list_any, position_or_len, count_by, fold, reduce}
use Rattle.std.proofs.lemmas.Grind.{common_steps}
use Rattle.std.proofs.lemmas.List.Sums.{prefix_len-le-length, sum_by-cons}
use Rattle.model.specs.Lists.{all, any, first, count, member, maximum}

all_step : (b r s : Bool) → r ≡ s → (b && r) ≡ elim b [ true ↦ s | false ↦ false ]
all_step true r s e = e
all_step false r s e = refl

any_step : (b r s : Bool) → r ≡ s → (b || r) ≡ elim b [ true ↦ true | false ↦ s ]
any_step true r s e = refl
any_step false r s e = e

first_step : (b : Bool) (r s : ℕ) → r ≡ s → cond (not b) (1 + r) 0 ≡ elim b [ true ↦ 0 | false ↦ suc s ]
first_step true r s e = refl
first_step false r s e = omega (arith, e)

count_step : (b : Bool) (r s : ℕ) → r ≡ s → cond b 1 0 + r ≡ elim b [ true ↦ suc s | false ↦ s ]
count_step true r s e = omega (arith, e)
count_step false r s e = omega (arith, e)

unwrap_cut : (a n : ℕ) → a ≤ n → unwrap_or (cond (ltb a n) (Some a) None) n ≡ a
unwrap_cut a n h = grind (arith, common_steps)

-- the sides of an equality exchanged
pub eqb-swap : (x y : ℕ) → eqb x y ≡ eqb y x
eqb-swap x y = go (eqb y x) refl
  where
    go : (b : Bool) → eqb y x ≡ b → eqb x y ≡ eqb y x
    go true e = eq-eqb _ _ (sym (eqb-true _ _ e)) ∙ sym e
    go false e = ne_eqb _ _ (λ q. eqb-false _ _ e (sym q)) ∙ sym e

module _ {A : Type 0} where
  pub list_all-all : (p : A → Bool) (xs : List A) → list_all p xs ≡ all p xs
  unfolding all
  list_all-all p [] = refl
  list_all-all p (x ∷ xs) = all_step (p x) _ _ (list_all-all p xs)

  pub list_any-any : (p : A → Bool) (xs : List A) → list_any p xs ≡ any p xs
  unfolding any
  list_any-any p [] = refl
  list_any-any p (x ∷ xs) = any_step (p x) _ _ (list_any-any p xs)

  pub position_or_len-first : (p : A → Bool) (xs : List A) → position_or_len p xs ≡ first p xs
  unfolding first
  position_or_len-first p [] = refl
  position_or_len-first p (x ∷ xs) = first_step (p x) _ _ (position_or_len-first p xs)

  pub count_by-count : (p : A → Bool) (xs : List A) → count_by p xs ≡ count p xs
  unfolding count
  count_by-count p [] = refl
  count_by-count p (x ∷ xs) = sum_by-cons (λ y. cond (p y) 1 0) x xs ∙ count_step (p x) _ _ (count_by-count p xs)

  -- what `position` answers, or the length
  pub first_from_position : (p : A → Bool) (xs : List A) (r : Option ℕ) (n : ℕ) → r ≡ cond (ltb (position_or_len p xs) (length xs)) (Some (position_or_len p xs)) None → length xs ≡ n
      → unwrap_or r n ≡ first p xs
  first_from_position p xs r n e l = rw (e, ← l) (unwrap_cut (position_or_len p xs) (length xs) (prefix_len-le-length _ xs) ∙ position_or_len-first p xs)

-- `any` at an equality with the list's elements on its left, as `contains` asks
pub list_any-member : (x : ℕ) (xs : List ℕ) → list_any (λ y. eqb y x) xs ≡ member x xs
unfolding member any
list_any-member x [] = refl
list_any-member x (y ∷ ys) = rw (eqb-swap y x) (any_step (eqb x y) _ _ (list_any-member x ys))

fold_max : (a : ℕ) (xs : List ℕ) → fold max a xs ≡ max a (maximum xs)
unfolding maximum
fold_max a [] = omega arith
fold_max a (x ∷ xs) = omega (arith, fold_max (max a x) xs)

-- what `max` answers, or 0
pub maximum_from_max : (xs : List ℕ) → unwrap_or (reduce max xs) 0 ≡ maximum xs
unfolding maximum
maximum_from_max [] = refl
maximum_from_max (x ∷ xs) = fold_max x xs
