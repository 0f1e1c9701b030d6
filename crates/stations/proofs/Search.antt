-- What the model says of a list that is searched, of a list of keys and of what the keys are of.
use Prim.Native.Nat.{ℕ, suc, ◌<◌, ◌≤◌, suc-le-suc}
use mathlib.Core.Path.{◌≡◌, refl, sym, ap, ◌∙◌}
use mathlib.Core.Bool.{Bool, true, false, cond}
use mathlib.Core.List.{List, [], ◌∷◌, map, map-map}
use lib.Dec.{eqb, ltb}
use lib.ListN.{length, take, length-take}
use native.Mathlib.Nat.{le_refl}
use native.Mathlib.Omega.{arith}
use borrow.Author.Tests.{lt-ltb, le-ltb, ne_eqb}
use Rattle.std.specs.Prelude.{Option, Some, None}
use Rattle.std.specs.Option.{unwrap_or}
use Rattle.std.specs.List.{position_or_len}
use Rattle.model.specs.Lists.{first, any, member}
use Rattle.model.proofs.ListLaws.{first-yes, first-no, first-none, any-yes, any-no, member-finds, member-none}
use Rattle.model.proofs.StdWords.{first_from_position}

module _ {A B : Type 0} (f : A → B) (p : B → Bool) where
  pub first-map : (xs : List A) → first p (map f xs) ≡ first (λ x. p (f x)) xs
  unfolding first
  first-map [] = refl
  first-map (x ∷ xs) = go (p (f x)) refl (first-map xs)
    where
      go : (b : Bool) → p (f x) ≡ b → first p (map f xs) ≡ first (λ y. p (f y)) xs → first p (f x ∷ map f xs) ≡ first (λ y. p (f y)) (x ∷ xs)
      go true e ih = first-yes p (f x) (map f xs) e ∙ sym (first-yes (λ y. p (f y)) x xs e)
      go false e ih = first-no p (f x) (map f xs) e ∙ (ap suc ih ∙ sym (first-no (λ y. p (f y)) x xs e))

  pub any-map : (xs : List A) → any p (map f xs) ≡ any (λ x. p (f x)) xs
  unfolding any
  any-map [] = refl
  any-map (x ∷ xs) = go (p (f x)) refl (any-map xs)
    where
      go : (b : Bool) → p (f x) ≡ b → any p (map f xs) ≡ any (λ y. p (f y)) xs → any p (f x ∷ map f xs) ≡ any (λ y. p (f y)) (x ∷ xs)
      go true e ih = any-yes p (f x) (map f xs) e ∙ sym (any-yes (λ y. p (f y)) x xs e)
      go false e ih = any-no p (f x) (map f xs) e ∙ (ih ∙ sym (any-no (λ y. p (f y)) x xs e))

-- ── of a list and the list of what its elements are translated to ──
module _ {A B : Type 0} (f : B → ℕ) (g : A → B) (t : ℕ) (xs : List A) where
  -- what `position` answers, or the length
  pub first_translated : (n r : ℕ) (o : Option ℕ) → let p : A → Bool = λ x. eqb t (f (g x)) in
      r ≡ unwrap_or o n → o ≡ cond (ltb (position_or_len p xs) (length xs)) (Some (position_or_len p xs)) None → length xs ≡ n → r ≡ first (eqb t) (map f (map g xs))
  first_translated n r o u e l =
      u ∙ (first_from_position (λ x. eqb t (f (g x))) xs o n e l ∙ sym (ap (first (eqb t)) (map-map f g xs) ∙ first-map (λ x. f (g x)) (eqb t) xs))

  pub member-translated : any (λ x. eqb t (f (g x))) xs ≡ member t (map f (map g xs))
  unfolding member
  member-translated = sym (ap (any (eqb t)) (map-map f g xs) ∙ any-map (λ x. f (g x)) (eqb t) xs)

module _ {A : Type 0} where
  pub first-at-most : (p : A → Bool) (xs : List A) → first p xs ≤ length xs
  unfolding first
  first-at-most p [] = le_refl 0
  first-at-most p (x ∷ xs) = go (p x) refl (first-at-most p xs)
    where
      go : (b : Bool) → p x ≡ b → first p xs ≤ length xs → first p (x ∷ xs) ≤ suc (length xs)
      go true e ih = rw (first-yes p x xs e) (omega arith)
      go false e ih = rw (first-no p x xs e) (suc-le-suc ih)

  pub first-within : (p : A → Bool) (n : ℕ) (xs : List A) → first p (take n xs) ≤ n
  first-within p n xs = omega (arith, first-at-most p (take n xs), length-take n xs)

-- a number is among a list exactly where the search ends inside
pub member-first : (t : ℕ) (xs : List ℕ) → member t xs ≡ ltb (first (eqb t) xs) (length xs)
member-first t xs = go (member t xs) refl
  where
    go : (b : Bool) → member t xs ≡ b → member t xs ≡ ltb (first (eqb t) xs) (length xs)
    go true e = e ∙ sym (lt-ltb _ _ (member-finds t xs e).0)
    go false e = e ∙ sym (le-ltb _ _ (out (first-none (eqb t) xs 0 (λ j o. ne_eqb _ _ (λ z. member-none t xs e j o (sym z))))))
      where
        out : first (eqb t) xs ≡ length xs → length xs ≤ first (eqb t) xs
        out q = omega arith

-- by where the search ends
pub member-hit : (t i : ℕ) (xs : List ℕ) → first (eqb t) xs ≡ i → i < length xs → member t xs ≡ true
member-hit t i xs e o = member-first t xs ∙ lt-ltb (first (eqb t) xs) (length xs) (rw e o)

pub member-miss : (t i : ℕ) (xs : List ℕ) → first (eqb t) xs ≡ i → length xs ≤ i → member t xs ≡ false
member-miss t i xs e o = member-first t xs ∙ le-ltb (first (eqb t) xs) (length xs) (rw e o)
