-- Laws of the loops of soundness: a set tested element by element, a column filled.
use Prim.Native.Nat.{ℕ, zero, suc, ◌+◌, ◌-◌, ◌<◌, ◌≤◌}
use mathlib.Core.Path.{◌≡◌, sym, ap, ap₂, ◌∙◌}
use mathlib.Core.Bool.{Bool, true, false}
use mathlib.Core.List.{List, [], ◌∷◌, ◌++◌, append_assoc}
use lib.ListN.{length, take, drop, get_or, set, drop_of_length-le}
use lib.Seq.{take-suc-set, take_all, take-suc, drop-cons}
use native.Mathlib.Nat.{zero-lt-suc}
use native.Mathlib.Omega.{arith}
use native.Mathlib.Numerals.{add-one}
use borrow.Author.Tests.{ltb-true}
use Rattle.model.specs.Lists.{◌and◌, all}
use Rattle.model.specs.Limits.{keys}
use Rattle.model.proofs.Tests.{and_right, and_assoc}
use Rattle.model.proofs.RestLaws.{all_split, all_end}
use Rattle.soundness.specs.Parts.{fits, set_right}

-- ── sets: ascending keys, then zeros ──
module _ {A : Type 0} (key : A → ℕ) (good is_zero : A → Bool) (lo n : ℕ) (xs : List A) (j : ℕ) (d : A) (h : j < length xs) where
  in_is : j < n
      → set_right key good is_zero lo (n - j) (drop j xs) ≡ (fits lo (key (get_or xs j d)) and good (get_or xs j d) and set_right key good is_zero (key (get_or xs j d) + 1) (n - (j + 1)) (drop (j + 1) xs))
  unfolding set_right
  in_is m = let e : n - j ≡ suc (n - (j + 1)) = omega arith in rw (e, drop-cons xs j d h, add-one j, add-one (key (get_or xs j d)))

  pub key_more : j < n → fits lo (key (get_or xs j d)) ≡ true → good (get_or xs j d) ≡ true
      → set_right key good is_zero lo (n - j) (drop j xs) ≡ set_right key good is_zero (key (get_or xs j d) + 1) (n - (j + 1)) (drop (j + 1) xs)
  unfolding ◌and◌
  key_more m e g = in_is m ∙ ap₂ (λ (a b : Bool). a and b and set_right key good is_zero (key (get_or xs j d) + 1) (n - (j + 1)) (drop (j + 1) xs)) e g

  pub key-stop : j < n → fits lo (key (get_or xs j d)) ≡ false → set_right key good is_zero lo (n - j) (drop j xs) ≡ false
  unfolding ◌and◌
  key-stop m e = in_is m ∙ ap (λ (a : Bool). a and good (get_or xs j d) and set_right key good is_zero (key (get_or xs j d) + 1) (n - (j + 1)) (drop (j + 1) xs)) e

  pub good-stop : j < n → fits lo (key (get_or xs j d)) ≡ true → good (get_or xs j d) ≡ false → set_right key good is_zero lo (n - j) (drop j xs) ≡ false
  unfolding ◌and◌
  good-stop m e g = in_is m ∙ ap₂ (λ (a b : Bool). a and b and set_right key good is_zero (key (get_or xs j d) + 1) (n - (j + 1)) (drop (j + 1) xs)) e g

module _ {A : Type 0} (key : A → ℕ) (good is_zero : A → Bool) where
  pub set-end : (lo n : ℕ) (xs : List A) (j : ℕ) → length xs ≤ j → set_right key good is_zero lo n (drop j xs) ≡ true
  unfolding set_right
  set-end lo n xs j h = rw (drop_of_length-le xs h)

  -- past the keys
  zeros-is : (lo : ℕ) (xs : List A) → set_right key good is_zero lo 0 xs ≡ all is_zero xs
  unfolding set_right
  zeros-is lo [] = sym (all_end is_zero [] 0 (omega arith))
  zeros-is lo (x ∷ xs) = ap (λ (b : Bool). is_zero x and b) (zeros-is lo xs) ∙ sym (all_split is_zero (x ∷ xs) 0 x (zero-lt-suc _))

  pub set-split : (lo n : ℕ) (xs : List A) → set_right key good is_zero lo n xs ≡ (set_right key good is_zero lo n (take n xs) and all is_zero (drop n xs))
  unfolding set_right ◌and◌
  set-split lo zero xs = zeros-is lo xs
  set-split lo (suc n) [] = sym (all_end is_zero [] 0 (omega arith))
  set-split lo (suc n) (x ∷ xs) =
      ap (λ (b : Bool). fits lo (key x) and good x and b) (set-split (suc (key x)) n xs)
      ∙ and_assoc (fits lo (key x) and good x) (set_right key good is_zero (suc (key x)) n (take n xs)) (all is_zero (drop n xs))

-- a key that fits is below the limit
pub fits_low : (lo k : ℕ) → fits lo k ≡ true → k < keys
unfolding fits
fits_low lo k h = ltb-true k keys (and_right _ _ h)

-- ── a column that is filled from place i on with the numbers ys ──
pub column-more : (before xs ys : List ℕ) (i j a : ℕ) → i < length xs → j < length ys → a ≡ get_or ys j 0 → take i xs ≡ before ++ take j ys → take (i + 1) (set xs i a) ≡ before ++ take (j + 1) ys
column-more before xs ys i j a h k e t =
    rw (add-one i, add-one j, take-suc-set xs i a h, take-suc ys j 0 k, t, e) (append_assoc before (take j ys) (get_or ys j 0 ∷ []))

pub column-end : (xs ys : List ℕ) (n i : ℕ) → length xs ≡ n → length ys ≡ n → n ≤ i → take i xs ≡ take i ys → xs ≡ ys
column-end xs ys n i h k m e = sym (take_all i xs (omega arith)) ∙ e ∙ take_all i ys (omega arith)
