-- Lists backwards: the first in the last place.
use Prim.Native.Nat.{ℕ, zero, suc, ◌-◌, ◌<◌}
use mathlib.Core.Path.{◌≡◌, refl, ap, sym, ◌∙◌}
use mathlib.Core.Logic.{◌≢◌}
use mathlib.Core.Bool.{true}
use mathlib.Core.List.{List, [], ◌∷◌, ◌++◌, map, reverse, reverse-cons, map-append}
use lib.ListN.{length, get_or, length-reverse, get_or-append}
use lib.Seq.{get_or_at}
use native.Mathlib.Nat.{not-suc-le-zero, le_of_suc-le-suc}
use native.Mathlib.Omega.{arith}
use Rattle.model.specs.Lists.{distinct}
use Rattle.model.specs.Ranges.{Every}
use Rattle.model.proofs.ListLaws.{every_append}
use Rattle.model.proofs.DistinctLaws.{distinct-at, distinct_of}

module _ {A : Type 0} where
  pub reverse-at : (l : List A) (i : ℕ) (d : A) → i < length l → get_or (reverse l) (length l - suc i) d ≡ get_or l i d
  reverse-at [] i d o = absurd (not-suc-le-zero o)
  reverse-at (x ∷ xs) zero d o = rw (reverse-cons x xs) (get_or_at (reverse xs) x [] d (suc (length xs) - 1) (length-reverse xs ∙ omega arith))
  reverse-at (x ∷ xs) (suc i) d o =
      let q : suc (length xs) - suc (suc i) ≡ length xs - suc i = omega arith in
      rw (reverse-cons x xs, q) (get_or-append (reverse xs) (x ∷ []) d (length xs - suc i) (omega (arith, length-reverse xs, o)) ∙ reverse-at xs i d (le_of_suc-le-suc o))

  -- read from its end
  pub at-reverse : (l : List A) (i : ℕ) (d : A) → i < length l → get_or (reverse l) i d ≡ get_or l (length l - suc i) d
  at-reverse l i d o =
      let q : length l - suc (length l - suc i) ≡ i = omega arith in
      ap (λ (j : ℕ). get_or (reverse l) j d) (sym q) ∙ reverse-at l (length l - suc i) d (omega arith)

  pub every-reverse : (P : A → Type 0) (xs : List A) → Every P xs → Every P (reverse xs)
  every-reverse P [] h = tt
  every-reverse P (x ∷ xs) h = rw (reverse-cons x xs) (every_append P (reverse xs) (x ∷ []) (every-reverse P xs h.1) (h.0, tt))

pub map-reverse : {A B : Type 0} (f : A → B) (xs : List A) → map f (reverse xs) ≡ reverse (map f xs)
map-reverse f [] = refl
map-reverse {B = B} f (x ∷ xs) = rw (reverse-cons x xs, reverse-cons (f x) (map f xs)) (map-append f (reverse xs) (x ∷ []) ∙ ap (λ (ys : List B). ys ++ (f x ∷ [])) (map-reverse f xs))

pub distinct-reverse : (l : List ℕ) → distinct l ≡ true → distinct (reverse l) ≡ true
distinct-reverse l h = distinct_of (reverse l) one
  where
    one : (i j : ℕ) → i < length (reverse l) → j < length (reverse l) → get_or (reverse l) i 0 ≡ get_or (reverse l) j 0 → get_or (reverse l) i 0 ≢ 0 → i ≡ j
    one i j oi oj e n =
        let oi' : i < length l = omega (arith, length-reverse l) in
        let oj' : j < length l = omega (arith, length-reverse l) in
        let e' = sym (at-reverse l i 0 oi') ∙ (e ∙ at-reverse l j 0 oj') in
        let q = distinct-at l h (length l - suc i) (length l - suc j) (omega arith) (omega arith) e' (λ z. n (at-reverse l i 0 oi' ∙ z)) in
        omega (arith, q)
