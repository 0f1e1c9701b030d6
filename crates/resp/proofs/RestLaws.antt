-- What is left after a word, after a decimal and the byte that ends it: the bytes are the word, or the number's digits, and what is left.
use Prim.Native.Nat.{ℕ, ◌+◌, ◌<◌}
use mathlib.Core.Path.{◌≡◌, refl, sym, ap, ap₂, ◌∙◌}
use mathlib.Core.Bool.{Bool, true, false}
use mathlib.Core.List.{List, [], ◌∷◌, ◌++◌}
use mathlib.Core.Option.{some, none-ne-some, some-injective}
use lib.Dec.{eqb, ltb}
use lib.ListN.{length, drop, length-append}
use lib.Seq.{drop-append-add}
use native.Mathlib.Omega.{arith}
use borrow.Author.Tests.{eqb-true, eq-eqb}
use Rattle.model.specs.Lists.{◌and◌}
use Rattle.model.proofs.Tests.{and_left}
use Rattle.decimal.specs.Digits.{digits, is_digit, number_from, is_decimal, number_below}
use Rattle.decimal.specs.Fields.{field, after_field}
use Rattle.decimal.proofs.FieldLaws.{after-some}
use Rattle.decimal.proofs.RoundTrip.{digits_number, field-digits}
use Rattle.resp.specs.Inverse.{after}

-- ── a word ──
pub after-own : (w r : List ℕ) → after w (w ++ r) ≡ some r
unfolding after
after-own [] r = refl
after-own (x ∷ w) r = rw (eq-eqb x x refl) (after-own w r)

pub after_is : (w bs r : List ℕ) → after w bs ≡ some r → bs ≡ w ++ r
unfolding after
after_is [] bs r h = some-injective bs r h
after_is (x ∷ w) [] r h = absurd (none-ne-some r h)
after_is (x ∷ w) (b ∷ bs) r h = go (eqb x b) refl (after_is w bs r)
  where
    go : (t : Bool) → eqb x b ≡ t → (after w bs ≡ some r → bs ≡ w ++ r) → b ∷ bs ≡ (x ∷ w) ++ r
    go true e ih = ap₂ (λ (y : ℕ) (l : List ℕ). y ∷ l) (sym (eqb-true x b e)) (ih (rw e at h))
    go false e ih = absurd (none-ne-some r (rw e at h))

-- ── a field and the byte after it ──
module _ (end : ℕ) where
  field-rest : (bs r : List ℕ) → after_field end bs ≡ some r → bs ≡ field end bs ++ (end ∷ r)
  unfolding field after_field
  field-rest [] r h = absurd (none-ne-some r h)
  field-rest (b ∷ bs) r h = go (eqb b end) refl (field-rest bs r)
    where
      go : (t : Bool) → eqb b end ≡ t → (after_field end bs ≡ some r → bs ≡ field end bs ++ (end ∷ r)) → b ∷ bs ≡ field end (b ∷ bs) ++ (end ∷ r)
      go true e ih = rw e (ap₂ (λ (y : ℕ) (l : List ℕ). y ∷ l) (eqb-true b end e) (some-injective bs r (rw e at h)))
      go false e ih = rw e (ap (λ (l : List ℕ). b ∷ l) (ih (rw e at h)))

  pub after-digits : is_digit end ≡ false → (n : ℕ) (r : List ℕ) → after_field end (digits n ++ (end ∷ r)) ≡ some r
  after-digits z n r =
      let bs : List ℕ = digits n ++ (end ∷ r) in
      let f : field end bs ≡ digits n = field-digits end z n r in
      let o : length (field end bs) < length bs = rw f (omega (arith, length-append (digits n) (end ∷ r))) in
      after-some end bs o ∙ ap (λ (l : List ℕ). some (drop (length l + 1) bs)) f ∙ ap (λ (l : List ℕ). some l) (drop-append-add (digits n) (end ∷ r) 1)

-- ── a decimal ──
-- what is read as a number is its digits
pub number_is : (bound : ℕ) (bs : List ℕ) (n : ℕ) → number_below bound bs ≡ some n → bs ≡ digits n
unfolding number_below
number_is bound bs n h = go (is_decimal bs and ltb (number_from 0 bs) bound) refl
  where
    go : (t : Bool) → (is_decimal bs and ltb (number_from 0 bs) bound) ≡ t → bs ≡ digits n
    go true e = sym (digits_number bs (and_left _ _ e)) ∙ ap digits (some-injective (number_from 0 bs) n (rw e at h))
    go false e = absurd (none-ne-some n (rw e at h))

pub number-rest : (end bound : ℕ) (bs : List ℕ) (n : ℕ) (r : List ℕ) → number_below bound (field end bs) ≡ some n → after_field end bs ≡ some r → bs ≡ digits n ++ (end ∷ r)
number-rest end bound bs n r h k = field-rest end bs r k ∙ ap (λ (l : List ℕ). l ++ (end ∷ r)) (number_is bound (field end bs) n h)
