-- A decimal read digit by digit.
use Prim.Native.Nat.{ℕ, suc, ◌+◌, ◌*◌, ◌-◌, ◌<◌, ◌≤◌}
use mathlib.Core.Path.{◌≡◌, refl, sym, ap, subst, ◌∙◌}
use mathlib.Core.Logic.{◌≢◌}
use mathlib.Core.Bool.{Bool, true, false, not, cond, ◌&&◌, true≢false}
use mathlib.Core.List.{List, [], ◌∷◌, ◌++◌, append-nil}
use mathlib.Core.Option.{Option, some, none, none-ne-some, some-injective}
use lib.Dec.{eqb, ltb, leb}
use lib.ListN.{length, drop, get_or}
use native.Mathlib.Nat.{lt_irrefl, suc-ne-zero, le_refl}
use native.Mathlib.Omega.{arith}
use borrow.Author.Tests.{ltb-true, leb-true, lt-ltb, le-ltb, le-leb, eq-eqb, ne_eqb}
use Rattle.std.specs.Prelude as P
use Rattle.std.specs.Prelude.{Some, None}
use Rattle.std.proofs.lemmas.Option.{none-some, some_pair_parts}
use Rattle.std.specs.Char.{is_ascii_digit}
use Rattle.model.specs.Lists.{◌and◌, ◌or◌, all}
use Rattle.model.proofs.Tests.{and_left, and_right, and_intro, or-none, or-intro-left, or-intro-right, not_of_false, not-of-true, and-none-left, and-none-right}
use Rattle.model.proofs.ListLaws.{all_head, all_tail}
use Rattle.decimal.specs.Digits.{is_digit, number_from, is_decimal, number_below}
use Rattle.decimal.specs.Fields.{field, starts_number, number_read}
use Rattle.decimal.proofs.FieldLaws.{field-yes, field-no, field_next}

-- what digits make after those that made n, if it is below a bound
unfoldable pub read_on : ℕ → ℕ → List ℕ → Option ℕ
read_on bound n bs = cond (all is_digit bs and ltb (number_from n bs) bound) (some (number_from n bs)) none

grows : (n : ℕ) (bs : List ℕ) → n ≤ number_from n bs
unfolding number_from
grows n [] = le_refl n
grows n (b ∷ bs) = omega (arith, grows (n * 10 + (b - 48)) bs)

read-refused : (bound n : ℕ) (bs : List ℕ) → (all is_digit bs and ltb (number_from n bs) bound) ≡ false → read_on bound n bs ≡ none
unfolding read_on
read-refused bound n bs h = rw h

all_yes : (p : ℕ → Bool) (x : ℕ) (xs : List ℕ) → p x ≡ true → all p (x ∷ xs) ≡ all p xs
unfolding all
all_yes p x xs h = rw (h, all)

all-no : (p : ℕ → Bool) (x : ℕ) (xs : List ℕ) → p x ≡ false → all p (x ∷ xs) ≡ false
unfolding all
all-no p x xs h = rw (h, all)

read-cons : (bound n b : ℕ) (bs : List ℕ) → is_digit b ≡ true → read_on bound n (b ∷ bs) ≡ read_on bound (n * 10 + (b - 48)) bs
unfolding read_on number_from
read-cons bound n b bs h = rw (all_yes is_digit b bs h)

read-not : (bound n b : ℕ) (bs : List ℕ) → is_digit b ≡ false → read_on bound n (b ∷ bs) ≡ none
read-not bound n b bs h = read-refused bound n (b ∷ bs) (and-none-left _ _ (all-no is_digit b bs h))

-- a digit's test as std has it
and-is : (a b : Bool) → (a && b) ≡ (a and b)
unfolding ◌and◌
and-is true b = refl
and-is false b = refl

pub digit-is : (b : ℕ) (r t : Bool) → r ≡ is_ascii_digit b → r ≡ t → is_digit b ≡ t
unfolding is_digit
digit-is b r t h e = sym (and-is (leb 48 b) (leb b 57)) ∙ sym h ∙ e

pub digit-high : (b : ℕ) → is_digit b ≡ true → b ≤ 57
unfolding is_digit
digit-high b h = leb-true b 57 (and_right _ _ h)

module _ (end bound n : ℕ) (s : List ℕ) (i : ℕ) (o : i < length s) (d : get_or s i 0 ≢ end) where
  pub read_next : is_digit (get_or s i 0) ≡ true → read_on bound n (field end (drop i s)) ≡ read_on bound (n * 10 + (get_or s i 0 - 48)) (field end (drop (i + 1) s))
  read_next h = ap (read_on bound n) (field_next end s i o d) ∙ read-cons bound n (get_or s i 0) (field end (drop (i + 1) s)) h

  pub read-other : is_digit (get_or s i 0) ≡ false → read_on bound n (field end (drop i s)) ≡ none
  read-other h = ap (read_on bound n) (field_next end s i o d) ∙ read-not bound n (get_or s i 0) (field end (drop (i + 1) s)) h

pub read-over : (bound n : ℕ) (bs : List ℕ) → bound ≤ n → read_on bound n bs ≡ none
read-over bound n bs h = read-refused bound n bs (and-none-right _ _ (le-ltb (number_from n bs) bound (omega (arith, grows n bs))))

pub read-end : (bound n : ℕ) (bs : List ℕ) → bs ≡ [] → n < bound → read_on bound n bs ≡ some n
unfolding read_on number_from all ◌and◌
read-end bound n bs e l = ap (read_on bound n) e ∙ (rw (lt-ltb n bound l))

-- ── the start of a decimal ──
module _ (end : ℕ) where
  pub start-empty : (s : List ℕ) → length s ≡ 0 → starts_number (field end s) ≡ false
  unfolding starts_number field
  start-empty [] h = and-none-left _ _ refl
  start-empty (b ∷ bs) h = absurd (suc-ne-zero _ h)

  pub start-end : (s : List ℕ) → length s ≢ 0 → get_or s 0 0 ≡ end → starts_number (field end s) ≡ false
  unfolding starts_number
  start-end [] o h = absurd (o refl)
  start-end (b ∷ bs) o h = rw (field-yes end b bs (eq-eqb b end h)) (and-none-left _ _ refl)

  pub start-digit : (s : List ℕ) → length s ≢ 0 → get_or s 0 0 ≢ end → get_or s 0 0 ≢ 48 → starts_number (field end s) ≡ true
  unfolding starts_number
  start-digit [] o h z = absurd (o refl)
  start-digit (b ∷ bs) o h z = rw (field-no end b bs (ne_eqb b end h)) (and_intro _ _ (le-leb 1 (length (b ∷ field end bs)) (omega arith)) (or-intro-right _ _ (not_of_false _ (ne_eqb b 48 z))))

  pub start-only : (s : List ℕ) → length s ≡ 1 → starts_number (field end s) ≡ not (eqb (get_or s 0 0) end)
  unfolding starts_number field
  start-only [] l = absurd (suc-ne-zero 0 (sym l))
  start-only (b ∷ []) l = go (eqb b end) refl
    where
      go : (t : Bool) → eqb b end ≡ t → starts_number (field end (b ∷ [])) ≡ not t
      go true e = rw (field-yes end b [] e) (and-none-left _ _ refl)
      go false e = rw (field-no end b [] e) (and_intro _ _ refl (or-intro-left _ _ refl))
  start-only (b ∷ x ∷ bs) l = absurd (suc-ne-zero (length bs) (omega arith))

  pub start-zero : (s : List ℕ) → length s ≢ 0 → length s ≢ 1 → get_or s 0 0 ≢ end → get_or s 0 0 ≡ 48 → starts_number (field end s) ≡ eqb (get_or s 1 0) end
  unfolding starts_number
  start-zero [] o l h z = absurd (o refl)
  start-zero (b ∷ []) o l h z = absurd (l refl)
  start-zero (b ∷ x ∷ bs) o l h z = go (eqb x end) refl
    where
      go : (t : Bool) → eqb x end ≡ t → starts_number (field end (b ∷ x ∷ bs)) ≡ t
      go true e = rw (field-no end b (x ∷ bs) (ne_eqb b end h), field-yes end x bs e) (and_intro _ _ refl (or-intro-left _ _ refl))
      go false e =
          rw (field-no end b (x ∷ bs) (ne_eqb b end h), field-no end x bs e)
          (and-none-right _ _ (or-none _ _ (ne_eqb (length (b ∷ x ∷ field end bs)) 1 (λ q. suc-ne-zero (length (field end bs)) (le-one q))) (not-of-true _ (eq-eqb b 48 z))))
        where
          le-one : length (b ∷ x ∷ field end bs) ≡ 1 → suc (length (field end bs)) ≡ 0
          le-one q = omega arith

-- ── the whole of it ──
both-needed : (a t z : Bool) → (a and z) ≡ false → (a and t and z) ≡ false
unfolding ◌and◌
both-needed true t z h = and-none-right t z h
both-needed false t z h = refl

only-digits : (a t z : Bool) → (a and z) ≡ true → (a and t and z) ≡ t
only-digits a true z h = and_intro _ _ (and_intro _ _ (and_left a z h) refl) (and_right a z h)
only-digits a false z h = and-none-left _ _ (and-none-right _ _ refl)

below-refused : (bound : ℕ) (bs : List ℕ) → is_decimal bs ≡ false → number_below bound bs ≡ none
unfolding number_below ◌and◌
below-refused bound bs h = rw h

pub read_none : (bound : ℕ) (bs : List ℕ) → starts_number bs ≡ false → number_below bound bs ≡ none
unfolding starts_number is_decimal
read_none bound bs h = below-refused bound bs (both-needed (leb 1 (length bs)) (all is_digit bs) (eqb (length bs) 1 or not (eqb (get_or bs 0 0) 48)) h)

pub read-start : (bound : ℕ) (bs : List ℕ) → starts_number bs ≡ true → number_below bound bs ≡ read_on bound 0 bs
unfolding starts_number number_below is_decimal read_on
read-start bound bs h = ap (λ (t : Bool). cond (t and ltb (number_from 0 bs) bound) (some (number_from 0 bs)) none)
    (only-digits (leb 1 (length bs)) (all is_digit bs) (eqb (length bs) 1 or not (eqb (get_or bs 0 0) 48)) h)

-- ── a field ended by a byte that is no digit ──
module _ (end : ℕ) (z : is_digit end ≡ false) where
  pub digits-field : (bs rest : List ℕ) → all is_digit bs ≡ true → field end (bs ++ rest) ≡ bs ++ field end rest
  digits-field [] rest h = refl
  digits-field (b ∷ bs) rest h =
      field-no end b (bs ++ rest) (ne_eqb b end (λ e. true≢false (sym (all_head is_digit b bs h) ∙ ap is_digit e ∙ z)))
      ∙ ap (λ (l : List ℕ). b ∷ l) (digits-field bs rest (all_tail is_digit b bs h))

  -- what has such a byte in it is no number
  pub read-ended : (bound : ℕ) (bs : List ℕ) → length (field end bs) < length bs → number_below bound bs ≡ none
  unfolding is_decimal field
  read-ended bound bs h = go (all is_digit bs) refl
    where
      go : (t : Bool) → all is_digit bs ≡ t → number_below bound bs ≡ none
      go true e = absurd (lt_irrefl (length bs) (omega (arith, ap length (sym (ap (field end) (append-nil bs)) ∙ digits-field bs [] e ∙ append-nil bs))))
      go false e = below-refused bound bs (and-none-left _ _ (and-none-right _ _ e))

-- what is read is below the bound
pub read_below : (bound : ℕ) (bs : List ℕ) (n : ℕ) → number_below bound bs ≡ some n → n < bound
unfolding number_below
read_below bound bs n h = go (is_decimal bs and ltb (number_from 0 bs) bound) refl
  where
    go : (t : Bool) → (is_decimal bs and ltb (number_from 0 bs) bound) ≡ t → n < bound
    go true e = subst (λ (m : ℕ). m < bound) (sym (some-injective n (number_from 0 bs) (sym h ∙ rw e))) (ltb-true (number_from 0 bs) bound (and_right _ _ e))
    go false e = absurd (none-ne-some n (sym (sym h ∙ rw e)))

-- ── a number's field as the code hands it on ──
pub unread : (o : Option ℕ) (m : ℕ) (r : P.Option (ℕ × ℕ)) → r ≡ number_read o m → r ≡ None → o ≡ none
unfolding number_read
unread none m r h e = refl
unread (some x) m r h e = absurd (none-some (x, m) (sym e ∙ h))

pub read_as : (o : Option ℕ) (m : ℕ) (r : P.Option (ℕ × ℕ)) (n at : ℕ) → r ≡ number_read o m → r ≡ Some (n, at) → (o ≡ some n) × (at ≡ m)
unfolding number_read
read_as none m r n at h e = absurd (none-some (n, at) (sym h ∙ e))
read_as (some x) m r n at h e = let p = some_pair_parts x n m at (sym h ∙ e) in (ap some p.0, sym p.1)

module _ (o : Option ℕ) (m : ℕ) where
  pub as-unread : o ≡ none → None ≡ number_read o m
  unfolding number_read
  as-unread h = rw h

  pub as_read : (n at : ℕ) → o ≡ some n → m ≡ at → Some (n, at) ≡ number_read o m
  unfolding number_read
  as_read n at h e = rw (h, e)
