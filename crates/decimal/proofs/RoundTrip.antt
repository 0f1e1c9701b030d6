-- A decimal that is read is its number's digits, and a number's digits are read as the number.
use Prim.Native.Nat.{ℕ, suc, ◌+◌, ◌*◌, ◌-◌, ◌/◌, ◌%◌, ◌<◌, ◌≤◌}
use mathlib.Core.Path.{◌≡◌, refl, sym, ap, ap₂, ◌∙◌}
use mathlib.Core.Logic.{◌≢◌, ⊎_elim}
use mathlib.Core.Bool.{true, false, not}
use mathlib.Core.List.{List, [], ◌∷◌, ◌++◌, append-nil, append_assoc}
use mathlib.Core.Option.{some}
use lib.Dec.{eqb}
use lib.ListN.{length, get_or}
use native.Mathlib.Nat.{not-suc-le-zero, suc-ne-zero, zero-lt-suc, lt_irrefl, le_refl}
use native.Mathlib.Decide.{dec_lt}
use native.Mathlib.Omega.{arith}
use borrow.Author.Tests.{leb-true, eqb-true, eqb-false, not-true, lt-ltb, le-leb, eq-eqb, ne_eqb}
use Rattle.model.specs.Lists.{◌and◌, ◌or◌, all}
use Rattle.model.proofs.Tests.{and_left, and_right, and_intro, or_cases, or-intro-left, or-intro-right, not_of_false}
use Rattle.model.proofs.ListLaws.{all_head, all_tail, all_cons}
use Rattle.decimal.specs.Digits.{digits, is_digit, number_from, is_decimal, number_below}
use Rattle.decimal.specs.Fields.{field}
use Rattle.decimal.proofs.FieldLaws.{field-yes}
use Rattle.decimal.proofs.ReadLaws.{digits-field}
use Rattle.decimal.proofs.DigitLaws.{by-tenths, digits-small, digits-large, count_small}

-- ── printed, then read ──
number-last : (n b : ℕ) (bs : List ℕ) → number_from n (bs ++ (b ∷ [])) ≡ number_from n bs * 10 + (b - 48)
unfolding number_from
number-last n b [] = refl
number-last n b (x ∷ bs) = number-last (n * 10 + (x - 48)) b bs

pub number_digits : (n : ℕ) → number_from 0 (digits n) ≡ n
unfolding number_from
number_digits = by-tenths (λ n. number_from 0 (digits n) ≡ n) one more
  where
    one : (n : ℕ) → n < 10 → number_from 0 (digits n) ≡ n
    one n h = ap (number_from 0) (digits-small n h) ∙ omega arith

    more : (n : ℕ) → 10 ≤ n → number_from 0 (digits (n / 10)) ≡ n / 10 → number_from 0 (digits n) ≡ n
    more n h ih =
        ap (number_from 0) (digits-large n h)
        ∙ number-last 0 (48 + n % 10) (digits (n / 10))
        ∙ ap (λ (x : ℕ). x * 10 + (48 + n % 10 - 48)) ih
        ∙ omega arith

-- digits are a decimal: digits only, and the first is not 0 where the number is not
digit-of : (n : ℕ) → n < 10 → is_digit (48 + n) ≡ true
unfolding is_digit
digit-of n h = and_intro _ _ (le-leb 48 (48 + n) (omega arith)) (le-leb (48 + n) 57 (omega arith))

all-last : (b : ℕ) (bs : List ℕ) → all is_digit bs ≡ true → is_digit b ≡ true → all is_digit (bs ++ (b ∷ [])) ≡ true
unfolding all
all-last b [] h d = all_cons is_digit b [] d refl
all-last b (x ∷ bs) h d = all_cons is_digit x (bs ++ (b ∷ [])) (all_head is_digit x bs h) (all-last b bs (all_tail is_digit x bs h) d)

abbrev Shaped : List ℕ → ℕ → Type 0
Shaped ds n = (all is_digit ds ≡ true) × (1 ≤ length ds) × (0 < n → get_or ds 0 0 ≢ 48)

shaped-last : (b : ℕ) (ds : List ℕ) (n m : ℕ) → 0 < m → is_digit b ≡ true → Shaped ds m → Shaped (ds ++ (b ∷ [])) n
shaped-last b [] n m o d h = absurd (not-suc-le-zero h.1)
shaped-last b (x ∷ ds) n m o d h = (all-last b (x ∷ ds) h.0 d, zero-lt-suc _, λ q. h.2 o)

shaped : (n : ℕ) → Shaped (digits n) n
unfolding all
shaped = by-tenths (λ n. Shaped (digits n) n) one more
  where
    one : (n : ℕ) → n < 10 → Shaped (digits n) n
    one n h = rw (digits-small n h) (all-last (48 + n) [] refl (digit-of n h), le_refl 1, λ q e. lt_irrefl 48 (omega arith))

    more : (n : ℕ) → 10 ≤ n → Shaped (digits (n / 10)) (n / 10) → Shaped (digits n) n
    more n h ih = rw (digits-large n h) (shaped-last (48 + n % 10) (digits (n / 10)) n (n / 10) (omega arith) (digit-of (n % 10) (omega arith)) ih)

pub digits-all : (n : ℕ) → all is_digit (digits n) ≡ true
digits-all n = (shaped n).0

pub digits_decimal : (n : ℕ) → is_decimal (digits n) ≡ true
unfolding is_decimal
digits_decimal n = and_intro _ _ (and_intro _ _ (le-leb 1 (length (digits n)) (shaped n).1) (digits-all n)) (opening (dec_lt n 10))
  where
    opening : Dec (n < 10) → (eqb (length (digits n)) 1 or not (eqb (get_or (digits n) 0 0) 48)) ≡ true
    opening (yes o) = or-intro-left _ _ (eq-eqb (length (digits n)) 1 (count_small n o))
    opening (no o) = or-intro-right _ _ (not_of_false _ (ne_eqb (get_or (digits n) 0 0) 48 ((shaped n).2 (omega arith))))

-- a number below a bound is read from its digits
pub read-digits : (bound n : ℕ) → n < bound → number_below bound (digits n) ≡ some n
unfolding number_below ◌and◌
read-digits bound n h = rw (digits_decimal n, number_digits n, lt-ltb n bound h)

-- and its field ends where they do
pub field-digits : (end : ℕ) → is_digit end ≡ false → (n : ℕ) (rest : List ℕ) → field end (digits n ++ (end ∷ rest)) ≡ digits n
field-digits end z n rest =
    digits-field end z (digits n) (end ∷ rest) (digits-all n) ∙ ap (λ (l : List ℕ). digits n ++ l) (field-yes end end rest (eq-eqb end end refl)) ∙ append-nil (digits n)

-- ── read, then printed ──
-- one digit more
digits-next : (n b : ℕ) → 0 < n → is_digit b ≡ true → digits (n * 10 + (b - 48)) ≡ digits n ++ (b ∷ [])
unfolding is_digit
digits-next n b o h =
    let lo : 48 ≤ b = leb-true 48 b (and_left _ _ h) in
    let hi : b ≤ 57 = leb-true b 57 (and_right _ _ h) in
    let q : (n * 10 + (b - 48)) / 10 ≡ n = omega arith in
    let r : 48 + (n * 10 + (b - 48)) % 10 ≡ b = omega arith in
    digits-large (n * 10 + (b - 48)) (omega arith) ∙ ap₂ (λ (y d : ℕ). digits y ++ (d ∷ [])) q r

digits-after : (n : ℕ) (bs : List ℕ) → 0 < n → all is_digit bs ≡ true → digits (number_from n bs) ≡ digits n ++ bs
unfolding number_from
digits-after n [] o h = sym (append-nil _)
digits-after n (b ∷ bs) o h =
    digits-after (n * 10 + (b - 48)) bs (omega arith) (all_tail is_digit b bs h)
    ∙ ap (λ (ds : List ℕ). ds ++ bs) (digits-next n b o (all_head is_digit b bs h))
    ∙ append_assoc (digits n) (b ∷ []) bs

digit_low : (b : ℕ) → is_digit b ≡ true → 48 ≤ b
unfolding is_digit
digit_low b h = leb-true 48 b (and_left _ _ h)

-- one digit alone
digits-one : (b : ℕ) → is_digit b ≡ true → digits (b - 48) ≡ b ∷ []
unfolding is_digit
digits-one b h =
    let lo : 48 ≤ b = leb-true 48 b (and_left _ _ h) in
    let hi : b ≤ 57 = leb-true b 57 (and_right _ _ h) in
    let e : 48 + (b - 48) ≡ b = omega arith in
    digits-small (b - 48) (omega arith) ∙ ap (λ (x : ℕ). x ∷ []) e

number-first : (b : ℕ) (bs : List ℕ) → number_from 0 (b ∷ bs) ≡ number_from (b - 48) bs
unfolding number_from
number-first b bs =
    let z : 0 + (b - 48) ≡ b - 48 = omega arith in
    ap (λ (n : ℕ). number_from n bs) z

pub digits_number : (bs : List ℕ) → is_decimal bs ≡ true → digits (number_from 0 bs) ≡ bs
unfolding is_decimal number_from
digits_number [] h = absurd (not-suc-le-zero (leb-true 1 0 (and_left _ _ (and_left _ _ h))))
digits_number (b ∷ []) h = ap digits (number-first b []) ∙ digits-one b (all_head is_digit b [] (and_right _ _ (and_left _ _ h)))
digits_number (b ∷ x ∷ bs) h =
    let ds : all is_digit (b ∷ x ∷ bs) ≡ true = and_right _ _ (and_left _ _ h) in
    let d : is_digit b ≡ true = all_head is_digit b (x ∷ bs) ds in
    ap digits (number-first b (x ∷ bs)) ∙ digits-after (b - 48) (x ∷ bs) (large d) (all_tail is_digit b (x ∷ bs) ds) ∙ ap (λ (l : List ℕ). l ++ (x ∷ bs)) (digits-one b d)
  where
    opening : (eqb (length (b ∷ x ∷ bs)) 1 or not (eqb b 48)) ≡ true
    opening = and_right _ _ h

    nonzero : b ≢ 48
    nonzero e = ⊎_elim (λ l. suc-ne-zero (length bs) (le-zero (eqb-true (length (b ∷ x ∷ bs)) 1 l))) (λ z. eqb-false b 48 (not-true _ z) e) (or_cases _ _ opening)
      where
        le-zero : length (b ∷ x ∷ bs) ≡ 1 → suc (length bs) ≡ 0
        le-zero q = omega arith

    large : is_digit b ≡ true → 0 < b - 48
    large d = omega (arith, digit_low b d, nonzero)
