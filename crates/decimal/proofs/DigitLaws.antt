-- A number's digits: those of a tenth of it, and one more.
use Prim.Native.Nat.{ℕ, zero, suc, ◌+◌, ◌*◌, ◌/◌, ◌%◌, ◌^◌, ◌<◌, ◌≤◌}
use mathlib.Core.Path.{◌≡◌, sym, ap, ◌∙◌}
use mathlib.Core.List.{List, [], ◌∷◌, ◌++◌}
use lib.ListN.{length, length-append}
use native.Mathlib.Nat.{not-suc-le-zero, pow-succ', le_refl}
use native.Mathlib.Decide.{dec_lt}
use native.Mathlib.Omega.{arith}
use borrow.Author.Tests.{lt-ltb, le-ltb}
use Rattle.decimal.specs.Digits.{digits_of, digits}

-- what holds of each digit, and of a number wherever it holds of a tenth of it, holds of all
pub by-tenths : (P : ℕ → Type 0) → ((n : ℕ) → n < 10 → P n) → ((n : ℕ) → 10 ≤ n → P (n / 10) → P n) → (n : ℕ) → P n
by-tenths P one more n = go (suc n) n (le_refl _)
  where
    go : (m n : ℕ) → n < m → P n
    go zero n o = absurd (not-suc-le-zero o)
    go (suc m) n o = last (dec_lt n 10) (go m (n / 10))
      where
        last : Dec (n < 10) → (n / 10 < m → P (n / 10)) → P n
        last (yes h) ih = one n h
        last (no h) ih = more n (omega arith) (ih (omega arith))

-- ── the two equations of `digits`, first with its steps ──
of-small : (m n : ℕ) → n < 10 → digits_of (suc m) n ≡ (48 + n) ∷ []
unfolding digits_of
of-small m n h = rw (lt-ltb n 10 h)

of-large : (m n : ℕ) → 10 ≤ n → digits_of (suc m) n ≡ digits_of m (n / 10) ++ ((48 + n % 10) ∷ [])
unfolding digits_of
of-large m n h = rw (le-ltb n 10 h)

-- more steps than a number has digits make no difference
enough : (m k n : ℕ) → n < m → n < k → digits_of m n ≡ digits_of k n
enough zero k n o p = absurd (not-suc-le-zero o)
enough (suc m) zero n o p = absurd (not-suc-le-zero p)
enough (suc m) (suc k) n o p = go (dec_lt n 10) (enough m k (n / 10))
  where
    go : Dec (n < 10) → (n / 10 < m → n / 10 < k → digits_of m (n / 10) ≡ digits_of k (n / 10)) → digits_of (suc m) n ≡ digits_of (suc k) n
    go (yes h) ih = of-small m n h ∙ sym (of-small k n h)
    go (no h) ih = of-large m n (omega arith) ∙ ap (λ (ds : List ℕ). ds ++ ((48 + n % 10) ∷ [])) (ih (omega arith) (omega arith)) ∙ sym (of-large k n (omega arith))

pub digits-small : (n : ℕ) → n < 10 → digits n ≡ (48 + n) ∷ []
unfolding digits
digits-small n h = of-small n n h

pub digits-large : (n : ℕ) → 10 ≤ n → digits n ≡ digits (n / 10) ++ ((48 + n % 10) ∷ [])
unfolding digits
digits-large n h = of-large n n h ∙ ap (λ (ds : List ℕ). ds ++ ((48 + n % 10) ∷ [])) (enough n (suc (n / 10)) (n / 10) (omega arith) (le_refl _))

-- ── how many ──
pub count_small : (n : ℕ) → n < 10 → length (digits n) ≡ 1
count_small n h = ap length (digits-small n h)

pub count-large : (n : ℕ) → 10 ≤ n → length (digits n) ≡ length (digits (n / 10)) + 1
count-large n h = ap length (digits-large n h) ∙ length-append (digits (n / 10)) _

-- below ten to the n at most n
pub count-below : (k n : ℕ) → n < 10 ^ suc k → length (digits n) ≤ suc k
count-below zero n h = omega (arith, count_small n (omega arith))
count-below (suc k) n h = go (dec_lt n 10) (count-below k (n / 10))
  where
    e : 10 ^ suc (suc k) ≡ 10 * 10 ^ suc k
    e = pow-succ' 10 (suc k)

    go : Dec (n < 10) → (n / 10 < 10 ^ suc k → length (digits (n / 10)) ≤ suc k) → length (digits n) ≤ suc (suc k)
    go (yes o) ih = omega (arith, count_small n o)
    go (no o) ih = omega (arith, count-large n (omega arith), ih (omega (arith, e)))
