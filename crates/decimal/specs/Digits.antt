-- 01 'The run sheet': "Numbers are decimal without needless leading zeros". Bytes are ASCII.
use Rattle.std.specs.Prelude.{ℕ, zero, suc, ◌+◌, ◌*◌, ◌-◌, ◌/◌, ◌%◌, Bool, not, cond, List, [], ◌∷◌, ◌++◌, eqb, ltb, leb, length, get_or}
use Rattle.std.proofs.Math.Option.{Option, some, none}
use Rattle.model.specs.Lists.{◌and◌, ◌or◌, all}

-- ── printed: the decimal digits of n, the first digit first; 0 is one digit ──
unfoldable pub digits_of : ℕ → ℕ → List ℕ
digits_of zero n = []
digits_of (suc more) n = cond (ltb n 10) ((48 + n) ∷ []) (digits_of more (n / 10) ++ ((48 + n % 10) ∷ []))

-- n has at most n + 1 digits
unfoldable pub digits : ℕ → List ℕ
digits n = digits_of (suc n) n

-- ── read ──
unfoldable pub is_digit : ℕ → Bool
is_digit b = leb 48 b and leb b 57

-- the number that digits make, after those that made n
unfoldable pub number_from : ℕ → List ℕ → ℕ
number_from n [] = n
number_from n (b ∷ bs) = number_from (n * 10 + (b - 48)) bs

-- some digit, only digits, and no 0 before another
unfoldable pub is_decimal : List ℕ → Bool
is_decimal bs = leb 1 (length bs) and all is_digit bs and (eqb (length bs) 1 or not (eqb (get_or bs 0 0) 48))

-- a number below a bound
unfoldable pub number_below : ℕ → List ℕ → Option ℕ
number_below bound bs = cond (is_decimal bs and ltb (number_from 0 bs) bound) (some (number_from 0 bs)) none
