-- The digits of some numbers: 0, 9 and 10, the least number of twenty digits and 2^64 − 1. Each is what its bytes are read as, computed.
use mathlib.Core.Path.{◌≡◌, refl}
use mathlib.Core.List.{[], ◌∷◌}
use Rattle.model.specs.Lists.{◌and◌, ◌or◌, all}
use Rattle.decimal.specs.Digits.{digits, is_digit, number_from, is_decimal}
use Rattle.decimal.proofs.RoundTrip.{digits_number}

pub digits-hold :
    (digits 0 ≡ 48 ∷ [])
    × (digits 9 ≡ 57 ∷ [])
    × (digits 10 ≡ 49 ∷ 48 ∷ [])
    × (digits 10000000000000000000 ≡ 49 ∷ 48 ∷ 48 ∷ 48 ∷ 48 ∷ 48 ∷ 48 ∷ 48 ∷ 48 ∷ 48 ∷ 48 ∷ 48 ∷ 48 ∷ 48 ∷ 48 ∷ 48 ∷ 48 ∷ 48 ∷ 48 ∷ 48 ∷ [])
    × (digits 18446744073709551615 ≡ 49 ∷ 56 ∷ 52 ∷ 52 ∷ 54 ∷ 55 ∷ 52 ∷ 52 ∷ 48 ∷ 55 ∷ 51 ∷ 55 ∷ 48 ∷ 57 ∷ 53 ∷ 53 ∷ 49 ∷ 54 ∷ 49 ∷ 53 ∷ [])
unfolding is_decimal number_from is_digit all ◌and◌ ◌or◌
digits-hold = (digits_number _ refl, digits_number _ refl, digits_number _ refl, digits_number _ refl, digits_number _ refl)
