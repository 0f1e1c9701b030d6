-- 02 §5: "Keep each write set in the station as a 64-bit number with bit k standing for key k."
use Rattle.std.specs.Prelude.{ℕ, zero, suc, ◌+◌, ◌/◌, ◌%◌, ◌^◌, List, [], ◌∷◌, map}
use Rattle.model.specs.Limits.{keys}

-- key 0 before the others, where its bit is 1
unfoldable pub with_lowest : ℕ → List ℕ → List ℕ
with_lowest zero ks = ks
with_lowest (suc b) ks = 0 ∷ ks

-- the keys below d whose bits in n are 1, ascending
unfoldable pub keys_below : ℕ → ℕ → List ℕ
keys_below zero n = []
keys_below (suc d) n = with_lowest (n % 2) (map suc (keys_below d (n / 2)))

-- the keys of a number; the number of keys
unfoldable pub key_set : ℕ → List ℕ
key_set n = keys_below keys n

unfoldable pub set_number : List ℕ → ℕ
set_number [] = 0
set_number (k ∷ ks) = 2 ^ k + set_number ks
