-- 01 'Slip bytes': "Numbers are least byte first." A byte is a number below 256.
use Rattle.std.specs.Prelude.{ℕ, zero, suc, ◌+◌, ◌*◌, ◌/◌, ◌%◌, List, [], ◌∷◌, ◌++◌, take, drop}
use Rattle.model.specs.declared.Id.{Id}
use Rattle.model.specs.Limits.{byte_range}

-- the n bytes of a number; the number that bytes make
unfoldable pub bytes : ℕ → ℕ → List ℕ
bytes zero x = []
bytes (suc n) x = x % byte_range ∷ bytes n (x / byte_range)

unfoldable pub number : List ℕ → ℕ
number [] = 0
number (b ∷ bs) = b + byte_range * number bs

-- ── what begins both kinds of record (slip): two bytes of its own kind, two zeros, "ticket 4, clock 8" ──
unfoldable pub head_bytes : ℕ → ℕ → Id → List ℕ
head_bytes a b i = a ∷ b ∷ 0 ∷ 0 ∷ bytes 4 i.txn ++ bytes 8 i.clock

-- the id that it carries
unfoldable pub id_in : List ℕ → Id
id_in r = record { clock = number (take 8 (drop 8 r)); txn = number (take 4 (drop 4 r)) }
