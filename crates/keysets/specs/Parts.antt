-- What the functions of this crate give, as lists of keys.
use Rattle.std.specs.Prelude.{ℕ, ◌<◌, ◌≡◌, List, ◌∷◌, eqb}
use Rattle.model.specs.Lists.{◌or◌, member}
use Rattle.model.specs.Limits.{keys}
use Rattle.model.specs.KeySets.{key_set}
use Rattle.keysets.specs.declared.Keys.{Keys}

-- k is the first of the set's keys
abbrev pub IsLowest : ℕ → ℕ → Type 0
IsLowest set k = (k < keys) × ((ks : List ℕ) × (key_set set ≡ k ∷ ks))

-- the set's keys are one key and those of the rest
abbrev pub IsRest : ℕ → ℕ → Type 0
IsRest set rest = (rest < set) × ((k : ℕ) × (key_set set ≡ k ∷ key_set rest))

-- r has the keys of the set, and k
abbrev pub AlsoHas : ℕ → ℕ → ℕ → Type 0
AlsoHas set k r = (j : ℕ) → member j (key_set r) ≡ (eqb j k or member j (key_set set))

-- what an iterator of keys has still to give
abbrev pub keys_left : Keys → List ℕ
keys_left it = key_set it.0
