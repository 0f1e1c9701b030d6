-- Rows marked: what the functions below the sweep mark.
use Rattle.std.specs.Prelude.{ℕ, ◌<◌, ◌≡◌, Bool, false, List, get_or}
use Rattle.model.specs.Lists.{◌or◌}

-- of the first m, ys has what xs has, and those that pass
abbrev pub AlsoMarked : (ℕ → Bool) → ℕ → List Bool → List Bool → Type 0
AlsoMarked p m xs ys = (d : ℕ) → d < m → get_or ys d false ≡ (get_or xs d false or p d)

-- of the first m, those that pass are marked
abbrev pub Marked : (ℕ → Bool) → ℕ → List Bool → Type 0
Marked p m ys = (d : ℕ) → d < m → get_or ys d false ≡ p d
