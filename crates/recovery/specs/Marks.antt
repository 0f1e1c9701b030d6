-- Which lowest bytes are those of a number in a column; a column's unused places are 0.
use Rattle.std.specs.Prelude.{ℕ, ◌%◌, ◌≡◌, Bool, true, false, List, get_or}
use Rattle.model.specs.Limits.{byte_range}

unfoldable pub Marked : List Bool → List ℕ → Type 0
Marked ms ts = (j : ℕ) → get_or ms (get_or ts j 0 % byte_range) false ≡ true
