-- What stands where after bytes are written over others.
use Rattle.std.specs.Prelude.{ℕ, ◌+◌, List, ◌++◌, length, take, drop}

-- a list with w written over it from a place on
unfoldable pub written : List ℕ → ℕ → List ℕ → List ℕ
written s at w = take at s ++ (w ++ drop (at + length w) s)
