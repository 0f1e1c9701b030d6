-- A field of a line: the bytes before the first byte that ends it. What is read of one that should be a number.
use Rattle.std.specs.Prelude.{ℕ, Bool, not, cond, List, [], ◌∷◌, eqb, leb, length, get_or, Some, None}
use Rattle.std.specs.Prelude as P
use Rattle.std.proofs.Math.Option.{Option, some, none}
use Rattle.model.specs.Lists.{◌and◌, ◌or◌}

-- the bytes before the first `end`, all where there is none; those after it, if there is one
unfoldable pub field : ℕ → List ℕ → List ℕ
field end [] = []
field end (b ∷ bs) = cond (eqb b end) [] (b ∷ field end bs)

unfoldable pub after_field : ℕ → List ℕ → Option (List ℕ)
after_field end [] = none
after_field end (b ∷ bs) = cond (eqb b end) (some bs) (after_field end bs)

-- some byte, and no 0 before another
unfoldable pub starts_number : List ℕ → Bool
starts_number bs = leb 1 (length bs) and (eqb (length bs) 1 or not (eqb (get_or bs 0 0) 48))

-- the number of a field, if it has one, with the field's length
unfoldable pub number_read : Option ℕ → ℕ → P.Option (ℕ × ℕ)
number_read (some n) at = Some (n, at)
number_read none at = None
