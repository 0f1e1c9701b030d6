-- The rows that refuse a sweep.
use Rattle.std.specs.Prelude.{ℕ, Bool, not, List, [], ◌∷◌, eqb, ltb}
use Rattle.model.specs.Lists.{◌or◌}
use Rattle.model.specs.Limits.{sweep_limit}
use Rattle.model.specs.Kinds.{Kind, store_size}
use Rattle.model.specs.Effects.{Row, ◌when◌}

-- of a store of this kind and size, a limit, and a station tested
abbrev pub sweep_rows : Kind → ℕ → ℕ → Bool → List Row
sweep_rows κ size limit tested = 1 when not (eqb size (store_size κ)) ∷ 2 when not tested ∷ 20 when (eqb limit 0 or ltb sweep_limit limit) ∷ []
