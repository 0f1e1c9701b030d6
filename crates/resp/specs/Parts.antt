-- What the functions below `version_in` hand on.
use Rattle.std.specs.Prelude.{ℕ, List}
use Rattle.std.proofs.Math.Option.{Option, some}
use Rattle.decimal.specs.Digits.{number_below}
use Rattle.decimal.specs.Fields.{field, after_field}
use Rattle.resp.specs.Inverse.{◌then◌}

-- a number, and what comes after it
pub record Numbered : Type 0 where
  pub number : ℕ
  pub rest : List ℕ

-- the number that a byte ends, and what comes after that byte
unfoldable pub number_ended : ℕ → ℕ → List ℕ → Option Numbered
number_ended bound end bs = number_below bound (field end bs) then λ n. after_field end bs then λ r. some (record { number = n; rest = r })
