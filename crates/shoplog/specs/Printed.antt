-- A verdict as the program prints it: `clean`, `bad,N`, or `refused,19,N`.
use Rattle.std.specs.Prelude.{ℕ, List, [], ◌∷◌, ◌++◌}
use Rattle.decimal.specs.Digits.{digits}
use Rattle.lines.specs.Lines.{comma, newline}
use Rattle.shoplog.specs.declared.Verdict.{Verdict}
use Rattle.shoplog.specs.declared.Verdict.TheVariants.{Clean, Bad, Refused}

unfoldable pub verdict_printed : Verdict → List ℕ
verdict_printed Clean = 99 ∷ 108 ∷ 101 ∷ 97 ∷ 110 ∷ newline ∷ []
verdict_printed (Bad n) = 98 ∷ 97 ∷ 100 ∷ comma ∷ digits n ++ (newline ∷ [])
verdict_printed (Refused c n) = 114 ∷ 101 ∷ 102 ∷ 117 ∷ 115 ∷ 101 ∷ 100 ∷ comma ∷ digits c ++ (comma ∷ digits n ++ (newline ∷ []))
