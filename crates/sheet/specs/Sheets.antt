-- 01 'The run sheet': the whole output as a function of the input's bytes alone.
use Rattle.std.specs.Prelude.{ℕ, zero, suc, ◌+◌, List, [], ◌∷◌, ◌++◌, length, replicate}
use Rattle.std.proofs.Math.Option.{Option, some, none}
use Rattle.model.specs.Kinds.{narrow_kind, store_size}
use Rattle.model.specs.Types.{Station}
use Rattle.model.specs.declared.Answer.{Answer}
use Rattle.model.specs.declared.Answer.TheVariants as A
use Rattle.model.specs.Stations.{empty_station}
use Rattle.model.specs.Effects.{Effect, stored, says}
use Rattle.model.specs.Calls.{Call, does}
use Rattle.model.specs.Answers.{values_of}
use Rattle.decimal.specs.Digits.{digits}
use Rattle.lines.specs.Lines.{comma, newline, first_line, other_lines}
use Rattle.sheet.specs.Words.{word_of, header}
use Rattle.sheet.specs.Lines.{line_call}

-- ── the desk between two lines: the station, the store and the number of the next line ──
pub record Desk : Type 0 where
  pub station : Station
  pub store : List ℕ
  pub line : ℕ

-- "Program `runsheet` .. starting from a zero store"
unfoldable pub new_desk : Desk
new_desk = record { station = (empty_station narrow_kind); store = replicate (store_size narrow_kind) 0; line = 1 }

-- what a line comes to: its call's effect, or row 19, which "alters nothing"
unfoldable pub line_effect : Option Call → Station → List ℕ → Effect
line_effect none st s = says (A.Refused 19 0) st
line_effect (some c) st s = does c st s

unfoldable pub after_line : List ℕ → Desk → Desk
after_line bs k =
    let e : Effect = line_effect (line_call bs) k.station k.store in
    record { station = e.station; store = stored e.stores k.store; line = k.line + 1 }

-- "Output: line number from 1, answer, a, b, c."
unfoldable pub printed : ℕ → Answer → List ℕ
printed n x =
    digits n ++ (comma ∷ word_of x ++ (comma ∷ digits (values_of x).a ++ (comma ∷ digits (values_of x).b ++ (comma ∷ digits (values_of x).c ++ (newline ∷ [])))))

unfoldable pub line_output : List ℕ → Desk → List ℕ
line_output bs k = printed k.line (line_effect (line_call bs) k.station k.store).answer

-- the output for the rest of the input; there are at most as many lines as bytes
unfoldable pub lines_output : ℕ → List ℕ → Desk → List ℕ
lines_output zero bs k = []
lines_output (suc more) [] k = []
lines_output (suc more) (b ∷ bs) k =
    let l : List ℕ = first_line (b ∷ bs) in
    line_output l k ++ lines_output more (other_lines (b ∷ bs)) (after_line l k)

-- "No input gives only the header."
unfoldable pub sheet_of : List ℕ → List ℕ
sheet_of input = header ++ lines_output (length input) input new_desk
