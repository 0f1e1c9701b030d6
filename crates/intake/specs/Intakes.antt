-- 01 'The run sheet', as the program meets it: the input comes in reads, cut anywhere, and the output is made piece by piece.
use Rattle.std.specs.Prelude.{ℕ, cond, List, [], ◌∷◌, ◌++◌, eqb}
use Rattle.lines.specs.Kept.{joined}
use Rattle.lines.specs.Lines.{newline}
use Rattle.sheet.specs.Words.{header}
use Rattle.sheet.specs.Sheets.{Desk, new_desk, after_line, line_output}

-- the desk in the middle of a line, with the bytes of that line so far
pub record Intake : Type 0 where
  pub desk : Desk
  pub line : List ℕ

unfoldable pub new_intake : Intake
new_intake = record { desk = new_desk; line = [] }

-- ── one byte: a newline runs the line and begins the next, any other byte joins the line ──
unfoldable pub after_byte : ℕ → Intake → Intake
after_byte b s = cond (eqb b newline) (record { desk = after_line s.line s.desk; line = [] }) (record { desk = s.desk; line = joined s.line b })

unfoldable pub byte_output : ℕ → Intake → List ℕ
byte_output b s = cond (eqb b newline) (line_output s.line s.desk) []

-- ── the bytes of a read ──
unfoldable pub after_bytes : List ℕ → Intake → Intake
after_bytes [] s = s
after_bytes (b ∷ bs) s = after_bytes bs (after_byte b s)

unfoldable pub bytes_output : List ℕ → Intake → List ℕ
bytes_output [] s = []
bytes_output (b ∷ bs) s = byte_output b s ++ bytes_output bs (after_byte b s)

-- ── the end of the input: "the last newline may be missing", so a line that has begun is run ──
unfoldable pub last_line : List ℕ → Desk → List ℕ
last_line [] k = []
last_line (b ∷ bs) k = line_output (b ∷ bs) k

unfoldable pub end_output : Intake → List ℕ
end_output s = last_line s.line s.desk

-- ── all reads, then the end; what the program writes for them ──
unfoldable pub reads_output : List (List ℕ) → Intake → List ℕ
reads_output [] s = end_output s
reads_output (r ∷ rs) s = bytes_output r s ++ reads_output rs (after_bytes r s)

unfoldable pub output_of_reads : List (List ℕ) → List ℕ
output_of_reads rs = header ++ reads_output rs new_intake
