-- A log as it comes: in blocks, cut anywhere. What is kept between two blocks, and that the blocks do not matter: `blocks-do-not-matter`.
use Rattle.std.specs.Prelude.{ℕ, ◌+◌, cond, List, [], ◌∷◌, eqb, replicate}
use Rattle.lines.specs.Lines.{newline}
use Rattle.lines.specs.Kept.{joined}
use Rattle.shoplog.specs.declared.Verdict.{Verdict}
use Rattle.shoplog.specs.declared.Verdict.TheVariants.{Clean, Bad, Refused}
use Rattle.shoplog.specs.Lines.{line_in}
use Rattle.logtable.specs.Tables.{table_size}
use Rattle.logcheck.specs.Judged.{verdict_by, table_after}

-- the verdict on the lines so far; their table and how many they are; the bytes of the line that has begun
pub record Checking : Type 0 where
  pub verdict : Verdict
  pub table : List ℕ
  pub above : ℕ
  pub line : List ℕ

unfoldable pub new_checking : Checking
new_checking = record { verdict = Clean; table = replicate table_size 0; above = 0; line = [] }

-- a line checked: where it is not clean, that is the whole answer, and nothing else is kept
unfoldable pub checked_with : Verdict → List ℕ → List ℕ → ℕ → Checking
checked_with Clean after before n = record { verdict = Clean; table = after; above = n + 1; line = [] }
checked_with (Bad m) after before n = record { verdict = Bad m; table = before; above = n; line = [] }
checked_with (Refused c m) after before n = record { verdict = Refused c m; table = before; above = n; line = [] }

unfoldable pub line_checked : List ℕ → List ℕ → ℕ → Checking
line_checked l T n = checked_with (verdict_by T (n + 1) (line_in l)) (table_after T (line_in l)) T n

-- one byte: a newline ends the line, any other byte joins it. After a verdict that is not clean nothing counts
unfoldable pub byte_checked : Verdict → ℕ → Checking → Checking
byte_checked Clean b s =
    cond (eqb b newline) (line_checked s.line s.table s.above) (record { verdict = Clean; table = s.table; above = s.above; line = joined s.line b })
byte_checked (Bad m) b s = s
byte_checked (Refused c m) b s = s

unfoldable pub after_bytes : List ℕ → Checking → Checking
after_bytes [] s = s
after_bytes (b ∷ bs) s = after_bytes bs (byte_checked s.verdict b s)

-- block after block, what is kept of each handed to the next
unfoldable pub after_blocks : List (List ℕ) → Checking → Checking
after_blocks [] s = s
after_blocks (r ∷ rs) s = after_blocks rs (after_bytes r s)

-- the end: "the last newline may be missing", so a line that has begun is checked
unfoldable pub last_checked : List ℕ → Checking → Verdict
last_checked [] s = Clean
last_checked (b ∷ bs) s = verdict_by s.table (s.above + 1) (line_in (b ∷ bs))

unfoldable pub end_verdict : Verdict → Checking → Verdict
end_verdict Clean s = last_checked s.line s
end_verdict (Bad m) s = Bad m
end_verdict (Refused c m) s = Refused c m

unfoldable pub verdict_at : Checking → Verdict
verdict_at s = end_verdict s.verdict s
