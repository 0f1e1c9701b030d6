-- 02 §10: the verdict on a log, as a function of its bytes. "Answer clean, or the first bad line."
use Rattle.std.specs.Prelude.{ℕ, ◌+◌, List, [], ◌∷◌, map, Ok, Err}
use Rattle.std.proofs.Math.Option.{Option, some, none}
use Rattle.lines.specs.Lines.{lines_in}
use Rattle.shoplog.specs.declared.Fault.TheVariants as F
use Rattle.shoplog.specs.Findings.{Finding}
use Rattle.shoplog.specs.declared.Verdict.{Verdict}
use Rattle.shoplog.specs.declared.Verdict.TheVariants.{Clean, Bad, Refused}
use Rattle.shoplog.specs.Lines.{Line, line_in}
use Rattle.shoplog.specs.Verdicts.{finding_of}

-- what a finding says of line n
unfoldable pub finding_at : ℕ → Finding → Verdict
finding_at n (Ok u) = Clean
finding_at n (Err F.Over) = Refused 28 n
finding_at n (Err F.Bad) = Bad n

-- line n, below those above: "19 for form or range", "19 before 28, 28 before bad"
unfoldable pub line_verdict : List Line → ℕ → Option Line → Verdict
line_verdict ls n none = Refused 19 n
line_verdict ls n (some l) = finding_at n (finding_of ls l)

-- "the first refused or bad one is the whole answer, with its line"
unfoldable pub or_else : Verdict → Verdict → Verdict
or_else Clean v = v
or_else (Bad n) v = Bad n
or_else (Refused c n) v = Refused c n

-- the lines above the next one
unfoldable pub with_line : Option Line → List Line → List Line
with_line none ls = ls
with_line (some l) ls = l ∷ ls

-- "Lines go in turn": from line n on
unfoldable pub verdict_from : List Line → ℕ → List (Option Line) → Verdict
verdict_from ls n [] = Clean
verdict_from ls n (x ∷ xs) = or_else (line_verdict ls n x) (verdict_from (with_line x ls) (n + 1) xs)

unfoldable pub verdict_of : List ℕ → Verdict
verdict_of bytes = verdict_from [] 1 (map line_in (lines_in bytes))
