-- However a log is cut into blocks, the verdict is that on its bytes.
use Prim.Native.Nat.{ℕ, ◌+◌}
use mathlib.Core.Path.{◌≡◌, refl, sym, ap, ap₂, ◌∙◌}
use mathlib.Core.Bool.{Bool, true, false}
use mathlib.Core.List.{List, [], ◌∷◌, ◌++◌, append-nil, append_assoc, flatten, map}
use lib.Dec.{eqb}
use lib.ListN.{take, replicate}
use borrow.Author.Tests.{eqb-true}
use Rattle.shoplog.specs.declared.Verdict.{Verdict}
use Rattle.shoplog.specs.declared.Verdict.TheVariants.{Clean, Bad, Refused}
use Rattle.shoplog.specs.Lines.{Line, line_in}
use Rattle.shoplog.specs.Logs.{line_verdict, or_else, with_line, verdict_from, verdict_of}
use Rattle.shoplog.proofs.LineRanges.{line-fits}
use Rattle.logtable.specs.Tables.{table_size}
use Rattle.logtable.specs.Holds.{Holds}
use Rattle.logtable.proofs.HoldsNone.{holds-none}
use Rattle.lines.specs.Lines.{newline, lines_in}
use Rattle.lines.proofs.KeptLaws.{kept-joined}
use Rattle.lines.proofs.PlainLaws.{Plain, plain-joined, first-last, others-last}
use Rattle.lines.proofs.LinesLaws.{lines_none, lines_more, lines-ended}
use Rattle.logcheck.specs.Judged.{verdict_by, table_after}
use Rattle.logcheck.specs.Checking.{Checking, new_checking, checked_with, line_checked, after_bytes, last_checked, end_verdict, verdict_at, after_blocks}
use Rattle.logcheck.specs.Parts.{checking_of}
use Rattle.logcheck.proofs.JudgedLaws.{verdict-is, held_after}
use Rattle.logcheck.proofs.KeptLaws.{kept_line, kept-checked}
use Rattle.logcheck.proofs.BlockLaws.{at, newline-checked, byte-checked, after-append}
use Rattle.logcheck.proofs.CheckedLaws.{bad-apart, refused-apart, nothing-counts}

or-clean : (v : Verdict) → or_else v Clean ≡ v
unfolding or_else
or-clean Clean = refl
or-clean (Bad m) = refl
or-clean (Refused c m) = refl

-- a line's verdict is the whole answer, unless it is clean
then-rest : (v w : Verdict) (T U : List ℕ) (n : ℕ) (bs : List ℕ) → (v ≡ Clean → verdict_at (after_bytes bs (at T (n + 1) [])) ≡ w) → verdict_at (after_bytes bs (checked_with v T U n)) ≡ or_else v w
unfolding checked_with or_else verdict_at end_verdict
then-rest Clean w T U n bs h = h refl
then-rest (Bad m) w T U n bs h = ap verdict_at (nothing-counts (Bad m) T U n bs (bad-apart m))
then-rest (Refused c m) w T U n bs h = ap verdict_at (nothing-counts (Refused c m) T U n bs (refused-apart c m))

line-then : (w : Verdict) (T : List ℕ) (n : ℕ) (l bs : List ℕ) → (verdict_by T (n + 1) (line_in l) ≡ Clean → verdict_at (after_bytes bs (at (table_after T (line_in l)) (n + 1) [])) ≡ w)
    → verdict_at (after_bytes bs (line_checked l T n)) ≡ or_else (verdict_by T (n + 1) (line_in l)) w
unfolding line_checked
line-then w T n l bs h = then-rest (verdict_by T (n + 1) (line_in l)) w (table_after T (line_in l)) T n bs h

-- ── the lines after those above ──
abbrev rest_of : List Line → ℕ → List ℕ → Verdict
rest_of ls n bs = verdict_from ls n (map line_in (lines_in bs))

rest-none : (ls : List Line) (n : ℕ) → rest_of ls n [] ≡ Clean
unfolding verdict_from
rest-none ls n = ap (λ (xs : List (List ℕ)). verdict_from ls n (map line_in xs)) lines_none

rest_more : (ls : List Line) (n : ℕ) (bs l more : List ℕ) → lines_in bs ≡ l ∷ lines_in more → rest_of ls n bs ≡ or_else (line_verdict ls n (line_in l)) (rest_of (with_line (line_in l) ls) (n + 1) more)
unfolding verdict_from
rest_more ls n bs l more e = ap (λ (xs : List (List ℕ)). verdict_from ls n (map line_in xs)) e

module _ (T : List ℕ) (ls : List Line) (held : Holds T ls) where
  -- a line that has begun, at the end
  end_line : (p : List ℕ) (n : ℕ) → Plain p → verdict_at (at T n (take 65 p)) ≡ rest_of ls (n + 1) p
  unfolding verdict_at end_verdict last_checked
  end_line [] n h = sym (rest-none ls (n + 1))
  end_line (b ∷ bs) n h =
      let x = line_in (b ∷ bs) in
      let e : lines_in (b ∷ bs) ≡ (b ∷ bs) ∷ lines_in [] = lines_more b bs ∙ ap₂ (λ (l more : List ℕ). l ∷ lines_in more) (first-last (b ∷ bs) h) (others-last (b ∷ bs) h) in
      ap (verdict_by T (n + 1)) (kept_line (b ∷ bs)) ∙ verdict-is T ls held (n + 1) x (line-fits (b ∷ bs)) ∙ sym (or-clean (line_verdict ls (n + 1) x))
      ∙ ap (or_else (line_verdict ls (n + 1) x)) (sym (rest-none (with_line x ls) (n + 1 + 1))) ∙ sym (rest_more ls (n + 1) (b ∷ bs) (b ∷ bs) [] e)

all_lines : (bs p T : List ℕ) (ls : List Line) (n : ℕ) → Holds T ls → Plain p → verdict_at (after_bytes bs (at T n (take 65 p))) ≡ rest_of ls (n + 1) (p ++ bs)
unfolding after_bytes
all_lines [] p T ls n held h = end_line T ls held p n h ∙ ap (rest_of ls (n + 1)) (sym (append-nil p))
all_lines (b ∷ bs) p T ls n held h = go (eqb b newline) refl (all_lines bs)
  where
    go : (t : Bool) → eqb b newline ≡ t
        → ((q U : List ℕ) (ms : List Line) (m : ℕ) → Holds U ms → Plain q → verdict_at (after_bytes bs (at U m (take 65 q))) ≡ rest_of ms (m + 1) (q ++ bs))
        → verdict_at (after_bytes (b ∷ bs) (at T n (take 65 p))) ≡ rest_of ls (n + 1) (p ++ b ∷ bs)
    go true e ih =
        let x = line_in p in
        let w : lines_in (p ++ b ∷ bs) ≡ p ∷ lines_in bs = ap (λ (c : ℕ). lines_in (p ++ c ∷ bs)) (eqb-true b newline e) ∙ lines-ended bs p h in
        ap (λ (s : Checking). verdict_at (after_bytes bs s)) (newline-checked b T n (take 65 p) e ∙ kept-checked p T n)
        ∙ line-then (rest_of (with_line x ls) (n + 1 + 1) bs) T n p bs (λ c. ih [] (table_after T x) (with_line x ls) (n + 1) (held_after T ls held (n + 1) x (line-fits p) c) tt)
        ∙ ap (λ (v : Verdict). or_else v (rest_of (with_line x ls) (n + 1 + 1) bs)) (verdict-is T ls held (n + 1) x (line-fits p))
        ∙ sym (rest_more ls (n + 1) (p ++ b ∷ bs) p bs w)
    go false e ih =
        ap (λ (s : Checking). verdict_at (after_bytes bs s)) (byte-checked b T n (take 65 p) e ∙ ap (at T n) (kept-joined p b))
        ∙ ih (p ++ (b ∷ [])) T ls n held (plain-joined p b h e) ∙ ap (rest_of ls (n + 1)) (append_assoc p (b ∷ []) bs)

pub bytes-verdict : (bs : List ℕ) → verdict_at (after_bytes bs new_checking) ≡ verdict_of bs
unfolding verdict_of new_checking
bytes-verdict bs = all_lines bs [] _ [] 0 holds-none tt

-- what the code has kept of all bytes, whatever those of the part that keeps a line were
pub checked-verdict : (bs part : List ℕ) (s : Checking) → s ≡ after_bytes bs (checking_of Clean (replicate table_size 0) 0 part 0) → verdict_at s ≡ verdict_of bs
unfolding checking_of new_checking
checked-verdict bs part s e = ap verdict_at e ∙ bytes-verdict bs

after-blocks : (rs : List (List ℕ)) (s : Checking) → after_blocks rs s ≡ after_bytes (flatten rs) s
unfolding after_blocks flatten after_bytes
after-blocks [] s = refl
after-blocks (r ∷ rs) s = after-blocks rs (after_bytes r s) ∙ sym (after-append r (flatten rs) s)

-- however a log is cut into blocks, the verdict is that on its bytes
pub blocks-do-not-matter : (rs : List (List ℕ)) → verdict_at (after_blocks rs new_checking) ≡ verdict_of (flatten rs)
blocks-do-not-matter rs = ap verdict_at (after-blocks rs new_checking) ∙ bytes-verdict (flatten rs)
