-- 02 §10: what is proved of every verdict (`first-bad`, `clean-means`).
use Rattle.std.specs.Prelude.{ℕ, zero, suc, ◌+◌, ◌<◌, ◌≡◌, ◌≢◌, ◌⊎◌, true, false, length, get_or}
use mathlib.Core.List.{List, [], ◌∷◌, ◌++◌, Memᴰ}
use Rattle.std.proofs.Math.Option.{Option, none}
use Rattle.model.specs.declared.Id.{Id}
use Rattle.model.specs.declared.Read.{Read}
use Rattle.model.specs.Ids.{older}
use Rattle.shoplog.specs.Findings.{Fine}
use Rattle.shoplog.specs.declared.Verdict.{Verdict}
use Rattle.shoplog.specs.declared.Verdict.TheVariants.{Clean}
use Rattle.shoplog.specs.Lines.{Line, commit, read}
use Rattle.shoplog.specs.Verdicts.{write_set, read_set, has_written, is_committed, committed_as, finding_of}
use Rattle.shoplog.specs.Logs.{line_verdict, with_line}

-- the lines above the nth, the nearest first, after those of ls; a line that is none adds nothing
unfoldable pub above_from : List Line → ℕ → List (Option Line) → List Line
above_from ls zero xs = ls
above_from ls (suc n) [] = ls
above_from ls (suc n) (x ∷ xs) = above_from (with_line x ls) n xs

abbrev pub above : ℕ → List (Option Line) → List Line
above n xs = above_from [] n xs

-- ── first-bad: "the first refused or bad one is the whole answer, with its line" ──
-- what is said of the line with n lines above it, by those: lines are numbered from 1
abbrev pub said_of : List (Option Line) → ℕ → Verdict
said_of xs n = line_verdict (above n xs) (n + 1) (get_or xs n none)

-- nothing is wrong with the first n lines
abbrev pub FineUpTo : ℕ → List (Option Line) → Type 0
FineUpTo n xs = (m : ℕ) → m < n → said_of xs m ≡ Clean

-- v is clean and nothing is wrong with any line; or it is what is wrong with the first line that something is wrong with
abbrev pub FirstBad : List (Option Line) → Verdict → Type 0
FirstBad xs v = ((v ≡ Clean) × FineUpTo (length xs) xs) ⊎ ((n : ℕ) × (n < length xs) × (said_of xs n ≡ v) × (v ≢ Clean) × FineUpTo n xs)

-- ── clean-means ──
-- nothing is wrong with any line, the last first
unfoldable pub AllFine : List Line → Type 0
AllFine [] = Unit {0}
AllFine (l ∷ ls) = (finding_of ls l ≡ Fine) × AllFine ls

-- lines from the first to the last, put below those of ls: the last first
unfoldable pub onto : List Line → List Line → List Line
onto ls [] = ls
onto ls (x ∷ xs) = onto (x ∷ ls) xs

-- what holds of all the lines of a clean log, the last first
pub record CleanLog (ls : List Line) : Type 0 where
  -- each read is of a transaction that committed above it, under that id, and wrote the key; and the reader did not write the key before
  pub reads : (below above : List Line) (t k : ℕ) (i : Id) → ls ≡ below ++ (read t k i ∷ above)
      → (committed_as above i ≡ true) × (has_written above i.txn k ≡ true) × (has_written above t k ≡ false)
  -- one version a key
  pub repeatable : (t : ℕ) (r q : Read) → Memᴰ r (read_set t ls) → Memᴰ q (read_set t ls) → r.key ≡ q.key → r.id ≡ q.id
  -- the paper's Definition 1, the write sets being those of the whole log
  pub atomic : (t : ℕ) (r q : Read) → Memᴰ r (read_set t ls) → Memᴰ q (read_set t ls) → has_written ls r.id.txn q.key ≡ true → older q.id r.id ≡ false
  -- a ticket commits once, having written; below its commit it does nothing
  pub commits : (below above : List Line) (t c : ℕ) → ls ≡ below ++ (commit t c ∷ above)
      → (is_committed above t ≡ false) × (write_set t above ≢ []) × (is_committed below t ≡ false) × (write_set t below ≡ []) × (read_set t below ≡ [])
