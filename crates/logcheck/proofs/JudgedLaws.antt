-- The table that holds the lines above says of the next line what they say; a line that is clean leaves it holding that one too.
use Prim.Native.Nat.{ℕ}
use mathlib.Core.Path.{◌≡◌, refl, ap, ◌∙◌, sym}
use mathlib.Core.List.{List, ◌∷◌}
use mathlib.Core.Option.{Option, some, none}
use native.Mathlib.Omega.{arith}
use Rattle.shoplog.specs.Findings.{Fine}
use Rattle.shoplog.specs.declared.Verdict.TheVariants.{Clean}
use Rattle.shoplog.specs.Lines.{Line, write, commit, read}
use Rattle.shoplog.specs.Verdicts.{finding_of}
use Rattle.shoplog.specs.Logs.{finding_at, line_verdict, with_line}
use Rattle.shoplog.specs.Written.{LineFits}
use Rattle.shoplog.proofs.CleanLines.{finding-clean}
use Rattle.logtable.specs.Parts.{if_fine}
use Rattle.logtable.specs.Holds.{Holds}
use Rattle.logtable.proofs.HoldsWrite.{write-found, write-held}
use Rattle.logtable.proofs.HoldsCommit.{commit-found, commit-held}
use Rattle.logtable.proofs.ReadFound.{read_found_lem}
use Rattle.logtable.proofs.HoldsRead.{read_held}
use Rattle.logcheck.specs.Judged.{found, table_with, verdict_by, table_after}

-- the fields of a line that was read lie in their ranges
abbrev pub Fitting : Option Line → Type 0
Fitting x = (l : Line) → x ≡ some l → LineFits l

module _ (T : List ℕ) (ls : List Line) (held : Holds T ls) where
  found-is : (l : Line) → LineFits l → found T l ≡ finding_of ls l
  unfolding found
  found-is (write t k) f = write-found T ls t k held f.0.0 f.1
  found-is (commit t c) f = commit-found T ls t c held f.0.0
  found-is (read t k i) f = read_found_lem T ls t k i held f.0.0 f.1 f.3.0 f.2.0

  held_with : (l : Line) → LineFits l → finding_of ls l ≡ Fine → Holds (table_with T l) (l ∷ ls)
  unfolding table_with
  held_with (write t k) f h = write-held T ls t k held f.0.0 f.1 h
  held_with (commit t c) f h = commit-held T ls t c held f.0.0 f.1.0 h
  held_with (read t k i) f h = read_held T ls t k i held f.0.0 f.1 f.3.0 f.2.0 h

  pub verdict-is : (n : ℕ) (x : Option Line) → Fitting x → verdict_by T n x ≡ line_verdict ls n x
  unfolding verdict_by line_verdict
  verdict-is n none f = refl
  verdict-is n (some l) f = ap (finding_at n) (found-is l (f l refl))

  pub held_after : (n : ℕ) (x : Option Line) → Fitting x → verdict_by T n x ≡ Clean → Holds (table_after T x) (with_line x ls)
  unfolding verdict_by table_after with_line if_fine
  held_after n none f h = let z : ◌≡◌ {A = ℕ} 0 1 = cc in absurd (omega arith)
  held_after n (some l) f h =
      let e : found T l ≡ Fine = finding-clean n (found T l) h in
      rw e (held_with l (f l refl) (sym (found-is l (f l refl)) ∙ e))
