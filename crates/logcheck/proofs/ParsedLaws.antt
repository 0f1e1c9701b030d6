-- A line as the parser hands it on, and what the table's judgement of it comes to.
use Prim.Native.Nat.{ℕ}
use mathlib.Core.Path.{◌≡◌, refl, ap, ◌∙◌}
use mathlib.Core.List.{List}
use mathlib.Core.Option.{Option, some, none}
use native.Mathlib.Omega.{arith}
use Rattle.std.specs.Prelude.{Some, None}
use Rattle.model.specs.declared.Id.{Id}
use Rattle.shoplog.specs.declared.LogLine.TheVariants as L
use Rattle.shoplog.specs.declared.Verdict.{Verdict}
use Rattle.shoplog.specs.declared.Verdict.TheVariants.{Refused}
use Rattle.shoplog.specs.Findings.{Finding}
use Rattle.shoplog.specs.Lines.{Line, write, commit, read}
use Rattle.shoplog.specs.Logs.{finding_at}
use Rattle.shoplog.specs.Parts.{parsed_of}
use Rattle.logtable.specs.Parts.{if_fine}
use Rattle.logcheck.specs.Judged.{found, table_with, verdict_by, table_after}

-- ── the line behind each of the parser's answers ──
pub parsed-write : (x : Option Line) (t k : ℕ) → Some (L.Write t k) ≡ parsed_of x → x ≡ some (write t k)
unfolding parsed_of
parsed-write none t k h = absurd (let z : ◌≡◌ {A = ℕ} 0 1 = cc in omega arith)
parsed-write (some (write u l)) t k h = cc
parsed-write (some (commit u c)) t k h = absurd (let z : ◌≡◌ {A = ℕ} 0 1 = cc in omega arith)
parsed-write (some (read u l i)) t k h = absurd (let z : ◌≡◌ {A = ℕ} 0 1 = cc in omega arith)

pub parsed-commit : (x : Option Line) (t c : ℕ) → Some (L.Commit t c) ≡ parsed_of x → x ≡ some (commit t c)
unfolding parsed_of
parsed-commit none t c h = absurd (let z : ◌≡◌ {A = ℕ} 0 1 = cc in omega arith)
parsed-commit (some (write u l)) t c h = absurd (let z : ◌≡◌ {A = ℕ} 0 1 = cc in omega arith)
parsed-commit (some (commit u d)) t c h = cc
parsed-commit (some (read u l i)) t c h = absurd (let z : ◌≡◌ {A = ℕ} 0 1 = cc in omega arith)

pub parsed-read : (x : Option Line) (t k : ℕ) (i : Id) → Some (L.Read t k i) ≡ parsed_of x → x ≡ some (read t k i)
unfolding parsed_of
parsed-read none t k i h = absurd (let z : ◌≡◌ {A = ℕ} 0 1 = cc in omega arith)
parsed-read (some (write u l)) t k i h = absurd (let z : ◌≡◌ {A = ℕ} 0 1 = cc in omega arith)
parsed-read (some (commit u d)) t k i h = absurd (let z : ◌≡◌ {A = ℕ} 0 1 = cc in omega arith)
parsed-read (some (read u l j)) t k i h = cc

pub parsed-none : (x : Option Line) → None ≡ parsed_of x → x ≡ none
unfolding parsed_of
parsed-none none h = refl
parsed-none (some (write u l)) h = absurd (let z : ◌≡◌ {A = ℕ} 0 1 = cc in omega arith)
parsed-none (some (commit u d)) h = absurd (let z : ◌≡◌ {A = ℕ} 0 1 = cc in omega arith)
parsed-none (some (read u l i)) h = absurd (let z : ◌≡◌ {A = ℕ} 0 1 = cc in omega arith)

-- ── judged ──
pub judged : (T U : List ℕ) (n : ℕ) (x : Option Line) (l : Line) (f : Finding) (v : Verdict) → x ≡ some l → f ≡ found T l → U ≡ if_fine f (table_with T l) T → v ≡ finding_at n f
    → (v ≡ verdict_by T n x) × (U ≡ table_after T x)
unfolding verdict_by table_after
judged T U n x l f v e g u w = rw e (w ∙ ap (finding_at n) g, u ∙ ap (λ (h : Finding). if_fine h (table_with T l) T) g)

pub unjudged : (T : List ℕ) (n : ℕ) (x : Option Line) → x ≡ none → (Refused 19 n ≡ verdict_by T n x) × (T ≡ table_after T x)
unfolding verdict_by table_after
unjudged T n x e = rw e (refl, refl)
