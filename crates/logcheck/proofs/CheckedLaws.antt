-- A line judged: where it is clean the next one goes on from there, else it is the whole answer and nothing after it counts.
use Prim.Native.Nat.{ℕ, ◌+◌}
use mathlib.Core.Path.{◌≡◌, refl, sym, ap, ap₂, ◌∙◌}
use mathlib.Core.Logic.{◌≢◌}
use mathlib.Core.List.{List, [], ◌∷◌}
use mathlib.Core.Option.{Option, some, none}
use types.Run.{OneOf, miss}
use denote.Enum.Declared as declared
use native.Mathlib.Omega.{arith}
use Rattle.std.specs.Prelude.{Ok, Err}
use Rattle.shoplog.specs.declared.Fault.TheVariants as F
use Rattle.shoplog.specs.Findings.{Finding}
use Rattle.shoplog.specs.declared.Verdict.{Verdict}
use Rattle.shoplog.specs.declared.Verdict.TheVariants.{Clean, Bad, Refused}
use Rattle.shoplog.specs.Lines.{Line, line_in}
use Rattle.shoplog.specs.Logs.{finding_at}
use Rattle.logtable.specs.Parts.{if_fine}
use Rattle.logcheck.specs.Judged.{found, verdict_by, table_after}
use Rattle.logcheck.specs.Checking.{Checking, checked_with, line_checked, byte_checked, after_bytes, end_verdict, verdict_at}
use Rattle.logcheck.proofs.BlockLaws.{at}

pub bad-apart : (m : ℕ) → Bad m ≢ Clean
bad-apart m e = let z : ◌≡◌ {A = ℕ} 0 1 = cc in absurd (omega arith)

pub refused-apart : (c m : ℕ) → Refused c m ≢ Clean
refused-apart c m e = let z : ◌≡◌ {A = ℕ} 0 1 = cc in absurd (omega arith)

pub not-clean : (v : Verdict) → OneOf (1 ∷ 2 ∷ []) (declared.tag_of Rattle.shoplog.specs.contracts.Verdict.the_type v) → v ≢ Clean
not-clean Clean h = absurd (miss (1 ∷ 2 ∷ []) 0 tt h)
not-clean (Bad m) h = bad-apart m
not-clean (Refused c m) h = refused-apart c m

-- ── after a verdict that is not clean nothing counts ──
byte-stays : (v : Verdict) (b : ℕ) (s : Checking) → v ≢ Clean → byte_checked v b s ≡ s
unfolding byte_checked
byte-stays Clean b s h = absurd (h refl)
byte-stays (Bad m) b s h = refl
byte-stays (Refused c m) b s h = refl

bytes-stay : (bs : List ℕ) (s : Checking) → s.verdict ≢ Clean → after_bytes bs s ≡ s
unfolding after_bytes
bytes-stay [] s h = refl
bytes-stay (b ∷ bs) s h = ap (after_bytes bs) (byte-stays s.verdict b s h) ∙ bytes-stay bs s h

with-stopped : (v : Verdict) (U T : List ℕ) (n : ℕ) → v ≢ Clean → checked_with v U T n ≡ record { verdict = v; table = T; above = n; line = [] }
unfolding checked_with
with-stopped Clean U T n h = absurd (h refl)
with-stopped (Bad m) U T n h = refl
with-stopped (Refused c m) U T n h = refl

pub nothing-counts : (v : Verdict) (U T : List ℕ) (n : ℕ) (bs : List ℕ) → v ≢ Clean → after_bytes bs (checked_with v U T n) ≡ record { verdict = v; table = T; above = n; line = [] }
nothing-counts v U T n bs h = ap (after_bytes bs) (with-stopped v U T n h) ∙ bytes-stay bs (record { verdict = v; table = T; above = n; line = [] }) h

-- ── a line judged: one that is not clean leaves the table ──
table-if : (f : Finding) (n : ℕ) (U T : List ℕ) → finding_at n f ≢ Clean → if_fine f U T ≡ T
unfolding finding_at if_fine
table-if (Ok u) n U T h = absurd (h refl)
table-if (Err F.Over) n U T h = refl
table-if (Err F.Bad) n U T h = refl

table_stays : (T : List ℕ) (n : ℕ) (x : Option Line) → verdict_by T n x ≢ Clean → table_after T x ≡ T
unfolding verdict_by table_after
table_stays T n none h = refl
table_stays T n (some l) h = table-if (found T l) n _ T h

module _ (l T U : List ℕ) (n : ℕ) (v : Verdict) (e : v ≡ verdict_by T (n + 1) (line_in l)) (u : U ≡ table_after T (line_in l)) where
  pub line-stops : (bs : List ℕ) → v ≢ Clean → record { verdict = v; table = U; above = n; line = [] } ≡ after_bytes bs (line_checked l T n)
  unfolding line_checked
  line-stops bs h =
      let w : verdict_by T (n + 1) (line_in l) ≢ Clean = λ c. h (e ∙ c) in
      ap₂ (λ (x : Verdict) (Y : List ℕ). record { verdict = x; table = Y; above = n; line = [] }) e (u ∙ table_stays T (n + 1) (line_in l) w)
      ∙ sym (nothing-counts (verdict_by T (n + 1) (line_in l)) (table_after T (line_in l)) T n bs w)

  pub line-goes : v ≡ Clean → line_checked l T n ≡ at U (n + 1) []
  unfolding line_checked checked_with
  line-goes h = rw (sym e ∙ h) (ap (λ (Y : List ℕ). at Y (n + 1) []) (sym u))

-- the end after it
pub verdict-stopped : (s : Checking) (v : Verdict) → s.verdict ≡ v → v ≢ Clean → v ≡ verdict_at s
unfolding verdict_at end_verdict
verdict-stopped s Clean e h = absurd (h refl)
verdict-stopped s (Bad m) e h = rw e
verdict-stopped s (Refused c m) e h = rw e
