-- The end of a log, as the code holds it.
use Prim.Native.Nat.{ℕ, ◌+◌, ◌≤◌}
use mathlib.Core.Path.{◌≡◌, refl, sym, ◌∙◌}
use mathlib.Core.Logic.{◌≢◌}
use mathlib.Core.List.{List, [], ◌∷◌}
use lib.ListN.{length, take}
use lib.Seq.{length-take-le}
use Rattle.shoplog.specs.declared.Verdict.TheVariants.{Clean}
use Rattle.shoplog.specs.Lines.{line_in}
use Rattle.logcheck.specs.Judged.{verdict_by}
use Rattle.logcheck.specs.Checking.{last_checked, end_verdict, verdict_at}
use Rattle.logcheck.specs.Parts.{checking_of}
use Rattle.logcheck.proofs.BlockLaws.{at}

pub end_none : (T : List ℕ) (n : ℕ) (p : List ℕ) (len : ℕ) → len ≡ 0 → Clean ≡ verdict_at (checking_of Clean T n p len)
unfolding verdict_at end_verdict last_checked checking_of
end_none T n p len h = rw h

last_line : (l T : List ℕ) (n : ℕ) → length l ≢ 0 → verdict_by T (n + 1) (line_in l) ≡ verdict_at (at T n l)
unfolding verdict_at end_verdict last_checked
last_line [] T n h = absurd (h refl)
last_line (b ∷ bs) T n h = refl

pub end_line : (T : List ℕ) (n : ℕ) (p : List ℕ) (len : ℕ) → len ≢ 0 → len ≤ length p → verdict_by T (n + 1) (line_in (take len p)) ≡ verdict_at (checking_of Clean T n p len)
unfolding checking_of
end_line T n p len h o = last_line (take len p) T n (λ e. h (sym (length-take-le len p o) ∙ e))
