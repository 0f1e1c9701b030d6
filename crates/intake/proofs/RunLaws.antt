-- A line parsed, carried out and answered, against what the line comes to.
use Prim.Native.Nat.{ℕ, ◌+◌, ◌≤◌}
use mathlib.Core.Path.{◌≡◌, refl, sym, ap, ◌∙◌}
use mathlib.Core.Logic.{◌≢◌}
use mathlib.Core.Bool.{Bool}
use mathlib.Core.List.{List, [], ◌∷◌, append-nil}
use lib.ListN.{length, take}
use lib.Seq.{length-take-le}
use Rattle.model.specs.declared.Station.{Station}
use Rattle.model.specs.declared.Outcome as machine
use Rattle.model.specs.Types.{Outcome}
use Rattle.model.specs.Listed.{listed, listed_outcome}
use Rattle.model.specs.Sound.{sound}
use Rattle.model.specs.Lists.{◌or◌}
use Rattle.model.specs.Effects.{outcome_of}
use Rattle.sheet.specs.Lines.{line_call}
use Rattle.sheet.specs.Commands.{command_of}
use Rattle.sheet.specs.Sheets.{Desk, line_effect, after_line, printed, line_output}
use Rattle.desk.specs.declared.Request.{Request}
use Rattle.desk.specs.Acts.{call_of, asks_scan, acted, kept}
use Rattle.desk.proofs.ActLaws.{acted-is, kept-is, acted-tested}
use Rattle.lines.specs.Lines.{newline}
use Rattle.intake.specs.Intakes.{byte_output, bytes_output, last_line, end_output}
use Rattle.intake.specs.Parts.{desk_of, intake_of}

module _ (l : List ℕ) (st : Station) (s : List ℕ) (n : ℕ) (q : Request) (h : q.command ≡ command_of (line_call l)) (o : machine.Outcome) (p : listed_outcome o ≡ acted (listed st) s q) where
  outcome-is : listed_outcome o ≡ outcome_of (line_effect (line_call l) (listed st) s)
  outcome-is = p ∙ acted-is q (line_call l) h (listed st) s

  pub line-run : (s' : List ℕ) → s' ≡ kept (listed st) s q → desk_of o.station s' (n + 1) ≡ after_line l (desk_of st s n)
  unfolding desk_of after_line outcome_of
  line-run s' k = λ i. record { station = (outcome-is i).station; store = (k ∙ kept-is q (line_call l) h (listed st) s) i; line = n + 1 }

  pub line-answered : printed n o.answer ≡ line_output l (desk_of st s n)
  unfolding desk_of line_output outcome_of
  line-answered = ap (λ (x : Outcome). printed n x.answer) outcome-is

  pub line-tested : q.tested ≡ sound (listed st) → (t : Bool) → t ≡ (asks_scan (call_of q.command) or q.tested) → t ≡ sound (listed o.station)
  line-tested g t e = e ∙ ap (λ (b : Bool). asks_scan (call_of q.command) or b) g ∙ sym (acted-tested (listed st) s q) ∙ ap (λ (x : Outcome). sound x.station) (sym p)

-- ── the end of the input ──
pub end_none : (st : Station) (s : List ℕ) (n : ℕ) (p : List ℕ) (len : ℕ) → len ≡ 0 → [] ≡ end_output (intake_of st s n p len)
unfolding end_output intake_of last_line
end_none st s n p len h = sym (ap (λ (m : ℕ). last_line (take m p) (desk_of st s n)) h)

last_line_lem : (l : List ℕ) (k : Desk) → length l ≢ 0 → line_output l k ≡ last_line l k
unfolding last_line
last_line_lem [] k h = absurd (h refl)
last_line_lem (b ∷ bs) k h = refl

pub end_line : (st : Station) (s : List ℕ) (n : ℕ) (p : List ℕ) (len : ℕ) → len ≢ 0 → len ≤ length p → line_output (take len p) (desk_of st s n) ≡ end_output (intake_of st s n p len)
unfolding end_output intake_of
end_line st s n p len h o = last_line_lem (take len p) (desk_of st s n) (λ e. h (sym (length-take-le len p o) ∙ e))

-- a newline runs the line that has begun
pub end-newline : (st : Station) (s : List ℕ) (n : ℕ) (p : List ℕ) (len : ℕ) → bytes_output (newline ∷ []) (intake_of st s n p len) ≡ line_output (take len p) (desk_of st s n)
unfolding bytes_output byte_output intake_of
end-newline st s n p len = append-nil _
