-- A commit that is answered closing: what it comes to, and the clock that it takes (02 §3).
use Prim.Native.Nat.{ℕ, ◌<◌}
use mathlib.Core.Path.{◌≡◌, refl, sym, ap, ◌∙◌}
use mathlib.Core.Bool.{Bool, true, false, cond}
use lib.Dec.{eqb}
use native.Mathlib.Omega.{arith}
use borrow.Author.Tests.{eqb-false, le-leb}
use Rattle.model.specs.declared.Id.{Id}
use Rattle.model.specs.Types.{Station}
use Rattle.model.specs.declared.Phase.TheVariants.{Closing}
use Rattle.model.specs.declared.Answer.TheVariants as A
use Rattle.model.specs.Lists.{all, member}
use Rattle.model.specs.Limits.{number_range, last_clock}
use Rattle.model.specs.Lives.{with_phase, write_count}
use Rattle.model.specs.Stations.{live_at, set_live, is_held, place_of}
use Rattle.model.specs.Ranges.{ListsFit}
use Rattle.model.specs.Clocks.{clocks, clock_above}
use Rattle.model.specs.Effects.{Effect, says}
use Rattle.model.specs.Commit.{highest_free, commit}
use Rattle.model.specs.Answers.{refused_with}
use Rattle.model.proofs.Tests.{and_second}
use Rattle.model.proofs.RefusalLaws.{accepted, row-off}
use Rattle.model.proofs.ClockLaws.{Taken, taken}
use Rattle.model.proofs.RangesKept.{clocks-fit}

-- of commit's three answers closing is the third
third : (x y : Bool) (st st₁ st₂ : Station) (i : Id) (d d' : ℕ) → (cond x (says (A.Done i) st) (cond y (says A.Empty st₁) (says (A.Closing d') st₂))).answer ≡ A.Closing d
    → (x ≡ false) × (y ≡ false) × (d' ≡ d) × (cond x (says (A.Done i) st) (cond y (says A.Empty st₁) (says (A.Closing d') st₂)) ≡ says (A.Closing d') st₂)
unfolding says
third true y st st₁ st₂ i d d' h = let z : ◌≡◌ {A = ℕ} 0 1 = cc in absurd (omega arith)
third false true st st₁ st₂ i d d' h = let z : ◌≡◌ {A = ℕ} 0 1 = cc in absurd (omega arith)
third false false st st₁ st₂ i d d' h = (refl, refl, cc, refl)

pub record Closes (st : Station) (t c d : ℕ) : Type 0 where
  pub effect : commit st t c ≡ says (A.Closing d) (set_live st (place_of t st) (with_phase (Closing d (clock_above c (clocks st)) 0) (live_at st (place_of t st))))
  pub next : member last_clock (clocks st) ≡ false

pub commit-closes : (st : Station) (t c d : ℕ) → (commit st t c).answer ≡ A.Closing d → Closes st t c d
unfolding commit all
commit-closes st t c d h =
    let a = accepted _ st _ refl (ap refused_with h ∙ (unfold refused_with in refl)) in
    let r = third (is_held t st) (eqb (write_count (live_at st (place_of t st))) 0) st _ _ _ d (highest_free st) (sym (ap (λ (e : Effect). e.answer) a.1) ∙ h) in
    let r21 = row-off 21 _ _ (row-off 13 _ _ (row-off 9 _ _ (row-off 8 _ _ (row-off 5 _ _ (row-off 3 _ _ (row-off 2 _ _ a.0).1).1).1).1).1).1 in
    record {
      effect = a.1 ∙ (r.3 ∙ ap (λ (u : ℕ). says (A.Closing u) (set_live st (place_of t st) (with_phase (Closing u (clock_above c (clocks st)) 0) (live_at st (place_of t st))))) r.2);
      next = and_second _ _ r21.0 (le-leb 1 (write_count (live_at st (place_of t st))) (omega (arith, eqb-false (write_count (live_at st (place_of t st))) 0 r.1)));
    }

-- the clock of a commit that is answered closing
pub commit-takes : (st : Station) (t c d : ℕ) → ListsFit st → c < number_range → (commit st t c).answer ≡ A.Closing d → Taken st c (clock_above c (clocks st))
commit-takes st t c d f o h = taken st c o (clocks-fit st f) (commit-closes st t c d h).next
