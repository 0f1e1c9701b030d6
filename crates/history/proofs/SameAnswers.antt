-- 02 §5: "Prove the two equal in every answer, sound stations translated both ways.": the functions, which work on write sets that are numbers, against the
-- definitions, which work on lists.
use Prim.Native.Nat.{ℕ}
use mathlib.Core.Path.{◌≡◌, sym, ap, subst, ◌∙◌}
use mathlib.Core.Bool.{true}
use mathlib.Core.List.{List}
use Rattle.model.specs.declared as machine
use Rattle.model.specs.Types.{Station, Outcome}
use Rattle.model.specs.Listed.{kind_of, listed, numbered}
use Rattle.model.specs.Ranges.{Every, IsByte, StationFits, ListsFit}
use Rattle.model.specs.Sound.{sound}
use Rattle.model.specs.Effects.{Effect, outcome_of, stored}
use Rattle.model.specs.Calls.{Call, does, IsTyped}
use Rattle.model.proofs.ListedLaws.{station-back, station-there, numbered-fits}
use Rattle.model.proofs.SoundKept.{sound-kept}
use Rattle.history.specs.CallContracts.{Returned, Functions, Meets, returned}
use Rattle.history.proofs.Carried.{returned-is}

-- ── a station translated there and back is itself ──
-- a station of the definitions that has a machine's places and ranges, the sound ones among them
pub sound-there : (k : machine.Kind.Kind) (st : Station) → st.kind ≡ kind_of k → ListsFit st → listed (numbered st) ≡ st
sound-there k st e f = station-there k st e f

-- every station of the machine, the sound ones among them
pub sound_back : (st : machine.Station.Station) → StationFits st → numbered (listed st) ≡ st
sound_back st f = station-back st f

-- what a function hands back is what the definition has: the answer, the store, and the station in either form
pub record Same (r : Returned) (e : Effect) (s : List ℕ) : Type 0 where
  pub answer : r.outcome.answer ≡ e.answer
  pub store : r.store ≡ stored e.stores s
  pub station : r.outcome.station ≡ numbered e.station
  pub station-listed : listed r.outcome.station ≡ e.station

module _ (f : Functions) (m : Meets f) (c : Call) (s : List ℕ) (typed : IsTyped c) (bytes : Every IsByte s) where
  -- ── the same answers, from any station, sound or not ──
  pub same-answers-from-numbers : (st : machine.Station.Station) → StationFits st → Same (returned f c st s) (does c (listed st) s) s
  unfolding outcome_of
  same-answers-from-numbers st o =
      let p = returned-is f m c st s typed o bytes in
      let there : listed (returned f c st s).outcome.station ≡ (does c (listed st) s).station = ap (λ (x : Outcome). x.station) p.0 in
      record {
        answer = ap (λ (x : Outcome). x.answer) p.0;
        store = p.1;
        station = sym (station-back _ (m.fits c st s typed o bytes)) ∙ ap numbered there;
        station-listed = there;
      }

  pub same-answers-from-lists : (k : machine.Kind.Kind) (st : Station) → st.kind ≡ kind_of k → ListsFit st → Same (returned f c (numbered st) s) (does c st s) s
  same-answers-from-lists k st e o = subst (λ (x : Station). Same (returned f c (numbered st) s) (does c x s) s) (station-there k st e o) (same-answers-from-numbers (numbered st) (numbered-fits st o))

  -- ── soundness is kept both ways ──
  pub sound-both-ways : ((k : machine.Kind.Kind) (st : Station) → st.kind ≡ kind_of k → ListsFit st → sound st ≡ true → sound (listed (returned f c (numbered st) s).outcome.station) ≡ true)
      × ((st : machine.Station.Station) → StationFits st → sound (listed st) ≡ true → sound (listed (returned f c st s).outcome.station) ≡ true)
  sound-both-ways = (
    λ k st e o h. ap sound (same-answers-from-lists k st e o).station-listed ∙ sound-kept c st s h,
    λ st o h. ap sound (same-answers-from-numbers st o).station-listed ∙ sound-kept c (listed st) s h,
  )
