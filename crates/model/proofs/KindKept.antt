-- Every call hands back a station of the kind that it was handed.
use Prim.Native.Nat.{ℕ}
use mathlib.Core.Path.{◌≡◌, refl}
use mathlib.Core.Bool.{Bool, true, false, cond}
use mathlib.Core.List.{List, [], ◌∷◌}
use lib.Dec.{eqb, ltb}
use lib.ListN.{length}
use Rattle.model.specs.declared.Answer.{Answer}
use Rattle.model.specs.Kinds.{Kind}
use Rattle.model.specs.Types.{Live, Station}
use Rattle.model.specs.Lives.{write_count, records_stored}
use Rattle.model.specs.Stations.{empty_station, live_at, set_live, set_entry, is_held, place_of}
use Rattle.model.specs.Reading.{Choice, own, absent, nofit, version}
use Rattle.model.specs.Effects.{Effect, says, says_storing, Row, refusals}
use Rattle.model.specs.Start.{start}
use Rattle.model.specs.Put.{put}
use Rattle.model.specs.Get.{answered, get}
use Rattle.model.specs.Commit.{commit}
use Rattle.model.specs.Step.{stepped, step}
use Rattle.model.specs.Abort.{abort}
use Rattle.model.specs.Collect.{collect}
use Rattle.model.specs.Scan.{slots_seen, lowest_broken, scanned, scan}
use Rattle.model.specs.Sweep.{sweep}
use Rattle.model.specs.Calls.{Call, Start, Put, Get, Commit, Step, Abort, Collect, Scan, Sweep, does}
use Rattle.model.proofs.CollectionLaws.{collections-kind}

unfoldable OfKind : Kind → Effect → Type 0
OfKind κ e = e.station.kind ≡ κ

says_of : (κ : Kind) (a : Answer) (st : Station) → st.kind ≡ κ → OfKind κ (says a st)
unfolding OfKind says
says_of κ a st h = h

cond-kind : (κ : Kind) (b : Bool) (x y : Effect) → OfKind κ x → OfKind κ y → OfKind κ (cond b x y)
cond-kind κ true x y f g = f
cond-kind κ false x y f g = g

refusals-kind : (κ : Kind) (rs : List Row) (st : Station) (e : Effect) → st.kind ≡ κ → OfKind κ e → OfKind κ (refusals rs st e)
unfolding refusals
refusals-kind κ [] st e h g = g
refusals-kind κ (r ∷ rs) st e h g = cond-kind κ r.applies _ _ (says_of κ _ st h) (refusals-kind κ rs st e h g)

module _ (st : Station) where
  live-kind : (a : Answer) (i : ℕ) (l : Live) → OfKind st.kind (says a (set_live st i l))
  unfolding OfKind says set_live
  live-kind a i l = refl

  answered-kind : (s : List ℕ) (i k : ℕ) (ch : Choice) → OfKind st.kind (answered st s i k ch)
  unfolding answered
  answered-kind s i k (own v) = says_of _ _ st refl
  answered-kind s i k absent = says_of _ _ st refl
  answered-kind s i k (nofit x) = says_of _ _ st refl
  answered-kind s i k (version d) = live-kind _ i _

  stepped-kind : (i : ℕ) (l : Live) → OfKind st.kind (stepped st i l l.phase)
  unfolding stepped
  stepped-kind i l =
      cond-kind _ (ltb (records_stored l.phase) (write_count l)) _ _ (unfold OfKind says_storing set_live in refl)
      (cond-kind _ (eqb (records_stored l.phase) (write_count l)) _ _ (unfold OfKind says_storing set_live in refl) (unfold OfKind says set_entry set_live in refl))

  commit-kind : (t c : ℕ) → OfKind st.kind (commit st t c)
  unfolding commit
  commit-kind t c = refusals-kind _ _ st _ refl (cond-kind _ (is_held t st) _ _ (says_of _ _ st refl) (cond-kind _ (eqb (write_count (live_at st (place_of t st))) 0) _ _ (live-kind _ _ _) (live-kind _ _ _)))

  collect-kind : (s : List ℕ) (d : ℕ) → OfKind st.kind (collect st s d)
  unfolding collect
  collect-kind s d = refusals-kind _ _ st _ refl (unfold OfKind says_storing set_entry in refl)

  sweep-kind : (s : List ℕ) (n : ℕ) → OfKind st.kind (sweep st s n)
  unfolding sweep
  sweep-kind s n = refusals-kind _ _ st _ refl (unfold OfKind in collections-kind n st s)

scan-kind : (κ : Kind) (s : List ℕ) → OfKind κ (scan κ s)
unfolding scan scanned empty_station
scan-kind κ s = refusals-kind κ _ _ _ refl (cond-kind κ (ltb (lowest_broken (slots_seen κ s)) (length (slots_seen κ s))) _ _ (says_of κ _ _ refl) (says_of κ _ _ refl))

pub kind-kept : (c : Call) (st : Station) (s : List ℕ) → (does c st s).station.kind ≡ st.kind
unfolding does OfKind start put get step abort
kind-kept (Start t) st s = refusals-kind _ _ st _ refl (live-kind st _ _ _)
kind-kept (Put t k v) st s = refusals-kind _ _ st _ refl (live-kind st _ _ _)
kind-kept (Get t k) st s = refusals-kind _ _ st _ refl (answered-kind st s _ k _)
kind-kept (Commit t c) st s = commit-kind st t c
kind-kept (Step t) st s = refusals-kind _ _ st _ refl (stepped-kind st _ _)
kind-kept (Abort t) st s = refusals-kind _ _ st _ refl (live-kind st _ _ _)
kind-kept (Collect d) st s = collect-kind st s d
kind-kept Scan st s = scan-kind st.kind s
kind-kept (Sweep n) st s = sweep-kind st s n
