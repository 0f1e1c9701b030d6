-- Changes of a station. Storing what is there already changes nothing.
use Prim.Native.Nat.{ℕ, ◌<◌}
use mathlib.Core.Path.{◌≡◌, refl, sym, ap, ◌∙◌}
use mathlib.Core.List.{List, [], ◌∷◌}
use lib.ListN.{get_or, set}
use native.Mathlib.Omega.{arith}
use Rattle.model.specs.declared.Live.{Live}
use Rattle.model.specs.declared.Entry.{Entry}
use Rattle.model.specs.declared.Station.{Station}
use Rattle.model.specs.declared.Answer.{Answer}
use Rattle.model.specs.Limits.{live_places, entry_places}
use Rattle.model.specs.Listed.{kind_of, listed_live, listed_lives, listed_entry, listed_entries, listed, listed_outcome}
use Rattle.model.specs.Stations.{set_live, set_entry}
use Rattle.model.specs.Effects.{Effect, outcome_of, says}
use Rattle.model.proofs.ListedLaws.{lives-set, listed-set}
use Rattle.stations.specs.declared.Change.{Change}
use Rattle.stations.specs.Changes.{changed_by, IsChange}

module _ {A : Type 0} where
  set_first : (xs : List A) (d : A) → set xs 0 (get_or xs 0 d) ≡ xs
  set_first [] d = refl
  set_first (x ∷ xs) d = refl

-- what a change comes to, and that its place and slot are there
module _ (st : Station) (e : Effect) (c : Change) (h : IsChange st e c) where
  pub comes-to : listed_outcome (changed_by st c) ≡ outcome_of e
  unfolding IsChange
  comes-to = h.2

  pub is-inside : (c.place < live_places) × (c.slot < entry_places)
  unfolding IsChange
  is-inside = (h.0, h.1)

-- a change that comes to an effect comes to every one that hands back the same
pub as-outcome : (st : Station) (e f : Effect) (c : Change) → outcome_of e ≡ outcome_of f → IsChange st f c → IsChange st e c
unfolding IsChange
as-outcome st e f c p h = (h.0, h.1, h.2 ∙ sym p)

pub as-effect : (st : Station) (e f : Effect) (c : Change) → e ≡ f → IsChange st f c → IsChange st e c
as-effect st e f c p = as-outcome st e f c (ap outcome_of p)

-- whatever stands past the last place and the last slot
module _ (st : Station) (a : Answer) where
  pub is_unchanged : (z : Live) (y : Entry) → IsChange st (says a (listed st)) (record { answer = a; place = 0; live = get_or st.live 0 z; slot = 0; entry = get_or st.entries 0 y })
  unfolding IsChange changed_by outcome_of says
  is_unchanged z y = (omega arith, omega arith, λ i. record { answer = a; station = record { kind = kind_of st.kind; live = listed_lives (set_first st.live z i); entries = listed_entries (set_first st.entries y i) } })

  pub is-live-changed : (y : Entry) (i : ℕ) (l : Live) → i < live_places → IsChange st (says a (set_live (listed st) i (listed_live l))) (record { answer = a; place = i; live = l; slot = 0; entry = get_or st.entries 0 y })
  unfolding IsChange changed_by outcome_of says set_live
  is-live-changed y i l o = (o, omega arith, λ j. record { answer = a; station = record { kind = kind_of st.kind; live = lives-set st.live i l j; entries = listed_entries (set_first st.entries y j) } })

  pub is-entry-changed : (z : Live) (d : ℕ) (e : Entry) → d < entry_places → IsChange st (says a (set_entry (listed st) d (listed_entry e))) (record { answer = a; place = 0; live = get_or st.live 0 z; slot = d; entry = e })
  unfolding IsChange changed_by outcome_of says set_entry
  is-entry-changed z d e o = (omega arith, o, λ j. record { answer = a; station = record { kind = kind_of st.kind; live = listed_lives (set_first st.live z j); entries = listed-set st.entries d e j } })
