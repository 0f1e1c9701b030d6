-- A step, test by test.
use Prim.Native.Nat.{ℕ, ◌+◌, ◌<◌, ◌≤◌}
use mathlib.Core.Path.{◌≡◌, refl, sym, ap, ap₂, ◌∙◌}
use mathlib.Core.Logic.{◌≢◌}
use mathlib.Core.Bool.{Bool, true, false, not}
use mathlib.Core.List.{List, [], ◌∷◌}
use lib.Dec.{ltb}
use lib.ListN.{length, get_or}
use native.Mathlib.Nat.{lt_irrefl}
use native.Mathlib.Omega.{arith}
use borrow.Author.Tests.{ltb-false, lt-ltb, le-ltb, eq-eqb, ne_eqb}
use Rattle.model.specs.declared as machine
use Rattle.model.specs.Types.{Entry, Live, Station}
use Rattle.model.specs.declared.Phase.{Phase}
use Rattle.model.specs.declared.Phase.TheVariants.{Unused, Open, Closing}
use Rattle.model.specs.declared.Answer.{Answer}
use Rattle.model.specs.declared.Answer.TheVariants as A
use Rattle.model.specs.Limits.{live_places, entry_places}
use Rattle.model.specs.Kinds.{Kind, store_size}
use Rattle.model.specs.Lives.{write_count, with_phase, no_write, no_live, is_closing, closing_slot, records_stored}
use Rattle.model.specs.Entries.{commit_record, entry_for}
use Rattle.model.specs.Listed.{kind_of, listed_live, listed_entry, listed}
use Rattle.model.specs.Stations.{live_at, set_live, set_entry, live_txns, is_live, place_of}
use Rattle.model.specs.Records.{version_record, with_record}
use Rattle.model.specs.Sound.{sound}
use Rattle.model.specs.Effects.{Effect, stored, outcome_of, says, says_storing, ◌when◌, refusals, wrong_length, unsound}
use Rattle.model.specs.declared.refusal.Refusal.{Refusal}
use Rattle.model.specs.Refusals.{number_of}
use Rattle.model.specs.Step.{one_more, stepped, step}
use Rattle.model.proofs.ListedLaws.{lives-set, listed-set}
use Rattle.model.proofs.RefusalLaws.{refusals-none, skipped, hit}
use Rattle.model.proofs.Tests.{not_of_false, not-of-true}
use Rattle.stations.specs.Changes.{changed_by, IsChange}
use Rattle.stations.specs.Found.{place_in, first_row, named_rows}
use Rattle.stations.proofs.RowLaws.{refusal-comes, rows-passed, named-numbered}
use Rattle.storing.specs.Parts.{record_answer, record_stored}
use Rattle.storing.proofs.Parts.{length-right}

-- a step that stores a record, of either kind
module _ (st : Station) (s : List ℕ) (i d c n : ℕ) where
  abbrev RecordStep : Type 0
  RecordStep = (outcome_of (stepped st i (live_at st i) (Closing d c n)) ≡ outcome_of (says (record_answer (live_at st i) d n) (set_live st i (with_phase (Closing d c (n + 1)) (live_at st i)))))
      × (stored (stepped st i (live_at st i) (Closing d c n)).stores s ≡ record_stored st.kind (live_at st i) (entry_for (live_at st i)) d n s)

  record-step : n ≤ write_count (live_at st i) → RecordStep
  unfolding stepped closing_slot records_stored one_more outcome_of says says_storing stored set_live record_answer record_stored
  record-step o = go (ltb n (write_count (live_at st i))) refl
    where
      go : (b : Bool) → ltb n (write_count (live_at st i)) ≡ b → RecordStep
      go true e = (rw e, rw e)
      go false e = let h : n ≡ write_count (live_at st i) = omega (arith, ltb-false n (write_count (live_at st i)) e) in (rw (e, eq-eqb n _ h), rw (e, eq-eqb n _ h))

-- the two kinds of record, as stored by the code
module _ (κ : Kind) (l : Live) (e : Entry) (d n : ℕ) (s z : List ℕ) where
  pub commit-stored : n ≡ write_count l → z ≡ with_record κ s d 0 (commit_record κ e) → (A.Slipped d ≡ record_answer l d n) × (z ≡ record_stored κ l e d n s)
  unfolding record_answer record_stored
  commit-stored h w = let o : write_count l ≤ n = omega arith in (rw (le-ltb n (write_count l) o), rw (le-ltb n (write_count l) o) w)

  pub version-stored : n < write_count l → (k v : ℕ) → k ≡ (get_or l.writes n no_write).key → v ≡ (get_or l.writes n no_write).value → z ≡ with_record κ s d (n + 1) (version_record k e.id v)
      → (A.Stored k ≡ record_answer l d n) × (z ≡ record_stored κ l e d n s)
  unfolding record_answer record_stored
  version-stored o k v ek ev w =
      (rw (lt-ltb n (write_count l) o) (ap A.Stored ek), rw (lt-ltb n (write_count l) o) (w ∙ ap₂ (λ (x y : ℕ). with_record κ s d (n + 1) (version_record x e.id y)) ek ev))

-- ── the tests of a step, in their order ──
module _ (st : Station) (s : List ℕ) (t : ℕ) where
  pub step-1 : length s ≢ store_size st.kind → step st s t ≡ says (A.Refused 1 0) st
  unfolding step wrong_length
  step-1 h = hit 1 _ _ st _ (not_of_false _ (ne_eqb _ _ h))

  -- row 10 and the effect, at place i
  abbrev pub step-rest : ℕ → Effect
  step-rest i = refusals (10 when not (is_closing (live_at st i).phase) ∷ []) st (stepped st i (live_at st i) (live_at st i).phase)

  step-rows : step st s t ≡ refusals (1 when wrong_length st.kind s ∷ []) st (refusals (named_rows st.live t 0 (sound st)) st (step-rest (place_of t st)))
  unfolding step refusals named_rows unsound is_live live_txns place_of
  step-rows = refl

  module _ (z : length s ≡ store_size st.kind) (b : Bool) (tested : b ≡ sound st) where
    step-sized : step st s t ≡ refusals (named_rows st.live t 0 (sound st)) st (step-rest (place_of t st))
    step-sized = step-rows ∙ (skipped 1 _ [] st _ (length-right st.kind s z) ∙ refusals-none st _)

    pub step-refused : (r : Refusal) → number_of r ≡ first_row (named_rows st.live t 0 b) → step st s t ≡ says (A.Refused (number_of r) 0) st
    step-refused r e = step-sized ∙ refusal-comes st (named_rows st.live t 0) b tested r e _

    pub step-open : first_row (named_rows st.live t 0 b) ≡ 0 → (i : ℕ) → i ≡ place_in t st.live → step st s t ≡ step-rest i
    unfolding place_of live_txns
    step-open e i p = step-sized ∙ (rows-passed st (named_rows st.live t 0) b tested e (named-numbered st.live t 0 (sound st)) _ ∙ ap step-rest (sym p))

  module _ (i : ℕ) (g : step st s t ≡ step-rest i) where
    pub step-10 : is_closing (live_at st i).phase ≡ false → step st s t ≡ says (A.Refused 10 0) st
    step-10 h = g ∙ hit 10 _ _ st _ (not_of_false _ h)

    module _ (d c n : ℕ) (p : (live_at st i).phase ≡ Closing d c n) where
      step-on : step st s t ≡ stepped st i (live_at st i) (Closing d c n)
      unfolding is_closing
      step-on = g ∙ (skipped 10 _ _ st _ (not-of-true _ (ap is_closing p)) ∙ (refusals-none st _ ∙ ap (stepped st i (live_at st i)) p))

      -- a record is stored
      pub step-record : (a : Answer) (m : Live) (e : Entry) (z : List ℕ) → n ≤ write_count (live_at st i) → e ≡ entry_for (live_at st i) → m ≡ with_phase (Closing d c (n + 1)) (live_at st i)
          → a ≡ record_answer (live_at st i) d n → z ≡ record_stored st.kind (live_at st i) e d n s
          → (outcome_of (step st s t) ≡ outcome_of (says a (set_live st i m))) × (z ≡ stored (step st s t).stores s)
      step-record a m e z o q r ea ez =
          let h = record-step st s i d c n o in (
            ap outcome_of step-on ∙ (h.0 ∙ sym (ap₂ {B = Live} (λ (x : Answer) (y : Live). outcome_of (says x (set_live st i y))) ea r)),
            ez ∙ (ap (λ (x : Entry). record_stored st.kind (live_at st i) x d n s) q ∙ sym (ap (λ (x : Effect). stored x.stores s) step-on ∙ h.1)),
          )

      -- the entry is made
      pub step-done : (m : Live) (e : Entry) → write_count (live_at st i) < n → e ≡ entry_for (live_at st i) → m ≡ no_live → step st s t ≡ says (A.Done e.id) (set_entry (set_live st i m) d e)
      unfolding stepped closing_slot records_stored one_more
      step-done m e o q r =
          let w : write_count (live_at st i) ≤ n = omega arith in
          step-on ∙ (rw (le-ltb n (write_count (live_at st i)) w, ne_eqb n (write_count (live_at st i)) (λ x. lt_irrefl n (omega arith)), r, q))

-- that is another transaction at a place and another entry in a slot
pub is-done : (st : machine.Station.Station) (a : Answer) (i : ℕ) (m : machine.Live.Live) (d : ℕ) (e : machine.Entry.Entry) → i < live_places → d < entry_places
    → IsChange st (says a (set_entry (set_live (listed st) i (listed_live m)) d (listed_entry e))) (record { answer = a; place = i; live = m; slot = d; entry = e })
unfolding IsChange changed_by outcome_of says set_live set_entry
is-done st a i m d e v u = (v, u, λ j. record { answer = a; station = record { kind = kind_of st.kind; live = lives-set st.live i m j; entries = listed-set st.entries d e j } })

-- a phase that is none of the third kind
pub not-closing : (p : Phase) → ((d c n : ℕ) → p ≡ Closing d c n → ⊥) → is_closing p ≡ false
unfolding is_closing
not-closing Unused h = refl
not-closing Open h = refl
not-closing (Closing d c n) h = absurd (h d c n refl)
