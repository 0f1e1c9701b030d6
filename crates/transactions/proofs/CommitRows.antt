-- What a commit comes to, row by row of its refusals and after them, in the terms that its code tests.
use Prim.Native.Nat.{ℕ, ◌<◌, ◌≤◌}
use mathlib.Core.Path.{◌≡◌, refl, sym, ap, ap₂, ◌∙◌}
use mathlib.Core.Logic.{◌≢◌}
use mathlib.Core.Bool.{Bool, true, false, not, cond}
use mathlib.Core.List.{List, [], ◌∷◌}
use lib.Dec.{eqb, leb}
use lib.ListN.{get_or}
use native.Mathlib.Decide.{dec_lt}
use native.Mathlib.Nat.{lt_irrefl}
use native.Mathlib.Omega.{arith}
use borrow.Author.Tests.{not-false, le-leb, lt-leb, ne_eqb, eqb-true, eqb-false, leb-false}
use Rattle.model.specs.Types.{Live}
use Rattle.model.specs.Types.{Entry, Station}
use Rattle.model.specs.declared.Phase.TheVariants.{Closing}
use Rattle.model.specs.declared.Answer.TheVariants as A
use Rattle.model.specs.Lists.{◌and◌, all, member, any_below}
use Rattle.model.specs.Limits.{live_places, entry_places, last_clock}
use Rattle.model.specs.Lives.{writes_of, write_count, with_phase, no_live, is_closing, live_beyond}
use Rattle.model.specs.Stations.{live_at, entry_at, set_live, live_txns, is_live, is_held, place_of, slot_of, is_free}
use Rattle.model.specs.Clocks.{clocks, clock_above}
use Rattle.model.specs.Sound.{sound}
use Rattle.model.specs.Effects.{Effect, Row, says, ◌when◌, refusals, unsound}
use Rattle.model.specs.declared.refusal.Refusal.{Refusal}
use Rattle.model.specs.Refusals.{number_of}
use Rattle.model.specs.Commit.{highest_free, commit}
use Rattle.model.proofs.ListLaws.{get_or-inside}
use Rattle.model.proofs.ClockLaws.{clock-real}
use Rattle.model.proofs.RefusalLaws.{refusals-none, row-off, skipped, hit}
use Rattle.model.proofs.SoundFacts.{held-not-live}
use Rattle.model.proofs.StationLaws.{place-hit, live_out}
use Rattle.model.proofs.Tests.{and_intro, not_of_false, not-of-true, and-none-left, and-none-right, and_first}
use Rattle.stations.specs.Found.{live_in, first_row}
use Rattle.stations.proofs.Callers.{place-eq, place-live, slot-eq, slot_held, slot-none, free-some, free-none}
use Rattle.stations.proofs.RowLaws.{is_numbered, refusal-comes, none-applies, rows-passed, place-row}
use Rattle.transactions.specs.Committing.{unknown_rows, slot_for, clock_for, after_commit, commit_answer}
use Rattle.transactions.proofs.Rows.{Sought}

module _ {A : Type 0} (b : Bool) (x y : A) where
  cond-true : b ≡ true → cond b x y ≡ x
  cond-true e = rw e

  cond-false : b ≡ false → cond b x y ≡ y
  cond-false e = rw e

-- ── the slot and the clock ──
module _ (st : Station) (few : st.kind.slots ≤ entry_places) (n d : ℕ) (q : d ≡ slot_for n st) where
  no_slot : 64 ≤ d → (n ≢ 0) × (any_below (is_free st) st.kind.slots ≡ false)
  unfolding slot_for
  no_slot o = go (eqb n 0) refl
    where
      go : (b : Bool) → eqb n 0 ≡ b → (n ≢ 0) × (any_below (is_free st) st.kind.slots ≡ false)
      go true h = let w : d ≡ 0 = rw h at q in absurd (lt_irrefl 0 (omega (arith, o)))
      go false h = (eqb-false n 0 h, free-none st few d (rw h at q) o)

  slot-taken : n ≢ 0 → d < 64 → (any_below (is_free st) st.kind.slots ≡ true) × (d ≡ highest_free st)
  unfolding slot_for
  slot-taken w o = free-some st few d (rw (ne_eqb n 0 w) at q) o

module _ (st : Station) (n x c : ℕ) (q : c ≡ clock_for n x (clocks st)) where
  no-clock : x ≢ 0 → c ≡ 0 → (n ≢ 0) × (member last_clock (clocks st) ≡ true)
  unfolding clock_for
  no-clock w z = go (eqb n 0) (member last_clock (clocks st)) refl refl
    where
      go : (a b : Bool) → eqb n 0 ≡ a → member last_clock (clocks st) ≡ b → (n ≢ 0) × (member last_clock (clocks st) ≡ true)
      go true b h k = let e : c ≡ x = rw h at q in absurd (w (sym e ∙ z))
      go false true h k = (eqb-false n 0 h, k)
      go false false h k = let e : c ≡ clock_above x (clocks st) = rw (h, k) at q in absurd (clock-real x (clocks st) (sym e ∙ z))

  clock-taken : n ≢ 0 → c ≢ 0 → (member last_clock (clocks st) ≡ false) × (c ≡ clock_above x (clocks st))
  unfolding clock_for
  clock-taken w z = go (member last_clock (clocks st)) refl
    where
      go : (b : Bool) → member last_clock (clocks st) ≡ b → (member last_clock (clocks st) ≡ false) × (c ≡ clock_above x (clocks st))
      go true k = absurd (z (rw (ne_eqb n 0 w, k) at q))
      go false k = (k, rw (ne_eqb n 0 w, k) at q)

-- ── the rows after 8, and the effect ──
-- rows 13 and 21 of a transaction, and what becomes of it at place p
pub last-rows : Station → Live → List Row
last-rows st l = 13 when (leb 1 (write_count l) and not (any_below (is_free st) st.kind.slots)) ∷ 21 when (leb 1 (write_count l) and member last_clock (clocks st)) ∷ []

pub closed : Station → ℕ → ℕ → Live → Effect
closed st x p l =
    cond (eqb (write_count l) 0) (says A.Empty (set_live st p no_live))
    (says (A.Closing (highest_free st)) (set_live st p (with_phase (Closing (highest_free st) (clock_above x (clocks st)) 0) l)))

pub commit-rest : Station → ℕ → ℕ → ℕ → Live → Effect
commit-rest st t x p l = refusals (9 when is_closing l.phase ∷ last-rows st l) st (cond (is_held t st) (says (A.Done (entry_at st (slot_of t st)).id) st) (closed st x p l))

-- rows 2, 3, 5 and 8 do not apply, of a transaction sought
pub record Known (st : Station) (t x j i : ℕ) : Type 0 where
  pub sought : Sought st t j i
  pub right : sound st ≡ true
  pub numbered : t ≢ 0
  pub clocked : x ≢ 0
  pub somewhere : entry_places ≤ j → i < live_places
  pub passed : commit st t x ≡ commit-rest st t x (place_of t st) (live_at st (place_of t st))

-- nor does row 9, of transaction l at place i, which is not held
pub record IsOpen (st : Station) (t x i : ℕ) (l : Live) : Type 0 where
  pub clocked : x ≢ 0
  pub rest : commit st t x ≡ refusals (last-rows st l) st (closed st x i l)

-- ── rows 2, 3, 5 and 8 ──
module _ (st : Station) (t j i : ℕ) (y : Sought st t j i) where
  unlive : leb live_places i ≡ not (is_live t st)
  unfolding is_live live_txns
  unlive = place-row st.live t i y.live8 y.place_at

  unheld : leb entry_places j ≡ not (is_held t st)
  unheld = go (dec_lt j 64)
    where
      go : Dec (j < 64) → leb entry_places j ≡ not (is_held t st)
      go (yes o) = lt-leb entry_places j o ∙ sym (ap not (slot_held st t j y.slot_at y.entries64 o))
      go (no o) = let g : 64 ≤ j = omega (arith, o) in le-leb entry_places j g ∙ sym (ap not (slot-none st t j y.slot_at y.entries64 g))

  module _ (x : ℕ) where
    abbrev rest : Effect
    rest = commit-rest st t x (place_of t st) (live_at st (place_of t st))

    commit-rows : commit st t x ≡ refusals (unknown_rows t x j i (sound st)) st rest
    unfolding commit refusals unknown_rows unsound commit-rest last-rows closed
    commit-rows = ap₂ (λ (a b : Bool). refusals (2 when unsound st ∷ 3 when eqb t 0 ∷ 5 when eqb x 0 ∷ 8 when (a and b) ∷ []) st rest) (sym unlive) (sym unheld)

    module _ (b : Bool) (tested : b ≡ sound st) where
      pub commit-unknown : (r : Refusal) → number_of r ≡ first_row (unknown_rows t x j i b) → commit st t x ≡ says (A.Refused (number_of r) 0) st
      commit-unknown r e = commit-rows ∙ refusal-comes st (unknown_rows t x j i) b tested r e _

      unknown-numbered : all is_numbered (unknown_rows t x j i (sound st)) ≡ true
      unfolding all unknown_rows
      unknown-numbered = refl

      pub known : first_row (unknown_rows t x j i b) ≡ 0 → Known st t x j i
      unfolding unknown_rows
      known e =
          let c = row-off 2 _ _ (none-applies st (unknown_rows t x j i) b tested e unknown-numbered) in
          let d = row-off 3 _ _ c.1 in
          let f = row-off 5 _ _ d.1 in
          let g = row-off 8 _ _ f.1 in
          record {
            sought = y;
            right = not-false _ c.0;
            numbered = eqb-false t 0 d.0;
            clocked = eqb-false x 0 f.0;
            somewhere = λ o. leb-false live_places i (and_first _ _ g.0 (le-leb entry_places j o));
            passed = commit-rows ∙ rows-passed st (unknown_rows t x j i) b tested e unknown-numbered _;
          }

module _ {st : Station} {t x j i : ℕ} (k : Known st t x j i) where
  -- ── a held transaction: it is not live, so no row applies ──
  module _ (o : j < 64) where
    is-held : is_held t st ≡ true
    is-held = slot_held st t j k.sought.slot_at k.sought.entries64 o

    held-nowhere : live_at st (place_of t st) ≡ live_beyond
    held-nowhere = go (dec_lt (place_of t st) 8)
      where
        go : Dec (place_of t st < 8) → live_at st (place_of t st) ≡ live_beyond
        go (yes q) =
            let p = place-hit st t (place-live st t (place_of t st) (unfold place_of live_txns in refl) k.sought.live8 q) in
            absurd (held-not-live st k.right t is-held (place_of t st) p.1 (λ w. k.numbered (sym p.1 ∙ w)))
        go (no q) = live_out st (place_of t st) (omega (arith, k.sought.live8))

    -- with the entry that the code reads
    pub commit-retry : (d : Entry) → commit st t x ≡ says (A.Done (get_or st.entries j d).id) st
    unfolding entry_at is_closing commit-rest last-rows writes_of
    commit-retry d =
        let w : leb 1 (write_count (live_at st (place_of t st))) ≡ false = ap (λ (l : Live). leb 1 (write_count l)) held-nowhere in
        k.passed
        ∙ (skipped 9 _ _ st _ (ap (λ (l : Live). is_closing l.phase) held-nowhere)
        ∙ (skipped 13 _ _ st _ (and-none-left _ _ w)
        ∙ (skipped 21 _ _ st _ (and-none-left _ _ w)
        ∙ (refusals-none st _
        ∙ (cond-true _ _ _ is-held
        ∙ ap (λ (u : Entry). says (A.Done u.id) st)
        (sym (get_or-inside st.entries j d _ (omega (arith, o, k.sought.entries64)) ∙ ap (entry_at st) (slot-eq st t j k.sought.slot_at))))))))

  -- ── any other is live, at the place found ──
  module _ (o : 64 ≤ j) (l : Live) (f : l ≡ live_in st.live i) where
    commit-live : commit st t x ≡ commit-rest st t x i l
    unfolding live_at
    commit-live = k.passed ∙ (ap (λ (p : ℕ). commit-rest st t x p (live_at st p)) (sym (place-eq st t i k.sought.place_at)) ∙ ap (commit-rest st t x i) (sym f))

    pub commit-9 : is_closing l.phase ≡ true → commit st t x ≡ says (A.Refused 9 0) st
    unfolding commit-rest
    commit-9 s = commit-live ∙ hit 9 _ _ st _ s

    pub is_open : is_closing l.phase ≡ false → IsOpen st t x i l
    unfolding commit-rest
    is_open s = record {
      clocked = k.clocked;
      rest = commit-live ∙ (skipped 9 _ _ st _ s ∙ ap (refusals (last-rows st l) st) (cond-false _ _ _ (slot-none st t j k.sought.slot_at k.sought.entries64 o)));
    }

-- ── rows 13 and 21, and the effect: with the slot and the clock that `slot_for` and `clock_for` give ──
module _ {st : Station} {t x i : ℕ} {l : Live} (k : IsOpen st t x i l) (few : st.kind.slots ≤ entry_places) (d : ℕ) (q : d ≡ slot_for (write_count l) st) where
  pub commit-13 : 64 ≤ d → commit st t x ≡ says (A.Refused 13 0) st
  unfolding last-rows
  commit-13 o =
      let s = no_slot st few (write_count l) d q o in
      k.rest ∙ hit 13 _ _ st _ (and_intro _ _ (le-leb 1 (write_count l) (omega (arith, s.0))) (not_of_false _ s.1))

  module _ (o : d < 64) (c : ℕ) (p : c ≡ clock_for (write_count l) x (clocks st)) where
    pub commit-21 : c ≡ 0 → commit st t x ≡ says (A.Refused 21 0) st
    unfolding last-rows
    commit-21 z =
        let s = no-clock st (write_count l) x c p k.clocked z in
        k.rest
        ∙ (skipped 13 _ _ st _ (and-none-right _ _ (not-of-true _ (slot-taken st few (write_count l) d q s.0 o).0))
        ∙ hit 21 _ _ st _ (and_intro _ _ (le-leb 1 (write_count l) (omega (arith, s.0))) s.1))

    pub commit-done : c ≢ 0 → commit st t x ≡ says (commit_answer (write_count l) d) (set_live st i (after_commit d c l))
    unfolding last-rows closed after_commit commit_answer
    commit-done z = go (eqb (write_count l) 0) refl
      where
        go : (b : Bool) → eqb (write_count l) 0 ≡ b → commit st t x ≡ says (commit_answer (write_count l) d) (set_live st i (after_commit d c l))
        go true h =
            let w : leb 1 (write_count l) ≡ false = ap (leb 1) (eqb-true (write_count l) 0 h) in
            rw h
            (k.rest
            ∙ (skipped 13 _ _ st _ (and-none-left _ _ w)
            ∙ (skipped 21 _ _ st _ (and-none-left _ _ w) ∙ (refusals-none st _ ∙ cond-true _ _ _ h))))
        go false h =
            let w = eqb-false (write_count l) 0 h in
            let s = slot-taken st few (write_count l) d q w o in
            let m = clock-taken st (write_count l) x c p w z in
            rw h
            (k.rest
            ∙ (skipped 13 _ _ st _ (and-none-right _ _ (not-of-true _ s.0))
            ∙ (skipped 21 _ _ st _ (and-none-right _ _ m.0)
            ∙ (refusals-none st _
            ∙ (cond-false _ _ _ h ∙ ap₂ (λ (a b : ℕ). says (A.Closing a) (set_live st i (with_phase (Closing a b 0) l))) (sym s.1) (sym m.1))))))
