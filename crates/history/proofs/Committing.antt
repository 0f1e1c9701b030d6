-- commit keeps the invariant.
use Prim.Native.Nat.{ℕ, ◌<◌}
use mathlib.Core.Path.{◌≡◌, refl, sym, subst, ◌∙◌}
use mathlib.Core.Logic.{◌≢◌, ⊎_elim}
use mathlib.Core.Bool.{true, false, not, true≢false}
use mathlib.Core.List.{List}
use lib.Dec.{eqb, leb}
use native.Mathlib.Nat.{lt_irrefl}
use native.Mathlib.Omega.{arith}
use borrow.Author.Tests.{eqb-false, not-true, not-false, le-leb}
use Rattle.model.specs.Types.{Entry, Live, Station}
use Rattle.model.specs.declared.Phase.{Phase}
use Rattle.model.specs.declared.Phase.TheVariants.{Closing}
use Rattle.model.specs.Lists.{◌and◌, member, any_below}
use Rattle.model.specs.Limits.{number_range, last_clock}
use Rattle.model.specs.Kinds.{Kind}
use Rattle.model.specs.Lives.{writes_of, reads_of, write_count, is_closing, closing_clock, with_phase}
use Rattle.model.specs.Stations.{live_at, set_live, is_live, is_held, place_of, is_free}
use Rattle.model.specs.Slots.{free, seen}
use Rattle.model.specs.Sound.{sound}
use Rattle.model.specs.Reading.{Atomic}
use Rattle.model.specs.Clocks.{clocks, clock_above}
use Rattle.model.specs.Commit.{highest_free, commit}
use Rattle.model.specs.Calls.{Commit, txn_of, number_of}
use Rattle.model.proofs.Tests.{and_left, and_right, and_intro, and_second, not_of_false, bool_cases}
use Rattle.model.proofs.ListLaws.{greatest-below}
use Rattle.model.proofs.StationLaws.{place-hit, unheld-txn, closing_same, slot-marked}
use Rattle.model.proofs.ClockLaws.{clock-below}
use Rattle.model.proofs.SoundFacts.{held-not-live}
use Rattle.history.specs.Ledger.{Draft, Ledger, without, revised, with_drafts, closing_at, feed}
use Rattle.history.specs.Matches.{Matches}
use Rattle.history.proofs.Invariant.{Prepared, Slots, draft_in, Ranges, Inv, Good, good-says, row, unrefused, choice}
use Rattle.history.proofs.DraftLaws.{draft-without, draft-revised, once-without, once-revised, drafts-as, drafts-without, drafts-revised}
use Rattle.history.proofs.Reckoning.{reckons, clocks-low}
use Rattle.history.proofs.LiveLaws.{slots_set, reads-set, ranges-set, cleared}

-- a free slot reads free
free_seen : (st : Station) (s : List ℕ) → Slots st.kind st s → (d : ℕ) → d < st.kind.slots → is_free st d ≡ true → seen st.kind s d ≡ free
unfolding is_free
free_seen st s sl d o h =
    sl.unused d o (unheld-txn st d (not-true _ (and_left _ _ h))) λ i c n e. true≢false (sym (slot-marked st i d c n e) ∙ not-true _ (and_right _ _ h))

-- nothing is stored yet
prepared-none : (κ : Kind) (s : List ℕ) (l : Live) (d c d' c' n' : ℕ) → d < κ.slots → seen κ s d ≡ free → Closing d c 0 ≡ Closing d' c' n' → Prepared κ s (with_phase (Closing d c 0) l) d' c' n'
prepared-none κ s l d c d' c' n' o f e =
    let q = closing_same d c 0 d' c' n' e in
    record {
      low = omega (arith, q.0);
      versions = λ j h. absurd (lt_irrefl 0 (omega (arith, q.2)));
      unmarked = λ h. rw (← q.0) f;
      marked = λ h. absurd (lt_irrefl 0 (omega (arith, q.2)));
    }

closing-matches : (d c : ℕ) (p : Draft) (l : Live) → Matches p l → Matches (closing_at c p) (with_phase (Closing d c 0) l)
unfolding with_phase reads_of writes_of
closing-matches d c p l m = record {
  values = m.values;
  clock = unfold closing_clock in refl;
  reads = m.reads;
}

-- a phase with its clock in range
pub phase-ranges : (p : Phase) (l : Live) → closing_clock p < number_range → Ranges l → Ranges (with_phase p l)
unfolding with_phase writes_of
phase-ranges p l f rg = record { txn = rg.txn; clock = f; values = rg.values }

pub phase-reads : (es : List Entry) (p : Phase) (l : Live) → Atomic es (reads_of l) → Atomic es (reads_of (with_phase p l))
unfolding with_phase reads_of
phase-reads es p l a = a

pub phase-writes : (p : Phase) (l : Live) → write_count (with_phase p l) ≡ write_count l
unfolding with_phase writes_of
phase-writes p l = refl

pub phase-of : (p : Phase) (l : Live) → (with_phase p l).phase ≡ p
unfolding with_phase
phase-of p l = refl

pub txn-of : (p : Phase) (l : Live) → (with_phase p l).txn ≡ l.txn
unfolding with_phase
txn-of p l = refl

closed : (st : Station) (s : List ℕ) (b : Ledger) (t c d : ℕ) → Inv st s b → sound st ≡ true → c < number_range → t ≢ 0 → is_live t st ≡ true
    → is_closing (live_at st (place_of t st)).phase ≡ false → d < st.kind.slots → seen st.kind s d ≡ free
    → Inv (set_live st (place_of t st) (with_phase (Closing d c 0) (live_at st (place_of t st)))) s (with_drafts (revised t (closing_at c) b.drafts) b)
unfolding with_drafts
closed st s b t c d inv h oc n z nc o f = record {
  core = unfold set_live in inv.core;
  slots = unfold set_live in slots_set st.kind st s i l inv.slots (place-hit st t z).0 nc (λ d' c' n' e. prepared-none st.kind s (live_at st i) d c d' c' n' o f (sym (phase-of _ (live_at st i)) ∙ e));
  drafts = drafts-as _ _ _ (draft-revised t (closing_at c) (λ p. refl) b.drafts) (drafts-revised st (draft_in b) inv.drafts h t n z l (txn-of _ (live_at st i) ∙ (place-hit st t z).1) (closing_at c) (λ p m. closing-matches d c p (live_at st i) m));
  once = once-revised t (closing_at c) (λ p. refl) b.drafts inv.once;
  reads = reads-set st i l (place-hit st t z).0 inv.reads (phase-reads st.entries _ (live_at st i) (inv.reads i));
  ranges = ranges-set st i l (place-hit st t z).0 inv.ranges (phase-ranges (Closing d c 0) (live_at st i) (unfold closing_clock in oc) (inv.ranges i));
}
  where
    i : ℕ
    i = place_of t st

    l : Live
    l = with_phase (Closing d c 0) (live_at st i)

-- a retry: "done" tears out no live transaction's draft
retried : (st : Station) (s : List ℕ) (b : Ledger) (t : ℕ) → Inv st s b → sound st ≡ true → is_held t st ≡ true → Inv st s (with_drafts (without t b.drafts) b)
unfolding with_drafts
retried st s b t inv h hh = record {
  core = inv.core;
  slots = inv.slots;
  drafts = drafts-as _ _ _ (draft-without t b.drafts) (drafts-without st (draft_in b) inv.drafts t (held-not-live st h t hh));
  once = once-without t b.drafts inv.once;
  reads = inv.reads;
  ranges = inv.ranges;
}

pub commit-keeps : (st : Station) (s : List ℕ) (b : Ledger) (t c : ℕ) → Inv st s b → sound st ≡ true → c < number_range → Good s b (Commit t c) (commit st t c)
unfolding commit feed txn_of number_of highest_free
commit-keeps st s b t c inv h oc =
    row s b (Commit t c) st _ 2 _ _ inv λ h2.
    row s b (Commit t c) st _ 3 _ _ inv λ h3.
    row s b (Commit t c) st _ 5 _ _ inv λ h5.
    row s b (Commit t c) st _ 8 _ _ inv λ h8.
    row s b (Commit t c) st _ 9 _ _ inv λ h9.
    row s b (Commit t c) st _ 13 _ _ inv λ h13.
    row s b (Commit t c) st _ 21 _ _ inv λ h21.
    unrefused s b (Commit t c) st _
    (choice s b (Commit t c) _ _ _ (λ hh. good-says s b (Commit t c) _ _ (retried st s b t inv h hh)) λ hh.
    choice s b (Commit t c) _ _ _ (λ hw. good-says s b (Commit t c) _ _ (cleared st s b inv h t (live hh h8) h9)) λ hw.
    let g = greatest-below (is_free st) st.kind.slots (some-free hw h13) in
    good-says s b (Commit t c) _ _ (subst (λ (n : ℕ). Inv (set_live st (place_of t st) (with_phase (Closing (highest_free st) (clock_above c (clocks st)) 0) (live_at st (place_of t st)))) s (with_drafts (revised t (closing_at n) b.drafts) b))
    (reckons st s b inv h c) (closed st s b t (clock_above c (clocks st)) _ inv h (low hw h21) (eqb-false t 0 h3) (live hh h8) h9 g.0 (free_seen st s inv.slots _ g.0 g.1))))
  where
    live : is_held t st ≡ false → (not (is_live t st) and not (is_held t st)) ≡ false → is_live t st ≡ true
    live hh h8 = ⊎_elim (λ y. y) (λ y. absurd (true≢false (sym (and_intro _ _ (not_of_false _ y) (not_of_false _ hh)) ∙ h8))) (bool_cases (is_live t st))

    written : eqb (write_count (live_at st (place_of t st))) 0 ≡ false → leb 1 (write_count (live_at st (place_of t st))) ≡ true
    written hw = le-leb 1 (write_count (live_at st (place_of t st))) (omega (arith, eqb-false (write_count (live_at st (place_of t st))) 0 hw))

    low : eqb (write_count (live_at st (place_of t st))) 0 ≡ false → (leb 1 (write_count (live_at st (place_of t st))) and member last_clock (clocks st)) ≡ false → clock_above c (clocks st) < number_range
    low hw h21 = clock-below c (clocks st) oc (clocks-low st s b inv h) (and_second _ _ h21 (written hw))

    some-free : eqb (write_count (live_at st (place_of t st))) 0 ≡ false → (leb 1 (write_count (live_at st (place_of t st))) and not (any_below (is_free st) st.kind.slots)) ≡ false → any_below (is_free st) st.kind.slots ≡ true
    some-free hw h13 = not-false _ (and_second _ _ h13 (written hw))
