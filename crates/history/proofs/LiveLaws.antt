-- The other parts of the invariant while one live transaction changes.
use Prim.Native.Nat.{ℕ, ◌<◌}
use mathlib.Core.Path.{◌≡◌, refl, ap, subst, ◌∙◌}
use mathlib.Core.Bool.{true, false}
use mathlib.Core.List.Memᴰ
use mathlib.Core.List.{List}
use lib.Dec.{lit<}
use lib.ListN.{length}
use native.Mathlib.Decide.{ℕ_discrete}
use Rattle.model.specs.Types.{Entry, Live, Station}
use Rattle.model.specs.declared.Phase.TheVariants.{Closing}
use Rattle.model.specs.Kinds.{Kind}
use Rattle.model.specs.Lives.{no_live, writes_of, reads_of, is_closing, closing_clock}
use Rattle.model.specs.Stations.{live_at, set_live, is_live, place_of}
use Rattle.model.specs.Sound.{sound}
use Rattle.model.specs.Reading.{Atomic}
use Rattle.model.proofs.StationLaws.{place-hit, set_live-at, live_at-other, set_live-entry, not-closing}
use Rattle.history.specs.Ledger.{Ledger, without, with_drafts}
use Rattle.history.proofs.Invariant.{Prepared, Slots, draft_in, AtomicReads, Ranges, Inv}
use Rattle.history.proofs.DraftLaws.{draft-without, once-without, drafts-as, drafts-cleared}

-- a place that is not closing is replaced
pub slots_set : (κ : Kind) (st : Station) (s : List ℕ) (i : ℕ) (l : Live) → Slots κ st s → i < length st.live → is_closing (live_at st i).phase ≡ false
    → ((d c n : ℕ) → l.phase ≡ Closing d c n → Prepared κ s l d c n) → Slots κ (set_live st i l) s
slots_set κ st s i l sl o nc pr = record {
  count = unfold set_live in sl.count;
  entered = λ d. rw (set_live-entry st i l d) (sl.entered d);
  closing = set_live-at st i l (λ j x. (d c n : ℕ) → x.phase ≡ Closing d c n → Prepared κ s x d c n) o pr (λ j nj. sl.closing j);
  unused = λ d od. rw (set_live-entry st i l d) (λ z un. sl.unused d od z (still d un));
}
  where
    still : (d : ℕ) → ((j c n : ℕ) → (live_at (set_live st i l) j).phase ≡ Closing d c n → ⊥) → (j c n : ℕ) → (live_at st j).phase ≡ Closing d c n → ⊥
    still d un j c n e = go (ℕ_discrete j i)
      where
        go : Dec (j ≡ i) → ⊥
        go (yes q) = not-closing (live_at st i).phase d c n nc (subst (λ (k : ℕ). (live_at st k).phase ≡ Closing d c n) q e)
        go (no q) = un j c n (ap (λ (x : Live). x.phase) (live_at-other st i l j q) ∙ e)

pub reads-set : (st : Station) (i : ℕ) (l : Live) → i < length st.live → AtomicReads st → Atomic st.entries (reads_of l) → AtomicReads (set_live st i l)
reads-set st i l o rd new = set_live-at st i l (λ j x. Atomic (set_live st i l).entries (reads_of x)) o (unfold set_live in new) (λ j nj. unfold set_live in rd j)

pub ranges-set : (st : Station) (i : ℕ) (l : Live) → i < length st.live → ((j : ℕ) → Ranges (live_at st j)) → Ranges l → (j : ℕ) → Ranges (live_at (set_live st i l) j)
ranges-set st i l o rg new = set_live-at st i l (λ j x. Ranges x) o new (λ j nj. rg j)

-- ── an unused place ──
pub no_live-open : is_closing no_live.phase ≡ false
unfolding is_closing
no_live-open = refl

pub no_live-reads : (es : List Entry) → Atomic es (reads_of no_live)
unfolding reads_of
no_live-reads es r q m = absurd (Memᴰ.not-nil m)

pub no_live-ranges : Ranges no_live
unfolding writes_of is_closing
no_live-ranges = record {
  txn = lit< tt;
  clock = unfold closing_clock in lit< tt;
  values = λ w m. absurd (Memᴰ.not-nil m);
}

-- a live transaction that is not closing is cleared, and its draft torn out
pub cleared : (st : Station) (s : List ℕ) (b : Ledger) → Inv st s b → sound st ≡ true → (t : ℕ) → is_live t st ≡ true → is_closing (live_at st (place_of t st)).phase ≡ false
    → Inv (set_live st (place_of t st) no_live) s (with_drafts (without t b.drafts) b)
unfolding with_drafts
cleared st s b inv h t z nc = record {
  core = unfold set_live in inv.core;
  slots = unfold set_live in slots_set st.kind st s (place_of t st) no_live inv.slots (place-hit st t z).0 nc (λ d c n e. absurd (not-closing no_live.phase d c n no_live-open e));
  drafts = drafts-as _ _ _ (draft-without t b.drafts) (drafts-cleared st (draft_in b) inv.drafts h t z);
  once = once-without t b.drafts inv.once;
  reads = reads-set st (place_of t st) no_live (place-hit st t z).0 inv.reads (no_live-reads st.entries);
  ranges = ranges-set st (place_of t st) no_live (place-hit st t z).0 inv.ranges no_live-ranges;
}
