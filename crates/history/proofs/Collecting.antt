-- collect keeps the invariant.
use Prim.Native.Nat.{ℕ, ◌<◌}
use mathlib.Core.Path.{◌≡◌, refl, sym, ap, subst, ◌∙◌}
use mathlib.Core.Logic.{◌≢◌}
use mathlib.Core.Bool.{true, false≢true}
use mathlib.Core.List.{List, Memᴰ}
use lib.ListN.{length}
use borrow.Author.Tests.{leb-false, not-false}
use Rattle.model.specs.declared.Id.{Id}
use Rattle.model.specs.Types.{Entry, Live, Station}
use Rattle.model.specs.declared.Phase.TheVariants.{Closing}
use Rattle.model.specs.Kinds.{width}
use Rattle.model.specs.Ids.{older}
use Rattle.model.specs.Entries.{no_entry, wrote, wrote_as}
use Rattle.model.specs.Stations.{live_at, entry_at, set_entry}
use Rattle.model.specs.Records.{zero_record, record_at, with_record}
use Rattle.model.specs.Slots.{free, committed, seen}
use Rattle.model.specs.Sound.{sound}
use Rattle.model.specs.Supersedence.{superseded}
use Rattle.model.specs.Collect.{collect}
use Rattle.model.specs.Calls.{Collect}
use Rattle.model.proofs.Tests.{or_left, or_right}
use Rattle.model.proofs.CollectionLaws.{newer-writer}
use Rattle.model.proofs.ReadingLaws.{wrote_as_lem, as-wrote}
use Rattle.model.proofs.InsideLaws.{no_entry-wrote}
use Rattle.model.proofs.StationLaws.{entry_in, entry-get, held-txn, set_entry-at, entry_at-same, entry_at-other, set_entry-live, set_entry-length}
use Rattle.model.proofs.SoundFacts.{held_below, wrote-held, closing-facts}
use Rattle.history.specs.Ledger.{Committed, Ledger, strike, feed}
use Rattle.history.specs.CutRule.{committed_in, Wrote, Newer}
use Rattle.history.proofs.Invariant.{Slots, draft_in, Inv, Good, good-stores, row, unrefused}
use Rattle.history.proofs.Lasting.{lasting}
use Rattle.history.proofs.Striking.{cleared-frame, cleared-other, cleared-free, core-strike}
use Rattle.history.proofs.DraftLaws.{drafts-cast}
use Rattle.history.proofs.CommittedLaws.{stands, wrote-committed, committed-id}
use Rattle.history.proofs.SlotOwners.{writes-few, prepared-frame}

-- what supersedence says, of a station
pub newer-entry : (st : Station) (e : Entry) → superseded st.entries e ≡ true → (k : ℕ) → wrote e k ≡ true
    → (c : ℕ) × (c < length st.entries) × (wrote (entry_at st c) k ≡ true) × (older e.id (entry_at st c).id ≡ true)
newer-entry st e h k w =
    let r = newer-writer st.entries e h k w in
    let g = subst (λ (x : Entry). (wrote x k ≡ true) × (older e.id x.id ≡ true)) (entry-get st r.0 r.1) (r.2, r.3) in
    (r.0, r.1, g.0, g.1)

module _ (st : Station) (s : List ℕ) (b : Ledger) (inv : Inv st s b) (h : sound st ≡ true) (d : ℕ) (o : d < st.kind.slots) (nz : (entry_at st d).id.txn ≢ 0)
    (sup : superseded st.entries (entry_at st d) ≡ true) where
  abbrev E : Entry
  E = entry_at st d

  abbrev end : Station
  end = set_entry st d no_entry

  abbrev s' : List ℕ
  s' = with_record st.kind s d 0 zero_record

  sl : Slots st.kind st s
  sl = inv.slots

  d-inside : d < length st.entries
  d-inside = entry_in st d nz

  -- on each key that it wrote a standing transaction is newer
  newer : (k : ℕ) → wrote E k ≡ true → (i : Committed) × Memᴰ i b.standing × Wrote i k × Newer i.id E.id
  newer k w =
      let r = newer-entry st E sup k w in
      let x = entry_at st r.0 in (
        committed_in st.kind s r.0 x,
        stands st.kind s b.standing inv.core.found r.0 x (held_below st h r.0 (wrote-held st h r.0 k r.2)) (sl.entered r.0 (wrote-held st h r.0 k r.2)),
        (_, wrote-committed st.kind s r.0 x k r.2),
        rw (committed-id st.kind s r.0 x) r.3,
      )

  frame : (d' k : ℕ) → d' ≢ d → k < width st.kind → record_at st.kind s' d' k ≡ record_at st.kind s d' k
  frame = cleared-frame st.kind s b.standing b.past inv.core d o E (sl.entered d nz) newer

  seen_other : (d' : ℕ) → d' ≢ d → seen st.kind s' d' ≡ seen st.kind s d'
  seen_other = cleared-other st.kind s b.standing b.past inv.core d o E (sl.entered d nz) newer

  now-free : seen st.kind s' d ≡ free
  now-free = cleared-free st.kind s b.standing b.past inv.core d o E (sl.entered d nz) newer

  entry-end : (P : ℕ → Entry → Type 0) → P d no_entry → ((k : ℕ) → k ≢ d → P k (entry_at st k)) → (k : ℕ) → P k (entry_at end k)
  entry-end P x y = set_entry-at st d no_entry P d-inside x y

  -- a closing transaction has another slot
  apart : (i d' c n : ℕ) → (live_at st i).phase ≡ Closing d' c n → d' ≢ d
  apart i d' c n e z = nz (ap (λ (x : ℕ). (entry_at st x).id.txn) (sym z) ∙ (closing-facts st h i d' c n e).unheld)

  slots-collect : Slots st.kind end s'
  slots-collect = record {
    count = set_entry-length st d no_entry ∙ sl.count;
    entered = entry-end (λ k x. x.id.txn ≢ 0 → seen st.kind s' k ≡ committed x) (λ n. absurd (n refl)) (λ k nk n. seen_other k nk ∙ sl.entered k n);
    closing = λ i d' c n. rw (set_entry-live st d no_entry i) (λ e.
        prepared-frame st.kind s s' (live_at st i) d' c n (writes-few st.kind (live_at st i) (closing-facts st h i d' c n e).used.sets) (λ k ok. frame d' k (apart i d' c n e) ok) (sl.closing i d' c n e));
    unused = λ d' od. entry-end (λ k x. k < st.kind.slots → x.id.txn ≡ 0 → ((i c n : ℕ) → (live_at end i).phase ≡ Closing k c n → ⊥) → seen st.kind s' k ≡ free) (λ ok e no_one. now-free)
        (λ k nk ok e no_one. seen_other k nk ∙ sl.unused k ok e (λ i c n y. no_one i c n (ap (λ (l : Live). l.phase) (set_entry-live st d no_entry i) ∙ y))) d' od;
  }

  -- ── reads: an entry fewer ──
  old-writer : (i : Id) (x : ℕ) → wrote_as end.entries i x ≡ true → wrote_as st.entries i x ≡ true
  old-writer i x w =
      let f = wrote_as_lem end.entries i x w in
      let g = subst (λ (y : Entry). (y.id ≡ i) × (wrote y x ≡ true)) (entry-get end f.0 f.1) (f.2, f.3) in
      let nd : f.0 ≢ d = (λ y. false≢true (sym (no_entry-wrote x) ∙ subst (λ (e : Entry). wrote e x ≡ true) (ap (entry_at end) y ∙ entry_at-same st d no_entry d-inside) g.1)) in
      let g' = subst (λ (y : Entry). (y.id ≡ i) × (wrote y x ≡ true)) (entry_at-other st d no_entry f.0 nd) g in
      let o' : f.0 < length st.entries = subst (λ (y : ℕ). f.0 < y) (set_entry-length st d no_entry) f.1 in
      subst (λ (y : Id). wrote_as st.entries y x ≡ true) (ap (λ (y : Entry). y.id) (entry-get st f.0 o') ∙ g'.0)
      (as-wrote st.entries x f.0 o' (subst (λ (y : Entry). wrote y x ≡ true) (sym (entry-get st f.0 o')) g'.1))

  pub collected : Inv end s' (record { drafts = b.drafts; standing = strike E.id.txn b.standing; past = b.past })
  collected = record {
    core = unfold set_entry in core-strike st.kind s b.standing b.past inv.core d o E (sl.entered d nz) newer;
    slots = unfold set_entry in slots-collect;
    drafts = drafts-cast st end (draft_in b) (set_entry-live st d no_entry) inv.drafts;
    once = inv.once;
    reads = λ i r q. rw (set_entry-live st d no_entry i) (λ mr mq w. inv.reads i r q mr mq (old-writer r.id q.key w));
    ranges = λ i. rw (set_entry-live st d no_entry i) (inv.ranges i);
  }

pub collect-keeps : (st : Station) (s : List ℕ) (b : Ledger) (d : ℕ) → Inv st s b → sound st ≡ true → Good s b (Collect d) (collect st s d)
unfolding collect feed
collect-keeps st s b d inv h =
    row s b (Collect d) st _ 1 _ _ inv λ h1.
    row s b (Collect d) st _ 2 _ _ inv λ h2.
    row s b (Collect d) st _ 14 _ _ inv λ h14.
    row s b (Collect d) st _ 15 _ _ inv λ h15.
    row s b (Collect d) st _ 16 _ _ inv λ h16.
    row s b (Collect d) st _ 17 _ _ inv λ h17.
    unrefused s b (Collect d) st _ (good-stores s b (Collect d) st.kind _ (set_entry st d no_entry) (unfold set_entry in refl) _ _ _ (lasting st s b h inv)
    (collected st s b inv h d (leb-false st.kind.slots d (or_left _ _ h14)) (held-txn st d (not-false _ (or_right _ _ h14))) (not-false _ h15)))
