-- From what lasts: a scan is not refused and keeps the invariant, and what it finds is what the cut rule claims.
use Prim.Native.Nat.{ℕ, zero, suc, ◌<◌, ◌≤◌}
use mathlib.Core.Path.{◌≡◌, refl, sym, ap, subst, ◌∙◌}
use mathlib.Core.Logic.{◌≢◌, ◌⊎◌, inl, inr, ⊎_elim}
use mathlib.Core.Bool.{Bool, true, false, true≢false}
use mathlib.Core.List.Memᴰ
use mathlib.Core.List.{List, [], ◌∷◌, ◌++◌, Permᴰ, Memᴰ}
use mathlib.Core.Option.{Option, some, none, none-ne-some}
use lib.Dec.{lit<}
use lib.ListN.{length, length-replicate, get_or-replicate}
use native.Mathlib.Decide.{dec_lt}
use native.Mathlib.Omega.{arith}
use Rattle.model.specs.declared.Id.{Id}
use Rattle.model.specs.Types.{Entry, Live, Station}
use Rattle.model.specs.declared.Phase.TheVariants.{Unused, Closing}
use Rattle.model.specs.declared.Answer.TheVariants as A
use Rattle.model.specs.Lists.{count, from}
use Rattle.model.specs.Limits.{live_places, entry_places}
use Rattle.model.specs.Kinds.{Kind}
use Rattle.model.specs.Ids.{older}
use Rattle.model.specs.Lives.{no_live, writes_of, reads_of, is_closing, closing_clock, live_beyond}
use Rattle.model.specs.Entries.{no_entry, wrote}
use Rattle.model.specs.Stations.{live_at, entry_at, idle_station}
use Rattle.model.specs.Slots.{Seen, free, committed, damaged, seen}
use Rattle.model.specs.Reading.{Atomic}
use Rattle.model.specs.Effects.{Effect, says}
use Rattle.model.specs.Scan.{slots_seen, entry_seen, entries_seen, is_committed, scan}
use Rattle.model.specs.Calls.{Scan}
use Rattle.model.proofs.ListLaws.{count_yes, count_no}
use Rattle.model.proofs.IdLaws.{older-irrefl, older-asym, not-older-trans}
use Rattle.model.proofs.SlotLaws.{rules-txn, committed-rules}
use Rattle.model.proofs.ScanLaws.{txn-seen, scan-finds, entries-length, scan-entry, scan-beyond}
use Rattle.model.proofs.StationLaws.{live_out, not-closing}
use Rattle.history.specs.Ledger.{Committed, Ledger, draft_of, with_drafts, feed}
use Rattle.history.specs.CutRule.{committed_found, Wrote, Newer, CutRule}
use Rattle.history.proofs.Invariant.{in_store, Core, Lasting, Ranges, Inv, Good, good-says}
use Rattle.history.proofs.LiveLaws.{no_live-reads, no_live-ranges}
use Rattle.history.proofs.CommittedLaws.{perm-length, holds-free, holds-damaged, holds-committed, slots_hold, hold-none, hold-more, in-store, stands-in, stands, committed-id, stands-once}

-- ── the recovered station ──
-- with no live transaction, what holds of an unused place holds of every place
pub idle : (κ : Kind) (es : List Entry) (P : Live → Type 0) → P no_live → P live_beyond
    → (j : ℕ) → P (live_at (idle_station κ es) j)
idle κ es P x y j = go (dec_lt j live_places)
  where
    new : Station
    new = idle_station κ es

    inside : j < live_places → live_at new j ≡ no_live
    inside o = unfold live_at in get_or-replicate live_places j no_live _ o

    go : Dec (j < live_places) → P (live_at new j)
    go (yes o) = subst P (sym (inside o)) x
    go (no o) = subst P (sym (live_out new j (omega (arith, length-replicate live_places no_live)))) y

-- slots in order and standing transactions: drafts, reads and ranges of a station with no live transaction hold by themselves
pub idle-inv : (κ : Kind) (es : List Entry) (s : List ℕ) (standing past : List Committed) → length es ≡ entry_places → ((d : ℕ) → κ.slots ≤ d → entry_at (idle_station κ es) d ≡ no_entry) → ((d : ℕ) → d < κ.slots → entry_at (idle_station κ es) d ≡ entry_seen (seen κ s d)) → Core κ s standing past
    → Inv (idle_station κ es) s (record { drafts = []; standing = standing; past = past })
unfolding draft_of
idle-inv κ es s standing past count beyond entry core = record {
  core = core;
  slots = record {
    count = count;
    entered = λ d n. rw (entry d (low d n)) (txn-seen (seen κ s d) (subst (λ (e : Entry). e.id.txn ≢ 0) (entry d (low d n)) n));
    closing = λ i d c n e. absurd (idle κ es (λ l. l.phase ≡ Closing d c n → ⊥) (not-closing Unused d c n (unfold is_closing in refl)) (not-closing Unused d c n (unfold is_closing in refl)) i e);
    unused = λ d o z un. was_free d o (seen κ s d) refl (sym (ap (λ (e : Entry). e.id.txn) (entry d o)) ∙ z);
  };
  drafts = record { live = λ t p e. absurd (none-ne-some p e); drafted = λ i n. absurd (idle κ es (λ l. l.txn ≢ 0 → ⊥) (λ y. y refl) (λ y. y refl) i n) };
  once = λ p m. absurd (Memᴰ.not-nil m);
  reads = idle κ es (λ l. Atomic es (reads_of l)) (no_live-reads es) (unfold reads_of in (λ r q m. absurd (Memᴰ.not-nil m)));
  ranges = idle κ es (λ l. Ranges l) no_live-ranges (unfold writes_of in record {
    txn = lit< tt;
    clock = unfold closing_clock in lit< tt;
    values = λ w m. absurd (Memᴰ.not-nil m);
  });
}
  where
    new : Station
    new = idle_station κ es

    low : (d : ℕ) → (entry_at new d).id.txn ≢ 0 → d < κ.slots
    low d n = go (dec_lt d κ.slots)
      where
        go : Dec (d < κ.slots) → d < κ.slots
        go (yes o) = o
        go (no o) = absurd (n (ap (λ (e : Entry). e.id.txn) (beyond d (omega arith))))

    was_free : (d : ℕ) → d < κ.slots → (x : Seen) → seen κ s d ≡ x → (entry_seen x).id.txn ≡ 0 → seen κ s d ≡ free
    was_free d o free h n = h
    was_free d o (committed e) h n = absurd (rules-txn κ e (committed-rules κ s d e h) (unfold entry_seen in n))
    was_free d o damaged h n = absurd (core.undamaged d o h)

-- ── scan ──
module _ (κ : Kind) (s : List ℕ) (standing past : List Committed) (core : Core κ s standing past) where
  pub scan-is : scan κ s ≡ says (A.Found (count is_committed (slots_seen κ s))) (idle_station κ (entries_seen (slots_seen κ s)))
  scan-is = scan-finds κ s core.size (record { undamaged = core.undamaged; single = λ d d' e e' o o' n h h' et. n (core.single d d' e e' o o' h h' et) })

  pub recovered : Inv (idle_station κ (entries_seen (slots_seen κ s))) s (record { drafts = []; standing = standing; past = past })
  recovered = idle-inv κ (entries_seen (slots_seen κ s)) s standing past (entries-length κ s core.fits) (scan-beyond κ s) (scan-entry κ s) core

-- it needs what lasts alone
pub scan-keeps : (κ : Kind) (s : List ℕ) (b : Ledger) → Core κ s b.standing b.past → Good s b Scan (scan κ s)
unfolding feed with_drafts
scan-keeps κ s b core = rw (scan-is κ s b.standing b.past core) (good-says s b Scan _ (idle_station κ (entries_seen (slots_seen κ s))) (recovered κ s b.standing b.past core))

-- ── what is found ──
count-found : (κ : Kind) (s : List ℕ) (n i : ℕ) → count is_committed (from n i (seen κ s)) ≡ length (slots_hold κ s n i)
unfolding from is_committed
count-found κ s zero i = unfold count in ap length (sym (hold-none κ s i))
count-found κ s (suc n) i = go (seen κ s i) refl (count-found κ s n (suc i))
  where
    rest : List Seen
    rest = from n (suc i) (seen κ s)

    go : (x : Seen) → seen κ s i ≡ x → count is_committed rest ≡ length (slots_hold κ s n (suc i)) → count is_committed (seen κ s i ∷ rest) ≡ length (slots_hold κ s (suc n) i)
    go free h ih = count_no is_committed (seen κ s i) rest (ap is_committed h) ∙ (ih ∙ ap length (sym (hold-more κ s n i ∙ ap (λ (l : List Committed). l ++ slots_hold κ s n (suc i)) (holds-free κ s i h))))
    go (committed e) h ih = count_yes is_committed (seen κ s i) rest (ap is_committed h) ∙ (ap suc ih ∙ ap length (sym (hold-more κ s n i ∙ ap (λ (l : List Committed). l ++ slots_hold κ s n (suc i)) (holds-committed κ s i e h))))
    go damaged h ih = count_no is_committed (seen κ s i) rest (ap is_committed h) ∙ (ih ∙ ap length (sym (hold-more κ s n i ∙ ap (λ (l : List Committed). l ++ slots_hold κ s n (suc i)) (holds-damaged κ s i h))))

-- the newest of those that wrote a key
newest-of : (k : ℕ) (l : List Committed) → ((j : Committed) → Memᴰ j l → Wrote j k → ⊥)
    ⊎ ((i : Committed) × Memᴰ i l × Wrote i k × ((j : Committed) → Memᴰ j l → Wrote j k → older i.id j.id ≡ false))
newest-of k [] = inl (λ j m. absurd (Memᴰ.not-nil m))
newest-of k (x ∷ xs) = go (x.values k) refl (newest-of k xs)
  where
    -- x wrote the key: compared with the newest of the others
    compare : (v : ℕ) → x.values k ≡ some v → (i : Committed) → Memᴰ i xs → Wrote i k → ((j : Committed) → Memᴰ j xs → Wrote j k → older i.id j.id ≡ false)
        → (c : Bool) → older x.id i.id ≡ c
        → (y : Committed) × Memᴰ y (x ∷ xs) × Wrote y k × ((j : Committed) → Memᴰ j (x ∷ xs) → Wrote j k → older y.id j.id ≡ false)
    compare v e i m w f true c =
        (i, Memᴰ.tail m, w, λ j mj wj. ⊎_elim (λ q. rw q (older-asym x.id i.id c)) (λ mj'. f j mj' wj) (Memᴰ.cases_cons mj))
    compare v e i m w f false c =
        (x, Memᴰ.head refl, (v, e), λ j mj wj. ⊎_elim (λ q. rw q (older-irrefl x.id)) (λ mj'. not-older-trans x.id i.id j.id c (f j mj' wj)) (Memᴰ.cases_cons mj))

    go : (o : Option ℕ) → x.values k ≡ o
        → ((j : Committed) → Memᴰ j xs → Wrote j k → ⊥) ⊎ ((i : Committed) × Memᴰ i xs × Wrote i k × ((j : Committed) → Memᴰ j xs → Wrote j k → older i.id j.id ≡ false))
        → ((j : Committed) → Memᴰ j (x ∷ xs) → Wrote j k → ⊥)
        ⊎ ((i : Committed) × Memᴰ i (x ∷ xs) × Wrote i k × ((j : Committed) → Memᴰ j (x ∷ xs) → Wrote j k → older i.id j.id ≡ false))
    go none e (inl f) = inl (λ j mj wj. ⊎_elim (λ q. none-ne-some wj.0 (sym e ∙ (ap (λ (y : Committed). y.values k) (sym q) ∙ wj.1))) (λ mj'. f j mj' wj) (Memᴰ.cases_cons mj))
    go none e (inr r) = inr (
      r.0,
      Memᴰ.tail r.1,
      r.2,
      λ j mj wj.
          ⊎_elim (λ q. absurd (none-ne-some wj.0 (sym e ∙ (ap (λ (y : Committed). y.values k) (sym q) ∙ wj.1)))) (λ mj'. r.3 j mj' wj) (Memᴰ.cases_cons mj),
    )
    go (some v) e (inl f) = inr (x, Memᴰ.head refl, (v, e), λ j mj wj. ⊎_elim (λ q. rw q (older-irrefl x.id)) (λ mj'. absurd (f j mj' wj)) (Memᴰ.cases_cons mj))
    go (some v) e (inr r) = inr (compare v e r.0 r.1 r.2 r.3 (older x.id r.0.id) refl)

-- ── the claim, from what lasts ──
module _ (κ : Kind) (s : List ℕ) (b : Ledger) (ls : Lasting κ s b) where
  core : Core κ s b.standing b.past
  core = ls.core

  sc : scan κ s ≡ says (A.Found (count is_committed (slots_seen κ s))) (idle_station κ (entries_seen (slots_seen κ s)))
  sc = scan-is κ s b.standing b.past core

  figure : count is_committed (slots_seen κ s) ≡ length b.standing
  unfolding slots_seen
  figure = count-found κ s κ.slots 0 ∙ (ap length (sym (in-store κ s)) ∙ perm-length core.found)

  -- a number stands once: whichever transaction has the id read is the one that the read names
  same-id-same : (i j : Committed) → Memᴰ i b.standing → Memᴰ j b.standing → i.id ≡ j.id → i ≡ j
  same-id-same i j mi mj e =
      let r = stands-in κ s b.standing core.found j mj in
      let tj : j.id.txn ≡ r.2.id.txn = ap (λ (x : Committed). x.id.txn) r.4 ∙ ap (λ (x : Id). x.txn) (committed-id κ s r.0 r.2) in
      stands-once κ s b.standing core.found core.single i r.0 r.2 r.1 r.3 mi (ap (λ (x : Id). x.txn) e ∙ tj) ∙ sym r.4

  pub cut-rule-of : CutRule κ s b
  unfolding says
  cut-rule-of = record {
    figure = ap (λ (x : Effect). x.answer) sc ∙ ap (λ (n : ℕ). A.Found n) figure;
    exactly = subst (λ (x : Effect). Permᴰ (committed_found κ s 0 x.station.entries) b.standing) (sym sc) (unfold in_store in core.found);
    newest = λ k j m w. newest-stands k j m w (newest-of k b.past);
    stands = stays;
    reads = λ t p r e m. let f = ls.sure t p e r m in (f.0, f.1, f.2, f.3);
    atomic = λ t p r q j e mr mq mj ej w nw.
        let f = ls.sure t p e r mr in f.4 q mq (subst (λ (x : Committed). Wrote x q.key) (same-id-same j f.0 mj f.1 (ej ∙ sym f.2)) w) nw;
  }
    where
      stays : (k : ℕ) (j : Committed) → Memᴰ j b.past → Wrote j k → ((x : Committed) → Memᴰ x b.past → Wrote x k → Newer x.id j.id → ⊥) → Memᴰ j b.standing
      stays k j m w no-newer =
          ⊎_elim (λ x. x) (λ f. let r = f k w in absurd (no-newer r.0 (core.kept r.0 r.1) r.2 r.3)) (core.dominated j m)

      newest-stands : (k : ℕ) (j : Committed) → Memᴰ j b.past → Wrote j k
          → ((x : Committed) → Memᴰ x b.past → Wrote x k → ⊥) ⊎ ((i : Committed) × Memᴰ i b.past × Wrote i k × ((x : Committed) → Memᴰ x b.past → Wrote x k → older i.id x.id ≡ false))
          → (i : Committed) × Memᴰ i b.standing × Wrote i k × ((x : Committed) → Memᴰ x b.past → Wrote x k → Newer x.id i.id → ⊥)
      newest-stands k j m w (inl f) = absurd (f j m w)
      newest-stands k j m w (inr r) =
          let top : (x : Committed) → Memᴰ x b.past → Wrote x k → Newer x.id r.0.id → ⊥ = (λ x mx wx nx. true≢false (sym nx ∙ r.3 x mx wx)) in
          (r.0, stays k r.0 r.1 r.2 top, r.2, top)
