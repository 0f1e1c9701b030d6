-- step keeps the invariant: a version record, the commit record, the acknowledgement.
use Prim.Native.Nat.{ℕ, suc, ◌+◌, ◌<◌, ◌≤◌}
use mathlib.Core.Path.{◌≡◌, refl, sym, ap, subst, ◌∙◌, fun_ext}
use mathlib.Core.Logic.{◌≢◌, inl, inr, ⊎_elim}
use mathlib.Core.Bool.{Bool, true, false, cond, false≢true}
use mathlib.Core.List.Memᴰ
use mathlib.Core.List.{List, [], ◌∷◌, ◌++◌, map, Permᴰ, Memᴰ}
use mathlib.Core.Option.{Option, some, none}
use lib.Dec.{eqb, ltb}
use lib.ListN.{length, get_or, length-map, get_or-map}
use lib.Seq.{get_or-take}
use native.Mathlib.Nat.{lt_irrefl, not-suc-le-zero}
use native.Mathlib.Decide.{ℕ_discrete}
use native.Mathlib.Omega.{arith}
use native.Mathlib.Numerals.{add-one}
use borrow.Author.Tests.{ltb-true, ltb-false, eqb-true, eqb-false, eq-eqb, not-false}
use Rattle.model.specs.declared.Id.{Id}
use Rattle.model.specs.declared.Read.{Read}
use Rattle.model.specs.Types.{Entry, Write, Live, Station}
use Rattle.model.specs.declared.Phase.{Phase}
use Rattle.model.specs.declared.Phase.TheVariants.{Unused, Open, Closing}
use Rattle.model.specs.Lists.{any, first, member, same}
use Rattle.model.specs.Limits.{record_size, number_range}
use Rattle.model.specs.Kinds.{Kind, width, store_size}
use Rattle.model.specs.Lives.{no_write, no_live, writes_of, reads_of, write_count, write_key, is_closing, closing_slot, closing_clock, records_stored, with_phase}
use Rattle.model.specs.Entries.{keys_of, wrote, wrote_as, entry_in, commit_record, entry_rules, record_of, entry_for}
use Rattle.model.specs.Stations.{live_at, entry_at, set_live, set_entry, is_live, place_of}
use Rattle.model.specs.Records.{value_in, version_record, carries_version, record_at, with_record}
use Rattle.model.specs.Slots.{free, committed, damaged, seen}
use Rattle.model.specs.Sound.{sound}
use Rattle.model.specs.Reading.{Atomic}
use Rattle.model.specs.Step.{one_more, stepped, step}
use Rattle.model.specs.Calls.{Step, txn_of}
use Rattle.model.specs.Answers.{values}
use Rattle.model.proofs.ListLaws.{first-yes, first-no, get_or-mem, member-yes, member-no, member-finds}
use Rattle.model.proofs.IdLaws.{same_id_lem}
use Rattle.model.proofs.RecordLaws.{Fits, length-commit, length-version, entry-round, commit-rules, version-value, version-round, with-length, record_same, record-other, record-elsewhere}
use Rattle.model.proofs.InsideLaws.{entry_for-txn, entry_for-id, entry_for-phase}
use Rattle.model.proofs.SlotLaws.{committed-injective, committed≢damaged, free≢damaged, seen-frame, seen-free, seen-free-mark, seen-committed}
use Rattle.model.proofs.ReadingLaws.{wrote_as_lem, as-wrote}
use Rattle.model.proofs.StationLaws.{place-hit, entry-get, set_live-at, live_at-same, live_at-other, set_live-entry, set_entry-at, entry_at-same, entry_at-other, set_entry-live, set_entry-length, not-closing, closing_same, clock-closing}
use Rattle.model.proofs.SoundLaws.{sound-at, writes-length, entry_for-set, entry_for-sound}
use Rattle.model.proofs.SoundFacts.{live-not-held, one-closing, IsClosing, closing-facts}
use Rattle.history.specs.Ledger.{Draft, Committed, Ledger, draft_of, without, with_drafts, at, committed_from, feed}
use Rattle.history.specs.CutRule.{committed_in}
use Rattle.history.specs.Matches.{lookup, Matches}
use Rattle.history.proofs.Invariant.{in_store, nth, Prepared, Dominated, Recorded, Core, Slots, draft_in, Ranges, Inv, Good, good-says, good-stores, row, unrefused, choice}
use Rattle.history.proofs.DraftLaws.{draft-txn, draft-without, once-without, drafts-as, draft-of, matches-at, drafts-cast, drafts-same, drafts-cleared}
use Rattle.history.proofs.Lasting.{lasting}
use Rattle.history.proofs.LiveLaws.{reads-set, ranges-set, no_live-open, no_live-reads, no_live-ranges}
use Rattle.history.proofs.Committing.{phase-ranges, phase-reads, phase-writes, phase-of, txn-of}
use Rattle.history.proofs.Reading.{read_named}
use Rattle.history.proofs.CommittedLaws.{slot_holds, holds-free, holds-committed, cond-frame, holds_frame, in-store, hold-same, hold-one-more}
use Rattle.history.proofs.SlotOwners.{writes-few, prepared-frame, not_free, unseen}

-- ── a closing transaction writes to its slot ──
module _ (st : Station) (s s' : List ℕ) (b : Ledger) (inv : Inv st s b) (h : sound st ≡ true) (t d c n m : ℕ) (nz : t ≢ 0) (z : is_live t st ≡ true)
    (q : (live_at st (place_of t st)).phase ≡ Closing d c n) (size' : length s' ≡ store_size st.kind)
    (frame : (d' k : ℕ) → d' ≢ d → k < width st.kind → record_at st.kind s' d' k ≡ record_at st.kind s d' k) where
  abbrev i : ℕ
  i = place_of t st

  abbrev now : Live
  now = with_phase (Closing d c m) (live_at st (place_of t st))

  abbrev after : Station
  after = set_live st (place_of t st) now

  oi : i < length st.live
  oi = (place-hit st t z).0

  facts : IsClosing st (live_at st i) d c n
  facts = closing-facts st h i d c n q

  sl : Slots st.kind st s
  sl = inv.slots

  seen_other : (d' : ℕ) → d' ≢ d → seen st.kind s' d' ≡ seen st.kind s d'
  seen_other d' nd = seen-frame st.kind s' s d' d' (λ k o. frame d' k nd o)

  slots-step : Prepared st.kind s' now d c m → Slots st.kind after s'
  slots-step pr = record {
    count = unfold set_live in sl.count;
    entered = λ d'. rw (set_live-entry st i now d') (λ y. seen_other d' (λ e. y (ap (λ (x : ℕ). (entry_at st x).id.txn) e ∙ facts.unheld)) ∙ sl.entered d' y);
    closing = set_live-at st i now (λ j x. (d' c' n' : ℕ) → x.phase ≡ Closing d' c' n' → Prepared st.kind s' x d' c' n') oi
        (λ d' c' n' e. let r = closing_same d c m d' c' n' (sym (phase-of (Closing d c m) (live_at st i)) ∙ e) in rw (← r.0, ← r.1, ← r.2) pr)
        (λ j nj d' c' n' e. prepared-frame st.kind s s' (live_at st j) d' c' n' (writes-few st.kind (live_at st j) (closing-facts st h j d' c' n' e).used.sets) (λ k o. frame d' k (other-slot j d' c' n' nj e) o) (sl.closing j d' c' n' e));
    unused = λ d' od. rw (set_live-entry st i now d') (λ y un.
        let nd : d' ≢ d = (λ e. un i c m (ap (λ (x : Live). x.phase) (live_at-same st i now oi) ∙ (phase-of (Closing d c m) (live_at st i) ∙ ap (λ (x : ℕ). Closing x c m) (sym e)))) in
        seen_other d' nd ∙ sl.unused d' od y (λ j c' n' e. still d' nd un j c' n' e (ℕ_discrete j i)));
  }
    where
      other-slot : (j d' c' n' : ℕ) → j ≢ i → (live_at st j).phase ≡ Closing d' c' n' → d' ≢ d
      other-slot j d' c' n' nj e y = nj (one-closing st h j i d c' n' c n (e ∙ ap (λ (x : ℕ). Closing x c' n') y) q)

      still : (d' : ℕ) → d' ≢ d → ((j c' n' : ℕ) → (live_at after j).phase ≡ Closing d' c' n' → ⊥) → (j c' n' : ℕ) → (live_at st j).phase ≡ Closing d' c' n' → Dec (j ≡ i) → ⊥
      still d' nd un j c' n' e (yes y) = nd (closing_same d' c' n' d c n (sym e ∙ (ap (λ (x : ℕ). (live_at st x).phase) y ∙ q))).0
      still d' nd un j c' n' e (no y) = un j c' n' (ap (λ (x : Live). x.phase) (live_at-other st i now j y) ∙ e)

  same-matches : (p : Draft) → Matches p (live_at st i) → Matches p now
  same-matches p mt = record {
    values = unfold with_phase writes_of in mt.values;
    clock = mt.clock ∙ (clock-closing _ d c n q ∙ (unfold with_phase closing_clock in refl));
    reads = unfold with_phase reads_of in mt.reads;
  }

  -- the other st.kind.slots are as they were
  core-step : (seen st.kind s' d ≡ damaged → ⊥) → ((d' : ℕ) (e e' : Entry) → d' ≢ d → d' < st.kind.slots → seen st.kind s' d ≡ committed e → seen st.kind s d' ≡ committed e' → e.id.txn ≡ e'.id.txn → ⊥)
      → (standing past : List Committed) → Permᴰ (in_store st.kind s') standing → ((j : Committed) → Memᴰ j standing → Memᴰ j past) → ((j : Committed) → Memᴰ j past → Dominated standing j)
      → ((j : Committed) → Memᴰ j past → Recorded j) → Core st.kind s' standing past
  core-step whole one standing past found kept dominated recorded = record {
    fits = inv.core.fits;
    size = size';
    undamaged = λ d' o x. go d' o x (ℕ_discrete d' d);
    single = λ d₁ d₂ e₁ e₂ o₁ o₂ h₁ h₂ et. two d₁ d₂ e₁ e₂ o₁ o₂ h₁ h₂ et (ℕ_discrete d₁ d) (ℕ_discrete d₂ d);
    found = found;
    kept = kept;
    dominated = dominated;
    recorded = recorded;
  }
    where
      go : (d' : ℕ) → d' < st.kind.slots → seen st.kind s' d' ≡ damaged → Dec (d' ≡ d) → ⊥
      go d' o x (yes y) = whole (subst (λ (k : ℕ). seen st.kind s' k ≡ damaged) y x)
      go d' o x (no y) = inv.core.undamaged d' o (sym (seen_other d' y) ∙ x)

      two : (d₁ d₂ : ℕ) (e₁ e₂ : Entry) → d₁ < st.kind.slots → d₂ < st.kind.slots → seen st.kind s' d₁ ≡ committed e₁ → seen st.kind s' d₂ ≡ committed e₂ → e₁.id.txn ≡ e₂.id.txn → Dec (d₁ ≡ d) → Dec (d₂ ≡ d) → d₁ ≡ d₂
      two d₁ d₂ e₁ e₂ o₁ o₂ h₁ h₂ et (yes y₁) (yes y₂) = y₁ ∙ sym y₂
      two d₁ d₂ e₁ e₂ o₁ o₂ h₁ h₂ et (yes y₁) (no y₂) = absurd (one d₂ e₁ e₂ y₂ o₂ (subst (λ (x : ℕ). seen st.kind s' x ≡ committed e₁) y₁ h₁) (sym (seen_other d₂ y₂) ∙ h₂) et)
      two d₁ d₂ e₁ e₂ o₁ o₂ h₁ h₂ et (no y₁) (yes y₂) = absurd (one d₁ e₂ e₁ y₁ o₁ (subst (λ (x : ℕ). seen st.kind s' x ≡ committed e₂) y₂ h₂) (sym (seen_other d₁ y₁) ∙ h₁) (sym et))
      two d₁ d₂ e₁ e₂ o₁ o₂ h₁ h₂ et (no y₁) (no y₂) = inv.core.single d₁ d₂ e₁ e₂ o₁ o₂ (sym (seen_other d₁ y₁) ∙ h₁) (sym (seen_other d₂ y₂) ∙ h₂) et

  -- what is left to show: the slot, and the standing transactions
  pub step-inv : Prepared st.kind s' now d c m → (standing past : List Committed) → Core st.kind s' standing past → Inv after s' (record { drafts = b.drafts; standing = standing; past = past })
  step-inv pr standing past cr = record {
    core = unfold set_live in cr;
    slots = unfold set_live in slots-step pr;
    drafts = drafts-same st (draft_in b) inv.drafts h t nz z now (txn-of _ (live_at st i) ∙ (place-hit st t z).1) same-matches;
    once = inv.once;
    reads = reads-set st i now oi inv.reads (phase-reads st.entries _ (live_at st i) (inv.reads i));
    ranges = ranges-set st i now oi inv.ranges (phase-ranges (Closing d c m) (live_at st i) (unfold closing_clock in omega (arith, (inv.ranges i).clock, clock-closing _ d c n q)) (inv.ranges i));
  }

-- ── the values by key ──
pub lookup_first : (ws : List Write) (k : ℕ) → lookup k ws ≡ cond (member k (map write_key ws)) (some (get_or ws (first (eqb k) (map write_key ws)) no_write).value) none
unfolding lookup
lookup_first [] k = unfold member any in refl
lookup_first (w ∷ ws) k = go (eqb k w.key) refl (lookup_first ws k)
  where
    ks : List ℕ
    ks = map write_key ws

    go : (b : Bool) → eqb k w.key ≡ b → lookup k ws ≡ cond (member k ks) (some (get_or ws (first (eqb k) ks) no_write).value) none
        → lookup k (w ∷ ws) ≡ cond (member k (w.key ∷ ks)) (some (get_or (w ∷ ws) (first (eqb k) (w.key ∷ ks)) no_write).value) none
    go true e ih = rw (e, member-yes k w.key ks e, first-yes (eqb k) w.key ks e)
    go false e ih = rw (e, member-no k w.key ks e, first-no (eqb k) w.key ks e) ih

pub first-written : (ws : List Write) → 1 ≤ length ws → (k : ℕ) × (v : ℕ) × (lookup k ws ≡ some v)
unfolding lookup
first-written [] o = absurd (not-suc-le-zero o)
first-written (w ∷ ws) o = (w.key, w.value, rw (eq-eqb w.key w.key refl))

keys-for : (l : Live) → keys_of (entry_for l) ≡ map write_key (writes_of l)
unfolding entry_for
keys-for l = refl

nth-written : (l : Live) (j : ℕ) → j < write_count l → get_or (writes_of l) j no_write ≡ nth l j
unfolding writes_of
nth-written l j o = get_or-take l.write_count l.writes j no_write (omega (arith, o, writes-length l))

-- the transaction in the slot is the draft's
pub committed-of-draft : (κ : Kind) (s : List ℕ) (d c n : ℕ) (l : Live) (p : Draft) → l.phase ≡ Closing d c n → Ranges l → Matches p l
    → ((j : ℕ) → j < write_count l → record_at κ s d (suc j) ≡ version_record (nth l j).key (record { clock = c; txn = l.txn }) (nth l j).value)
    → committed_in κ s d (entry_for l) ≡ record { id = record { clock = p.clock; txn = l.txn }; values = p.values }
unfolding committed_in
committed-of-draft κ s d c n l p q rg mt f = λ y. record { id = same_id y; values = fun_ext values y }
  where
    ks : List ℕ
    ks = map write_key (writes_of l)

    same_id : (entry_for l).id ≡ record { clock = p.clock; txn = l.txn }
    same_id = entry_for-id l d c n q ∙ ap (λ (x : ℕ). record { clock = x; txn = l.txn }) (sym (mt.clock ∙ clock-closing _ d c n q))

    value : (k : ℕ) → member k ks ≡ true → ◌≡◌ {A = Option ℕ} (some (value_in (record_at κ s d (suc (first (eqb k) ks))))) (some (get_or (writes_of l) (first (eqb k) ks) no_write).value)
    value k h =
        let j : ℕ = first (eqb k) ks in
        let o : j < write_count l = subst (λ (x : ℕ). j < x) (length-map (writes_of l) write_key) (member-finds k ks h).0 in
        ap some (ap value_in (f j o) ∙ (version-value _ _ _ (rw (← (nth-written l j o)) (rg.values _ (get_or-mem (writes_of l) j no_write o))) ∙ ap (λ (w : Write). w.value) (sym (nth-written l j o))))

    values : (k : ℕ) → ◌≡◌ {A = Option ℕ} (cond (wrote (entry_for l) k) (some (value_in (record_at κ s d (record_of (entry_for l) k)))) none) (p.values k)
    values k = unfold wrote record_of in rw (keys-for l) (cond-frame (member k ks) _ _ none (value k) ∙ (sym (lookup_first (writes_of l) k) ∙ sym (mt.values k)))

-- ── the first n steps: a version record ──
module _ (st : Station) (s : List ℕ) (b : Ledger) (inv : Inv st s b) (h : sound st ≡ true) (t d c n : ℕ) (nz : t ≢ 0) (z : is_live t st ≡ true)
    (q : (live_at st (place_of t st)).phase ≡ Closing d c n) where
  abbrev l : Live
  l = live_at st (place_of t st)

  pr : Prepared st.kind s l d c n
  pr = inv.slots.closing (place_of t st) d c n q

  closes : IsClosing st l d c n
  closes = closing-facts st h (place_of t st) d c n q

  abbrev content : List ℕ
  content = version_record (nth l n).key (record { clock = c; txn = l.txn }) (nth l n).value

  pub version-stored : n < write_count l → Inv (set_live st (place_of t st) (with_phase (Closing d c (n + 1)) l)) (with_record st.kind s d (n + 1) content) b
  version-stored o = step-inv st s s' b inv h t d c n (n + 1) nz z q size' frame prepared b.standing b.past
      (core-step st s s' b inv h t d c n (n + 1) nz z q size' frame (λ x. free≢damaged (sym unmarked ∙ x)) (λ d' e e' nd o' x. not_free (seen st.kind s' d) e x unmarked) b.standing b.past
      (rw (in-store st.kind s', hold-same st.kind s s' st.kind.slots 0 (λ d' y. same d' (ℕ_discrete d' d)), ← in-store st.kind) inv.core.found) inv.core.kept inv.core.dominated inv.core.recorded)
    where
      s' : List ℕ
      s' = with_record st.kind s d (n + 1) content

      lb : length content ≡ record_size
      lb = length-version (nth l n).key (record { clock = c; txn = l.txn }) (nth l n).value

      on : n + 1 < width st.kind
      on = omega (arith, o, writes-few st.kind l closes.used.sets)

      size' : length s' ≡ store_size st.kind
      size' = with-length st.kind s d (n + 1) content inv.core.size pr.low on lb ∙ inv.core.size

      frame : (d' k : ℕ) → d' ≢ d → k < width st.kind → record_at st.kind s' d' k ≡ record_at st.kind s d' k
      frame d' k nd ok = record-elsewhere st.kind s d (n + 1) content inv.core.size pr.low on lb d' k nd ok

      other : (k : ℕ) → k ≢ n + 1 → record_at st.kind s' d k ≡ record_at st.kind s d k
      other k nk = record-other st.kind s d (n + 1) content inv.core.size pr.low on lb k nk

      was : seen st.kind s d ≡ free
      was = pr.unmarked (omega arith)

      unmarked : seen st.kind s' d ≡ free
      unmarked = seen-free st.kind s' d (rw (other 0 (omega arith)) (seen-free-mark st.kind s d was))

      same : (d' : ℕ) → Dec (d' ≡ d) → slot_holds st.kind s' d' ≡ slot_holds st.kind s d'
      same d' (yes e) = rw e (holds-free st.kind s' d unmarked ∙ sym (holds-free st.kind s d was))
      same d' (no e) = holds_frame st.kind s s' d' (λ k ok. frame d' k e ok)

      stored_at : (j : ℕ) → j < n + 1 → j < write_count l → Dec (j ≡ n) → record_at st.kind s' d (suc j) ≡ version_record (nth l j).key (record { clock = c; txn = l.txn }) (nth l j).value
      stored_at j a x (yes e) = rw (e, ← (add-one n)) (record_same st.kind s d (n + 1) content inv.core.size pr.low on lb)
      stored_at j a x (no e) = other (suc j) (λ y. e (omega arith)) ∙ pr.versions j (omega arith) x

      prepared : Prepared st.kind s' (with_phase (Closing d c (n + 1)) l) d c (n + 1)
      prepared = record {
        low = pr.low;
        versions = λ j a x. unfold with_phase in stored_at j a (omega (arith, x, phase-writes (Closing d c (n + 1)) l)) (ℕ_discrete j n);
        unmarked = λ a. unmarked;
        marked = λ a. absurd (lt_irrefl n (omega (arith, a, phase-writes (Closing d c (n + 1)) l)));
      }

  -- ── step n + 1: the commit record ──
  abbrev E : Entry
  E = entry_for l

  fits : Fits st.kind E
  unfolding entry_for closing_clock
  fits = record {
    kind = inv.core.fits;
    txn32 = (inv.ranges (place_of t st)).txn;
    clock64 = (inv.ranges (place_of t st)).clock;
    set = entry_for-set st.kind st.entries l closes.used;
  }

  c-low : c < number_range
  c-low = omega (arith, (inv.ranges (place_of t st)).clock, clock-closing _ d c n q)

  rules : entry_rules st.kind E ≡ true
  rules = entry_for-sound st (sound-at st h) (place_of t st) (subst (λ (p : Phase). is_closing p ≡ true) (sym q) (unfold is_closing in refl))

  pub commit-stored : n ≡ write_count l → (p : Draft) → Matches p l
      → Inv (set_live st (place_of t st) (with_phase (Closing d c (n + 1)) l)) (with_record st.kind s d 0 (commit_record st.kind E))
      (record {
        drafts = b.drafts;
        standing = record { id = record { clock = p.clock; txn = l.txn }; values = p.values } ∷ b.standing;
        past = record { id = record { clock = p.clock; txn = l.txn }; values = p.values } ∷ b.past;
      })
  commit-stored en p mt = step-inv st s s' b inv h t d c n (n + 1) nz z q size' frame prepared (J ∷ b.standing) (J ∷ b.past)
      (core-step st s s' b inv h t d c n (n + 1) nz z q size' frame (λ x. committed≢damaged _ (sym full ∙ x))
      (λ d' e e' nd o' x y w. unseen st s inv.slots h (place_of t st) d c n d' e' q nd o' y (sym w ∙ (ap (λ (u : Entry). u.id.txn) (committed-injective e E (sym x ∙ full)) ∙ entry_for-txn l)))
      (J ∷ b.standing) (J ∷ b.past)
      (Permᴰ.trans perm (Permᴰ.cons same inv.core.found))
      (λ j m. ⊎_elim (λ e. Memᴰ.head e) (λ x. Memᴰ.tail (inv.core.kept j x)) (Memᴰ.cases_cons m))
      (λ j m. ⊎_elim (λ e. inl (Memᴰ.head e)) (λ x. more j (inv.core.dominated j x)) (Memᴰ.cases_cons m))
      (λ j m. ⊎_elim (λ e. subst Recorded (sym e) recorded) (inv.core.recorded j) (Memᴰ.cases_cons m)))
    where
      J : Committed
      J = record { id = record { clock = p.clock; txn = l.txn }; values = p.values }

      recorded : Recorded J
      recorded =
          let r = first-written (writes_of l) closes.keyed in
          (omega (arith, c-low, mt.clock, clock-closing _ d c n q), r.0, (r.1, mt.values r.0 ∙ r.2))

      s' : List ℕ
      s' = with_record st.kind s d 0 (commit_record st.kind E)

      lb : length (commit_record st.kind E) ≡ record_size
      lb = length-commit st.kind E inv.core.fits fits.set

      size' : length s' ≡ store_size st.kind
      size' = with-length st.kind s d 0 (commit_record st.kind E) inv.core.size pr.low (omega arith) lb ∙ inv.core.size

      frame : (d' k : ℕ) → d' ≢ d → k < width st.kind → record_at st.kind s' d' k ≡ record_at st.kind s d' k
      frame d' k nd ok = record-elsewhere st.kind s d 0 (commit_record st.kind E) inv.core.size pr.low (omega arith) lb d' k nd ok

      was : seen st.kind s d ≡ free
      was = pr.unmarked (omega (arith, en))

      stored_at : (j : ℕ) → j < write_count l → record_at st.kind s' d (suc j) ≡ version_record (nth l j).key (record { clock = c; txn = l.txn }) (nth l j).value
      stored_at j o = record-other st.kind s d 0 (commit_record st.kind E) inv.core.size pr.low (omega arith) lb (suc j) (omega arith) ∙ pr.versions j (omega (arith, en)) o

      at-0 : record_at st.kind s' d 0 ≡ commit_record st.kind E
      at-0 = record_same st.kind s d 0 (commit_record st.kind E) inv.core.size pr.low (omega arith) lb

      key-at : (j : ℕ) → j < write_count l → get_or (keys_of E) j 0 ≡ (nth l j).key
      key-at j o = ap (λ (x : List ℕ). get_or x j 0) (keys-for l) ∙ (get_or-map write_key (writes_of l) j no_write ∙ ap write_key (nth-written l j o))

      carried : (j : ℕ) → j < length (keys_of E) → carries_version (record_at st.kind s' d (suc j)) (get_or (keys_of E) j 0) E.id ≡ true
      carried j o =
          let o' : j < write_count l = omega (arith, o, ap length (keys-for l) ∙ length-map (writes_of l) write_key) in
          rw (stored_at j o', key-at j o', entry_for-id l d c n q) (version-round _ (record { clock = c; txn = l.txn }) _ (inv.ranges (place_of t st)).txn c-low)

      full : seen st.kind s' d ≡ committed E
      full = seen-committed st.kind s' d E inv.core.fits (rw at-0 (commit-rules st.kind E fits ∙ rules)) (ap (entry_in st.kind) at-0 ∙ entry-round st.kind E fits) carried

      same : committed_in st.kind s' d E ≡ J
      same = committed-of-draft st.kind s' d c n l p q (inv.ranges (place_of t st)) mt stored_at

      perm : Permᴰ (in_store st.kind s') (committed_in st.kind s' d E ∷ in_store st.kind s)
      perm = rw (in-store st.kind s', in-store st.kind s) (hold-one-more st.kind s s' (committed_in st.kind s' d E) d (holds-free st.kind s d was) (holds-committed st.kind s' d E full) (λ d' nd. holds_frame st.kind s s' d' (λ k ok. frame d' k nd ok)) st.kind.slots 0 (omega arith) (omega (arith, pr.low)))

      more : (j : Committed) → Dominated b.standing j → Dominated (J ∷ b.standing) j
      more j (inl x) = inl (Memᴰ.tail x)
      more j (inr f) = inr (λ k w. let r = f k w in (r.0, Memᴰ.tail r.1, r.2, r.3))

      prepared : Prepared st.kind s' (with_phase (Closing d c (n + 1)) l) d c (n + 1)
      prepared = record {
        low = pr.low;
        versions = λ j a x. unfold with_phase in stored_at j (omega (arith, x, phase-writes (Closing d c (n + 1)) l));
        unmarked = λ a. absurd (lt_irrefl n (omega (arith, a, en, phase-writes (Closing d c (n + 1)) l)));
        marked = λ a. full ∙ ap committed (sym (entry_for-phase l d c n (n + 1) q));
      }

  -- ── step n + 2: the acknowledgement ──
  abbrev cleared-st : Station
  cleared-st = set_live st (place_of t st) no_live

  abbrev end : Station
  end = set_entry cleared-st d E

  live_end : (P : ℕ → Live → Type 0) → P (place_of t st) no_live → ((j : ℕ) → j ≢ place_of t st → P j (live_at st j)) → (j : ℕ) → P j (live_at end j)
  live_end P x y j = rw (set_entry-live cleared-st d E j) (set_live-at st (place_of t st) no_live P (place-hit st t z).0 x y j)

  d-inside : d < length cleared-st.entries
  d-inside = unfold set_live in omega (arith, pr.low, inv.slots.count, inv.core.fits.slots-fit)

  entry-end : (P : ℕ → Entry → Type 0) → P d E → ((k : ℕ) → k ≢ d → P k (entry_at st k)) → (k : ℕ) → P k (entry_at end k)
  entry-end P x y = set_entry-at cleared-st d E P d-inside x (λ k nk. rw (set_live-entry st (place_of t st) no_live k) (y k nk))

  -- an entry of the new commit set that wrote a key under an id that was read is one of the old
  old-writer : (k : ℕ) (r : Read) (x : ℕ) → Memᴰ r (reads_of (live_at st k)) → wrote_as end.entries r.id x ≡ true → wrote_as st.entries r.id x ≡ true
  unfolding set_live
  old-writer k r x m w =
      let f = wrote_as_lem end.entries r.id x w in
      let o : f.0 < length end.entries = f.1 in
      let g = subst (λ (y : Entry). (y.id ≡ r.id) × (wrote y x ≡ true)) (entry-get end f.0 o) (f.2, f.3) in
      let nd : f.0 ≢ d = (λ y. strange (subst (λ (c : ℕ). (entry_at end c).id ≡ r.id) y g.0)) in
      let e : entry_at end f.0 ≡ entry_at st f.0 = entry_at-other cleared-st d E f.0 nd ∙ set_live-entry st (place_of t st) no_live f.0 in
      let o' : f.0 < length st.entries = subst (λ (y : ℕ). f.0 < y) (set_entry-length cleared-st d E) o in
      as-entry f.0 o' (subst (λ (y : Entry). (y.id ≡ r.id) × (wrote y x ≡ true)) e g)
    where
      -- the transaction that ends was read by nobody: it was not held
      strange : (entry_at end d).id ≡ r.id → ⊥
      strange e =
          let f = wrote_as_lem st.entries r.id r.key (read_named st h k r m) in
          let q : (entry_at st f.0).id ≡ r.id = subst (λ (y : Entry). y.id ≡ r.id) (entry-get st f.0 f.1) f.2 in
          live-not-held st h (place_of t st) f.0
          (sym (ap (λ (y : Entry). y.id.txn) (entry_at-same cleared-st d E d-inside) ∙ entry_for-txn l) ∙ (ap (λ (y : Id). y.txn) e ∙ sym (ap (λ (y : Id). y.txn) q)))
          closes.used.numbered

      as-entry : (c : ℕ) → c < length st.entries → ((entry_at st c).id ≡ r.id) × (wrote (entry_at st c) x ≡ true) → wrote_as st.entries r.id x ≡ true
      as-entry c o g =
          subst (λ (y : Id). wrote_as st.entries y x ≡ true) (ap (λ (y : Entry). y.id) (entry-get st c o) ∙ g.0)
          (as-wrote st.entries x c o (subst (λ (y : Entry). wrote y x ≡ true) (sym (entry-get st c o)) g.1))

  slots_end : write_count l < n → Slots st.kind end s
  slots_end o = record {
    count = set_entry-length cleared-st d E ∙ (unfold set_live in inv.slots.count);
    entered = entry-end (λ k x. x.id.txn ≢ 0 → seen st.kind s k ≡ committed x) (λ y. pr.marked o) (λ k nk. inv.slots.entered k);
    closing = live_end (λ j x. (d' c' n' : ℕ) → x.phase ≡ Closing d' c' n' → Prepared st.kind s x d' c' n') (λ d' c' n' e. absurd (not-closing no_live.phase d' c' n' no_live-open e)) (λ j nj. inv.slots.closing j);
    unused = λ d' od. entry-end (λ k x. k < st.kind.slots → x.id.txn ≡ 0 → ((j c' n' : ℕ) → (live_at end j).phase ≡ Closing k c' n' → ⊥) → seen st.kind s k ≡ free)
        (λ ok e un. absurd (closes.used.numbered (sym (entry_for-txn l) ∙ e)))
        (λ k nk ok e un. inv.slots.unused k ok e (λ j c' n' y. was k nk un j c' n' y (ℕ_discrete j (place_of t st)))) d' od;
  }
    where
      was : (k : ℕ) → k ≢ d → ((j c' n' : ℕ) → (live_at end j).phase ≡ Closing k c' n' → ⊥) → (j c' n' : ℕ) → (live_at st j).phase ≡ Closing k c' n' → Dec (j ≡ place_of t st) → ⊥
      was k nk un j c' n' y (yes e) = nk (closing_same k c' n' d c n (sym y ∙ (ap (λ (x : ℕ). (live_at st x).phase) e ∙ q))).0
      was k nk un j c' n' y (no e) = un j c' n' (ap (λ (x : Live). x.phase) (set_entry-live cleared-st d E j ∙ live_at-other st (place_of t st) no_live j e) ∙ y)

  pub acknowledged : write_count l < n → Inv end s (with_drafts (without t b.drafts) b)
  unfolding with_drafts
  acknowledged o = record {
    core = unfold set_entry set_live in inv.core;
    slots = unfold set_entry set_live in slots_end o;
    once = once-without t b.drafts inv.once;
    drafts = drafts-as _ _ _ (draft-without t b.drafts) (drafts-cast cleared-st end (at t none (draft_in b)) (set_entry-live cleared-st d E) (drafts-cleared st (draft_in b) inv.drafts h t z));
    reads = live_end (λ j x. Atomic end.entries (reads_of x)) (no_live-reads end.entries) (λ j nj r q mr mq w. inv.reads j r q mr mq (old-writer j r q.key mr w));
    ranges = live_end (λ j x. Ranges x) no_live-ranges (λ j nj. inv.ranges j);
  }

-- ── step ──
-- the transaction from the draft of t
committed-draft : (st : Station) (s' : List ℕ) (b : Ledger) (t : ℕ) (after : Station) → is_live t st ≡ true → (p : Draft) → draft_of t b.drafts ≡ some p
    → Inv after s' (record {
      drafts = b.drafts;
      standing = record { id = record { clock = p.clock; txn = (live_at st (place_of t st)).txn }; values = p.values } ∷ b.standing;
      past = record { id = record { clock = p.clock; txn = (live_at st (place_of t st)).txn }; values = p.values } ∷ b.past;
    })
    → Inv after s' (record { drafts = b.drafts; standing = committed_from (draft_of t b.drafts) ++ b.standing; past = committed_from (draft_of t b.drafts) ++ b.past })
unfolding committed_from
committed-draft st s' b t after z p e inv =
    subst (λ (x : Option Draft). Inv after s' (record { drafts = b.drafts; standing = committed_from x ++ b.standing; past = committed_from x ++ b.past })) (sym e)
    (subst (λ (u : ℕ). Inv after s' (record { drafts = b.drafts; standing = record { id = record { clock = p.clock; txn = u }; values = p.values } ∷ b.standing; past = record { id = record { clock = p.clock; txn = u }; values = p.values } ∷ b.past }))
    ((place-hit st t z).1 ∙ sym (draft-txn t b.drafts p e)) inv)

live-kind : (st : Station) (i : ℕ) (l : Live) → (set_live st i l).kind ≡ st.kind
unfolding set_live
live-kind st i l = refl

by-phase : (st : Station) (s : List ℕ) (b : Ledger) (t : ℕ) → Inv st s b → sound st ≡ true → t ≢ 0 → is_live t st ≡ true
    → (p : Phase) → (live_at st (place_of t st)).phase ≡ p → is_closing p ≡ true → Good s b (Step t) (stepped st (place_of t st) (live_at st (place_of t st)) p)
unfolding stepped closing_slot records_stored one_more is_closing feed txn_of
by-phase st s b t inv h nz z Unused q c = absurd (false≢true c)
by-phase st s b t inv h nz z Open q c = absurd (false≢true c)
by-phase st s b t inv h nz z (Closing d c n) q _ =
    choice s b (Step t) (ltb n wc) _ _
    (λ x. good-stores s b (Step t) st.kind _ _ (live-kind st _ _) _ _ _ (lasting st s b h inv) (rw (entry_for-id (live_at st (place_of t st)) d c n q) (version-stored st s b inv h t d c n nz z q (ltb-true n wc x)))) λ x.
    choice s b (Step t) (eqb n wc) _ _
    (λ y. let r = draft-of st (draft_in b) inv.drafts t (place_of t st) (place-hit st t z).1 nz in
    good-stores s b (Step t) st.kind _ _ (live-kind st _ _) _ _ _ (lasting st s b h inv) (committed-draft st _ b t _ z r.0 r.1 (commit-stored st s b inv h t d c n nz z q (eqb-true n wc y) r.0 (matches-at st (draft_in b) h inv.drafts t z r.0 r.1)))) λ y.
    good-says s b (Step t) _ _ (acknowledged st s b inv h t d c n nz z q (omega (arith, ltb-false n wc x, eqb-false n wc y)))
  where
    wc : ℕ
    wc = write_count (live_at st (place_of t st))

pub step_keeps : (st : Station) (s : List ℕ) (b : Ledger) (t : ℕ) → Inv st s b → sound st ≡ true → Good s b (Step t) (step st s t)
unfolding step
step_keeps st s b t inv h =
    row s b (Step t) st _ 1 _ _ inv λ h1.
    row s b (Step t) st _ 2 _ _ inv λ h2.
    row s b (Step t) st _ 3 _ _ inv λ h3.
    row s b (Step t) st _ 8 _ _ inv λ h8.
    row s b (Step t) st _ 10 _ _ inv λ h10.
    unrefused s b (Step t) st _ (by-phase st s b t inv h (eqb-false t 0 h3) (not-false _ h8) (live_at st (place_of t st)).phase refl (not-false _ h10))
