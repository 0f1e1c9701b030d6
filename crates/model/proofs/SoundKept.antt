-- A sound station stays sound under every call, whatever the store's bytes are.
use Prim.Native.Nat.{ℕ, suc, ◌+◌, ◌<◌, ◌≤◌}
use mathlib.Core.Path.{◌≡◌, refl, sym, ap, subst, ◌∙◌}
use mathlib.Core.Logic.{◌≢◌, ⊎_elim}
use mathlib.Core.Bool.{Bool, true, false, not, true≢false}
use mathlib.Core.List.Memᴰ
use mathlib.Core.List.{List, ◌∷◌, map, Memᴰ}
use lib.Dec.{eqb, ltb, leb}
use lib.ListN.{length, drop, get_or, replicate, get_or-eq_default, get_or-map}
use lib.Seq.{get_or-drop}
use native.Mathlib.Nat.{suc-ne-zero, lt_irrefl}
use native.Mathlib.Decide.{ℕ_discrete, dec_lt}
use native.Mathlib.Omega.{arith}
use borrow.Author.Tests.{ltb-true, leb-false, eqb-true, eqb-false, not-true, not-false, le-leb}
use Rattle.model.specs.declared.Id.{Id}
use Rattle.model.specs.declared.Read.{Read}
use Rattle.model.specs.Types.{Entry, Live, Station}
use Rattle.model.specs.declared.Phase.{Phase}
use Rattle.model.specs.declared.Phase.TheVariants.{Unused, Open, Closing}
use Rattle.model.specs.declared.Answer.{Answer}
use Rattle.model.specs.Lists.{◌and◌, ◌or◌, all, ascending, distinct, any_below}
use Rattle.model.specs.Limits.{keys, live_places, entry_places, read_limit}
use Rattle.model.specs.Kinds.{Kind, store_size}
use Rattle.model.specs.Ids.{same_id}
use Rattle.model.specs.Lives.{no_live, writes_of, reads_of, has_written, has_read, is_closing, closing_slot, closing_clock, records_stored, slot_mark, with_writes, with_reads, with_phase, write_count}
use Rattle.model.specs.Entries.{no_entry, wrote, wrote_as, is_no_entry, entry_for}
use Rattle.model.specs.Stations.{empty_station, live_at, entry_at, set_live, set_entry, live_txns, held_txns, is_live, is_held, place_of, holds, closing_slots, is_free, idle_station}
use Rattle.model.specs.Slots.{Seen, free, committed, damaged, seen}
use Rattle.model.specs.Sound.{is_no_write, is_no_read, zero_past_counts, sets_right, place_right, entry_right, sound}
use Rattle.model.specs.Reading.{Choice, own, absent, nofit, version}
use Rattle.model.specs.Supersedence.{is_read_by, is_read}
use Rattle.model.specs.Effects.{Effect, says, says_storing, Row, ◌when◌, refusals}
use Rattle.model.specs.Start.{opened, start}
use Rattle.model.specs.Put.{with_write, put}
use Rattle.model.specs.Get.{choice_of, with_read, no_room, answered, get}
use Rattle.model.specs.Clocks.{clocks, clock_above}
use Rattle.model.specs.Commit.{highest_free, commit}
use Rattle.model.specs.Step.{one_more, stepped, step}
use Rattle.model.specs.Abort.{abort}
use Rattle.model.specs.Collect.{collect}
use Rattle.model.specs.Scan.{slots_seen, entry_seen, entries_seen, scan}
use Rattle.model.specs.Sweep.{sweep}
use Rattle.model.specs.Calls.{Call, Start, Put, Get, Commit, Step, Abort, Collect, Scan, Sweep, does}
use Rattle.model.proofs.CollectionLaws.{collections-keep}
use Rattle.model.proofs.Tests.{and_left, and_right, and_intro, and_second, or_left, or_right, or-intro-left, not_of_false, and-none-left, and-none-right, and_first}
use Rattle.model.proofs.ListLaws.{all_of, all_replicate, any_none, get_or-all, get_or-mem, greatest-below}
use Rattle.model.proofs.DistinctLaws.{distinct_of, member-never}
use Rattle.model.proofs.RefusalLaws.{guard, unguarded, cond-rule}
use Rattle.model.proofs.SlotLaws.{committed-rules}
use Rattle.model.proofs.ScanLaws.{KeepsRules, txn-seen, scan-length, scan-finds, scan-or, scan-entry, scan-beyond}
use Rattle.model.proofs.StationLaws.{mark-at, place-hit, unheld-txn, unheld-of, held-inside, not_live, not-held, live_at-same, live_at-other, set_live-entry, entry_at-other, slot_mark-closing}
use Rattle.model.proofs.ClockLaws.{clock-real}
use Rattle.model.proofs.GetLaws.{version-wrote}
use Rattle.model.proofs.SoundLaws.{no_entry-none, Sound, sound-at, sound-of, sets_of, Used, Shut, place-used, place-shut, place-is-open, place-open, place-closing, place_in, sound-set_live, sound-relive, no_live-right, sound-unlive, set_entry-out, sound-set_entry, used-with_write, used-with_read, entry_for-sound, entry-of-rules, unheld-wrote, names-set_entry}

-- ── what is shown of each call ──
-- what a call owes: the station handed back is sound
unfoldable pub Keeps : Effect → Type 0
Keeps e = sound e.station ≡ true

says-keeps : (a : Answer) (st : Station) → sound st ≡ true → Keeps (says a st)
unfolding Keeps says
says-keeps a st h = h

stores-keeps : (a : Answer) (st : Station) (d n : ℕ) (r : List ℕ) → sound st ≡ true → Keeps (says_storing a st d n r)
unfolding Keeps says_storing
stores-keeps a st d n r h = h

-- a row of refusals hands back the station unaltered
row : (n : ℕ) (b : Bool) (rs : List Row) (st : Station) (e : Effect) → sound st ≡ true → (b ≡ false → Keeps (refusals rs st e)) → Keeps (refusals (n when b ∷ rs) st e)
row n b rs st e h f = guard Keeps n b rs st e (says-keeps _ st h) f

-- what is known of the place of a live transaction
record Live-at (st : Station) (t : ℕ) : Type 0 where
  pub whole : Sound st
  pub inside-live : place_of t st < length st.live
  pub number : (live_at st (place_of t st)).txn ≡ t
  pub real : (live_at st (place_of t st)).txn ≢ 0
  pub used : Used st.kind st.entries (live_at st (place_of t st))

live_at_lem : (st : Station) (t : ℕ) → sound st ≡ true → t ≢ 0 → is_live t st ≡ true → Live-at st t
live_at_lem st t h n z =
    let s : Sound st = sound-at st h in
    let r = place-hit st t z in
    let q : (live_at st (place_of t st)).txn ≢ 0 = λ e. n (sym r.1 ∙ e) in
    record { whole = s; inside-live = r.0; number = r.1; real = q; used = place-used st _ _ (s.place (place_of t st)) q }

-- ── start ──
opened-used : (κ : Kind) (es : List Entry) (t : ℕ) → t ≢ 0 → Used κ es (opened t)
unfolding opened writes_of reads_of ascending zero_past_counts is_no_write is_no_read same_id ◌and◌ all
opened-used κ es t n = record { numbered = n; sets = sets_of κ (opened t) (omega arith) (omega arith) refl refl; named = refl; zeros = refl }

opened-sound : (st : Station) (t : ℕ) → Sound st → t ≢ 0 → is_live 0 st ≡ true → is_live t st ≡ false → is_held t st ≡ false → Sound (set_live st (place_of 0 st) (opened t))
unfolding opened slot_mark
opened-sound st t s n z nl nh = sound-set_live st (place_of 0 st) (opened t) s (place-hit st 0 z).0 (place-open st (opened t) Open refl (opened-used st.kind st.entries t n))
    (λ j nj nz. not_live st t nl nz j) (λ d nz e. not-held st t nh nz d (sym e)) (λ j nj nz e. nz refl)

pub start-keeps : (st : Station) (t : ℕ) → sound st ≡ true → Keeps (start st t)
unfolding start
start-keeps st t h =
    row 2 _ _ st _ h λ h2.
    row 3 _ _ st _ h λ h3.
    row 6 _ _ st _ h λ h6.
    row 7 _ _ st _ h λ h7.
    unguarded Keeps st _ (says-keeps _ _ (sound-of _ (opened-sound st t (sound-at st h) (eqb-false t 0 h3) (not-false _ h7) (or_left _ _ h6) (or_right _ _ h6))))

-- ── put ──
put-sound : (st : Station) (t k v : ℕ) → Live-at st t → is_closing (live_at st (place_of t st)).phase ≡ false → k < keys
    → (not (has_written k (live_at st (place_of t st))) and leb st.kind.write_limit (live_at st (place_of t st)).write_count) ≡ false
    → Sound (set_live st (place_of t st) (with_write k v (live_at st (place_of t st))))
put-sound st t k v a c o r = sound-relive st i (with_write k v l) a.whole a.inside-live
    (place-open st (with_write k v l) _ phase (used-with_write st.kind st.entries k v l a.used o r))
    (unfold with_write with_writes in refl) (unfold with_write with_writes in refl)
  where
    i : ℕ
    i = place_of t st

    l : Live
    l = live_at st (place_of t st)

    phase : (with_write k v l).phase ≡ Open
    phase = unfold with_write with_writes in place-is-open st l l.phase (a.whole.place i) c a.real

pub put_keeps : (st : Station) (t k v : ℕ) → sound st ≡ true → Keeps (put st t k v)
unfolding put
put_keeps st t k v h =
    row 2 _ _ st _ h λ h2.
    row 3 _ _ st _ h λ h3.
    row 4 _ _ st _ h λ h4.
    row 8 _ _ st _ h λ h8.
    row 9 _ _ st _ h λ h9.
    row 11 _ _ st _ h λ h11.
    unguarded Keeps st _ (says-keeps _ _ (sound-of _ (put-sound st t k v (live_at_lem st t h (eqb-false t 0 h3) (not-false _ h8)) h9 (leb-false keys k h4) h11)))

-- ── abort ──
pub abort-keeps : (st : Station) (t : ℕ) → sound st ≡ true → Keeps (abort st t)
unfolding abort
abort-keeps st t h =
    row 2 _ _ st _ h λ h2.
    row 3 _ _ st _ h λ h3.
    row 8 _ _ st _ h λ h8.
    row 9 _ _ st _ h λ h9.
    unguarded Keeps st _ (says-keeps _ _ (sound-of _ (sound-unlive st (place_of t st) (sound-at st h) (place-hit st t (not-false _ h8)).0)))

-- ── get ──
get-sound : (st : Station) (t k : ℕ) (i : Id) → Live-at st t → is_closing (live_at st (place_of t st)).phase ≡ false → k < keys
    → (not (has_read k (live_at st (place_of t st))) and leb read_limit (live_at st (place_of t st)).read_count) ≡ false
    → wrote_as st.entries i k ≡ true → Sound (set_live st (place_of t st) (with_read k i (live_at st (place_of t st))))
get-sound st t k id a c o r w = sound-relive st i (with_read k id l) a.whole a.inside-live
    (place-open st (with_read k id l) _ phase (used-with_read st.kind st.entries k id l a.used o r w))
    (unfold with_read with_reads in refl) (unfold with_read with_reads in refl)
  where
    i : ℕ
    i = place_of t st

    l : Live
    l = live_at st (place_of t st)

    phase : (with_read k id l).phase ≡ Open
    phase = unfold with_read with_reads in place-is-open st l l.phase (a.whole.place i) c a.real

answered-sound : (st : Station) (s : List ℕ) (t k : ℕ) → sound st ≡ true → Live-at st t → is_closing (live_at st (place_of t st)).phase ≡ false → k < keys
    → (ch : Choice) → choice_of st (live_at st (place_of t st)) k ≡ ch → no_room (live_at st (place_of t st)) k ch ≡ false → Keeps (answered st s (place_of t st) k ch)
unfolding no_room answered
answered-sound st s t k h a c o (own v) e r = says-keeps _ st h
answered-sound st s t k h a c o absent e r = says-keeps _ st h
answered-sound st s t k h a c o (nofit x) e r = says-keeps _ st h
answered-sound st s t k h a c o (version d) e r = says-keeps _ _ (sound-of _ (get-sound st t k _ a c o r (version-wrote st _ k d e)))

pub get_keeps : (st : Station) (s : List ℕ) (t k : ℕ) → sound st ≡ true → Keeps (get st s t k)
unfolding get
get_keeps st s t k h =
    row 1 _ _ st _ h λ h1.
    row 2 _ _ st _ h λ h2.
    row 3 _ _ st _ h λ h3.
    row 4 _ _ st _ h λ h4.
    row 8 _ _ st _ h λ h8.
    row 9 _ _ st _ h λ h9.
    row 12 _ _ st _ h λ h12.
    row 17 _ _ st _ h λ h17.
    unguarded Keeps st _ (answered-sound st s t k h (live_at_lem st t h (eqb-false t 0 h3) (not-false _ h8)) h9 (leb-false keys k h4) _ refl h12)

-- ── commit ──
used-with_phase : (κ : Kind) (es : List Entry) (p : Phase) (l : Live) → Used κ es l → Used κ es (with_phase p l)
unfolding with_phase sets_right zero_past_counts writes_of reads_of
used-with_phase κ es p l u = record { numbered = u.numbered; sets = u.sets; named = u.named; zeros = u.zeros }

commit-sound : (st : Station) (t c : ℕ) → Live-at st t → c ≢ 0 → 1 ≤ write_count (live_at st (place_of t st)) → any_below (is_free st) st.kind.slots ≡ true
    → Sound (set_live st (place_of t st) (with_phase (Closing (highest_free st) c 0) (live_at st (place_of t st))))
unfolding with_phase slot_mark
commit-sound st t c a n o f = sound-set_live st i m s a.inside-live
    (place-closing st m _ (unfold is_closing in refl) (used-with_phase st.kind st.entries _ l a.used) shut)
    (λ j nj nz e. nj (s.live_once j i e (λ z. nz (sym e ∙ z))))
    (λ d nz e. s.apart i d nz e)
    (λ j nj nz e. member-never (suc (highest_free st)) (closing_slots st) (not-true _ (unfold is_free in and_right _ _ r.1)) (suc-ne-zero _) j (mark-at st j ∙ e))
  where
    i : ℕ
    i = place_of t st

    l : Live
    l = live_at st (place_of t st)

    s : Sound st
    s = a.whole

    m : Live
    m = with_phase (Closing (highest_free st) c 0) (live_at st (place_of t st))

    r : (highest_free st < st.kind.slots) × (is_free st (highest_free st) ≡ true)
    r = unfold highest_free in (let g = greatest-below (is_free st) st.kind.slots f in (g.0, g.1))

    shut : Shut st m
    shut = record {
      keyed = unfold with_phase writes_of in o;
      clocked = unfold closing_clock in omega (arith, n);
      within = unfold records_stored in omega arith;
      low = unfold closing_slot in r.0;
      unheld = unfold closing_slot in not-true _ (unfold is_free in and_left _ _ r.1);
    }

pub commit-keeps : (st : Station) (t c : ℕ) → sound st ≡ true → Keeps (commit st t c)
unfolding commit
commit-keeps st t c h =
    row 2 _ _ st _ h λ h2.
    row 3 _ _ st _ h λ h3.
    row 5 _ _ st _ h λ h5.
    row 8 _ _ st _ h λ h8.
    row 9 _ _ st _ h λ h9.
    row 13 _ _ st _ h λ h13.
    row 21 _ _ st _ h λ h21.
    unguarded Keeps st _ (
    cond-rule Keeps (is_held t st) _ _ (λ q. says-keeps _ st h) λ nh.
    let z : is_live t st ≡ true = not-false _ (and_first _ _ h8 (not_of_false _ nh)) in
    cond-rule Keeps (eqb (write_count (live_at st (place_of t st))) 0) _ _ (λ q. says-keeps _ _ (sound-of _ (sound-unlive st (place_of t st) (sound-at st h) (place-hit st t z).0))) λ nw.
    let o : 1 ≤ write_count (live_at st (place_of t st)) = omega (arith, eqb-false (write_count (live_at st (place_of t st))) 0 nw) in
    says-keeps _ _ (sound-of _ (commit-sound st t (clock_above c (clocks st)) (live_at_lem st t h (eqb-false t 0 h3) z) (clock-real c (clocks st)) o (not-false _ (and_second _ _ h13 (le-leb _ _ o))))))

-- ── step ──
module _ (p : Phase) where
  one_more-closing : is_closing (one_more p) ≡ is_closing p
  unfolding one_more is_closing
  one_more-closing = elim p as (λ q. is_closing (one_more q) ≡ is_closing q) [ Unused ↦ refl | Open ↦ refl | Closing d c n ↦ refl ]

  one_more-mark : slot_mark (one_more p) ≡ slot_mark p
  unfolding one_more slot_mark
  one_more-mark = elim p as (λ q. slot_mark (one_more q) ≡ slot_mark q) [ Unused ↦ refl | Open ↦ refl | Closing d c n ↦ refl ]

  one_more-slot : closing_slot (one_more p) ≡ closing_slot p
  unfolding one_more closing_slot
  one_more-slot = elim p as (λ q. closing_slot (one_more q) ≡ closing_slot q) [ Unused ↦ refl | Open ↦ refl | Closing d c n ↦ refl ]

  one_more-clock : closing_clock (one_more p) ≡ closing_clock p
  unfolding one_more closing_clock
  one_more-clock = elim p as (λ q. closing_clock (one_more q) ≡ closing_clock q) [ Unused ↦ refl | Open ↦ refl | Closing d c n ↦ refl ]

  one_more-stored : records_stored (one_more p) ≤ records_stored p + 1
  unfolding one_more records_stored
  one_more-stored = elim p as (λ q. records_stored (one_more q) ≤ records_stored q + 1) [ Unused ↦ omega arith | Open ↦ omega arith | Closing d c n ↦ omega arith ]

-- a record is stored, and n keys have at most n + 1
more-sound : (st : Station) (t : ℕ) → Live-at st t → is_closing (live_at st (place_of t st)).phase ≡ true
    → records_stored (live_at st (place_of t st)).phase ≤ write_count (live_at st (place_of t st))
    → Sound (set_live st (place_of t st) (with_phase (one_more (live_at st (place_of t st)).phase) (live_at st (place_of t st))))
unfolding with_phase
more-sound st t a c o = sound-relive st i m a.whole a.inside-live
    (place-closing st m (one_more l.phase) (one_more-closing l.phase ∙ c) (used-with_phase st.kind st.entries (one_more l.phase) l a.used) shut)
    refl (one_more-mark l.phase)
  where
    i : ℕ
    i = place_of t st

    l : Live
    l = live_at st (place_of t st)

    m : Live
    m = with_phase (one_more (live_at st (place_of t st)).phase) (live_at st (place_of t st))

    was : Shut st l
    was = place-shut st l l.phase (a.whole.place i) c

    shut : Shut st m
    shut = record {
      keyed = unfold with_phase writes_of in was.keyed;
      clocked = rw (one_more-clock l.phase) was.clocked;
      within = unfold with_phase writes_of in omega (arith, o, one_more-stored l.phase);
      low = rw (one_more-slot l.phase) was.low;
      unheld = rw (one_more-slot l.phase) was.unheld;
    }

-- the entry is made and the transaction ends
done-sound : (st : Station) (t : ℕ) → Live-at st t → is_closing (live_at st (place_of t st)).phase ≡ true
    → Sound (set_entry (set_live st (place_of t st) no_live) (closing_slot (live_at st (place_of t st)).phase) (entry_for (live_at st (place_of t st))))
done-sound st t a c = go (dec_lt d (length st₁.entries))
  where
    i : ℕ
    i = place_of t st

    l : Live
    l = live_at st (place_of t st)

    d : ℕ
    d = closing_slot (live_at st (place_of t st)).phase

    e : Entry
    e = entry_for (live_at st (place_of t st))

    st₁ : Station
    st₁ = set_live st (place_of t st) no_live

    s : Sound st
    s = a.whole

    s₁ : Sound st₁
    s₁ = sound-unlive st i s a.inside-live

    was : Shut st l
    was = place-shut st l l.phase (s.place i) c

    -- the slot's entry wrote nothing
    nothing : (k : ℕ) → wrote (entry_at st₁ d) k ≡ false
    nothing k = rw (set_live-entry st i no_live d) (unheld-wrote _ (entry_at st d) (s.entry d) (unheld-txn st d was.unheld) k)

    -- another place is one of the old station
    other : (j : ℕ) → (j ≡ i → ⊥) → live_at st₁ j ≡ live_at st j
    other j n = live_at-other st i no_live j n

    ended : live_at st₁ i ≡ no_live
    ended = live_at-same st i no_live a.inside-live

    -- no other closing transaction has the slot
    slot-other : (j : ℕ) → is_closing (live_at st₁ j).phase ≡ true → closing_slot (live_at st₁ j).phase ≢ d
    slot-other j q z = pick (ℕ_discrete j i)
      where
        pick : Dec (j ≡ i) → ⊥
        pick (yes y) = true≢false (sym q ∙ (ap (λ (k : ℕ). is_closing (live_at st₁ k).phase) y ∙ (ap (λ (m : Live). is_closing m.phase) ended ∙ (unfold is_closing in refl))))
        pick (no n) =
            let m : slot_mark (live_at st₁ j).phase ≡ slot_mark l.phase = slot_mark-closing _ q ∙ (ap suc z ∙ sym (slot_mark-closing l.phase c)) in
            let m' : slot_mark (live_at st j).phase ≡ slot_mark l.phase = ap (λ (x : Live). slot_mark x.phase) (sym (other j n)) ∙ m in
            n (s.slot_once j i m' (λ y. suc-ne-zero _ (sym (slot_mark-closing l.phase c) ∙ (sym m' ∙ y))))

    holds-other : (k : ℕ) → k ≢ d → holds st₁ k ≡ false → holds (set_entry st₁ d e) k ≡ false
    holds-other k n h = unheld-of (set_entry st₁ d e) k (ap (λ (f : Entry). f.id.txn) (entry_at-other st₁ d e k n) ∙ unheld-txn st₁ k h)

    places : (j : ℕ) → place_right (set_entry st₁ d e) (live_at st₁ j).phase (live_at st₁ j) ≡ true
    places j = place_in st₁ (live_at st₁ j) (set_entry st₁ d e) (unfold set_entry in refl)
        (λ r m h. names-set_entry st₁ d e r h (and-none-right _ _ (nothing r.key)))
        (live_at st₁ j).phase (λ q h. holds-other _ (slot-other j q) h) (s₁.place j)

    live : (j : ℕ) → (live_at st₁ j).txn ≢ 0 → (live_at st₁ j).txn ≢ l.txn
    live j nz z = pick (ℕ_discrete j i)
      where
        pick : Dec (j ≡ i) → ⊥
        pick (yes y) = nz (ap (λ (k : ℕ). (live_at st₁ k).txn) y ∙ ap (λ (m : Live). m.txn) ended)
        pick (no n) =
            let z' : (live_at st j).txn ≡ l.txn = ap (λ (m : Live). m.txn) (sym (other j n)) ∙ z in
            n (s.live_once j i z' (λ y. a.real (sym z' ∙ y)))

    held : (k : ℕ) → k ≢ d → l.txn ≢ 0 → (entry_at st₁ k).id.txn ≢ l.txn
    held k n nz z = s.apart i k nz (sym z ∙ ap (λ (f : Entry). f.id.txn) (set_live-entry st i no_live k))

    right : entry_right st₁.kind e ≡ true
    right = unfold set_live in entry-of-rules st.kind e (entry_for-sound st s i c)

    low : st₁.kind.slots ≤ d → is_no_entry e ≡ true
    low = unfold set_live in (λ o. absurd (lt_irrefl d (omega (arith, was.low, o))))

    go : Dec (d < length st₁.entries) → Sound (set_entry st₁ d e)
    go (yes o) = sound-set_entry st₁ d e s₁ o right low places (unfold entry_for in held) (unfold entry_for in live)
    go (no o) = subst Sound (sym (set_entry-out st₁ d e (omega arith))) s₁

pub step_keeps : (st : Station) (s : List ℕ) (t : ℕ) → sound st ≡ true → Keeps (step st s t)
unfolding step stepped
step_keeps st s t h =
    row 1 _ _ st _ h λ h1.
    row 2 _ _ st _ h λ h2.
    row 3 _ _ st _ h λ h3.
    row 8 _ _ st _ h λ h8.
    row 10 _ _ st _ h λ h10.
    unguarded Keeps st _ (
    let a : Live-at st t = live_at_lem st t h (eqb-false t 0 h3) (not-false _ h8) in
    let c : is_closing (live_at st (place_of t st)).phase ≡ true = not-false _ h10 in
    cond-rule Keeps (ltb (records_stored (live_at st (place_of t st)).phase) (write_count (live_at st (place_of t st)))) _ _
    (λ q. stores-keeps _ _ _ _ _ (sound-of _ (more-sound st t a c (omega (arith, ltb-true (records_stored (live_at st (place_of t st)).phase) (write_count (live_at st (place_of t st))) q))))) λ n1.
    cond-rule Keeps (eqb (records_stored (live_at st (place_of t st)).phase) (write_count (live_at st (place_of t st)))) _ _
    (λ q. stores-keeps _ _ _ _ _ (sound-of _ (more-sound st t a c (omega (arith, eqb-true (records_stored (live_at st (place_of t st)).phase) (write_count (live_at st (place_of t st))) q))))) λ n2.
    says-keeps _ _ (sound-of _ (done-sound st t a c)))

-- ── collect ──
-- no read of a place has the id
pub unread : (st : Station) (e : Entry) → is_read st e ≡ false → (i : ℕ) (r : Read) → Memᴰ r (reads_of (live_at st i)) → same_id e.id r.id ≡ false
unfolding is_read is_read_by live_at reads_of
unread st e h i r m = go (dec_lt i (length st.live))
  where
    go : Dec (i < length st.live) → same_id e.id r.id ≡ false
    go (yes o) = any_none _ _ (any_none _ st.live h _ (get_or-mem st.live i _ o)) r m
    go (no o) = absurd (Memᴰ.not-nil (rw (get_or-eq_default st.live _ {n = i} (omega arith)) at m))

no_entry-right : (κ : Kind) → entry_right κ no_entry ≡ true
unfolding entry_right
no_entry-right κ = or-intro-left _ _ no_entry-none

collect-sound : (st : Station) (d : ℕ) → Sound st → holds st d ≡ true → is_read st (entry_at st d) ≡ false → Sound (set_entry st d no_entry)
collect-sound st d s h n = sound-set_entry st d no_entry s o (no_entry-right st.kind) (λ p. no_entry-none)
    (λ i. place_in st (live_at st i) (set_entry st d no_entry) (unfold set_entry in refl)
    (λ r m q. names-set_entry st d no_entry r q (and-none-left _ _ (unread st (entry_at st d) n i r m)))
    (live_at st i).phase (λ q u. free (closing_slot (live_at st i).phase) u) (s.place i))
    (λ c nc nz. absurd (nz refl)) (λ i nz. nz)
  where
    o : d < length st.entries
    o = held-inside st d h

    free : (k : ℕ) → holds st k ≡ false → holds (set_entry st d no_entry) k ≡ false
    free k u = go (ℕ_discrete k d)
      where
        go : Dec (k ≡ d) → holds (set_entry st d no_entry) k ≡ false
        go (yes e) = absurd (true≢false (sym h ∙ (ap (holds st) (sym e) ∙ u)))
        go (no m) = unheld-of (set_entry st d no_entry) k (ap (λ (f : Entry). f.id.txn) (entry_at-other st d no_entry k m) ∙ unheld-txn st k u)

pub collect-keeps : (st : Station) (s : List ℕ) (d : ℕ) → sound st ≡ true → Keeps (collect st s d)
unfolding collect
collect-keeps st s d h =
    row 1 _ _ st _ h λ h1.
    row 2 _ _ st _ h λ h2.
    row 14 _ _ st _ h λ h14.
    row 15 _ _ st _ h λ h15.
    row 16 _ _ st _ h λ h16.
    row 17 _ _ st _ h λ h17.
    unguarded Keeps st _ (stores-keeps _ _ _ _ _ (sound-of _ (collect-sound st d (sound-at st h) (not-false _ (or_right _ _ h14)) h16)))

-- ── scan ──
-- a station with no live transaction
module _ (κ : Kind) (es : List Entry) where
  idle-sound : all (entry_right κ) es ≡ true → all is_no_entry (drop κ.slots es) ≡ true → distinct (map (λ (e : Entry). e.id.txn) es) ≡ true → sound (idle_station κ es) ≡ true
  unfolding sound live_txns held_txns closing_slots slot_mark distinct ◌or◌
  idle-sound right past once = and_intro _ _ (and_intro _ _ (and_intro _ _ (and_intro _ _ right past)
      (all_replicate (λ l. place_right (idle_station κ es) l.phase l) live_places no_live (no_live-right (idle_station κ es))))
      once) refl

-- unused entries are right, and have no number
all_none : (κ : Kind) (n : ℕ) → all (entry_right κ) (replicate n no_entry) ≡ true
all_none κ n = all_replicate (entry_right κ) n no_entry (no_entry-right κ)

past-none : (n m : ℕ) → all is_no_entry (drop n (replicate m no_entry)) ≡ true
past-none n m = all_of is_no_entry (drop n (replicate m no_entry)) no_entry (λ i o. rw (get_or-drop n (replicate m no_entry) i no_entry, get_or-all m (n + i) no_entry) no_entry-none)

pub sound_empty : (κ : Kind) → sound (empty_station κ) ≡ true
unfolding empty_station
sound_empty κ = idle-sound κ (replicate entry_places no_entry) (all_none κ entry_places) (past-none κ.slots entry_places) (unfold distinct ◌or◌ in refl)

-- what is seen of a slot, as an entry, keeps the rules
seen-right : (κ : Kind) (s : List ℕ) (d : ℕ) → entry_right κ (entry_seen (seen κ s d)) ≡ true
seen-right κ s d = go (seen κ s d) refl
  where
    go : (x : Seen) → seen κ s d ≡ x → entry_right κ (entry_seen x) ≡ true
    go free h = unfold entry_seen in no_entry-right κ
    go (committed e) h = unfold entry_seen in entry-of-rules κ e (committed-rules κ s d e h)
    go damaged h = unfold entry_seen in no_entry-right κ

-- the station made of what is seen
abbrev found : Kind → List ℕ → Station
found κ s = idle_station κ (entries_seen (slots_seen κ s))

-- its entries, slot by slot
module _ (κ : Kind) (s : List ℕ) where
  found_at : (P : Entry → Type 0) → ((d : ℕ) → d < κ.slots → P (entry_seen (seen κ s d))) → P no_entry → (d : ℕ) → P (entry_at (found κ s) d)
  found_at P f z d = go (dec_lt d κ.slots)
    where
      go : Dec (d < κ.slots) → P (entry_at (found κ s) d)
      go (yes o) = subst P (sym (scan-entry κ s d o)) (f d o)
      go (no o) = subst P (sym (scan-beyond κ s d (omega arith))) z

  found_right : all (entry_right κ) (entries_seen (slots_seen κ s)) ≡ true
  found_right = all_of (entry_right κ) (entries_seen (slots_seen κ s)) no_entry (λ d o. unfold entry_at in found_at (λ e. entry_right κ e ≡ true) (λ d o. seen-right κ s d) (no_entry-right κ) d)

  found-past : all is_no_entry (drop κ.slots (entries_seen (slots_seen κ s))) ≡ true
  found-past = all_of is_no_entry (drop κ.slots (entries_seen (slots_seen κ s))) no_entry (λ d o.
      rw (get_or-drop κ.slots (entries_seen (slots_seen κ s)) d no_entry, beyond d) no_entry-none)
    where
      beyond : (d : ℕ) → get_or (entries_seen (slots_seen κ s)) (κ.slots + d) no_entry ≡ no_entry
      beyond d = unfold entry_at in scan-beyond κ s (κ.slots + d) (omega arith)

  -- no number stands twice where the rules are kept
  held-distinct : KeepsRules κ s → distinct (map (λ (e : Entry). e.id.txn) (entries_seen (slots_seen κ s))) ≡ true
  held-distinct k = distinct_of _ (λ i j oi oj e n. go i j (sym (at i) ∙ (e ∙ at j)) (λ z. n (at i ∙ z)) (ℕ_discrete i j))
    where
      at : (i : ℕ) → get_or (map (λ (e : Entry). e.id.txn) (entries_seen (slots_seen κ s))) i 0 ≡ (entry_at (found κ s) i).id.txn
      at i = unfold entry_at in get_or-map (λ (e : Entry). e.id.txn) (entries_seen (slots_seen κ s)) i no_entry

      low : (i : ℕ) → (entry_at (found κ s) i).id.txn ≢ 0 → (i < κ.slots) × (entry_at (found κ s) i ≡ entry_seen (seen κ s i))
      low i n = pick (dec_lt i κ.slots)
        where
          pick : Dec (i < κ.slots) → (i < κ.slots) × (entry_at (found κ s) i ≡ entry_seen (seen κ s i))
          pick (yes o) = (o, scan-entry κ s i o)
          pick (no o) = absurd (n (ap (λ (e : Entry). e.id.txn) (scan-beyond κ s i (omega arith))))

      go : (i j : ℕ) → (entry_at (found κ s) i).id.txn ≡ (entry_at (found κ s) j).id.txn → (entry_at (found κ s) i).id.txn ≢ 0 → Dec (i ≡ j) → i ≡ j
      go i j e n (yes q) = q
      go i j e n (no q) =
          let a = low i n in
          let b = low j (λ z. n (e ∙ z)) in
          let ti = ap (λ (x : Entry). x.id.txn) a.1 in
          let tj = ap (λ (x : Entry). x.id.txn) b.1 in
          absurd (k.single i j _ _ a.0 b.0 q (txn-seen (seen κ s i) (λ z. n (ti ∙ z))) (txn-seen (seen κ s j) (λ z. n (e ∙ (tj ∙ z)))) (sym ti ∙ (e ∙ tj)))

  found-sound : KeepsRules κ s → sound (found κ s) ≡ true
  found-sound k = idle-sound κ (entries_seen (slots_seen κ s)) found_right found-past (held-distinct k)

pub scan-keeps : (κ : Kind) (s : List ℕ) → Keeps (scan κ s)
scan-keeps κ s = go (ℕ_discrete (length s) (store_size κ))
  where
    go : Dec (length s ≡ store_size κ) → Keeps (scan κ s)
    go (no n) = rw (scan-length κ s n) (says-keeps _ _ (sound_empty κ))
    go (yes l) = ⊎_elim (λ k. rw (scan-finds κ s l k) (says-keeps _ _ (found-sound κ s k))) (λ r. rw r.2 (says-keeps _ _ (sound_empty κ))) (scan-or κ s l)

-- ── sweep ──
pub sweep-keeps : (st : Station) (s : List ℕ) (n : ℕ) → sound st ≡ true → Keeps (sweep st s n)
unfolding sweep Keeps
sweep-keeps st s n h =
    row 1 _ _ st _ h λ h1.
    row 2 _ _ st _ h λ h2.
    row 20 _ _ st _ h λ h20.
    unguarded Keeps st _ (collections-keep (λ x _. sound x ≡ true) (λ x z d k c. collect-keeps x z d k) n st s h)

-- ── every call ──
pub sound-scan : (κ : Kind) (s : List ℕ) → sound (scan κ s).station ≡ true
unfolding Keeps
sound-scan κ s = scan-keeps κ s

pub sound-kept : (c : Call) (st : Station) (s : List ℕ) → sound st ≡ true → sound (does c st s).station ≡ true
unfolding Keeps does
sound-kept (Start t) st s h = start-keeps st t h
sound-kept (Put t k v) st s h = put_keeps st t k v h
sound-kept (Get t k) st s h = get_keeps st s t k h
sound-kept (Commit t c) st s h = commit-keeps st t c h
sound-kept (Step t) st s h = step_keeps st s t h
sound-kept (Abort t) st s h = abort-keeps st t h
sound-kept (Collect d) st s h = collect-keeps st s d h
sound-kept Scan st s h = scan-keeps st.kind s
sound-kept (Sweep n) st s h = sweep-keeps st s n h
