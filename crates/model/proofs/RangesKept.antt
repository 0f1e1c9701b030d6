-- A station within its types stays so under every call, and a store of bytes stays one of bytes (specs/Ranges).
use Prim.Native.Nat.{ℕ, zero, suc, ◌+◌, ◌-◌, ◌*◌, ◌^◌, ◌<◌, ◌≤◌}
use mathlib.Core.Path.{◌≡◌, refl, sym, subst, ◌∙◌}
use mathlib.Core.Logic.{◌⊎◌, inl, inr}
use mathlib.Core.Bool.{Bool, true, false, not}
use mathlib.Core.List.{List, [], ◌∷◌, map, Memᴰ}
use lib.Dec.{eqb, ltb, leb, lit<}
use lib.ListN.{length, take, drop, replicate, length-set, length-drop, get_or, take-append-drop, drop_of_length-le}
use lib.Seq.{length-take-le}
use native.Mathlib.Nat.{suc-ne-zero}
use native.Mathlib.Omega.{arith}
use borrow.Author.Tests.{ltb-true, leb-false, eqb-true, eqb-false, not-false, le-leb}
use Rattle.model.specs.declared.Id.{Id}
use Rattle.model.specs.Types.{Entry, Write, Live, Station}
use Rattle.model.specs.declared.Phase.{Phase}
use Rattle.model.specs.declared.Phase.TheVariants.{Unused, Open, Closing}
use Rattle.model.specs.declared.Answer.{Answer}
use Rattle.model.specs.Lists.{insert, padded, ◌and◌, member, ascending, any_below}
use Rattle.model.specs.Limits.{keys, live_places, entry_places, write_places, read_limit, record_size, txn_range, number_range, last_clock, byte_range}
use Rattle.model.specs.Kinds.{Kind, store_size, WriteSet, KindFits}
use Rattle.model.specs.Ids.{no_id}
use Rattle.model.specs.Bytes.{bytes, number, head_bytes, id_in}
use Rattle.model.specs.Lives.{no_write, no_read, blank, no_live, writes_of, reads_of, write_key, read_key, has_written, has_read, closing_slot, closing_clock, records_stored, with_writes, with_reads, with_phase, write_count}
use Rattle.model.specs.Entries.{keys_of, no_entry, wrote_as, entry_in, entry_for, entry_rules, commit_record, commit_rules}
use Rattle.model.specs.Stations.{idle_station, empty_station, live_at, entry_at, set_live, set_entry, is_live, is_held, place_of, is_free}
use Rattle.model.specs.Records.{version_record, zero_record, record_place, record_at, with_record}
use Rattle.model.specs.Slots.{judged, seen}
use Rattle.model.specs.Reading.{Choice, own, absent, nofit, version}
use Rattle.model.specs.Effects.{RecordWrite, Effect, stored, says, says_storing, says_storing_all, Row, ◌when◌, refusals, wrong_length, unsound}
use Rattle.model.specs.Start.{opened, start}
use Rattle.model.specs.Put.{with_write, put}
use Rattle.model.specs.Get.{choice_of, with_read, no_room, answered, get}
use Rattle.model.specs.Clocks.{clocks, clock_above}
use Rattle.model.specs.Commit.{highest_free, commit}
use Rattle.model.specs.Step.{one_more, stepped, step}
use Rattle.model.specs.Abort.{abort}
use Rattle.model.specs.Collect.{collect}
use Rattle.model.specs.Scan.{slots_seen, entry_seen, entries_seen, lowest_broken, scanned, scan}
use Rattle.model.specs.Ranges.{Every, IsByte, IdFits, ReadFits, PhaseFits, LiveListFits, ListFits, ListsFit}
use Rattle.model.specs.Sweep.{collections, station_after, records_of, sweep}
use Rattle.model.specs.Calls.{Call, Start, Put, Get, Commit, Step, Abort, Collect, Scan, Sweep, does, txn_of, number_of, IsTyped}
use Rattle.model.proofs.Tests.{and_left, and_right, and_first, and_second, not_of_false}
use Rattle.model.proofs.ListLaws.{greatest-below, every-at, every_of, every-everywhere, every_set, every_take, every_drop, every_append, every-replicate, every-from, every_map}
use Rattle.model.proofs.InsertLaws.{ascending-bytes, every-insert, padded-drop, padded-length, every-padded}
use Rattle.model.proofs.RecordLaws.{bytes-are, rules-entry, place_inside}
use Rattle.model.proofs.RefusalLaws.{guard, unguarded, cond-rule}
use Rattle.model.proofs.ScanLaws.{entries-length}
use Rattle.model.proofs.StationLaws.{place-hit}
use Rattle.model.proofs.ClockLaws.{clock-below, clock-by}
use Rattle.model.proofs.GetLaws.{version-entry, version-wrote}
use Rattle.model.proofs.SoundLaws.{Used, writes-length, writes-ascending, write-limit, read-limit, used-with_write, used-with_read, entry_for-set}
use Rattle.model.proofs.SoundFacts.{live_facts}
use Rattle.model.proofs.CollectionLaws.{Ends, Goes, ends-or-goes, ends, next_station, next_store, goes}

-- ── bytes ──
pub bytes-zeros : (n : ℕ) → Every IsByte (replicate n 0)
bytes-zeros n = every-replicate IsByte n 0 (lit< tt)

pub number-below : (n : ℕ) (bs : List ℕ) → length bs ≡ n → Every IsByte bs → number bs < byte_range ^ n
unfolding number
number-below zero [] l h = omega arith
number-below zero (b ∷ bs) l h = absurd (suc-ne-zero _ l)
number-below (suc n) [] l h = absurd (suc-ne-zero _ (sym l))
number-below (suc n) (b ∷ bs) l h =
    let o : b < 256 = h.0 in
    let r : number bs < 256 ^ n = number-below n bs (omega arith) h.1 in
    let below : b + 256 * number bs < 256 ^ suc n = omega arith in
    below

-- ── what is unused ──
no_id-fits : IdFits no_id
no_id-fits = record { clock64 = lit< tt; txn32 = lit< tt }

no_read-fits : ReadFits no_read
no_read-fits = record { key8 = lit< tt; id = no_id-fits }

no_entry-fits : ListFits no_entry
no_entry-fits = record { id = no_id-fits; ascends = unfold ascending in refl }

blank-fits : (t : ℕ) (p : Phase) → t < txn_range → PhaseFits p → LiveListFits (blank t p)
unfolding writes_of ascending
blank-fits t p o f = record {
  txn32 = o;
  phase = f;
  ascends = refl;
  write-places = refl;
  unkeyed = every-replicate (λ (w : Write). w.key ≡ 0) write_places no_write refl;
  unvalued = tt;
  values = every-replicate (λ (w : Write). w.value < number_range) write_places no_write (lit< tt);
  reads8 = lit< tt;
  read-places = refl;
  reads = every-replicate ReadFits read_limit no_read no_read-fits;
}

no_live-fits : LiveListFits no_live
unfolding closing_slot closing_clock records_stored
no_live-fits = blank-fits 0 Unused (lit< tt) (record { slot8 = lit< tt; clock64 = lit< tt; stored8 = lit< tt })

opened-fits : (t : ℕ) → t < txn_range → LiveListFits (opened t)
unfolding opened closing_slot closing_clock records_stored
opened-fits t o = blank-fits t Open o (record { slot8 = lit< tt; clock64 = lit< tt; stored8 = lit< tt })

idle-fits : (κ : Kind) (es : List Entry) → KindFits κ → length es ≡ entry_places → Every ListFits es → ListsFit (idle_station κ es)
idle-fits κ es φ l f = record { kind = φ; live-places = refl; live = every-replicate LiveListFits live_places no_live no_live-fits; entry-places = l; entries = f }

pub fits-empty : (κ : Kind) → KindFits κ → ListsFit (empty_station κ)
unfolding empty_station
fits-empty κ φ = idle-fits κ (replicate entry_places no_entry) φ refl (every-replicate ListFits entry_places no_entry no_entry-fits)

-- ── a station's places and slots ──
module _ (st : Station) (f : ListsFit st) where
  set_live-fits : (i : ℕ) (l : Live) → LiveListFits l → ListsFit (set_live st i l)
  unfolding set_live
  set_live-fits i l g = record { kind = f.kind; live-places = length-set st.live i l ∙ f.live-places; live = every_set LiveListFits st.live f.live i l g; entry-places = f.entry-places; entries = f.entries }

  set_entry-fits : (d : ℕ) (e : Entry) → ListFits e → ListsFit (set_entry st d e)
  unfolding set_entry
  set_entry-fits d e g = record { kind = f.kind; live-places = f.live-places; live = f.live; entry-places = length-set st.entries d e ∙ f.entry-places; entries = every_set ListFits st.entries f.entries d e g }

-- ── a live transaction changed ──
module _ (κ : Kind) (φ : KindFits κ) (l : Live) (f : LiveListFits l) where
  with_write-fits : (es : List Entry) (k v : ℕ) → Used κ es l → k < keys → v < number_range → (not (has_written k l) and leb κ.write_limit l.write_count) ≡ false → LiveListFits (with_write k v l)
  with_write-fits es k v u o ov r = record {
    txn32 = unfold with_write with_writes in f.txn32;
    phase = unfold with_write with_writes in f.phase;
    ascends = writes-ascending κ (with_write k v l) (used-with_write κ es k v l u o r).sets;
    write-places = unfold with_write with_writes in omega (arith, padded-length no_write write_places ws room, room);
    unkeyed = unfold with_write with_writes in rw (padded-drop no_write write_places ws) (every-replicate (λ (w : Write). w.key ≡ 0) (write_places - length ws) no_write refl);
    unvalued = unfold with_write with_writes in past (padded no_write write_places ws) (padded-length no_write write_places ws room);
    values = unfold with_write with_writes in every-padded (λ (w : Write). w.value < number_range) no_write write_places ws
        (every-insert write_key _ (λ (w : Write). w.value < number_range) (writes_of l) (unfold writes_of in every_take (λ (w : Write). w.value < number_range) l.write_count l.writes f.values) ov) (lit< tt);
    reads8 = unfold with_write with_writes in f.reads8;
    read-places = unfold with_write with_writes in f.read-places;
    reads = unfold with_write with_writes in f.reads;
  }
    where
      ws : List Write
      ws = insert write_key (record { key = k; value = v }) (writes_of l)

      room : length (insert write_key (record { key = k; value = v }) (writes_of l)) ≤ write_places
      room = let h = write-limit κ (with_write k v l) (used-with_write κ es k v l u o r).sets in (unfold with_write with_writes in omega (arith, h, φ.writes-fit))

      past : (xs : List Write) → length xs ≡ write_places → Every (λ (w : Write). w.value ≡ 0) (drop write_places xs)
      past xs e = let z : length xs ≤ write_places = omega (arith, e) in rw (drop_of_length-le xs z) tt

  with_read-fits : (es : List Entry) (k : ℕ) (i : Id) → Used κ es l → k < keys → IdFits i → (not (has_read k l) and leb read_limit l.read_count) ≡ false → wrote_as es i k ≡ true → LiveListFits (with_read k i l)
  unfolding with_read with_reads reads_of
  with_read-fits es k i u o oi r w = record {
    txn32 = f.txn32;
    phase = f.phase;
    ascends = unfold writes_of in f.ascends;
    write-places = f.write-places;
    unkeyed = f.unkeyed;
    unvalued = f.unvalued;
    values = f.values;
    reads8 = omega (arith, limit);
    read-places = padded-length no_read read_limit _ limit;
    reads = every-padded ReadFits no_read read_limit _ (every-insert read_key _ ReadFits (reads_of l) (every_take ReadFits l.read_count l.reads f.reads) (record { key8 = omega arith; id = oi })) no_read-fits;
  }
    where
      limit : (with_read k i l).read_count ≤ read_limit
      limit = read-limit κ (with_read k i l) (used-with_read κ es k i l u o r w).sets

  with_phase-fits : (p : Phase) → PhaseFits p → LiveListFits (with_phase p l)
  unfolding with_phase writes_of
  with_phase-fits p g = record {
    txn32 = f.txn32;
    phase = g;
    ascends = f.ascends;
    write-places = f.write-places;
    unkeyed = f.unkeyed;
    unvalued = f.unvalued;
    values = f.values;
    reads8 = f.reads8;
    read-places = f.read-places;
    reads = f.reads;
  }

  -- a key of its writes is a byte
  key-byte : (j : ℕ) → IsByte (get_or l.writes j no_write).key
  key-byte j = every-everywhere (λ (w : Write). IsByte w.key) l.writes all-bytes no_write (lit< tt) j
    where
      unmapped : (ws : List Write) → Every IsByte (map write_key ws) → Every (λ (w : Write). IsByte w.key) ws
      unmapped [] h = tt
      unmapped (w ∷ ws) h = (h.0, unmapped ws h.1)

      zeros : (ws : List Write) → Every (λ (w : Write). w.key ≡ 0) ws → Every (λ (w : Write). IsByte w.key) ws
      zeros [] h = tt
      zeros (w ∷ ws) h = (omega (arith, h.0), zeros ws h.1)

      up : ascending 0 keys (map write_key (take l.write_count l.writes)) ≡ true
      up = unfold writes_of in f.ascends

      all-bytes : Every (λ (w : Write). IsByte w.key) l.writes
      all-bytes = subst (Every (λ (w : Write). IsByte w.key)) (take-append-drop l.write_count l.writes)
          (every_append (λ (w : Write). IsByte w.key) (take l.write_count l.writes) (drop l.write_count l.writes) (unmapped (take l.write_count l.writes) (ascending-bytes 0 (map write_key (take l.write_count l.writes)) up)) (zeros (drop l.write_count l.writes) f.unkeyed))

  -- its entry
  entry_for-fits : (es : List Entry) → Used κ es l → ListFits (entry_for l)
  unfolding entry_for
  entry_for-fits es u = record { id = record { clock64 = f.phase.clock64; txn32 = f.txn32 }; ascends = writes-ascending κ l u.sets }

closing-fits : (κ : Kind) → KindFits κ → (d c : ℕ) → d < κ.slots → c < number_range → PhaseFits (Closing d c 0)
unfolding closing_slot closing_clock records_stored
closing-fits κ φ d c od oc = record { slot8 = omega (arith, od, φ.slots-fit); clock64 = oc; stored8 = lit< tt }

one_more-fits : (p : Phase) → PhaseFits p → records_stored p ≤ write_places → PhaseFits (one_more p)
unfolding one_more records_stored closing_slot closing_clock
one_more-fits Unused f o = f
one_more-fits Open f o = f
one_more-fits (Closing d c n) f o = record { slot8 = f.slot8; clock64 = f.clock64; stored8 = omega arith }

-- ── records ──
head_bytes_lem : (a b : ℕ) (i : Id) → IsByte a → IsByte b → Every IsByte (head_bytes a b i)
unfolding head_bytes
head_bytes_lem a b i ha hb = (ha, (hb, (lit< tt, (lit< tt, every_append IsByte (bytes 4 i.txn) (bytes 8 i.clock) (bytes-are 4 i.txn) (bytes-are 8 i.clock)))))

version-bytes : (k : ℕ) (i : Id) (v : ℕ) → IsByte k → Every IsByte (version_record k i v)
unfolding version_record
version-bytes k i v h = every_append IsByte (head_bytes k 0 i) (bytes 8 v) (head_bytes_lem k 0 i h (lit< tt)) (bytes-are 8 v)

commit-bytes : (κ : Kind) (e : Entry) → KindFits κ → WriteSet κ (keys_of e) → Every IsByte (commit_record κ e)
unfolding commit_record
commit-bytes κ e φ w =
    every_append IsByte (head_bytes κ.mark (length (keys_of e)) e.id) (κ.encode (keys_of e)) (head_bytes_lem κ.mark (length (keys_of e)) e.id φ.mark8 (omega (arith, w.1, φ.writes-fit)))
    (every_of IsByte (κ.encode (keys_of e)) 0 (λ i o. φ.bytes8 (keys_of e) w i))

-- the entry in a record's bytes
entry_in-fits : (κ : Kind) (r : List ℕ) → length r ≡ record_size → Every IsByte r → commit_rules κ r ≡ true → ListFits (entry_in κ r)
unfolding entry_in id_in
entry_in-fits κ r l h k = record { id = record { clock64 = part 8 8 (omega arith); txn32 = part 4 4 (omega arith) }; ascends = unfold entry_rules in and_right _ _ (rules-entry κ r k) }
  where
    part : (n at : ℕ) → at + n ≤ record_size → number (take n (drop at r)) < byte_range ^ n
    part n at o = number-below n (take n (drop at r)) (length-take-le n (drop at r) (omega (arith, length-drop at r))) (every_take IsByte n (drop at r) (every_drop IsByte at r h))

-- ── what is read of a slot ──
judged-fits : (a b : Bool) (e : Entry) → (b ≡ true → ListFits e) → ListFits (entry_seen (judged a b e))
unfolding judged entry_seen
judged-fits true b e f = no_entry-fits
judged-fits false true e f = f refl
judged-fits false false e f = no_entry-fits

seen-fits : (κ : Kind) (s : List ℕ) (d : ℕ) → length s ≡ store_size κ → Every IsByte s → d < κ.slots → ListFits (entry_seen (seen κ s d))
unfolding seen record_at
seen-fits κ s d l h o = judged-fits _ _ _ (λ k. entry_in-fits κ (record_at κ s d 0)
    (length-take-le record_size (drop (record_place κ d 0) s) (omega (arith, length-drop (record_place κ d 0) s, l, place_inside κ d 0 o (omega arith))))
    (every_take IsByte record_size (drop (record_place κ d 0) s) (every_drop IsByte (record_place κ d 0) s h)) (and_left _ _ k))

found-fits : (κ : Kind) (s : List ℕ) → length s ≡ store_size κ → Every IsByte s → Every ListFits (entries_seen (slots_seen κ s))
unfolding entries_seen slots_seen
found-fits κ s l h = every-padded ListFits no_entry entry_places (map entry_seen (slots_seen κ s)) (every_map ListFits entry_seen (λ x. ListFits (entry_seen x)) (λ x f. f) (slots_seen κ s)
    (every-from (λ x. ListFits (entry_seen x)) (seen κ s) κ.slots 0 (λ d a b. seen-fits κ s d l h (omega arith)))) no_entry-fits

-- ── what is shown of each call ──
abbrev ContentFits : RecordWrite → Type 0
ContentFits w = Every IsByte w.content

-- the station handed back is within its types, and what is stored are bytes
record EffectFits (e : Effect) : Type 0 where
  pub handed : ListsFit e.station
  pub writes : Every ContentFits e.stores

says-fits : (a : Answer) (st : Station) → ListsFit st → EffectFits (says a st)
unfolding says
says-fits a st f = record { handed = f; writes = tt }

stores-fits : (a : Answer) (st : Station) (d n : ℕ) (r : List ℕ) → ListsFit st → Every IsByte r → EffectFits (says_storing a st d n r)
unfolding says_storing
stores-fits a st d n r f h = record { handed = f; writes = (h, tt) }

scan-fits : (κ : Kind) (s : List ℕ) → KindFits κ → Every IsByte s → EffectFits (scan κ s)
unfolding scan scanned wrong_length
scan-fits κ s φ h =
    guard EffectFits 1 _ _ (empty_station κ) _ (says-fits _ _ (fits-empty κ φ)) λ h1.
    unguarded EffectFits (empty_station κ) _ (
    cond-rule EffectFits (ltb (lowest_broken (slots_seen κ s)) (length (slots_seen κ s))) _ _ (λ q. says-fits _ _ (fits-empty κ φ)) λ q.
    says-fits _ _ (idle-fits κ _ φ (entries-length κ s φ) (found-fits κ s (eqb-true (length s) (store_size κ) (not-false _ h1)) h)))

-- ── the calls, in a station within its types ──
free-low : (st : Station) → any_below (is_free st) st.kind.slots ≡ true → highest_free st < st.kind.slots
unfolding highest_free
free-low st h = (greatest-below (is_free st) st.kind.slots h).0

-- a row of refusals hands back the station unaltered
fits-row : (st : Station) → ListsFit st → (n : ℕ) (b : Bool) (rs : List Row) (e : Effect) → (b ≡ false → EffectFits (refusals rs st e)) → EffectFits (refusals (n when b ∷ rs) st e)
fits-row st f n b rs e g = guard EffectFits n b rs st e (says-fits _ st f) g

-- a collect, and a sweep's collects
collect-fits : (st : Station) → ListsFit st → (s : List ℕ) (d : ℕ) → EffectFits (collect st s d)
unfolding collect zero_record
collect-fits st f s d =
    fits-row st f 1 _ _ _ λ h1. fits-row st f 2 _ _ _ λ h2. fits-row st f 14 _ _ _ λ h14. fits-row st f 15 _ _ _ λ h15. fits-row st f 16 _ _ _ λ h16. fits-row st f 17 _ _ _ λ h17.
    unguarded EffectFits st _ (stores-fits _ _ _ _ _ (set_entry-fits st f d no_entry no_entry-fits) (bytes-zeros record_size))

collections-fit : (n : ℕ) (st : Station) (s : List ℕ) → ListsFit st → (a : Answer) → EffectFits (says_storing_all a (station_after (collections n st s) st) (records_of (collections n st s)))
unfolding collections station_after records_of
collections-fit zero st s f a = record { handed = f; writes = tt }
collections-fit (suc n) st s f a = go (ends-or-goes st s) (λ st₁ s₁ f₁. collections-fit n st₁ s₁ f₁ a)
  where
    go : Ends st s ⊎ Goes st s → ((st₁ : Station) (s₁ : List ℕ) → ListsFit st₁ → EffectFits (says_storing_all a (station_after (collections n st₁ s₁) st₁) (records_of (collections n st₁ s₁))))
        → EffectFits (says_storing_all a (station_after (collections (suc n) st s) st) (records_of (collections (suc n) st s)))
    go (inl e) ih = rw (ends st s e (suc n)) (record { handed = f; writes = tt })
    go (inr g) ih =
        let c = collect-fits st f s g.slot in
        let r = ih (next_station st s g) (next_store st s g) c.handed in
        rw (goes st s g n) (record { handed = r.handed; writes = every_append ContentFits (collect st s g.slot).stores _ c.writes r.writes })

module _ (st : Station) (f : ListsFit st) where
  entry-fits : (d : ℕ) → d < length st.entries → ListFits (entry_at st d)
  unfolding entry_at
  entry-fits d o = every-at ListFits st.entries f.entries d _ o

  live-fits : (t : ℕ) → not (is_live t st) ≡ false → LiveListFits (live_at st (place_of t st))
  unfolding live_at
  live-fits t h8 = every-at LiveListFits st.live f.live (place_of t st) _ (place-hit st t (not-false _ h8)).0

  live-used : (t : ℕ) → unsound st ≡ false → eqb t 0 ≡ false → not (is_live t st) ≡ false → Used st.kind st.entries (live_at st (place_of t st))
  unfolding unsound
  live-used t h2 h3 h8 = live_facts st (not-false _ h2) (place_of t st) (λ e. eqb-false t 0 h3 (sym (place-hit st t (not-false _ h8)).1 ∙ e))

  -- the clocks of entries and closing transactions, and the next one while there is one
  pub clocks-fit : (n : ℕ) → Memᴰ n (clocks st) → n < number_range
  unfolding live_at
  clocks-fit = clock-by st (λ (x : ℕ). x < number_range) (λ d o. (entry-fits d o).id.clock64) (λ i o. (every-at LiveListFits st.live f.live i _ o).phase.clock64)

  clock-fits : (c : ℕ) → c < number_range → member last_clock (clocks st) ≡ false → clock_above c (clocks st) < number_range
  clock-fits c o h = clock-below c (clocks st) o clocks-fit h

  row : (n : ℕ) (b : Bool) (rs : List Row) (e : Effect) → (b ≡ false → EffectFits (refusals rs st e)) → EffectFits (refusals (n when b ∷ rs) st e)
  row = fits-row st f

  -- another transaction at a place, and nothing stored
  relive : (a : Answer) (i : ℕ) (l : Live) → LiveListFits l → EffectFits (says a (set_live st i l))
  relive a i l g = says-fits a _ (set_live-fits st f i l g)

  module _ (t : ℕ) where
    abbrev i : ℕ
    i = place_of t st

    abbrev l : Live
    l = live_at st (place_of t st)

    answered-fits : (s : List ℕ) (k : ℕ) → LiveListFits l → Used st.kind st.entries l → k < keys → (ch : Choice) → choice_of st l k ≡ ch → no_room l k ch ≡ false → EffectFits (answered st s i k ch)
    unfolding no_room answered
    answered-fits s k g u o (own v) e r = says-fits _ st f
    answered-fits s k g u o absent e r = says-fits _ st f
    answered-fits s k g u o (nofit x) e r = says-fits _ st f
    answered-fits s k g u o (version d) e r = relive _ _ _ (with_read-fits st.kind f.kind l g st.entries k _ u o (entry-fits d (version-entry st l k d e).0).id r (version-wrote st l k d e))

    stepped-fits : LiveListFits l → Used st.kind st.entries l → EffectFits (stepped st i l l.phase)
    unfolding stepped
    stepped-fits g u =
        cond-rule EffectFits (ltb (records_stored l.phase) (write_count l)) _ _
        (λ q. stores-fits _ _ _ _ _ (more (omega (arith, ltb-true (records_stored l.phase) (write_count l) q))) (version-bytes _ _ _ (key-byte st.kind f.kind l g _))) λ n1.
        cond-rule EffectFits (eqb (records_stored l.phase) (write_count l)) _ _
        (λ q. stores-fits _ _ _ _ _ (more (omega (arith, eqb-true (records_stored l.phase) (write_count l) q))) (commit-bytes st.kind (entry_for l) f.kind (entry_for-set st.kind st.entries l u))) λ n2.
        says-fits _ _ (set_entry-fits _ (set_live-fits st f i no_live no_live-fits) _ _ (entry_for-fits st.kind f.kind l g st.entries u))
      where
        more : records_stored l.phase ≤ write_count l → ListsFit (set_live st i (with_phase (one_more l.phase) l))
        more o = set_live-fits st f i _ (with_phase-fits st.kind f.kind l g _ (one_more-fits l.phase g.phase (omega (arith, o, writes-length l, write-limit st.kind l u.sets, f.kind.writes-fit))))

  call_fits : (c : Call) (s : List ℕ) → IsTyped c → Every IsByte s → EffectFits (does c st s)
  unfolding does txn_of number_of start put get commit step abort sweep
  call_fits (Start t) s y h = row 2 _ _ _ λ h2. row 3 _ _ _ λ h3. row 6 _ _ _ λ h6. row 7 _ _ _ λ h7. unguarded EffectFits st _ (relive _ _ _ (opened-fits t y.0.0))
  call_fits (Put t k v) s y h = row 2 _ _ _ λ h2. row 3 _ _ _ λ h3. row 4 _ _ _ λ h4. row 8 _ _ _ λ h8. row 9 _ _ _ λ h9. row 11 _ _ _ λ h11.
      unguarded EffectFits st _ (relive _ _ _ (with_write-fits st.kind f.kind _ (live-fits t h8) st.entries k v (live-used t h2 h3 h8) (leb-false keys k h4) y.0.1 h11))
  call_fits (Get t k) s y h = row 1 _ _ _ λ h1. row 2 _ _ _ λ h2. row 3 _ _ _ λ h3. row 4 _ _ _ λ h4. row 8 _ _ _ λ h8. row 9 _ _ _ λ h9. row 12 _ _ _ λ h12. row 17 _ _ _ λ h17.
      unguarded EffectFits st _ (answered-fits t s k (live-fits t h8) (live-used t h2 h3 h8) (leb-false keys k h4) _ refl h12)
  call_fits (Commit t c) s y h = row 2 _ _ _ λ h2. row 3 _ _ _ λ h3. row 5 _ _ _ λ h5. row 8 _ _ _ λ h8. row 9 _ _ _ λ h9. row 13 _ _ _ λ h13. row 21 _ _ _ λ h21.
      unguarded EffectFits st _ (
      cond-rule EffectFits (is_held t st) _ _ (λ q. says-fits _ st f) λ nh.
      cond-rule EffectFits (eqb (write_count (l t)) 0) _ _ (λ q. relive _ _ _ no_live-fits) λ nw.
      let w : 1 ≤ write_count (l t) = omega (arith, eqb-false (write_count (l t)) 0 nw) in
      relive _ _ _ (with_phase-fits st.kind f.kind _ (live-fits t (and_first _ _ h8 (not_of_false _ nh))) _ (closing-fits st.kind f.kind _ _ (free-low st (not-false _ (and_second _ _ h13 (le-leb _ _ w)))) (clock-fits c y.0.1 (and_second _ _ h21 (le-leb _ _ w))))))
  call_fits (Step t) s y h = row 1 _ _ _ λ h1. row 2 _ _ _ λ h2. row 3 _ _ _ λ h3. row 8 _ _ _ λ h8. row 10 _ _ _ λ h10. unguarded EffectFits st _ (stepped-fits t (live-fits t h8) (live-used t h2 h3 h8))
  call_fits (Abort t) s y h = row 2 _ _ _ λ h2. row 3 _ _ _ λ h3. row 8 _ _ _ λ h8. row 9 _ _ _ λ h9. unguarded EffectFits st _ (relive _ _ _ no_live-fits)
  call_fits (Collect d) s y h = collect-fits st f s d
  call_fits Scan s y h = scan-fits st.kind s f.kind h
  call_fits (Sweep n) s y h = row 1 _ _ _ λ h1. row 2 _ _ _ λ h2. row 20 _ _ _ λ h20. unguarded EffectFits st _ (collections-fit n st s f _)

-- records of bytes stored
stored_bytes : (ws : List RecordWrite) (s : List ℕ) → Every ContentFits ws → Every IsByte s → Every IsByte (stored ws s)
unfolding stored with_record
stored_bytes [] s g h = h
stored_bytes (w ∷ ws) s g h = stored_bytes ws _ g.1 (every_append IsByte (take at s) _ (every_take IsByte at s h) (every_append IsByte w.content _ g.0 (every_drop IsByte (at + record_size) s h)))
  where
    at : ℕ
    at = record_place w.kind w.slot w.index

module _ (c : Call) (st : Station) (s : List ℕ) (y : IsTyped c) (f : ListsFit st) (h : Every IsByte s) where
  pub fits_kept : ListsFit (does c st s).station
  fits_kept = (call_fits st f c s y h).handed

  -- whatever of its record writes is done
  pub bytes-kept : (n : ℕ) → Every IsByte (stored (take n (does c st s).stores) s)
  bytes-kept n = stored_bytes _ s (every_take ContentFits n _ (call_fits st f c s y h).writes) h

  pub bytes-kept-all : Every IsByte (stored (does c st s).stores s)
  bytes-kept-all = stored_bytes _ s (call_fits st f c s y h).writes h
