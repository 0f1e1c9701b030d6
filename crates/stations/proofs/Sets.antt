-- Write and read sets: a key looked for, and a key put in, as the code does it.
use Prim.Native.Nat.{ℕ, ◌+◌, ◌-◌, ◌<◌, ◌≤◌}
use mathlib.Core.Path.{◌≡◌, refl, sym, ap, ap₂, subst, ◌∙◌}
use mathlib.Core.Logic.{◌≢◌}
use mathlib.Core.Bool.{Bool, true, false, not}
use mathlib.Core.List.{List, map}
use lib.Dec.{eqb, leb}
use lib.ListN.{length, take, drop, get_or, replicate, set, length-map, length-take, length-drop, drop_of_length-le}
use lib.Seq.{get_or-take, take_all}
use native.Mathlib.Omega.{arith}
use borrow.Author.Tests.{eqb-true}
use Rattle.model.specs.declared as machine
use Rattle.model.specs.declared.Read.{Read}
use Rattle.model.specs.Types.{Write, Live}
use Rattle.model.specs.Lists.{◌and◌, ◌or◌, all, first, member, insert, padded, ascending}
use Rattle.model.specs.Limits.{keys, write_places, read_limit}
use Rattle.model.specs.Ids.{same_id}
use Rattle.model.specs.KeySets.{key_set}
use Rattle.model.specs.Listed.{valued, listed_live}
use Rattle.model.specs.Lives.{no_write, no_read, writes_of, reads_of, write_key, write_value, read_key, has_written, has_read, value_under, with_writes, with_reads}
use Rattle.model.specs.Ranges.{Every, ReadsFit}
use Rattle.model.specs.Sound.{is_no_write, is_no_read, zero_past_counts}
use Rattle.model.specs.Put.{with_write}
use Rattle.model.specs.Get.{with_read}
use Rattle.model.proofs.Tests.{and_left, and_right}
use Rattle.model.proofs.ListLaws.{member-finds, member-none, map-set, take-map, every-replicate}
use Rattle.model.proofs.InsertLaws.{insert-fits, insert-ascending, insert-member, padded-take, padded-drop, padded-length}
use Rattle.model.proofs.SoundLaws.{writes-zero, reads-zero}
use Rattle.model.proofs.ValuedLaws.{valued-length, valued-keys, valued-all, valued-value, valued-key, valued_back}
use Rattle.model.proofs.KeySetLaws.{ascending-same, first-same, set-ascends, set-position}
use Rattle.keysets.specs.Parts.{AlsoHas}
use Rattle.stations.specs.Found.{at_least, joined}
use Rattle.stations.proofs.Search.{first-within, first-map}
use Rattle.stations.proofs.Joined.{joined-map, all_same, replaced-length, replaced, added-length, added}

no_write_lem : (w : Write) → is_no_write w ≡ true → w ≡ no_write
unfolding is_no_write
no_write_lem w h = λ z. record { key = eqb-true w.key 0 (and_left _ _ h) z; value = eqb-true w.value 0 (and_right _ _ h) z }

no_read_lem : (r : Read) → is_no_read r ≡ true → r ≡ no_read
unfolding is_no_read same_id
no_read_lem r h = λ z. record {
  key = eqb-true r.key 0 (and_left _ _ h) z;
  id = record { clock = eqb-true r.id.clock 0 (and_left _ _ (and_right _ _ h)) z; txn = eqb-true r.id.txn 0 (and_right _ _ (and_right _ _ h)) z };
}

-- ── a write set ──
-- the keys of a transaction's write set are its number's
pub written-keys : (l : machine.Live.Live) → map write_key (writes_of (listed_live l)) ≡ key_set l.keys
unfolding writes_of
written-keys l = valued-keys (key_set l.keys) l.values

pub has-written : (l : machine.Live.Live) (k : ℕ) → member k (key_set l.keys) ≡ has_written k (listed_live l)
unfolding has_written
has-written l k = ap (member k) (sym (written-keys l))

-- the value of a key stands where the key has so many below it
module _ (l : machine.Live.Live) (k i : ℕ) (place : i ≡ first (leb k) (key_set l.keys)) (h : has_written k (listed_live l) ≡ true) where
  there : member k (key_set l.keys) ≡ true
  there = has-written l k ∙ h

  at : i ≡ first (eqb k) (key_set l.keys)
  at = place ∙ set-position l.keys k there

  pub written_below : i < length (key_set l.keys)
  written_below = omega (arith, at, (member-finds k (key_set l.keys) there).0)

  pub value_there : get_or l.values i 0 ≡ value_under k (writes_of (listed_live l))
  unfolding value_under writes_of
  value_there =
      sym (valued-value (key_set l.keys) l.values i)
      ∙ (ap (λ (w : Write). w.value) (sym (get_or-take (length (key_set l.keys)) (valued (key_set l.keys) l.values) i no_write written_below))
      ∙ ap (λ (j : ℕ). (get_or (take (length (key_set l.keys)) (valued (key_set l.keys) l.values)) j no_write).value) (at ∙ ap (first (eqb k)) (sym (written-keys l))))

-- a key with its value put in: the number has the key, and the values are those of the list with the write put in
module _ (ks vs : List ℕ) (up : ascending 0 keys ks ≡ true) (long : length vs ≡ write_places) (few : length ks ≤ write_places)
    (zeros : all is_no_write (drop (length ks) (valued ks vs)) ≡ true) (w : Write) (low : w.key < keys) where
  abbrev old : List Write
  old = valued ks vs

  room : length old ≡ write_places
  room = omega (arith, valued-length ks vs, long, few)

  past : drop (length ks) old ≡ replicate (write_places - length ks) no_write
  past = all_same is_no_write no_write no_write_lem (drop (length ks) old) zeros
      ∙ ap (λ (n : ℕ). replicate n no_write) (length-drop (length ks) old ∙ ap (λ (n : ℕ). n - length ks) room)

  abbrev new : List Write
  new = insert write_key w (take (length ks) old)

  put_in : (ks' vs' : List ℕ) → ascending 0 keys ks' ≡ true → ((j : ℕ) → member j ks' ≡ (eqb j w.key or member j ks)) → length new ≤ write_places
      → vs' ≡ map write_value (padded no_write write_places new) → (length ks' ≡ length new) × (valued ks' vs' ≡ padded no_write write_places new)
  put_in ks' vs' up' each fits q = (ap length keyed ∙ length-map new write_key, ap₂ valued firsts values ∙ back)
    where
      keyed : ks' ≡ map write_key new
      keyed = ascending-same keys ks' (map write_key new) up'
          (insert-ascending write_key w 0 keys (take (length ks) old) (subst (λ (xs : List ℕ). ascending 0 keys xs ≡ true) (sym (valued-keys ks vs)) up) (omega arith) low)
          (λ j. each j ∙ sym (insert-member write_key w j (take (length ks) old) ∙ ap (λ (xs : List ℕ). eqb j w.key or member j xs) (valued-keys ks vs)))

      whole : List Write
      whole = padded no_write write_places new

      firsts : ks' ≡ map write_key (take (length new) whole)
      firsts = keyed ∙ ap (map write_key) (sym (padded-take no_write write_places new))

      values : vs' ≡ take write_places (map write_value whole)
      values = q ∙ sym (take_all write_places (map write_value whole) (omega (arith, length-map whole write_value, padded-length no_write write_places new fits)))

      zero-past : (n : ℕ) → Every (λ (w : Write). w.key ≡ 0) (replicate n no_write)
      zero-past n = every-replicate (λ (w : Write). w.key ≡ 0) n no_write refl

      back : valued (map write_key (take (length new) whole)) (take write_places (map write_value whole)) ≡ whole
      back = valued_back (length new) write_places whole (omega (arith, padded-length no_write write_places new fits, fits))
          (subst (Every (λ (w : Write). w.key ≡ 0)) (sym (padded-drop no_write write_places new)) (zero-past (write_places - length new)))
          (subst (Every (λ (w : Write). w.value ≡ 0)) (sym (drop_of_length-le whole {i = write_places} (omega (arith, padded-length no_write write_places new fits)))) tt)

  module _ (i : ℕ) (place : i ≡ first (leb w.key) ks) where
    found : i ≡ first (at_least write_key w.key) (take (length ks) old)
    found = place ∙ (ap (first (leb w.key)) (sym (valued-keys ks vs)) ∙ first-map write_key (leb w.key) (take (length ks) old))

    values-old : vs ≡ map write_value old
    values-old = sym (valued-all ks vs (omega (arith, long, few)))

    -- the key is there
    pub key-replaced : member w.key ks ≡ true → (length ks ≡ length new) × (valued ks (set vs i w.value) ≡ padded no_write write_places new)
    key-replaced m = put_in ks (set vs i w.value) up each (omega (arith, few, longer)) values
      where
        o : (i < length ks) × (get_or ks i 0 ≡ w.key)
        o = subst (λ (j : ℕ). (j < length ks) × (get_or ks j 0 ≡ w.key)) (sym (place ∙ first-same 0 keys w.key ks up m)) (member-finds w.key ks m)

        e : w.key ≡ (get_or old i no_write).key
        e = sym (valued-key ks vs i ∙ o.1)

        longer : length ks ≡ length new
        longer = replaced-length write_key w no_write no_write write_places (length ks) i old room few past found o.0 e

        each : (j : ℕ) → member j ks ≡ (eqb j w.key or member j ks)
        each j = go (eqb j w.key) refl
          where
            go : (b : Bool) → eqb j w.key ≡ b → member j ks ≡ (b or member j ks)
            go true q = unfold ◌or◌ in ap (λ (n : ℕ). member n ks) (eqb-true j w.key q) ∙ m
            go false q = unfold ◌or◌ in refl

        values : set vs i w.value ≡ map write_value (padded no_write write_places new)
        values = ap (λ (xs : List ℕ). set xs i w.value) values-old ∙ (sym (map-set write_value old i w)
            ∙ ap (map write_value) (replaced write_key w no_write no_write write_places (length ks) i old room few past found o.0 e))

    -- it is not, and there is room
    pub key-added : member w.key ks ≡ false → length new ≤ write_places → (ks' : List ℕ) → ascending 0 keys ks' ≡ true → ((j : ℕ) → member j ks' ≡ (eqb j w.key or member j ks))
        → (length ks' ≡ length new) × (valued ks' (take write_places (joined i w.value vs)) ≡ padded no_write write_places new)
    key-added m fits ks' up' each = put_in ks' _ up' each fits values
      where
        none : i < length ks → w.key ≢ (get_or old i no_write).key
        none o e = member-none w.key ks m i o (sym (e ∙ valued-key ks vs i))

        longer : length ks + 1 ≡ length new
        longer = added-length write_key w no_write no_write write_places (length ks) i old room few past found none

        values : take write_places (joined i w.value vs) ≡ map write_value (padded no_write write_places new)
        values = ap (λ (xs : List ℕ). take write_places (joined i w.value xs)) values-old
            ∙ (ap (take write_places) (sym (joined-map write_value i w old))
            ∙ (take-map write_value write_places (joined i w old)
            ∙ ap (map write_value) (added write_key w no_write no_write write_places (length ks) i old room few past found none (omega (arith, longer, fits)))))

module _ (l : machine.Live.Live) (long : length l.values ≡ write_places) (few : length (key_set l.keys) ≤ write_places) (zeros : zero_past_counts (listed_live l) ≡ true)
    (k v i : ℕ) (low : k < keys) (place : i ≡ first (leb k) (key_set l.keys)) where
  pub write-replaced : member k (key_set l.keys) ≡ true
      → listed_live (record { txn = l.txn; phase = l.phase; keys = l.keys; values = set l.values i v; read_count = l.read_count; reads = l.reads }) ≡ with_write k v (listed_live l)
  unfolding with_write with_writes writes_of
  write-replaced m =
      let r = key-replaced (key_set l.keys) l.values (set-ascends l.keys) long few (writes-zero (listed_live l) zeros) (record { key = k; value = v }) low i place m in
      λ z. record { txn = l.txn; phase = l.phase; write_count = r.0 z; writes = r.1 z; read_count = l.read_count; reads = l.reads }

  pub write-added : member k (key_set l.keys) ≡ false → (not (has_written k (listed_live l)) and leb write_places (length (key_set l.keys))) ≡ false → (n : ℕ) → AlsoHas l.keys k n
      → listed_live (record { txn = l.txn; phase = l.phase; keys = n; values = take write_places (joined i v l.values); read_count = l.read_count; reads = l.reads }) ≡ with_write k v (listed_live l)
  unfolding with_write with_writes writes_of has_written
  write-added m r n a =
      let ks = key_set l.keys in
      let w : Write = record { key = k; value = v } in
      let us : List Write = take (length ks) (valued ks l.values) in
      let up : ascending 0 keys (map write_key us) ≡ true = subst (λ (xs : List ℕ). ascending 0 keys xs ≡ true) (sym (valued-keys ks l.values)) (set-ascends l.keys) in
      let fits : length (insert write_key w us) ≤ write_places = insert-fits write_key w keys (length ks) write_places us up (omega (arith, length-take (length ks) (valued ks l.values))) few r in
      let q = key-added ks l.values (set-ascends l.keys) long few (writes-zero (listed_live l) zeros) w low i place m fits (key_set n) (set-ascends n) a in
      λ z. record { txn = l.txn; phase = l.phase; write_count = q.0 z; writes = q.1 z; read_count = l.read_count; reads = l.reads }

-- ── a read set ──
-- the place for a key lies among the reads, or right after them
pub read-place-within : (l : Live) (k i : ℕ) → i ≡ first (at_least read_key k) (reads_of l) → i ≤ l.read_count
unfolding reads_of
read-place-within l k i e = omega (arith, e, first-within (at_least read_key k) l.read_count l.reads)

module _ (l : Live) (sets : ReadsFit l) (zeros : zero_past_counts l ≡ true) (i : ℕ) (q : Read) (long : length l.reads ≡ read_limit)
    (place : i ≡ first (at_least read_key q.key) (reads_of l)) where
  past-read : drop l.read_count l.reads ≡ replicate (read_limit - l.read_count) no_read
  past-read = all_same is_no_read no_read no_read_lem (drop l.read_count l.reads) (reads-zero l zeros)
      ∙ ap (λ (n : ℕ). replicate n no_read) (length-drop l.read_count l.reads ∙ ap (λ (n : ℕ). n - l.read_count) long)

  pub read-replaced : i < l.read_count → q.key ≡ (get_or l.reads i no_read).key
      → record { txn = l.txn; phase = l.phase; write_count = l.write_count; writes = l.writes; read_count = l.read_count; reads = set l.reads i q }
      ≡ with_read q.key q.id l
  unfolding with_read with_reads reads_of
  read-replaced o e = λ z. record {
    txn = l.txn;
    phase = l.phase;
    write_count = l.write_count;
    writes = l.writes;
    read_count = replaced-length read_key q no_read no_read 16 l.read_count i l.reads long sets.0 past-read place o e z;
    reads = replaced read_key q no_read no_read 16 l.read_count i l.reads long sets.0 past-read place o e z;
  }

  module _ (f : i < l.read_count → q.key ≢ (get_or l.reads i no_read).key) (r : (not (has_read q.key l) and leb read_limit l.read_count) ≡ false) where
    longer : l.read_count + 1 ≡ length (insert read_key q (take l.read_count l.reads))
    unfolding reads_of
    longer = added-length read_key q no_read no_read 16 l.read_count i l.reads long sets.0 past-read place f

    -- there is room for it
    pub read-room : l.read_count < 16
    unfolding reads_of has_read
    read-room = omega (arith, longer, insert-fits read_key q keys l.read_count 16 (take l.read_count l.reads) sets.1 (omega (arith, length-take l.read_count l.reads)) sets.0 r)

    pub read-added : record { txn = l.txn; phase = l.phase; write_count = l.write_count; writes = l.writes; read_count = l.read_count + 1; reads = take 16 (joined i q l.reads) }
        ≡ with_read q.key q.id l
    unfolding with_read with_reads reads_of
    read-added = λ z. record {
      txn = l.txn;
      phase = l.phase;
      write_count = l.write_count;
      writes = l.writes;
      read_count = longer z;
      reads = added read_key q no_read no_read 16 l.read_count i l.reads long sets.0 past-read place f read-room z;
    }
