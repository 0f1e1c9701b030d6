-- The rows of an image and a place (specs/Layout, specs/Images), by their fields: as long as they say, read back, and tested.
use Rattle.image.proofs.Names.{ℕ, zero, suc, ◌+◌, ◌^◌, ◌<◌, ◌≤◌, ◌≡◌, refl, sym, ap, subst, ◌∙◌, ◌≢◌, Bool, true, List, [], ◌∷◌, ◌++◌, map, eqb, length, take, drop, get_or, set, length-append, length-drop, drop_at, drop-drop, arith, put_mid, Id, Live, Entry, Phase, Unused, Open, Closing, write_places, read_limit, number_range, byte_range, Kind, Narrow, Wide, kind_of, kind_named, kind_from, get_or-take, lit<, ◌and◌, all, same, bytes, number, id_in, closing_slot, closing_clock, records_stored, and_intro, Bytes, bytes_drop, length-bytes, number-bytes, bytes-number, same_refl, kind_size, head_size, value_size, values_size, read_size, reads_size, place_size, entry_size, Field, num, field_bytes, row, flat, parts, kind_row, kind_bytes, value_bytes, value_from, start_bytes, read_row, read_bytes, read_from, entry_row, entry_bytes, entry_from, phase_number, phase_of, phase_from, head_row, place_head, keys_from, is_alone, place_bytes, place_from, is_kind, is_head, is_place, Every, IsByte, IdFits, ReadFits, PhaseFits, LiveFits, EntryFits, every_append, bytes-are, bytes-zeros}
use Rattle.image.proofs.PartLaws.{parts-take}
use Rattle.image.proofs.RowLaws.{spread-all, begins-part, begins-then, begins-at, begins-all, begins-only, and-end, and-true, row_at, row-begins, row_is, own-byte, byte-is, own-number, number_is, zeros-are, alone-row, number_small, number_fits, row-bytes, Coded, array-bytes, array_long, array_back, array-last, array-many, array-fits, array-begins}

-- ── the kind, by its mark ──
pub kind-is : (b : List ℕ) → length b ≡ kind_size → Bytes b → is_kind b ≡ (eqb (kind_of (kind_from b)).mark (get_or b 0 0) and is_alone kind_size b)
unfolding is_kind kind_bytes field_bytes is_alone
kind-is b l y =
    row_is (kind_row (kind_of (kind_from b)).mark) b (refl, (refl, tt)) l
    ∙ (rw (byte-is b 0 (kind_of (kind_from b)).mark (omega arith), zeros-are b 1 7 (omega arith) y, and-end))

pub kind-long : (m : ℕ) → length (kind_bytes m) ≡ kind_size
unfolding kind_bytes row flat field_bytes
kind-long m = refl

pub kind-bytes : (m : ℕ) → IsByte m → Every IsByte (kind_bytes m)
unfolding kind_bytes field_bytes
kind-bytes m h = row-bytes (kind_row m) ((h, tt), (bytes-zeros 7, tt))

-- it is read off the first byte alone
pub kind-part : (b : List ℕ) → same (kind_bytes (kind_of (kind_from b)).mark) (take kind_size b) ≡ is_kind (take kind_size b)
unfolding is_kind kind_from
kind-part b = ap (λ (m : ℕ). same (kind_bytes (kind_of (kind_named m)).mark) (take kind_size b)) (sym (get_or-take kind_size b 0 0 (lit< tt)))

pub kind-first : (m : ℕ) (b : List ℕ) → kind_from (kind_bytes m ++ b) ≡ kind_named m
unfolding kind_from kind_bytes row flat field_bytes
kind-first m b = refl

pub kind-wide : (b : List ℕ) → get_or b 0 0 ≡ 2 → Wide ≡ kind_from b
unfolding kind_from kind_named
kind-wide b h = sym (ap kind_named h)

pub kind-narrow : (b : List ℕ) → get_or b 0 0 ≢ 2 → Narrow ≡ kind_from b
unfolding kind_from
kind-narrow b n = sym (go (get_or b 0 0) n)
  where
    go : (m : ℕ) → m ≢ 2 → kind_named m ≡ Narrow
    go zero n = unfold kind_named in refl
    go (suc zero) n = unfold kind_named in refl
    go (suc (suc zero)) n = absurd (n refl)
    go (suc (suc (suc m))) n = unfold kind_named in refl

-- ── any bytes of the right length are a value's, or an entry's ──
abbrev pub any_bytes : List ℕ → Bool
any_bytes b = true

pub any-parts : (bs : List (List ℕ)) → all any_bytes bs ≡ true
unfolding all
any-parts [] = refl
any-parts (b ∷ bs) = any-parts bs

-- ── a value ──
pub value-coded : Coded value_bytes value_from value_size (λ (v : ℕ). v < number_range) any_bytes
unfolding value_bytes value_from
value-coded = record {
  long = λ v f. length-bytes 8 v;
  back = λ v f. number-bytes 8 v f;
  fits = λ b l y. subst (λ (n : ℕ). number b < byte_range ^ n) l (number_small b y);
  test = λ b l y. ap (λ (x : List ℕ). same x b) (bytes-number 8 b l y) ∙ same_refl b;
  are = λ v f. bytes-are 8 v;
}

-- ── an id, in a read and a place ──
id-own : (b : List ℕ) → 16 ≤ length b → Bytes b → row_at (num 4 (id_in b).txn ∷ num 8 (id_in b).clock ∷ []) 4 b ≡ true
unfolding id_in field_bytes
id-own b h y = and_intro _ _ (own-number b 4 4 (omega arith) y) (and_intro _ _ (own-number b 8 8 (omega arith) y) refl)

id-fits : (b : List ℕ) → 16 ≤ length b → Bytes b → IdFits (id_in b)
unfolding id_in
id-fits b h y = record { clock64 = number_fits b 8 8 (omega arith) y; txn32 = number_fits b 4 4 (omega arith) y }

-- ── a read ──
read-test : (b : List ℕ) → length b ≡ read_size → Bytes b → same (read_bytes (read_from b)) b ≡ is_alone 4 b
unfolding read_bytes read_from field_bytes
read-test b l y =
    row_is (read_row (read_from b)) b (refl, (refl, (length-bytes 4 _, (length-bytes 8 _, tt)))) l
    ∙ alone-row 3 (num 4 (id_in b).txn ∷ num 8 (id_in b).clock ∷ []) b (omega arith) y (id-own b (omega arith) y)

pub read-coded : Coded read_bytes read_from read_size ReadFits (is_alone 4)
unfolding read_bytes read_from id_in row flat field_bytes bytes
read-coded = record {
  long = λ r f. refl;
  back = λ r f z. record { key = r.key; id = record { clock = number-bytes 8 r.id.clock f.id.clock64 z; txn = number-bytes 4 r.id.txn f.id.txn32 z } };
  fits = λ b l y. record { key8 = y 0 (omega arith); id = id-fits b (omega arith) y };
  test = read-test;
  are = λ r f. row-bytes (read_row r) ((f.key8, tt), (bytes-zeros 3, (bytes-are 4 r.id.txn, (bytes-are 8 r.id.clock, tt))));
}

-- ── an entry ──
entry-test : (b : List ℕ) → length b ≡ entry_size → Bytes b → same (entry_bytes (entry_from b)) b ≡ true
unfolding entry_bytes entry_from field_bytes
entry-test b l y =
    row_is (entry_row (entry_from b)) b (length-bytes 4 _, (length-bytes 8 _, (length-bytes 8 _, tt))) l
    ∙ and_intro _ _ (own-number b 0 4 (omega arith) y) (and_intro _ _ (own-number b 4 8 (omega arith) y) (and_intro _ _ (own-number b 12 8 (omega arith) y) refl))

pub entry-coded : Coded entry_bytes entry_from entry_size EntryFits any_bytes
unfolding entry_bytes entry_from row flat field_bytes bytes
entry-coded = record {
  long = λ e f. refl;
  back = λ e f z. record {
    id = record { clock = number-bytes 8 e.id.clock f.id.clock64 z; txn = number-bytes 4 e.id.txn f.id.txn32 z };
    keys = number-bytes 8 e.keys f.keys64 z;
  };
  fits = λ b l y. record {
    id = record { clock64 = number_fits b 4 8 (omega arith) y; txn32 = number_fits b 0 4 (omega arith) y };
    keys64 = number_fits b 12 8 (omega arith) y;
  };
  test = entry-test;
  are = λ e f. row-bytes (entry_row e) (bytes-are 4 e.id.txn, (bytes-are 8 e.id.clock, (bytes-are 8 e.keys, tt)));
}

-- ── a phase ──
phase-back : (p : Phase) → phase_of (phase_number p) (closing_slot p) (closing_clock p) (records_stored p) ≡ p
unfolding phase_of phase_number closing_slot closing_clock records_stored
phase-back Unused = refl
phase-back Open = refl
phase-back (Closing d c n) = refl

phase-byte : (p : Phase) → IsByte (phase_number p)
unfolding phase_number
phase-byte Unused = omega arith
phase-byte Open = omega arith
phase-byte (Closing d c n) = omega arith

phase-of : (m d c n : ℕ) → IsByte d → c < number_range → IsByte n → PhaseFits (phase_of m d c n)
unfolding phase_of closing_slot closing_clock records_stored
phase-of zero d c n hd hc hn = record { slot8 = omega arith; clock64 = omega arith; stored8 = omega arith }
phase-of (suc zero) d c n hd hc hn = record { slot8 = omega arith; clock64 = omega arith; stored8 = omega arith }
phase-of (suc (suc m)) d c n hd hc hn = record { slot8 = hd; clock64 = hc; stored8 = hn }

pub phase-at : (b : List ℕ) (m : ℕ) → get_or b 0 0 ≡ m → phase_from b ≡ phase_of m (get_or b 1 0) (id_in b).clock (get_or b 2 0)
unfolding phase_from
phase-at b m e = ap (λ (k : ℕ). phase_of k (get_or b 1 0) (id_in b).clock (get_or b 2 0)) e

pub phase-closing : (b : List ℕ) (c : ℕ) → get_or b 0 0 ≢ 0 → get_or b 0 0 ≢ 1 → c ≡ (id_in b).clock → Closing (get_or b 1 0) c (get_or b 2 0) ≡ phase_from b
phase-closing b c n m e = ap (λ (k : ℕ). Closing (get_or b 1 0) k (get_or b 2 0)) e ∙ sym (phase-at b (get_or b 0 0) refl ∙ go (get_or b 0 0) n m)
  where
    go : (k : ℕ) → k ≢ 0 → k ≢ 1 → phase_of k (get_or b 1 0) (id_in b).clock (get_or b 2 0) ≡ Closing (get_or b 1 0) (id_in b).clock (get_or b 2 0)
    go zero n m = absurd (n refl)
    go (suc zero) n m = absurd (m refl)
    go (suc (suc k)) n m = unfold phase_of in refl

-- ── what stands before a place's values ──
head-long : (p : Phase) (t r ks : ℕ) → length (place_head p t r ks) ≡ head_size
unfolding place_head row flat field_bytes bytes
head-long p t r ks = refl

head_bytes_lem : (l : Live) → LiveFits l → Every IsByte (place_head l.phase l.txn l.read_count l.keys)
unfolding place_head field_bytes
head_bytes_lem l f =
    let p = l.phase in
    row-bytes (head_row p l.txn l.read_count l.keys) ((phase-byte p, tt), ((f.phase.slot8, tt), ((f.phase.stored8, tt), ((f.reads8, tt), (bytes-are 4 l.txn, (bytes-are 8 (closing_clock p), (bytes-are 8 l.keys, tt)))))))

-- a phase, written, has the numbers that are read, its clock k
abbrev pub head_test : List ℕ → ℕ → ℕ → ℕ → ℕ → ℕ → Bool
head_test b m s n c k = eqb m (get_or b 0 0) and (eqb s (get_or b 1 0) and (eqb n (get_or b 2 0) and eqb c k))

module _ (b : List ℕ) (l : head_size ≤ length b) (y : Bytes b) where
  phase-fits : PhaseFits (phase_from b)
  unfolding phase_from
  phase-fits = phase-of (get_or b 0 0) (get_or b 1 0) (id_in b).clock (get_or b 2 0) (y 1 (omega arith)) (id-fits b (omega arith) y).clock64 (y 2 (omega arith))

  abbrev read_head : List Field
  read_head = head_row (phase_from b) (id_in b).txn (get_or b 3 0) (keys_from b)

  pub head-is : (m s n c k : ℕ) → m ≡ phase_number (phase_from b) → s ≡ closing_slot (phase_from b) → n ≡ records_stored (phase_from b) → c ≡ closing_clock (phase_from b) → k ≡ (id_in b).clock → is_head b ≡ head_test b m s n c k
  unfolding is_head place_head keys_from field_bytes ◌and◌ id_in
  head-is m s n c k em es en ec ek =
      begins-only (begins-part (row read_head) b head_size (head-long (phase_from b) (id_in b).txn (get_or b 3 0) (keys_from b)) l) (row-begins read_head 0 b (refl, (refl, (refl, (refl, (length-bytes 4 _, (length-bytes 8 _, (length-bytes 8 _, tt))))))) (omega arith))
      ∙ (rw (em, es, en, ec, ek, byte-is b 0 (phase_number (phase_from b)) (omega arith), byte-is b 1 (closing_slot (phase_from b)) (omega arith), byte-is b 2 (records_stored (phase_from b)) (omega arith), own-byte b 3 (omega arith), own-number b 4 4 (omega arith) y, number_is b 8 8 (omega arith) y (closing_clock (phase_from b)) phase-fits.clock64, own-number b 16 8 (omega arith) y, and-end))

-- ── a place ──
abbrev pub place_test : List ℕ → Bool
place_test b = is_head b and all (is_alone 4) (parts read_size read_limit (take reads_size (drop (head_size + values_size) b)))

module _ (b : List ℕ) (l : length b ≡ place_size) (y : Bytes b) where
  abbrev values_part : List ℕ
  values_part = drop head_size b

  abbrev reads_part : List ℕ
  reads_part = drop (head_size + values_size) b

  values-in : values_size ≤ length values_part
  values-in = omega (arith, length-drop head_size b)

  reads_in : reads_size ≤ length reads_part
  reads_in = omega (arith, length-drop (head_size + values_size) b)

  place-tested : is_place b ≡ (is_head b and (all any_bytes (parts value_size write_places values_part) and all (is_alone 4) (parts read_size read_limit reads_part)))
  unfolding is_place place_bytes place_from is_head
  place-tested =
      let h = begins-part (place_head (phase_from b) (id_in b).txn (get_or b 3 0) (keys_from b)) b head_size (head-long (phase_from b) (id_in b).txn (get_or b 3 0) (keys_from b)) (omega arith) in
      let v = array-begins value-coded write_places values_part values-in (bytes_drop head_size b y) in
      let r = array-begins read-coded read_limit reads_part reads_in (bytes_drop (head_size + values_size) b y) in
      let e : length b ≤ head_size + (values_size + reads_size) = omega arith in
      begins-all (begins-then h (begins-then v (begins-at (drop-drop values_size head_size b) r))) e

  pub place_is : is_place b ≡ place_test b
  place_is =
      place-tested
      ∙ ap (λ (t : Bool). is_head b and t) (and-true (any-parts (parts value_size write_places values_part)) ∙ ap (all (is_alone 4)) (sym (parts-take read_size read_limit reads_part reads_in)))

pub place-coded : Coded place_bytes place_from place_size LiveFits is_place
unfolding place_bytes place_from phase_from keys_from place_head is_place row flat field_bytes bytes id_in
place-coded = record {
  long = λ l f. simp length-append (omega (arith, array_long value-coded l.values write_places f.value-places f.values, array_long read-coded l.reads read_limit f.read-places f.reads));
  back = λ l f z. record {
    txn = number-bytes 4 l.txn f.txn32 z;
    phase = (ap (λ (c : ℕ). phase_of (phase_number l.phase) (closing_slot l.phase) c (records_stored l.phase)) (number-bytes 8 (closing_clock l.phase) f.phase.clock64) ∙ phase-back l.phase) z;
    keys = number-bytes 8 l.keys f.keys64 z;
    values = array_back value-coded l.values write_places f.value-places f.values (flat read_bytes l.reads) z;
    read_count = l.read_count;
    reads = (ap (λ (b : List ℕ). map read_from (parts read_size read_limit b)) (drop_at (flat value_bytes l.values) (flat read_bytes l.reads) values_size (array_long value-coded l.values write_places f.value-places f.values)) ∙ array-last read-coded l.reads read_limit f.read-places f.reads) z;
  };
  fits = λ b l y. record {
    txn32 = (id-fits b (omega arith) y).txn32;
    phase = phase-fits b (omega arith) y;
    keys64 = number_fits b 16 8 (omega arith) y;
    value-places = array-many value-coded write_places (drop head_size b);
    values = array-fits value-coded write_places (drop head_size b) (omega (arith, length-drop head_size b)) (bytes_drop head_size b y);
    reads8 = y 3 (omega arith);
    read-places = array-many read-coded read_limit (drop (head_size + values_size) b);
    reads = array-fits read-coded read_limit (drop (head_size + values_size) b) (omega (arith, length-drop (head_size + values_size) b)) (bytes_drop (head_size + values_size) b y);
  };
  test = λ b l y. refl;
  are = λ l f. every_append IsByte (place_head l.phase l.txn l.read_count l.keys) (flat value_bytes l.values ++ flat read_bytes l.reads) (head_bytes_lem l f) (every_append IsByte (flat value_bytes l.values) (flat read_bytes l.reads) (array-bytes value-coded l.values f.values) (array-bytes read-coded l.reads f.reads));
}

-- ── what is written over the parts of a row ──
pub kind-written : (n : ℕ) (k : Kind) → n ≡ kind_size → bytes n (kind_of k).mark ≡ kind_bytes (kind_of k).mark
unfolding kind_of kind_bytes row flat field_bytes bytes
kind-written n Narrow e = rw e
kind-written n Wide e = rw e

pub value_written : (n x : ℕ) (y : List ℕ) → n ≡ value_size → y ≡ bytes n x → y ≡ value_bytes x
unfolding value_bytes
value_written n x y l e = e ∙ ap (λ (k : ℕ). bytes k x) l

pub start-written : (s x y : List ℕ) (a b c d : ℕ) (i : Id) → length s ≡ read_size → x ≡ bytes 4 i.txn → y ≡ bytes 8 i.clock
    → set (set (set (set (put_mid 8 8 (put_mid 4 4 s x) y) 0 a) 1 b) 2 c) 3 d ≡ start_bytes a b c d i
unfolding start_bytes row flat field_bytes bytes
start-written s x y a b c d i l e f = rw (e, f, spread-all read_size s l)

pub entry-written : (e : Entry) (x y z : List ℕ) → x ≡ bytes 4 e.id.txn → y ≡ bytes 8 e.id.clock → z ≡ bytes 8 e.keys → x ++ (y ++ z) ≡ entry_bytes e
unfolding entry_bytes row flat field_bytes bytes
entry-written e x y z p q r = rw (p, q, r)

pub head-written : (p : Phase) (t r ks m s n c : ℕ) → m ≡ phase_number p → s ≡ closing_slot p → n ≡ records_stored p → c ≡ closing_clock p → (x y : List ℕ)
    → x ≡ start_bytes m s n r (record { clock = c; txn = t }) → y ≡ bytes 8 ks → x ++ y ≡ place_head p t r ks
unfolding start_bytes place_head row flat field_bytes bytes
head-written p t r ks m s n c em es en ec x y ex ey = rw (ex, ey, em, es, en, ec)
