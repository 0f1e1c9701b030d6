-- The parts together are model's `sound`.
use Prim.Native.Nat.{ℕ, suc, ◌+◌, ◌<◌, ◌≤◌}
use mathlib.Core.Path.{◌≡◌, refl, sym, ap, ap₂, subst, ◌∙◌}
use mathlib.Core.Logic.{◌⊎◌, inl, inr, ⊎_elim}
use mathlib.Core.Bool.{Bool, true, false, true≢false}
use mathlib.Core.List.{List, [], ◌∷◌}
use lib.Dec.{eqb, leb}
use lib.ListN.{drop, length, take, get_or, length-map}
use lib.Seq.{get_or-append-add, drop_at, drop-drop}
use native.Mathlib.Nat.{suc-ne-zero, lt_irrefl, zero-lt-suc}
use native.Mathlib.Omega.{arith}
use borrow.Author.Tests.{ltb-true, leb-true, leb-false, eqb-true, lt-ltb, le-leb, eq-eqb}
use Rattle.model.specs.Kinds.{Kind}
use Rattle.model.specs.declared.Id.{Id}
use Rattle.model.specs.Ids.{same_id}
use Rattle.model.specs.declared.Read.{Read}
use Rattle.model.specs.Types.{Live}
use Rattle.model.specs.Types.{Entry, Station}
use Rattle.model.specs.declared.Phase.{Phase}
use Rattle.model.specs.declared.Phase.TheVariants.{Unused, Open, Closing}
use Rattle.model.specs.Lists.{◌and◌, all, any, first, distinct, ascending}
use Rattle.model.specs.Lives.{reads_of, write_count, read_key, closing_slot, closing_clock, records_stored, slot_mark}
use Rattle.model.specs.Entries.{is_no_entry, wrote_as, no_entry, entry_rules}
use Rattle.model.specs.Stations.{entry_at, live_txns, held_txns, holds, closing_slots}
use Rattle.model.specs.Sound.{is_no_read, is_no_live, names, place_right, entry_right, sound}
use Rattle.model.proofs.Tests.{and_left, and_right, and_intro, or_cases, bool_cases, same_test}
use Rattle.model.proofs.ListLaws.{first_finds, all_head, all_tail, all-at, all-mem, all-by, any-finds, any_at, all_map, all_drop, drop-map}
use Rattle.model.proofs.RestLaws.{all_split}
use Rattle.model.proofs.DistinctLaws.{once-right}
use Rattle.model.proofs.IdLaws.{same_id_lem}
use Rattle.model.proofs.StationLaws.{unheld-txn, unheld-of}
use Rattle.model.proofs.SoundLaws.{Used, used-at, used-of, write-limit, read-limit, writes-ascending, reads-ascending, sets_of, writes-zero}
use Rattle.model.proofs.SoundLaws.{reads-zero, zeros_of, Shut, shut_at, shut-of, unheld-wrote}
use Rattle.soundness.specs.Parts.{set_right, writes_right, reads_right, lists_right, counts_right, shape_right, live_column, held_column, txn_column}
use Rattle.soundness.specs.Parts.{mark_column, slot_in, is_named, named_by, place_fits, slot_free, none_past, parts}
use Rattle.soundness.proofs.PartLaws.{free-none, free-high, free-is, held-txn-at, set_is, all-map-is}

-- ── a place of a station, by its phase ──
module _ (κ : Kind) (es : List Entry) (l : Live) where
  pub lists_of : Used κ es l → lists_right κ l ≡ true
  unfolding lists_right writes_right
  lists_of u =
      and_intro _ _
      (and_intro _ _ (le-leb 1 l.txn (omega (arith, u.numbered))) (le-leb l.read_count 16 (read-limit κ l u.sets)))
      (and_intro _ _ (and_intro _ _ (le-leb l.write_count κ.write_limit (write-limit κ l u.sets)) (writes-ascending κ l u.sets)) (writes-zero l u.zeros))

  pub reads-of : Used κ es l → reads_right (names es) l ≡ true
  unfolding reads_of
  reads-of u = set_is read_key (names es) is_no_read 0 l.read_count l.reads ∙ and_intro _ _ (and_intro _ _ (reads-ascending κ l u.sets) u.named) (reads-zero l u.zeros)

  pub used-lists : lists_right κ l ≡ true → reads_right (names es) l ≡ true → Used κ es l
  unfolding lists_right writes_right reads_of
  used-lists h r =
      let w : writes_right κ l ≡ true = and_right _ _ h in
      let y = sym (set_is read_key (names es) is_no_read 0 l.read_count l.reads) ∙ r in
      record {
        numbered = λ (z : l.txn ≡ 0). omega (arith, leb-true 1 l.txn (and_left _ _ (and_left _ _ h)));
        sets = sets_of κ l (leb-true l.write_count κ.write_limit (and_left _ _ (and_left _ _ w))) (leb-true l.read_count 16 (and_right _ _ (and_left _ _ h))) (and_right _ _ (and_left _ _ w)) (and_left _ _ (and_left _ _ y));
        named = and_right _ _ (and_left _ _ y);
        zeros = zeros_of l (and_right _ _ w) (and_right _ _ y);
      }

-- an unused place has read nothing
none_read : (good : Read → Bool) (rs : List Read) (n : ℕ) → n ≡ 0 → all is_no_read rs ≡ true → set_right read_key good is_no_read 0 n rs ≡ true
unfolding ascending all ◌and◌
none_read good rs n e h = set_is read_key good is_no_read 0 n rs ∙ rw e h

pub unused-reads : (good : Read → Bool) (l : Live) → is_no_live l ≡ true → reads_right good l ≡ true
unfolding is_no_live
unused-reads good l h = none_read good l.reads l.read_count (eqb-true l.read_count 0 (and_right _ _ (and_left _ _ (and_left _ _ h)))) (and_right _ _ h)

-- reads that are right are so by any test that their own one gives
pub reads-by : (p q : Read → Bool) (l : Live) → ((r : Read) → p r ≡ true → q r ≡ true) → reads_right p l ≡ true → reads_right q l ≡ true
reads-by p q l f h =
    let x = sym (set_is read_key p is_no_read 0 l.read_count l.reads) ∙ h in
    set_is read_key q is_no_read 0 l.read_count l.reads
    ∙ and_intro _ _ (and_intro _ _ (and_left _ _ (and_left _ _ x)) (all-by p q (take l.read_count l.reads) (λ r _ z. f r z) (and_right _ _ (and_left _ _ x)))) (and_right _ _ x)

-- a closing transaction's write set, clock and records
module _ (st : Station) (l : Live) (d c n : ℕ) (e : l.phase ≡ Closing d c n) where
  pub counts_of : Shut st l → counts_right c n (write_count l) ≡ true
  unfolding counts_right closing_clock records_stored
  counts_of s =
      and_intro _ _
      (and_intro _ _ (le-leb 1 (write_count l) s.keyed) (le-leb 1 c (subst (λ (p : Phase). 1 ≤ closing_clock p) e s.clocked)))
      (le-leb n (write_count l + 1) (subst (λ (p : Phase). records_stored p ≤ write_count l + 1) e s.within))

  pub shut-counts : counts_right c n (write_count l) ≡ true → (d < st.kind.slots) × (holds st d ≡ false) → Shut st l
  unfolding counts_right closing_clock records_stored closing_slot
  shut-counts h f =
      record {
        keyed = leb-true 1 (write_count l) (and_left _ _ (and_left _ _ h));
        clocked = subst (λ (p : Phase). 1 ≤ closing_clock p) (sym e) (leb-true 1 c (and_right _ _ (and_left _ _ h)));
        within = subst (λ (p : Phase). records_stored p ≤ write_count l + 1) (sym e) (leb-true n (write_count l + 1) (and_right _ _ h));
        low = subst (λ (p : Phase). closing_slot p < st.kind.slots) (sym e) f.0;
        unheld = subst (λ (p : Phase). holds st (closing_slot p) ≡ false) (sym e) f.1;
      }

module _ (st : Station) (ts : List ℕ) (at_slot : (d : ℕ) → d < st.kind.slots → get_or ts (suc d + 7) 0 ≡ (entry_at st d).id.txn) where
  pub slot-free : (d : ℕ) → d < st.kind.slots → holds st d ≡ false → slot_free st.kind.slots ts (suc d) ≡ true
  slot-free d h n = free-is st.kind.slots ts (suc d) (suc-ne-zero d) (omega arith) ∙ eq-eqb (get_or ts (suc d + 7) 0) 0 (at_slot d h ∙ unheld-txn st d n)

  pub free-slot : (d : ℕ) → slot_free st.kind.slots ts (suc d) ≡ true → (d < st.kind.slots) × (holds st d ≡ false)
  free-slot d h =
      let b : d < st.kind.slots = go (bool_cases (leb (suc d) st.kind.slots)) in
      (b, unheld-of st d (sym (at_slot d b) ∙ eqb-true (get_or ts (suc d + 7) 0) 0 (sym (free-is st.kind.slots ts (suc d) (suc-ne-zero d) (omega arith)) ∙ h)))
    where
      go : (leb (suc d) st.kind.slots ≡ true) ⊎ (leb (suc d) st.kind.slots ≡ false) → d < st.kind.slots
      go (inl e) = leb-true (suc d) st.kind.slots e
      go (inr e) = absurd (true≢false (sym h ∙ free-high st.kind.slots ts (suc d) (suc-ne-zero d) (leb-false (suc d) st.kind.slots e)))

  -- what is right of a place: its shape, its reads, its slot
  module _ (l : Live) where
    pub place-parts : (p : Phase) → l.phase ≡ p → place_right st p l ≡ true
        → (shape_right st.kind p l ≡ true) × (reads_right (names st.entries) l ≡ true) × (slot_free st.kind.slots ts (slot_mark p) ≡ true)
    unfolding place_right shape_right slot_mark closing_slot
    place-parts Unused e h = (h, unused-reads (names st.entries) l h, free-none st.kind.slots ts 0 refl)
    place-parts Open e h = let u = used-at st.kind st.entries l h in (lists_of st.kind st.entries l u, reads-of st.kind st.entries l u, free-none st.kind.slots ts 0 refl)
    place-parts (Closing d c n) e h =
        let u = used-at st.kind st.entries l (and_left _ _ h) in
        let s = shut_at st l (and_right _ _ h) in (
          and_intro _ _ (counts_of st l d c n e s) (lists_of st.kind st.entries l u),
          reads-of st.kind st.entries l u,
          slot-free d (subst (λ (p : Phase). closing_slot p < st.kind.slots) e s.low) (subst (λ (p : Phase). holds st (closing_slot p) ≡ false) e s.unheld),
        )

    pub parts-place : (p : Phase) → l.phase ≡ p → shape_right st.kind p l ≡ true → reads_right (names st.entries) l ≡ true → slot_free st.kind.slots ts (slot_mark p) ≡ true → place_right st p l ≡ true
    unfolding place_right shape_right slot_mark
    parts-place Unused e h n f = h
    parts-place Open e h n f = used-of st.kind st.entries l (used-lists st.kind st.entries l h n)
    parts-place (Closing d c n') e h n f =
        and_intro _ _ (used-of st.kind st.entries l (used-lists st.kind st.entries l (and_right _ _ h) n)) (shut-of st l (shut-counts st l d c n' e (and_left _ _ h) (free-slot d f)))

-- ── reads: where entries are right and transactions distinct, the entry found by its transaction is the only one that a read can name ──
module _ (ls : List Live) (es : List Entry) (hl : length ls ≡ 8) (he : length es ≡ 64) where
  slot_is : (t : ℕ) → slot_in (txn_column ls es) t ≡ first (eqb t) (held_column es)
  unfolding slot_in
  slot_is t = ap (first (eqb t)) (drop_at (live_column ls) (held_column es) 8 (length-map ls (λ (l : Live). l.txn) ∙ hl))

  names-is : (r : Read) → names es r ≡ any (λ e. is_named e r) es
  unfolding names wrote_as is_named
  names-is r = refl

  named-names : (r : Read) → named_by es (txn_column ls es) r ≡ true → names es r ≡ true
  unfolding named_by
  named-names r h =
      let o : slot_in (txn_column ls es) r.id.txn < length es = omega (arith, ltb-true (slot_in (txn_column ls es) r.id.txn) 64 (and_left _ _ h)) in
      names-is r ∙ any_at (λ e. is_named e r) es no_entry (slot_in (txn_column ls es) r.id.txn) o (and_right _ _ h)

  names-named : (κ : Kind) → all (entry_right κ) es ≡ true → distinct (txn_column ls es) ≡ true → (r : Read) → names es r ≡ true → named_by es (txn_column ls es) r ≡ true
  unfolding named_by is_named
  names-named κ a u r h = go (any-finds (λ e. is_named e r) es no_entry (sym (names-is r) ∙ h))
    where
      go : (j : ℕ) × (j < length es) × (is_named (get_or es j no_entry) r ≡ true) → named_by es (txn_column ls es) r ≡ true
      go (j, o, q) =
          let t : ℕ = r.id.txn in
          let e : Entry = get_or es j no_entry in
          let x : e.id.txn ≡ t = ap (λ (i : Id). i.txn) (same_id_lem e.id r.id (and_left _ _ q)) in
          let hj : get_or (held_column es) j 0 ≡ t = held-txn-at es j ∙ x in
          let k : j < length (held_column es) = omega (arith, length-map es (λ (y : Entry). y.id.txn)) in
          let f = first_finds (eqb t) (held_column es) 0 j (eq-eqb t (get_or (held_column es) j 0) (sym hj)) k in
          let hd : get_or (held_column es) (first (eqb t) (held_column es)) 0 ≡ t = sym (eqb-true t (get_or (held_column es) (first (eqb t) (held_column es)) 0) f.1) in
          let same : first (eqb t) (held_column es) ≡ j =
          once-right (live_column ls) (held_column es) u (first (eqb t) (held_column es)) j (hd ∙ sym hj) (λ z. true≢false (sym (and_right _ _ q) ∙ unheld-wrote κ e (all-at (entry_right κ) es no_entry a j o) (x ∙ sym hd ∙ z) r.key)) in
          and_intro _ _ (lt-ltb (slot_in (txn_column ls es) t) 64 (omega (arith, slot_is t))) (subst (λ (i : ℕ). is_named (get_or es i no_entry) r ≡ true) (sym (slot_is t ∙ same)) q)

-- ── the whole ──
-- an entry that keeps the rules is unused where it has no transaction; so are all of them
unused-is : (κ : Kind) (e : Entry) → entry_right κ e ≡ true → is_no_entry e ≡ eqb 0 e.id.txn
unfolding entry_right is_no_entry entry_rules same_id
unused-is κ e h = same_test _ _
    (λ q. eq-eqb 0 e.id.txn (sym (eqb-true e.id.txn 0 (and_right _ _ (and_left _ _ q)))))
    (λ q. ⊎_elim (λ y. y) (λ y. absurd (lt_irrefl 0 (omega (arith, eqb-true 0 e.id.txn q, leb-true 1 e.id.txn (and_right _ _ (and_left _ _ (and_left _ _ y))))))) (or_cases _ _ h))

unused-all : (κ : Kind) (es : List Entry) → all (entry_right κ) es ≡ true → all is_no_entry es ≡ all (eqb 0) (held_column es)
unfolding all
unused-all κ [] h = refl
unused-all κ (e ∷ es) h =
    all_split is_no_entry (e ∷ es) 0 e (zero-lt-suc _)
    ∙ (ap₂ (λ (a b : Bool). a and b) (unused-is κ e (all_head (entry_right κ) e es h)) (unused-all κ es (all_tail (entry_right κ) e es h))
    ∙ sym (all_split (eqb 0) (held_column (e ∷ es)) 0 0 (zero-lt-suc _)))

pub none-past-is : (κ : Kind) (ls : List Live) (es : List Entry) → length ls ≡ 8 → all (entry_right κ) es ≡ true → (n : ℕ) → all is_no_entry (drop n es) ≡ none_past n (txn_column ls es)
unfolding none_past
none-past-is κ ls es hl h n =
    unused-all κ (drop n es) (all_drop (entry_right κ) n es h)
    ∙ ap (all (eqb 0)) (sym (drop-map (λ (e : Entry). e.id.txn) n es) ∙ sym (sym (drop-drop n 8 (txn_column ls es)) ∙ ap (drop n) (drop_at (live_column ls) (held_column es) 8 (length-map ls (λ (l : Live). l.txn) ∙ hl))))

module _ (st : Station) (hl : length st.live ≡ 8) (he : length st.entries ≡ 64) where
  slot-at : (d : ℕ) → d < st.kind.slots → get_or (txn_column st.live st.entries) (suc d + 7) 0 ≡ (entry_at st d).id.txn
  unfolding entry_at
  slot-at d h =
      ap (λ (k : ℕ). get_or (txn_column st.live st.entries) k 0) (omega (arith, length-map st.live (λ (l : Live). l.txn)))
      ∙ get_or-append-add (live_column st.live) (held_column st.entries) d 0 ∙ held-txn-at st.entries d

  to-parts : sound st ≡ true → parts st.kind st.live st.entries ≡ true
  unfolding sound parts place_fits live_txns held_txns closing_slots
  to-parts h =
      let a : all (entry_right st.kind) st.entries ≡ true = and_left _ _ (and_left _ _ (and_left _ _ (and_left _ _ h))) in
      let x : all is_no_entry (drop st.kind.slots st.entries) ≡ true = and_right _ _ (and_left _ _ (and_left _ _ (and_left _ _ h))) in
      let b : all (λ l. place_right st l.phase l) st.live ≡ true = and_right _ _ (and_left _ _ (and_left _ _ h)) in
      let u : distinct (txn_column st.live st.entries) ≡ true = and_right _ _ (and_left _ _ h) in
      let m : distinct (mark_column st.live) ≡ true = and_right _ _ h in
      let at : (l : Live) → place_right st l.phase l ≡ true → (shape_right st.kind l.phase l ≡ true) × (reads_right (names st.entries) l ≡ true) × (slot_free st.kind.slots (txn_column st.live st.entries) (slot_mark l.phase) ≡ true) =
      λ l q. place-parts st (txn_column st.live st.entries) slot-at l l.phase refl q in
      and_intro _ _
      (and_intro _ _
      (and_intro _ _
      (and_intro _ _ (and_intro _ _ a u)
      (all-by (λ l. place_right st l.phase l) (place_fits st.kind st.entries (txn_column st.live st.entries)) st.live
      (λ l _ q.
      and_intro _ _ (at l q).0
      (reads-by (names st.entries) (named_by st.entries (txn_column st.live st.entries)) l (λ r z. names-named st.live st.entries hl he st.kind a u r z) (at l q).1)) b))
      m)
      (all_map (λ (l : Live). slot_mark l.phase) (λ l. place_right st l.phase l) (slot_free st.kind.slots (txn_column st.live st.entries)) (λ l q. (at l q).2) st.live b))
      (sym (none-past-is st.kind st.live st.entries hl a st.kind.slots) ∙ x)

  of_parts : parts st.kind st.live st.entries ≡ true → sound st ≡ true
  unfolding sound parts place_fits live_txns held_txns closing_slots
  of_parts h =
      let g = and_left _ _ h in
      let f : all (slot_free st.kind.slots (txn_column st.live st.entries)) (mark_column st.live) ≡ true = and_right _ _ g in
      let m : distinct (mark_column st.live) ≡ true = and_right _ _ (and_left _ _ g) in
      let p : all (place_fits st.kind st.entries (txn_column st.live st.entries)) st.live ≡ true = and_right _ _ (and_left _ _ (and_left _ _ g)) in
      let a : all (entry_right st.kind) st.entries ≡ true = and_left _ _ (and_left _ _ (and_left _ _ (and_left _ _ g))) in
      let u : distinct (txn_column st.live st.entries) ≡ true = and_right _ _ (and_left _ _ (and_left _ _ (and_left _ _ g))) in
      let x : all is_no_entry (drop st.kind.slots st.entries) ≡ true = none-past-is st.kind st.live st.entries hl a st.kind.slots ∙ and_right _ _ h in
      let f' = all-map-is (λ (l : Live). slot_mark l.phase) (slot_free st.kind.slots (txn_column st.live st.entries)) st.live ∙ f in
      and_intro _ _
      (and_intro _ _
      (and_intro _ _ (and_intro _ _ a x)
      (all-by (place_fits st.kind st.entries (txn_column st.live st.entries)) (λ l. place_right st l.phase l) st.live
      (λ l e q.
      parts-place st (txn_column st.live st.entries) slot-at l l.phase refl (and_left _ _ q)
      (reads-by (named_by st.entries (txn_column st.live st.entries)) (names st.entries) l (λ r z. named-names st.live st.entries hl he r z) (and_right _ _ q))
      (all-mem (λ (x : Live). slot_free st.kind.slots (txn_column st.live st.entries) (slot_mark x.phase)) st.live f' l e)) p))
      u)
      m

  sound-is : sound st ≡ parts st.kind st.live st.entries
  sound-is = same_test (sound st) (parts st.kind st.live st.entries) to-parts of_parts

  -- no station with a wrong entry is sound
  pub sound-wrong : all (entry_right st.kind) st.entries ≡ false → sound st ≡ false
  unfolding parts ◌and◌
  sound-wrong e = sound-is ∙ rw e

  -- by the columns and the number of slots that are at hand, where the entries are right
  pub sound-by : (ts ms : List ℕ) (n : ℕ) → txn_column st.live st.entries ≡ ts → mark_column st.live ≡ ms → st.kind.slots ≡ n → all (entry_right st.kind) st.entries ≡ true
      → sound st ≡ (distinct ts and all (place_fits st.kind st.entries ts) st.live and distinct ms and all (slot_free n ts) ms and none_past n ts)
  unfolding parts ◌and◌
  sound-by ts ms n t m s e =
      sound-is ∙ (λ i. e i and distinct (t i) and all (place_fits st.kind st.entries (t i)) st.live and distinct (m i) and all (slot_free (s i) (t i)) (m i) and none_past (s i) (t i))
