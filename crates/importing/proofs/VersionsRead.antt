-- The versions of a transaction, read one after the other and written as version records into a slot.
use Prim.Native.Nat.{ℕ, suc, ◌+◌, ◌*◌, ◌-◌, ◌<◌, ◌≤◌}
use mathlib.Core.Path.{◌≡◌, refl, sym, ap, ap₂, ◌∙◌}
use mathlib.Core.Logic.{◌⊎◌, inl, inr}
use mathlib.Core.Bool.{Bool, true, false, not, ◌&&◌}
use mathlib.Core.List.{List, [], ◌∷◌, ◌++◌, map, map-append, append-nil, append_assoc}
use mathlib.Core.Option.{some, none}
use lib.ListN.{length, take, drop, length-append, length-drop}
use lib.Seq.{take-add, take_at, drop_at, length-take-le, take-append_seam, get_or-append_seam}
use lib.Dec.{eqb}
use native.Mathlib.Omega.{arith}
use borrow.Author.Tests.{ltb-true, lt-ltb, le-ltb, not-true, not-false}
use borrow.Rule.Slice.PartMut.{put_mid, post_of, mid_len, same_len_mid}
use Rattle.model.specs.declared.Id.{Id}
use Rattle.model.specs.Types.{Write}
use Rattle.model.specs.Ids.{same_id}
use Rattle.model.specs.Lists.{◌and◌, member, ascending}
use Rattle.model.specs.Limits.{keys, record_size}
use Rattle.model.specs.Kinds.{narrow_kind, slot_size}
use Rattle.model.specs.KeySets.{key_set}
use Rattle.model.specs.Lives.{write_key}
use Rattle.model.specs.Records.{version_record}
use Rattle.model.proofs.Tests.{and_right, and_intro, and-none-left, and-none-right}
use Rattle.model.proofs.InsertLaws.{ascending-head, ascending-tail, ascending-cons}
use Rattle.model.proofs.KeySetLaws.{set-none}
use Rattle.model.proofs.RecordLaws.{length-version}
use Rattle.keysets.specs.Parts.{AlsoHas}
use Rattle.keysets.proofs.MadeLaws.{made_more, made_all}
use Rattle.resp.specs.Inverse.{Version, closed, goes_on, onward, version_in, versions_from, transaction_in}
use Rattle.resp.specs.Imports.{version_records}
use Rattle.resp.proofs.ThenLaws.{then_some, then-none}
use Rattle.resp.proofs.VersionBack.{version-is, version-shorter}
use Rattle.importing.specs.Passes.{VersionsFound}

-- ── what is read ──
pub none_first : (bs : List ℕ) → version_in bs ≡ none → transaction_in bs ≡ none
unfolding transaction_in
none_first bs h = then-none _ _ h

pub key-low : (bs : List ℕ) (v : Version) → version_in bs ≡ some v → v.write.key < keys
key-low bs v h = (version-is bs v h).fits.key-low

module _ (more : ℕ) (i : Id) (k : ℕ) (ws : List Write) (bs : List ℕ) where
  versions-end : version_in bs ≡ none → versions_from (suc more) i k ws bs ≡ closed i ws bs
  unfolding versions_from onward
  versions-end h = rw h

  module _ (v : Version) (h : version_in bs ≡ some v) where
    versions-next : goes_on i k v ≡ true → versions_from (suc more) i k ws bs ≡ versions_from more i v.write.key (ws ++ (v.write ∷ [])) v.rest
    unfolding versions_from onward
    versions-next g = rw (h, g)

    versions-not : goes_on i k v ≡ false → versions_from (suc more) i k ws bs ≡ none
    unfolding versions_from onward
    versions-not g = rw (h, g)

-- ── whether one goes on, as the code tests it: by ids that are not equal, and keys ──
module _ (i : Id) (last : ℕ) (v : Version) {r : Bool} (h : r ≡ not (eqb v.id.clock i.clock && eqb v.id.txn i.txn)) where
  other : r ≡ not (same_id v.id i)
  unfolding same_id ◌and◌
  other = h ∙ (elim (eqb v.id.clock i.clock) as (λ t. not (t && eqb v.id.txn i.txn) ≡ not (t and eqb v.id.txn i.txn)) [ true ↦ refl | false ↦ refl ])

  pub goes-not : (r ≡ true) ⊎ ((r ≡ false) × (v.write.key ≤ last)) → goes_on i last v ≡ false
  unfolding goes_on
  goes-not (inl e) = and-none-left _ _ (not-true _ (sym other ∙ e))
  goes-not (inr e) = and-none-right _ _ (le-ltb last v.write.key e.1)

  pub goes : r ≡ false → last < v.write.key → goes_on i last v ≡ true
  unfolding goes_on
  goes e o = and_intro _ _ (not-false _ (sym other ∙ e)) (lt-ltb last v.write.key o)

-- ── the keys ──
ascending-more : (lo last k : ℕ) (ks : List ℕ) → ascending lo (suc last) ks ≡ true → last < k → lo ≤ k → ascending lo (suc k) (ks ++ (k ∷ [])) ≡ true
unfolding ascending
ascending-more lo last k [] h l o = ascending-cons lo (suc k) k [] o (omega arith) refl
ascending-more lo last k (n ∷ ns) h l o =
    let r = ascending-head lo (suc last) n ns h in
    ascending-cons lo (suc k) n (ns ++ (k ∷ [])) r.0 (omega (arith, r.1)) (ascending-more (suc n) last k ns (ascending-tail lo (suc last) n ns h) l (omega (arith, r.1)))

ascending-till : (lo hi hi' : ℕ) (ks : List ℕ) → hi ≤ hi' → ascending lo hi ks ≡ true → ascending lo hi' ks ≡ true
unfolding ascending
ascending-till lo hi hi' [] o h = refl
ascending-till lo hi hi' (n ∷ ns) o h =
    let r = ascending-head lo hi n ns h in
    ascending-cons lo hi' n ns r.0 (omega (arith, r.1)) (ascending-till (suc n) hi hi' ns o (ascending-tail lo hi n ns h))

-- a set with one key more at the end
set_more : (set k r : ℕ) (ks : List ℕ) → key_set set ≡ ks → ascending 0 (suc k) (ks ++ (k ∷ [])) ≡ true → k < keys → AlsoHas set k r → key_set r ≡ ks ++ (k ∷ [])
set_more set k r ks e a o h =
    let all = ks ++ (k ∷ []) in
    made_all all (length ks + 1) r (omega (arith, length-append ks (k ∷ []))) (ascending-till 0 (suc k) keys all (omega arith) a)
    (made_more all (length ks) set r k (omega (arith, length-append ks (k ∷ []))) (sym (get_or-append_seam ks k [] 0))
    (λ (j : ℕ). ap (member j) (e ∙ sym (take-append_seam ks (k ∷ [])))) h)

-- ── the records ──
records-more : (i : Id) (ws : List Write) (w : Write) → version_records i (ws ++ (w ∷ [])) ≡ version_records i ws ++ version_record w.key i w.value
unfolding version_records
records-more i [] w = append-nil (version_record w.key i w.value)
records-more i (v ∷ ws) w =
    let r = version_record v.key i v.value in
    ap (λ (l : List ℕ). r ++ l) (records-more i ws w) ∙ sym (append_assoc r (version_records i ws) (version_record w.key i w.value))

-- y written after m bytes that stand a bytes in
written_after : (s y z : List ℕ) (a m k : ℕ) → a + m ≤ length s → length y ≡ k → take (m + k) (drop a (take (a + m) s ++ (y ++ z))) ≡ take m (drop a s) ++ y
written_after s y z a m k o l =
    let p = take m (drop a s) in
    let long : length p ≡ m = length-take-le m (drop a s) (omega (arith, length-drop a s)) in
    let e : take (a + m) s ++ (y ++ z) ≡ take a s ++ ((p ++ y) ++ z)
    = ap (λ (x : List ℕ). x ++ (y ++ z)) (take-add a m s) ∙ append_assoc (take a s) p (y ++ z) ∙ ap (λ (x : List ℕ). take a s ++ x) (sym (append_assoc p y z)) in
    ap (λ (x : List ℕ). take (m + k) (drop a x)) e
    ∙ ap (take (m + k)) (drop_at (take a s) ((p ++ y) ++ z) a (length-take-le a s (omega arith)))
    ∙ take_at (p ++ y) z (m + k) (omega (arith, length-append p y))

-- ── the loop ──
-- n versions are read, and `rest` is left of the stream; their keys are the set, the last of them `last`
pub record VersionsSoFar (i : Id) (bs slot : List ℕ) (set last : ℕ) (rest : List ℕ) (n : ℕ) : Type 0 where
  pub writes : List Write
  pub count : length writes ≡ n
  pub some-write : 1 ≤ n
  pub few : n ≤ narrow_kind.write_limit
  pub keys-are : key_set set ≡ map write_key writes
  pub ascends : ascending 0 (suc last) (key_set set) ≡ true
  pub inside : length rest ≤ length bs
  pub left : transaction_in bs ≡ versions_from (8 - n) i last writes rest
  pub long : length slot ≡ slot_size narrow_kind
  pub records : take (record_size * n) (drop record_size slot) ≡ version_records i writes

-- the slot s with the record y at a place
abbrev pub over : List ℕ → ℕ → List ℕ → List ℕ
over s place y = put_mid place (place + record_size - place) s y

pub over-long : (s : List ℕ) (place : ℕ) (y : List ℕ) → place + record_size ≤ length s → length y ≡ record_size → length (over s place y) ≡ length s
over-long s place y o l = same_len_mid place (place + record_size - place) s y (l ∙ sym (mid_len place (place + record_size) s o ∙ omega arith))

pub reading-starts : (i : Id) (bs slot y : List ℕ) (k x : ℕ) (rest : List ℕ) (set : ℕ) → length slot ≡ slot_size narrow_kind
    → version_in bs ≡ some (record { id = i; write = record { key = k; value = x }; rest = rest })
    → y ≡ version_record k i x → AlsoHas 0 k set → VersionsSoFar i bs (over slot record_size y) set k rest 1
unfolding transaction_in version_records ascending
reading-starts i bs slot y k x rest set l h e a =
    let z : length y ≡ record_size = ap length e ∙ length-version k i x in
    let up : ascending 0 (suc k) (k ∷ []) ≡ true = ascending-cons 0 (suc k) k [] (omega arith) (omega arith) refl in
    let ks : key_set set ≡ k ∷ [] = set_more 0 k set [] set-none up (key-low bs _ h) a in
    record {
      writes = record { key = k; value = x } ∷ [];
      count = refl;
      some-write = omega arith;
      few = omega arith;
      keys-are = ks;
      ascends = ap (ascending 0 (suc k)) ks ∙ up;
      inside = omega (arith, version-shorter bs _ h);
      left = then_some _ _ _ h;
      long = over-long slot record_size y (omega arith) z ∙ l;
      records = written_after slot y _ record_size 0 record_size (omega arith) z ∙ e ∙ sym (append-nil (version_record k i x));
    }

-- what was read is a transaction's whole versions
found : (i : Id) (bs slot : List ℕ) (set last : ℕ) (rest : List ℕ) (n : ℕ) (r : VersionsSoFar i bs slot set last rest n) → transaction_in bs ≡ closed i r.writes rest → VersionsFound i set rest bs slot
found i bs slot set last rest n r e = record {
  writes = r.writes;
  keys-are = sym r.keys-are;
  some-write = omega (arith, r.some-write, r.count);
  writes-fit = omega (arith, r.few, r.count);
  inside = r.inside;
  left = e;
  long = r.long;
  records = ap (λ (m : ℕ). take (record_size * m) (drop record_size slot)) r.count ∙ r.records;
}

module _ {i : Id} {bs slot : List ℕ} {set last : ℕ} {rest : List ℕ} {n : ℕ} (r : VersionsSoFar i bs slot set last rest n) where
  pub reading-full : 8 ≤ n → VersionsFound i set rest bs slot
  unfolding versions_from
  reading-full o =
      let z : 8 - n ≡ 0 = omega arith in
      found i bs slot set last rest n r (r.left ∙ ap (λ (m : ℕ). versions_from m i last r.writes rest) z)

  module _ (o : n < 8) where
    left-next : transaction_in bs ≡ versions_from (suc (7 - n)) i last r.writes rest
    left-next =
        let z : 8 - n ≡ suc (7 - n) = omega arith in
        r.left ∙ ap (λ (m : ℕ). versions_from m i last r.writes rest) z

    pub reading-ends : version_in rest ≡ none → VersionsFound i set rest bs slot
    reading-ends h = found i bs slot set last rest n r (left-next ∙ versions-end (7 - n) i last r.writes rest h)

    -- one more
    module _ {v : Version} (h : version_in rest ≡ some v) where
      pub reading-stops : goes_on i last v ≡ false → transaction_in bs ≡ none
      reading-stops g = left-next ∙ versions-not (7 - n) i last r.writes rest v h g

      pub reading-next : goes_on i last v ≡ true → (y : List ℕ) → y ≡ version_record v.write.key i v.write.value → (set' : ℕ) → AlsoHas set v.write.key set'
          → VersionsSoFar i bs (over slot (record_size * (n + 1)) y) set' v.write.key v.rest (n + 1)
      unfolding goes_on
      reading-next g y e set' a =
          let w : Write = v.write in
          let k : ℕ = w.key in
          let z : length y ≡ record_size = ap length e ∙ length-version k i w.value in
          let up = ascending-more 0 last k (key_set set) r.ascends (ltb-true last k (and_right _ _ g)) (omega arith) in
          let ks : key_set set' ≡ key_set set ++ (k ∷ []) = set_more set k set' (key_set set) refl up (key-low rest v h) a in
          let p : record_size * (n + 1) ≡ record_size + record_size * n = omega arith in
          let q : record_size * (n + 1) ≡ record_size * n + record_size = omega arith in
          let d : 7 - n ≡ 8 - (n + 1) = omega arith in
          let tail : List ℕ = y ++ post_of (record_size * (n + 1)) (record_size * (n + 1) + record_size - record_size * (n + 1)) slot in
          record {
            writes = r.writes ++ (w ∷ []);
            count = length-append r.writes (w ∷ []) ∙ ap (λ (c : ℕ). c + 1) r.count;
            some-write = omega arith;
            few = omega arith;
            keys-are = ks ∙ ap (λ (l : List ℕ). l ++ (k ∷ [])) r.keys-are ∙ sym (map-append write_key r.writes (w ∷ []));
            ascends = ap (ascending 0 (suc k)) ks ∙ up;
            inside = omega (arith, r.inside, version-shorter rest v h);
            left = left-next ∙ versions-next (7 - n) i last r.writes rest v h g ∙ ap (λ (c : ℕ). versions_from c i k (r.writes ++ (w ∷ [])) v.rest) d;
            long = over-long slot (record_size * (n + 1)) y (omega (arith, r.long, o)) z ∙ r.long;
            records =
                ap₂ (λ (b c : ℕ). take b (drop record_size (take c slot ++ tail))) q p
                ∙ written_after slot y _ record_size (record_size * n) record_size (omega (arith, r.long, o)) z
                ∙ ap₂ (λ (b c : List ℕ). b ++ c) r.records e ∙ sym (records-more i r.writes w);
          }
