-- What is read of a slot's bytes, step by step.
use Prim.Native.Nat.{ℕ, suc, ◌+◌, ◌*◌, ◌-◌, ◌≤◌}
use mathlib.Core.Path.{◌≡◌, refl, sym, ap, ap₂, subst, ◌∙◌}
use mathlib.Core.Logic.{◌≢◌}
use mathlib.Core.Bool.{Bool, true, false}
use mathlib.Core.List.{List, [], ◌∷◌}
use lib.Dec.{eqb, leb, lit<}
use lib.ListN.{length, take, drop, get_or, length-drop}
use lib.Seq.{get_or-take, length-take-le}
use native.Mathlib.Omega.{arith}
use borrow.Rule.Slice.PartMut.{mid_len}
use native.Mathlib.Numerals.{add-one}
use borrow.Author.Tests.{eq-eqb, ne_eqb}
use Rattle.std.proofs.Common.{Some, None}
use Rattle.model.specs.declared as machine
use Rattle.model.specs.declared.Id.{Id}
use Rattle.model.specs.Types.{Entry}
use Rattle.model.specs.Lists.{◌and◌, same}
use Rattle.model.specs.Limits.{keys_size, record_size}
use Rattle.model.specs.Kinds.{Kind, narrow_kind, wide_kind, slot_size, slot_start}
use Rattle.model.specs.Bytes.{bytes, number}
use Rattle.model.specs.KeySets.{key_set, set_number}
use Rattle.model.specs.Entries.{mark_in, entry_in, free_mark, carries_keys, entry_rules, commit_rules, keys_of}
use Rattle.model.specs.Records.{carries_version, record_place, record_at}
use Rattle.model.specs.Slots.{Seen, committed, versions_carry, judged, seen}
use Rattle.model.proofs.Tests.{and-none-left, and_assoc}
use Rattle.model.proofs.KeySetLaws.{set-ascends, set-number}
use Rattle.model.proofs.RecordLaws.{Bytes, bytes_take, bytes_drop, bytes-number, same_refl, record-part}
use Rattle.model.specs.Ranges.{IsByte}
use Rattle.model.proofs.ListLaws.{every_of}
use Rattle.model.proofs.RangesKept.{number-below}
use Rattle.records.specs.declared.Fields.{Fields}
use Rattle.records.specs.declared.Slot.TheVariants.{Free, Committed, Damaged}
use Rattle.records.specs.Fields.{fields_in, first_keys, field_rules, number_rules, is_commit, rest_rules, IsWritten}
use Rattle.records.specs.SlotView.{seen_as}
use Rattle.records.proofs.FieldLaws.{entry-fields, rules-fields}

-- ── the version records ──
pub part_length : (w : List ℕ) (a k : ℕ) → a + k ≤ length w → length (take (a + k - a) (drop a w)) ≡ k
part_length w a k h = mid_len a (a + k) w h ∙ omega arith

part-record : (κ : Kind) (w : List ℕ) (n : ℕ) → take (record_size * (n + 1) + record_size - record_size * (n + 1)) (drop (record_size * (n + 1)) w) ≡ record_at κ w 0 (n + 1)
unfolding slot_start
part-record κ w n = record-part κ w 0 (n + 1) (record_size * (n + 1)) (omega arith)

pub carried : (w : List ℕ) (i : Id) (n k : ℕ) (b : Bool) → b ≡ carries_version (take (record_size * (n + 1) + record_size - record_size * (n + 1)) (drop (record_size * (n + 1)) w)) k i
    → (κ : Kind) → carries_version (record_at κ w 0 (n + 1)) k i ≡ b
carried w i n k b e κ = ap (λ (r : List ℕ). carries_version r k i) (sym (part-record κ w n)) ∙ sym e

-- the records above n are to carry the keys left, and the slot has them
pub record Left (w : List ℕ) (i : Id) (whole left : List ℕ) (n : ℕ) : Type 0 where
  pub room : record_size * (n + length left + 1) ≤ length w
  pub kept : (κ : Kind) → versions_carry (record_at κ w 0) i 1 whole ≡ versions_carry (record_at κ w 0) i (n + 1) left

module _ (w : List ℕ) (i : Id) (whole : List ℕ) where
  pub left-starts : record_size * (length whole + 1) ≤ length w → Left w i whole whole 0
  left-starts h = record { room = omega (arith, h); kept = λ κ. refl }

  module _ (left : List ℕ) (n k : ℕ) (h : Left w i whole (k ∷ left) n) where
    pub left-next : ((κ : Kind) → carries_version (record_at κ w 0 (n + 1)) k i ≡ true) → Left w i whole left (n + 1)
    unfolding versions_carry ◌and◌
    left-next c = record {
      room = omega (arith, h.room);
      kept = λ κ. h.kept κ ∙ (ap (λ (b : Bool). b and versions_carry (record_at κ w 0) i (suc (n + 1)) left) (c κ) ∙ ap (λ (x : ℕ). versions_carry (record_at κ w 0) i x left) (sym (add-one (n + 1))));
    }

    pub left-not : (κ : Kind) → carries_version (record_at κ w 0 (n + 1)) k i ≡ false → versions_carry (record_at κ w 0) i 1 whole ≡ false
    unfolding versions_carry
    left-not κ c = h.kept κ ∙ and-none-left _ _ c

  pub left-ends : (left : List ℕ) (n : ℕ) → Left w i whole left n → left ≡ [] → (κ : Kind) → versions_carry (record_at κ w 0) i 1 whole ≡ true
  unfolding versions_carry
  left-ends left n h e κ = h.kept κ ∙ ap (versions_carry (record_at κ w 0) i (n + 1)) e

-- ── the slot ──
module _ (κ : Kind) (w : List ℕ) where
  first-record : record_at κ w 0 0 ≡ take record_size w
  unfolding record_at slot_start
  first-record = let e : record_place κ 0 0 ≡ 0 = omega arith in ap (λ (k : ℕ). take record_size (drop k w)) e

  abbrev judged_by : List ℕ → Seen
  judged_by r = judged (eqb (mark_in r) free_mark) (commit_rules κ r and versions_carry (record_at κ w 0) (entry_in κ r).id 1 (keys_of (entry_in κ r))) (entry_in κ r)

  -- the rules are those of the mark and the zeros, and the rest
  rules-split : (r : List ℕ) (v : Bool) → (commit_rules κ r and v) ≡ (is_commit κ r and ((carries_keys κ r (keys_of (entry_in κ r)) and entry_rules κ (entry_in κ r)) and v))
  unfolding commit_rules is_commit
  rules-split r v =
      let h : Bool = eqb (mark_in r) κ.mark and eqb (get_or r 2 0) 0 and eqb (get_or r 3 0) 0 in
      let c : Bool = carries_keys κ r (keys_of (entry_in κ r)) in
      let e : Bool = entry_rules κ (entry_in κ r) in
      ap (λ (b : Bool). b and v) (sym (and_assoc h c e)) ∙ sym (and_assoc h (c and e) v)

  slot_is : (a b c : Bool) → eqb (get_or w 0 0) free_mark ≡ a → is_commit κ (take record_size w) ≡ b → rest_rules κ w ≡ c → seen κ w 0 ≡ judged a (b and c) (entry_in κ (take record_size w))
  unfolding seen rest_rules mark_in
  slot_is a b c p q r =
      ap judged_by first-record
      ∙ ap₂ (λ (x y : Bool). judged x y (entry_in κ (take record_size w)))
      (ap (λ (n : ℕ). eqb n free_mark) (get_or-take record_size w 0 0 (lit< tt)) ∙ p)
      (rules-split (take record_size w) _ ∙ ap₂ (λ (x y : Bool). x and y) q r)

  pub slot-free : get_or w 0 0 ≡ free_mark → seen_as Free ≡ seen κ w 0
  unfolding seen_as judged
  slot-free h = sym (slot_is true (is_commit κ (take record_size w)) (rest_rules κ w) (eq-eqb _ free_mark h) refl refl)

  module _ (m : get_or w 0 0 ≢ free_mark) where
    pub slot-no-commit : is_commit κ (take record_size w) ≡ false → seen_as Damaged ≡ seen κ w 0
    unfolding seen_as judged ◌and◌
    slot-no-commit h = sym (slot_is false false (rest_rules κ w) (ne_eqb _ free_mark m) h refl)

    module _ (c : is_commit κ (take record_size w) ≡ true) where
      pub slot-unwritten : IsWritten κ w None → seen_as Damaged ≡ seen κ w 0
      unfolding seen_as judged ◌and◌ IsWritten
      slot-unwritten h = sym (slot_is false true false (ne_eqb _ free_mark m) c h)

      pub slot-committed : (e : machine.Entry.Entry) → IsWritten κ w (Some e) → seen_as (Committed e) ≡ seen κ w 0
      unfolding seen_as judged ◌and◌ IsWritten
      slot-committed e h = ap committed h.1 ∙ sym (slot_is false true true (ne_eqb _ free_mark m) c h.0)

-- ── the rest of the rules, by the fields ──
module _ (w : List ℕ) (f : Fields) (q : f ≡ fields_in (take record_size w)) where
  -- of a narrow slot
  module _ (l : length w ≡ slot_size narrow_kind) where
    pub entry-is : entry_in narrow_kind (take record_size w) ≡ record { id = f.id; keys = first_keys f }
    entry-is = entry-fields (take record_size w) ∙ ap (λ (x : Fields). record { id = x.id; keys = first_keys x }) (sym q)

    pub narrow_rest : rest_rules narrow_kind w ≡ (field_rules f and versions_carry (record_at narrow_kind w 0) f.id 1 (first_keys f))
    unfolding rest_rules
    narrow_rest = ap₂ (λ (x y : Bool). x and y)
        (rules-fields (take record_size w) (length-take-le record_size w (omega arith)) ∙ ap field_rules (sym q))
        (ap (λ (x : Entry). versions_carry (record_at narrow_kind w 0) x.id 1 (keys_of x)) entry-is)

  -- of a wide slot
  module _ (l : length w ≡ slot_size wide_kind) (b : Bytes w) where
    abbrev n : ℕ
    n = number f.keys

    pub wide-entry : entry_in wide_kind (take record_size w) ≡ record { id = f.id; keys = key_set n }
    unfolding entry_in fields_in
    wide-entry = ap (λ (x : Fields). record { id = x.id; keys = key_set (number x.keys) }) (sym q)

    key-bytes : Bytes f.keys
    unfolding fields_in
    key-bytes = subst (λ (x : Fields). Bytes x.keys) (sym q) (bytes_take keys_size (drop 16 (take record_size w)) (bytes_drop 16 (take record_size w) (bytes_take record_size w b)))

    eight : length f.keys ≡ keys_size
    unfolding fields_in
    eight = ap (λ (x : Fields). length x.keys) q ∙ length-take-le keys_size (drop 16 (take record_size w)) (omega (arith, l, length-drop 16 (take record_size w), length-take-le record_size w (omega (arith, l))))

    -- its key bytes are the number's: every eight bytes are
    bytes_same : same f.keys (bytes keys_size (set_number (key_set n))) ≡ true
    bytes_same = ap (same f.keys) (ap (bytes keys_size) (set-number n (number-below keys_size f.keys eight (every_of IsByte f.keys 0 key-bytes))) ∙ bytes-number keys_size f.keys eight key-bytes) ∙ same_refl f.keys

    gathered : (c s a m t k u : Bool) → s ≡ true → u ≡ true → ((c and s) and (a and m and t and k and u)) ≡ (c and a and m and t and k)
    unfolding ◌and◌
    gathered c s a m t k u p r = go c a m t k
      where
        go : (c a m t k : Bool) → ((c and s) and (a and m and t and k and u)) ≡ (c and a and m and t and k)
        go false a m t k = refl
        go true false m t k = p' (false and m and t and k and u)
          where
            p' : (x : Bool) → (s and x) ≡ x
            p' x = rw p
        go true true false t k = rw p
        go true true true false k = rw p
        go true true true true false = rw p
        go true true true true true = rw (p, r)

    pub wide-rest : rest_rules wide_kind w ≡ (number_rules f.count (key_set n) f.id and versions_carry (record_at wide_kind w 0) f.id 1 (key_set n))
    unfolding rest_rules carries_keys entry_rules number_rules fields_in
    wide-rest = ap₂ (λ (x y : Bool). x and y)
        (ap (λ (x : Entry). carries_keys wide_kind (take record_size w) (keys_of x) and entry_rules wide_kind x) wide-entry
        ∙ (ap (λ (x : Fields). (eqb x.count (length (key_set n)) and same x.keys (bytes keys_size (set_number (key_set n)))) and entry_rules wide_kind (record { id = f.id; keys = key_set n })) (sym q)
        ∙ gathered (eqb f.count (length (key_set n))) _ (leb 1 (length (key_set n))) (leb (length (key_set n)) wide_kind.write_limit) (leb 1 f.id.txn) (leb 1 f.id.clock) _ bytes_same (set-ascends n)))
        (ap (λ (x : Entry). versions_carry (record_at wide_kind w 0) x.id 1 (keys_of x)) wide-entry)
