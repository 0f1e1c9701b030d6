-- A store that keeps the rules has a committed set that a stream may have (specs/Streams, `CommittedSet`), of at most 64.
use Prim.Native.Nat.{ℕ, suc, ◌+◌, ◌^◌, ◌<◌, ◌≤◌}
use mathlib.Core.Path.{◌≡◌, refl, sym, ap, subst, ◌∙◌}
use mathlib.Core.Logic.{◌≢◌}
use mathlib.Core.Bool.{true, false}
use mathlib.Core.List.{List, [], ◌∷◌, map, Memᴰ}
use lib.ListN.{length, take, drop, length-drop}
use lib.Seq.{length-take-le}
use native.Mathlib.Omega.{arith}
use borrow.Author.Tests.{ne_eqb}
use Rattle.model.specs.Types.{Entry, Write}
use Rattle.model.specs.Lists.{any, member, distinct}
use Rattle.model.specs.Limits.{record_size, byte_range, number_range}
use Rattle.model.specs.Kinds.{narrow_kind, width, store_size}
use Rattle.model.specs.Bytes.{number, id_in}
use Rattle.model.specs.Entries.{keys_of, entry_in, entry_rules}
use Rattle.model.specs.Records.{value_in, record_place, record_at}
use Rattle.model.specs.Lives.{write_key}
use Rattle.model.specs.Ranges.{Every, IsByte}
use Rattle.model.specs.Slots.{committed, seen}
use Rattle.model.proofs.ListLaws.{every_take, every_drop, member-no}
use Rattle.model.proofs.DistinctLaws.{distinct_cons}
use Rattle.model.proofs.RecordLaws.{place_inside}
use Rattle.model.proofs.SlotLaws.{rules-some, rules-count, rules-txn, rules-clock, rules-ascending, committed-entry, committed-rules}
use Rattle.model.proofs.ScanLaws.{KeepsRules}
use Rattle.model.proofs.RangesKept.{number-below}
use Rattle.resp.specs.Streams.{Transaction, TransactionFits, none_twice, CommittedSet}
use Rattle.resp.specs.Exports.{writes_at, transaction_at, committed_set}
use Rattle.resp.proofs.AgeLaws.{Apart, ascends-first}
use Rattle.resp.proofs.SlotSet.{txn_of, set-mem, set_apart, set-ascends}

-- ── no number twice ──
not-member : (n : ℕ) (xs : List Transaction) → ((y : Transaction) → Memᴰ y xs → n ≢ txn_of y) → member n (map txn_of xs) ≡ false
not-member n [] f = unfold member any in refl
not-member n (x ∷ xs) f = member-no n (txn_of x) (map txn_of xs) (ne_eqb n (txn_of x) (f x (Memᴰ.head refl))) ∙ not-member n xs (λ y m. f y (Memᴰ.tail m))

pub apart-once : (xs : List Transaction) → Apart txn_of xs → distinct (map txn_of xs) ≡ true
apart-once [] a = unfold distinct in refl
apart-once (x ∷ xs) a = distinct_cons (txn_of x) (map txn_of xs) (not-member (txn_of x) xs a.0) (apart-once xs a.1)

-- ── the writes of a slot ──
pub writes-length : (s : List ℕ) (d n : ℕ) (ks : List ℕ) → length (writes_at s d n ks) ≡ length ks
unfolding writes_at
writes-length s d n [] = refl
writes-length s d n (k ∷ ks) = ap suc (writes-length s d (suc n) ks)

pub writes-keys : (s : List ℕ) (d n : ℕ) (ks : List ℕ) → map write_key (writes_at s d n ks) ≡ ks
unfolding writes_at
writes-keys s d n [] = refl
writes-keys s d n (k ∷ ks) = ap (λ (l : List ℕ). k ∷ l) (writes-keys s d (suc n) ks)

every-mem : {A : Type 0} (P : A → Type 0) (xs : List A) → ((x : A) → Memᴰ x xs → P x) → Every P xs
every-mem P [] f = tt
every-mem P (x ∷ xs) f = (f x (Memᴰ.head refl), every-mem P xs (λ y m. f y (Memᴰ.tail m)))

-- ── a store of bytes ──
module _ (s : List ℕ) (l : length s ≡ store_size narrow_kind) (bs : Every IsByte s) where
  -- a number in a record
  part-below : (d n at m : ℕ) → d < narrow_kind.slots → n < width narrow_kind → at + m ≤ record_size → number (take m (drop at (record_at narrow_kind s d n))) < byte_range ^ m
  part-below d n at m od on o =
      number-below m (take m (drop at r)) (length-take-le m (drop at r) (omega (arith, length-drop at r, long))) (every_take IsByte m (drop at r) (every_drop IsByte at r are))
    where
      r : List ℕ
      r = record_at narrow_kind s d n

      long : length r ≡ record_size
      long = unfold record_at in length-take-le record_size (drop (record_place narrow_kind d n) s) (omega (arith, length-drop (record_place narrow_kind d n) s, place_inside narrow_kind d n od on))

      are : Every IsByte r
      are = unfold record_at in every_take IsByte record_size (drop (record_place narrow_kind d n) s) (every_drop IsByte (record_place narrow_kind d n) s bs)

  values-below : (d n : ℕ) (ks : List ℕ) → d < narrow_kind.slots → n + length ks ≤ width narrow_kind → Every (λ (w : Write). w.value < number_range) (writes_at s d n ks)
  unfolding writes_at value_in
  values-below d n [] od o = tt
  values-below d n (k ∷ ks) od o = (part-below d n 16 8 od (omega arith) (omega arith), values-below d (suc n) ks od (omega arith))

  slot-fits : (d : ℕ) (e : Entry) → d < narrow_kind.slots → seen narrow_kind s d ≡ committed e → TransactionFits (transaction_at s d e)
  unfolding transaction_at
  slot-fits d e od h = record {
    clock-from = rules-clock narrow_kind e rules;
    clock64 = subst (λ (x : Entry). x.id.clock < number_range) is (unfold entry_in id_in in part-below d 0 8 8 od (omega arith) (omega arith));
    txn-from = omega (arith, rules-txn narrow_kind e rules);
    txn32 = subst (λ (x : Entry). x.id.txn < 2 ^ 32) is (unfold entry_in id_in in part-below d 0 4 4 od (omega arith) (omega arith));
    some-write = rw (writes-length s d 1 (keys_of e)) (rules-some narrow_kind e rules);
    writes-fit = rw (writes-length s d 1 (keys_of e)) (rules-count narrow_kind e rules);
    ascends = rw (writes-keys s d 1 (keys_of e)) (rules-ascending narrow_kind e rules);
    values = values-below d 1 (keys_of e) od (omega (arith, rules-count narrow_kind e rules));
  }
    where
      is : entry_in narrow_kind (record_at narrow_kind s d 0) ≡ e
      is = committed-entry narrow_kind s d e h

      rules : entry_rules narrow_kind e ≡ true
      rules = committed-rules narrow_kind s d e h

  pub stored-set : KeepsRules narrow_kind s → CommittedSet (committed_set s)
  stored-set k = record {
    fit = every-mem TransactionFits (committed_set s) (λ z m. let r = set-mem s z m in subst TransactionFits (sym r.is) (slot-fits r.slot r.entry r.high r.seen_as));
    ordered = ascends-first (committed_set s) (set-ascends s k);
    once = unfold none_twice in apart-once (committed_set s) (set_apart s k);
  }
