-- A stream read up to a place: what holds of the transactions passed, one transaction more, where the stream is none, and at its end.
use Prim.Native.Nat.{ℕ, ◌+◌, ◌*◌, ◌-◌, ◌<◌, ◌≤◌, min}
use mathlib.Core.Path.{◌≡◌, refl, sym, ap, ap₂, ◌∙◌}
use mathlib.Core.Logic.{◌≢◌}
use mathlib.Core.Bool.{true, false}
use mathlib.Core.List.{List, [], ◌∷◌, ◌++◌, map-append, append_assoc, append-nil}
use mathlib.Core.Option.{Option, some, none}
use lib.ListN.{length, take, drop, set, length-append, length-map, length-set, drop_of_length-le}
use lib.Seq.{take_all, take-append-le, drop-append-le, take-suc-set}
use native.Mathlib.Nat.{lt_irrefl, suc-ne-zero}
use native.Mathlib.Omega.{arith}
use native.Mathlib.Numerals.{add-one}
use borrow.Rule.Slice.PartMut.{put_mid, same_len_mid}
use Rattle.model.specs.declared.Id.{Id}
use Rattle.model.specs.Lists.{◌and◌, member, distinct}
use Rattle.model.specs.Kinds.{narrow_kind, slot_size}
use Rattle.model.specs.Ids.{older, no_id}
use Rattle.model.proofs.Tests.{and-none-left, and-none-right}
use Rattle.resp.specs.Streams.{Transaction, oldest_first, none_twice}
use Rattle.resp.specs.Inverse.{◌then◌, transaction_in, sequence_in, transactions_in}
use Rattle.resp.specs.Imports.{slots_down}
use Rattle.resp.proofs.TransactionBack.{transaction-is}
use Rattle.resp.proofs.SequenceLaws.{followed, sequence-step, sequence-stop, sequence-none, stream-none, stream-refused}
use Rattle.importing.specs.Passes.{room_size, TakenFound, once_among, txns_of, PassFound}
use Rattle.importing.proofs.OnceLaws.{once_more, twice}
use Rattle.importing.proofs.AgeLaws.{last_id, last_more, ordered-more, unordered}
use Rattle.importing.proofs.RoomLaws.{room-more}

pub empty : (l : List ℕ) → length l ≡ 0 → l ≡ []
empty [] h = refl
empty (x ∷ l) h = absurd (suc-ne-zero (length l) h)

-- ── transactions before what is read ──
followed-none : (r : Option (List Transaction)) → followed [] r ≡ r
unfolding ◌then◌
followed-none none = refl
followed-none (some ys) = refl

followed-more : (xs : List Transaction) (x : Transaction) (r : Option (List Transaction)) → followed xs (followed (x ∷ []) r) ≡ followed (xs ++ (x ∷ [])) r
unfolding ◌then◌
followed-more xs x none = refl
followed-more xs x (some ys) = ap some (sym (append_assoc xs (x ∷ []) ys))

-- ── n transactions are read, and `left` is left; the numbers of the first `kept`, up to 64, are in a table, and their slots in the room; what comes after these is `rest` ──
pub record Reading (s w₀ w ts : List ℕ) (kept : ℕ) (rest : List ℕ) (last : Id) (n : ℕ) (left : List ℕ) : Type 0 where
  pub passed : List Transaction
  pub read : sequence_in s ≡ followed passed (sequence_in left)
  pub ordered : oldest_first passed ≡ true
  pub newest : last ≡ last_id no_id passed
  pub once : once_among narrow_kind.slots (txns_of passed) ≡ true
  pub count : n ≡ length passed
  pub short : n + length left ≤ length s
  pub kept-are : kept ≡ min n narrow_kind.slots
  pub places : length ts ≡ narrow_kind.slots
  pub column : take kept ts ≡ take narrow_kind.slots (txns_of passed)
  pub shorter : 0 < n → length rest < length s
  pub past : sequence_in rest ≡ followed (drop narrow_kind.slots passed) (sequence_in left)
  pub long : length w ≡ room_size
  pub made : n ≤ narrow_kind.slots → w ≡ take (slot_size narrow_kind * (narrow_kind.slots + 1 - n)) w₀ ++ slots_down passed

pub reading-none : (s w ts : List ℕ) → length ts ≡ narrow_kind.slots → length w ≡ room_size → Reading s w w ts 0 s no_id 0 s
unfolding oldest_first last_id once_among slots_down
reading-none s w ts p l = record {
  passed = [];
  read = sym (followed-none (sequence_in s));
  ordered = refl;
  newest = refl;
  once = refl;
  count = refl;
  short = omega arith;
  kept-are = refl;
  places = p;
  column = refl;
  shorter = λ o. absurd (omega (arith, o));
  past = sym (followed-none (sequence_in s));
  long = l;
  made = λ _. sym (append-nil (take room_size w) ∙ take_all room_size w (omega (arith, l)));
}

module _ {s w₀ w ts : List ℕ} {kept : ℕ} {rest : List ℕ} {last : Id} {n : ℕ} {left : List ℕ} (r : Reading s w₀ w ts kept rest last n left) where
  -- the slot that the next one goes to
  abbrev place : ℕ
  place = slot_size narrow_kind * (narrow_kind.slots - kept)

  -- no transaction comes next
  pub reading-stops : 0 < length left → transaction_in left ≡ none → transactions_in s ≡ none
  unfolding ◌then◌
  reading-stops o h = stream-none s (r.read ∙ ap (followed r.passed) (sequence-stop left o h))

  -- one does
  module _ {i : Id} {more y : List ℕ} (t : TakenFound i more left y) where
    abbrev x : Transaction
    x = t.transaction

    abbrev up_to : List Transaction
    up_to = r.passed ++ (x ∷ [])

    step : sequence_in left ≡ followed (x ∷ []) (sequence_in more)
    step = sequence-step left _ t.read

    txns-more : (ys : List Transaction) → txns_of (r.passed ++ (x ∷ ys)) ≡ txns_of r.passed ++ (i.txn ∷ txns_of ys)
    txns-more ys = map-append (λ (z : Transaction). z.id.txn) r.passed (x ∷ ys) ∙ ap (λ (j : Id). txns_of r.passed ++ (j.txn ∷ txns_of ys)) t.id-is

    -- whatever comes after it, they are none
    fails : ((ys : List Transaction) → (oldest_first (r.passed ++ (x ∷ ys)) and none_twice (r.passed ++ (x ∷ ys))) ≡ false) → transactions_in s ≡ none
    unfolding ◌then◌
    fails f = go (sequence_in more) refl
      where
        all : (z : Option (List Transaction)) → sequence_in more ≡ z → sequence_in s ≡ followed r.passed (followed (x ∷ []) z)
        all z e = r.read ∙ ap (followed r.passed) (step ∙ ap (followed (x ∷ [])) e)

        go : (z : Option (List Transaction)) → sequence_in more ≡ z → transactions_in s ≡ none
        go none e = stream-none s (all none e)
        go (some ys) e = stream-refused s (r.passed ++ (x ∷ ys)) (all (some ys) e) (f ys)

    pub reading-unordered : older last i ≡ false → transactions_in s ≡ none
    reading-unordered h = fails (λ ys. and-none-left _ _ (unordered r.passed x ys (transaction-is left _ t.read).fits.clock-from
        (ap₂ older (sym r.newest) t.id-is ∙ h)))

    pub reading-repeated : member i.txn (take kept ts) ≡ true → transactions_in s ≡ none
    unfolding none_twice
    reading-repeated h = fails (λ ys. and-none-right _ _ (ap distinct (txns-more ys) ∙ twice narrow_kind.slots (txns_of r.passed) (txns_of ys) i.txn some-txn
        (ap (member i.txn) (sym r.column) ∙ h)))
      where
        some-txn : i.txn ≢ 0
        some-txn e = let from = (transaction-is left _ t.read).fits.txn-from in lt_irrefl 0 (omega (arith, from, e, ap (λ (j : Id). j.txn) t.id-is))

    module _ (older-last : older last i ≡ true) (new : member i.txn (take kept ts) ≡ false) (g : length y ≡ length (take (place + slot_size narrow_kind - place) (drop place w))) where
      abbrev w' : List ℕ
      w' = put_mid place (place + slot_size narrow_kind - place) w y

      read_on : (ts' : List ℕ) (k : ℕ) (z : List ℕ) → k ≡ min (n + 1) narrow_kind.slots → length ts' ≡ narrow_kind.slots → take k ts' ≡ take narrow_kind.slots (txns_of up_to) → length z < length s
          → sequence_in z ≡ followed (drop narrow_kind.slots up_to) (sequence_in more)
          → (n + 1 ≤ narrow_kind.slots → w' ≡ take (slot_size narrow_kind * (narrow_kind.slots + 1 - (n + 1))) w₀ ++ slots_down up_to)
          → Reading s w₀ w' ts' k z i (n + 1) more
      read_on ts' k z ek p c b f d = record {
        passed = up_to;
        read = r.read ∙ ap (followed r.passed) step ∙ followed-more r.passed x (sequence_in more);
        ordered = ordered-more r.passed x r.ordered (ap₂ older (sym r.newest) t.id-is ∙ older-last);
        newest = sym (last_more no_id r.passed x ∙ t.id-is);
        once = ap (once_among narrow_kind.slots) (txns-more []) ∙ once_more narrow_kind.slots (txns_of r.passed) i.txn r.once (ap (member i.txn) (sym r.column) ∙ new);
        count = omega (arith, r.count, length-append r.passed (x ∷ []));
        short = omega (arith, r.short, t.shorter);
        kept-are = ek;
        places = p;
        column = c;
        shorter = λ _. b;
        past = f;
        long = same_len_mid place (place + slot_size narrow_kind - place) w y g ∙ r.long;
        made = d;
      }

      txns-long : length (txns_of r.passed) ≡ n
      txns-long = length-map r.passed (λ (z : Transaction). z.id.txn) ∙ sym r.count

      upto-long : length up_to ≡ n + 1
      upto-long = omega (arith, r.count, length-append r.passed (x ∷ []))

      -- one of the first 64
      pub reading-kept : kept < narrow_kind.slots → length w₀ ≡ room_size → Reading s w₀ w' (set ts kept i.txn) (kept + 1) more i (n + 1) more
      reading-kept h l₀ = read_on (set ts kept i.txn) (kept + 1) more (omega (arith, r.kept-are)) (length-set ts kept i.txn ∙ r.places)
          (ap (λ (k : ℕ). take k (set ts kept i.txn)) (add-one kept) ∙ take-suc-set ts kept i.txn (omega (arith, r.places)) ∙ ap (λ (l : List ℕ). l ++ (i.txn ∷ [])) (r.column ∙ all-txns)
          ∙ sym (txns-more []) ∙ sym (take_all narrow_kind.slots (txns_of up_to) (omega (arith, length-map up_to (λ (z : Transaction). z.id.txn), upto-long, r.kept-are))))
          (omega (arith, r.short, t.shorter))
          (sym (ap (λ (l : List Transaction). followed l (sequence_in more)) (drop_of_length-le up_to few) ∙ followed-none (sequence_in more)))
          (λ _. filled_more)
        where
          few : length up_to ≤ narrow_kind.slots
          few = omega (arith, upto-long, r.kept-are)

          all-txns : take narrow_kind.slots (txns_of r.passed) ≡ txns_of r.passed
          all-txns = take_all narrow_kind.slots (txns_of r.passed) (omega (arith, txns-long, r.kept-are))

          filled_more : w' ≡ take (slot_size narrow_kind * (narrow_kind.slots + 1 - (n + 1))) w₀ ++ slots_down up_to
          filled_more =
              let e : slot_size narrow_kind * (narrow_kind.slots + 1 - n) ≡ place + slot_size narrow_kind = omega (arith, r.kept-are) in
              let f : place ≡ slot_size narrow_kind * (narrow_kind.slots + 1 - (n + 1)) = omega (arith, r.kept-are) in
              room-more w₀ w y r.passed x place (place + slot_size narrow_kind) (omega arith) (omega (arith, l₀, r.kept-are))
              (r.made (omega (arith, r.kept-are)) ∙ ap (λ (k : ℕ). take k w₀ ++ slots_down r.passed) e) t.slot_is
              ∙ ap (λ (k : ℕ). take k w₀ ++ slots_down up_to) f

      -- one after them
      pub reading-past : narrow_kind.slots ≤ kept → Reading s w₀ w' ts kept rest i (n + 1) more
      reading-past h = read_on ts kept rest (omega (arith, r.kept-are)) r.places
          (r.column ∙ sym (ap (take narrow_kind.slots) (txns-more []) ∙ take-append-le narrow_kind.slots (txns_of r.passed) (i.txn ∷ []) (omega (arith, txns-long, r.kept-are))))
          (r.shorter (omega (arith, r.kept-are)))
          (r.past ∙ ap (followed (drop narrow_kind.slots r.passed)) step ∙ followed-more (drop narrow_kind.slots r.passed) x (sequence_in more)
          ∙ ap (λ (l : List Transaction). followed l (sequence_in more)) (sym (drop-append-le narrow_kind.slots r.passed (x ∷ []) (omega (arith, r.count, r.kept-are)))))
          (λ f. absurd (lt_irrefl n (omega (arith, f, r.kept-are))))

-- all is read
pub reading-all : {s w₀ w ts : List ℕ} {kept : ℕ} {rest : List ℕ} {last : Id} {n : ℕ} {left : List ℕ} → Reading s w₀ w ts kept rest last n left → length left ≡ 0 → PassFound n rest s w₀ w
unfolding ◌then◌
reading-all {left = left} r h = record {
  transactions = r.passed;
  read = r.read ∙ ends r.passed;
  ordered = r.ordered;
  once = r.once;
  count = r.count;
  shorter = r.shorter;
  left = r.past ∙ ends (drop narrow_kind.slots r.passed);
  long = r.long;
  made = r.made;
}
  where
    ends : (xs : List Transaction) → followed xs (sequence_in left) ≡ some xs
    ends xs = ap (followed xs) (ap sequence_in (empty left h) ∙ sequence-none) ∙ ap some (append-nil xs)
