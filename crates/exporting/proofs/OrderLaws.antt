-- The slots that hold an entry, newest first, from the last to the first: their transactions are the store's committed set (specs/Order).
use Prim.Native.Nat.{ℕ, zero, suc, ◌<◌}
use mathlib.Core.Path.{◌≡◌, refl, sym, ap, subst, ◌∙◌}
use mathlib.Core.Logic.{◌≢◌, ⊎_elim}
use mathlib.Core.Bool.{Bool, true, false, not}
use mathlib.Core.List.Memᴰ
use mathlib.Core.List.{List, ◌∷◌, Memᴰ}
use lib.Dec.{eqb}
use lib.ListN.{get_or}
use native.Mathlib.Nat.{lt_irrefl, le_refl}
use native.Mathlib.Decide.{ℕ_discrete}
use native.Mathlib.Omega.{arith}
use borrow.Author.Tests.{not-true, eqb-false, ne_eqb}
use Rattle.model.specs.declared.Id.{Id}
use Rattle.model.specs.Types.{Entry}
use Rattle.model.specs.Limits.{entry_places}
use Rattle.model.specs.Kinds.{narrow_kind}
use Rattle.model.specs.Ids.{older}
use Rattle.model.specs.Entries.{entry_rules}
use Rattle.model.specs.Stations.{entry_at}
use Rattle.model.specs.Slots.{committed, seen}
use Rattle.model.specs.Scan.{slots_seen, entry_seen, entries_seen}
use Rattle.model.proofs.Tests.{not_of_false}
use Rattle.model.proofs.SlotLaws.{rules-some, rules-count, rules-txn, committed-rules}
use Rattle.model.proofs.ScanLaws.{KeepsRules, txn-seen, scan-entry}
use Rattle.reading.specs.Columns.{nth_entry, Column, id_at, IsOrder}
use Rattle.resp.specs.Streams.{Transaction}
use Rattle.resp.specs.Exports.{transaction_at, committed_set}
use Rattle.resp.proofs.AgeLaws.{Ascends, older-other, ascending-same}
use Rattle.resp.proofs.SlotSet.{set-mem, mem-set, set-ascends}
use Rattle.exporting.specs.Order.{backwards, AreWritten}

module _ (s : List ℕ) (es : List Entry) (xs : List ℕ) where
  -- slot i of the order, as a transaction
  abbrev at_row : ℕ → Transaction
  at_row i = transaction_at s (get_or xs i 0) (nth_entry es (get_or xs i 0))

  backwards-mem : (n : ℕ) (z : Transaction) → Memᴰ z (backwards s es xs n) → (i : ℕ) × (i < n) × (z ≡ at_row i)
  unfolding backwards
  backwards-mem zero z m = absurd (Memᴰ.not-nil m)
  backwards-mem (suc n) z m = ⊎_elim (λ e. (n, le_refl (suc n), e)) (λ m'. let r = backwards-mem n z m' in (r.0, omega (arith, r.1), r.2)) (Memᴰ.cases_cons m)

  mem-backwards : (n i : ℕ) → i < n → Memᴰ (at_row i) (backwards s es xs n)
  unfolding backwards
  mem-backwards zero i o = absurd (lt_irrefl i (omega arith))
  mem-backwards (suc n) i o = go (ℕ_discrete i n) (mem-backwards n i)
    where
      go : Dec (i ≡ n) → (i < n → Memᴰ (at_row i) (backwards s es xs n)) → Memᴰ (at_row i) (at_row n ∷ backwards s es xs n)
      go (yes e) ih = Memᴰ.head (ap at_row e)
      go (no e) ih = Memᴰ.tail (ih (omega arith))

  -- those before are newer: each is older than all after it
  backwards-ascends : (n : ℕ) → ((i j : ℕ) → i < j → j < n → older (at_row j).id (at_row i).id ≡ true) → Ascends (backwards s es xs n)
  unfolding backwards
  backwards-ascends zero f = tt
  backwards-ascends (suc n) f = (
    λ z m. let r = backwards-mem n z m in subst (λ (x : Transaction). older (at_row n).id x.id ≡ true) (sym r.2) (f r.0 n r.1 (le_refl (suc n))),
    backwards-ascends n (λ i j a b. f i j a (omega arith)),
  )

-- the entries of a store that keeps the rules, in columns, and its slots in order
module _ (s : List ℕ) (es : List Entry) (ms : List Bool) (cs ts : List ℕ) (n : ℕ) (xs : List ℕ)
    (keeps : KeepsRules narrow_kind s) (are : es ≡ entries_seen (slots_seen narrow_kind s))
    (held : Column (λ (e : Entry). not (eqb e.id.txn 0)) false es ms) (clocks : Column (λ (e : Entry). e.id.clock) 0 es cs) (txns : Column (λ (e : Entry). e.id.txn) 0 es ts)
    (order : IsOrder ms cs ts entry_places n xs) where
  entry_seen_lem : (d : ℕ) → d < entry_places → nth_entry es d ≡ entry_seen (seen narrow_kind s d)
  unfolding entry_at
  entry_seen_lem d o = ap (λ (l : List Entry). nth_entry l d) are ∙ scan-entry narrow_kind s d o

  row_low : (i : ℕ) → i < n → get_or xs i 0 < entry_places
  row_low i o = (order.marked i o).0

  -- a row of the order is a committed slot
  row_seen : (i : ℕ) → i < n → seen narrow_kind s (get_or xs i 0) ≡ committed (nth_entry es (get_or xs i 0))
  row_seen i o = txn-seen (seen narrow_kind s d) some ∙ ap committed (sym is)
    where
      d : ℕ
      d = get_or xs i 0

      is : nth_entry es d ≡ entry_seen (seen narrow_kind s d)
      is = entry_seen_lem d (row_low i o)

      some : (entry_seen (seen narrow_kind s d)).id.txn ≢ 0
      some z = eqb-false (nth_entry es d).id.txn 0 (not-true _ (sym (held d (row_low i o)) ∙ (order.marked i o).1)) (ap (λ (e : Entry). e.id.txn) is ∙ z)

  row-id : (i : ℕ) → i < n → id_at cs ts (get_or xs i 0) ≡ (nth_entry es (get_or xs i 0)).id
  row-id i o = λ z. record { clock = clocks (get_or xs i 0) (row_low i o) z; txn = txns (get_or xs i 0) (row_low i o) z }

  row-rules : (i : ℕ) → i < n → entry_rules narrow_kind (nth_entry es (get_or xs i 0)) ≡ true
  row-rules i o = committed-rules narrow_kind s (get_or xs i 0) (nth_entry es (get_or xs i 0)) (row_seen i o)

  -- a later row is older
  later-older : (i j : ℕ) → i < j → j < n → older (nth_entry es (get_or xs j 0)).id (nth_entry es (get_or xs i 0)).id ≡ true
  later-older i j a b = older-other _ _ apart (rw (row-id i oi, row-id j b) at (order.newest-first i j a b))
    where
      oi : i < n
      oi = omega arith

      apart : (nth_entry es (get_or xs i 0)).id ≢ (nth_entry es (get_or xs j 0)).id
      apart e = keeps.single (get_or xs i 0) (get_or xs j 0) _ _ (row_low i oi) (row_low j b) (order.once i j a b) (row_seen i oi) (row_seen j b) (ap (λ (k : Id). k.txn) e)

  slot-entry : (d : ℕ) (e : Entry) → d < entry_places → seen narrow_kind s d ≡ committed e → nth_entry es d ≡ e
  slot-entry d e o h = entry_seen_lem d o ∙ (rw h (unfold entry_seen in refl))

  -- a committed slot has its row
  slot_row : (d : ℕ) (e : Entry) → d < entry_places → seen narrow_kind s d ≡ committed e → (i : ℕ) × (i < n) × (get_or xs i 0 ≡ d)
  slot_row d e o h = order.every d o (held d o ∙ not_of_false _ (ne_eqb (nth_entry es d).id.txn 0 some))
    where
      some : (nth_entry es d).id.txn ≢ 0
      some z = rules-txn narrow_kind e (committed-rules narrow_kind s d e h) (sym (ap (λ (x : Entry). x.id.txn) (slot-entry d e o h)) ∙ z)

  pub aged : backwards s es xs n ≡ committed_set s
  unfolding transaction_at
  aged = ascending-same (backwards s es xs n) (committed_set s) (backwards-ascends s es xs n later-older) (set-ascends s keeps) there back
    where
      there : (z : Transaction) → Memᴰ z (backwards s es xs n) → Memᴰ z (committed_set s)
      there z m =
          let r = backwards-mem s es xs n z m in
          subst (λ (x : Transaction). Memᴰ x (committed_set s)) (sym r.2) (mem-set s (get_or xs r.0 0) (row_low r.0 r.1) _ (row_seen r.0 r.1))

      back : (z : Transaction) → Memᴰ z (committed_set s) → Memᴰ z (backwards s es xs n)
      back z m =
          let r = set-mem s z m in
          let q = slot_row r.slot r.entry r.high r.seen_as in
          let e : nth_entry es (get_or xs q.0 0) ≡ r.entry = ap (nth_entry es) q.2 ∙ slot-entry r.slot r.entry r.high r.seen_as in
          let same : at_row s es xs q.0 ≡ transaction_at s r.slot r.entry = λ i. transaction_at s (q.2 i) (e i) in
          subst (λ (x : Transaction). Memᴰ x (backwards s es xs n)) (same ∙ sym r.is) (mem-backwards s es xs n q.0 q.1)

  -- an entry that is seen has 1 to 8 keys
  pub are_written : AreWritten es n xs
  are_written = record {
    fits = order.fits;
    rows = row_low;
    some_key = λ i o. rules-some narrow_kind (nth_entry es (get_or xs i 0)) (row-rules i o);
    keys-fit = λ i o. rules-count narrow_kind (nth_entry es (get_or xs i 0)) (row-rules i o);
  }
