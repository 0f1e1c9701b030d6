-- The committed set of a store (specs/Exports), by what its slots hold; and what a slot for a transaction (specs/Imports) holds.
use Prim.Native.Nat.{ℕ, zero, suc, ◌+◌, ◌*◌, ◌<◌, ◌≤◌}
use mathlib.Core.Path.{◌≡◌, refl, sym, ap, ap₂, ◌∙◌}
use mathlib.Core.Bool.{true}
use mathlib.Core.List.{List, [], ◌∷◌, ◌++◌, map}
use lib.ListN.{length, take, drop, get_or, length-append, length-map}
use lib.Seq.{drop-drop, take_at, drop_at, drop-append-add}
use native.Mathlib.Nat.{not-suc-le-zero, le_of_suc-le-suc}
use native.Mathlib.Omega.{arith}
use borrow.Author.Tests.{le-leb}
use Rattle.model.specs.declared.Id.{Id}
use Rattle.model.specs.Types.{Entry, Write}
use Rattle.model.specs.Limits.{record_size, number_range}
use Rattle.model.specs.Kinds.{narrow_kind}
use Rattle.model.specs.Bytes.{bytes, head_bytes, id_in}
use Rattle.model.specs.Lives.{no_write, write_key}
use Rattle.model.specs.Ranges.{Every}
use Rattle.model.specs.Entries.{keys_of, entry_rules, commit_record}
use Rattle.model.specs.Records.{value_in, version_record, carries_version}
use Rattle.model.specs.Slots.{Seen, free, committed, damaged}
use Rattle.model.proofs.Tests.{and_intro}
use Rattle.model.proofs.ListLaws.{map_at}
use Rattle.model.proofs.RecordLaws.{number-bytes, length-version, version-value, version-round}
use Rattle.model.proofs.ContentLaws.{Content, content_of, contents, commit_for, slot_for, Fit, Whole, nth-version}
use Rattle.resp.specs.Streams.{Transaction, TransactionFits}
use Rattle.resp.specs.Exports.{writes_at, transaction_at, transactions_from}
use Rattle.resp.specs.Imports.{entry_of, version_records, slot_of}

-- ── the transaction that a slot is ──
-- the keys, each with its version record's value
unfoldable pub writes_in : List ℕ → List ℕ → List Write
writes_in vs [] = []
writes_in vs (k ∷ ks) = record { key = k; value = value_in (take record_size vs) } ∷ writes_in (drop record_size vs) ks

unfoldable pub transaction_of : Content → Transaction
transaction_of c = record { id = c.entry.id; writes = writes_in c.versions (keys_of c.entry) }

module _ (s : List ℕ) (d : ℕ) (e : Entry) where
  abbrev versions : List ℕ
  versions = (content_of narrow_kind s d e).versions

  writes-from : (n : ℕ) (ks : List ℕ) → n + length ks ≤ length (keys_of e) → writes_at s d (suc n) ks ≡ writes_in (drop (record_size * n) versions) ks
  unfolding writes_at writes_in
  writes-from n [] o = refl
  writes-from n (k ∷ ks) o =
      ap₂ (λ (r : List ℕ) (ws : List Write). record { key = k; value = value_in r } ∷ ws) (sym (nth-version narrow_kind s d e n (omega arith)))
      (writes-from (suc n) ks (omega arith) ∙ ap (λ (l : List ℕ). writes_in l ks) (ap (λ (m : ℕ). drop m versions) q ∙ sym (drop-drop record_size (record_size * n) versions)))
    where
      q : record_size * suc n ≡ record_size * n + record_size
      q = omega arith

  transaction-at : transaction_at s d e ≡ transaction_of (content_of narrow_kind s d e)
  unfolding transaction_at transaction_of content_of
  transaction-at = ap (λ (ws : List Write). record { id = e.id; writes = ws }) (writes-from 0 (keys_of e) (omega arith))

pub transactions-held : (s : List ℕ) (d : ℕ) (xs : List Seen) → transactions_from s d xs ≡ map transaction_of (contents narrow_kind s d xs)
unfolding transactions_from contents
transactions-held s d [] = refl
transactions-held s d (free ∷ xs) = transactions-held s (suc d) xs
transactions-held s d (committed e ∷ xs) = ap₂ (λ (x : Transaction) (ys : List Transaction). x ∷ ys) (transaction-at s d e) (transactions-held s (suc d) xs)
transactions-held s d (damaged ∷ xs) = transactions-held s (suc d) xs

-- ── a slot for a transaction ──
unfoldable pub content_for : Transaction → Content
content_for x = record {
  entry = entry_of x;
  head = length (keys_of (entry_of x)) ∷ 0 ∷ 0 ∷ bytes 4 x.id.txn ++ bytes 8 x.id.clock;
  versions = version_records x.id x.writes;
}

pub slot-for : (x : Transaction) → slot_of x ≡ slot_for narrow_kind (content_for x)
unfolding slot_of slot_for content_for commit_for commit_record head_bytes entry_of
slot-for x = refl

-- its version records
module _ (i : Id) where
  versions-long : (ws : List Write) → length (version_records i ws) ≡ record_size * length ws
  unfolding version_records
  versions-long [] = refl
  versions-long (w ∷ ws) = length-append (version_record w.key i w.value) (version_records i ws) ∙ omega (arith, length-version w.key i w.value, versions-long ws)

  pub version-nth : (ws : List Write) (j : ℕ) → j < length ws
      → take record_size (drop (record_size * j) (version_records i ws)) ≡ version_record (get_or ws j no_write).key i (get_or ws j no_write).value
  unfolding version_records
  version-nth [] j o = absurd (not-suc-le-zero o)
  version-nth (w ∷ ws) zero o = take_at (version_record w.key i w.value) (version_records i ws) record_size (length-version w.key i w.value)
  version-nth (w ∷ ws) (suc j) o = ap (take record_size) (ap (λ (m : ℕ). drop m (r ++ version_records i ws)) q ∙ drop-append-add r (version_records i ws) (record_size * j))
      ∙ version-nth ws j (le_of_suc-le-suc o)
    where
      r : List ℕ
      r = version_record w.key i w.value

      q : record_size * suc j ≡ length r + record_size * j
      q = omega (arith, length-version w.key i w.value)

  -- read back
  writes-read : (ws : List Write) → Every (λ (w : Write). w.value < number_range) ws → writes_in (version_records i ws) (map write_key ws) ≡ ws
  unfolding version_records writes_in
  writes-read [] f = refl
  writes-read (w ∷ ws) f = ap₂ (λ (v : ℕ) (us : List Write). record { key = w.key; value = v } ∷ us)
      (ap value_in (take_at r (version_records i ws) record_size l) ∙ version-value w.key i w.value f.0)
      (ap (λ (vs : List ℕ). writes_in vs (map write_key ws)) (drop_at r (version_records i ws) record_size l) ∙ writes-read ws f.1)
    where
      r : List ℕ
      r = version_record w.key i w.value

      l : length r ≡ record_size
      l = length-version w.key i w.value

module _ (x : Transaction) (f : TransactionFits x) where
  abbrev keys_here : List ℕ
  keys_here = map write_key x.writes

  same_count : length keys_here ≡ length x.writes
  same_count = length-map x.writes write_key

  id-read : id_in (0 ∷ (content_for x).head) ≡ x.id
  unfolding id_in content_for bytes
  id-read = λ z. record { clock = number-bytes 8 x.id.clock f.clock64 z; txn = number-bytes 4 x.id.txn f.txn32 z }

  carried : (j : ℕ) → j < length keys_here → carries_version (take record_size (drop (record_size * j) (version_records x.id x.writes))) (get_or keys_here j 0) x.id ≡ true
  carried j o =
      let oj : j < length x.writes = omega (arith, same_count) in
      rw (version-nth x.id x.writes j oj, map_at write_key x.writes j oj 0 no_write)
      (version-round (get_or x.writes j no_write).key x.id (get_or x.writes j no_write).value f.txn32 f.clock64)

  whole : Whole (content_for x)
  unfolding content_for entry_of
  whole = record {
    long = unfold bytes in refl;
    counted = refl;
    zeros = (refl, refl);
    id = id-read;
    room = versions-long x.id x.writes ∙ ap (λ (n : ℕ). record_size * n) (sym same_count);
    carried = carried;
  }

  rules : entry_rules narrow_kind (entry_of x) ≡ true
  unfolding entry_rules entry_of
  rules = and_intro _ _ (and_intro _ _ (and_intro _ _ (and_intro _ _ (le-leb 1 (length keys_here) (omega (arith, same_count, f.some-write)))
      (le-leb (length keys_here) narrow_kind.write_limit (omega (arith, same_count, f.writes-fit))))
      (le-leb 1 x.id.txn f.txn-from)) (le-leb 1 x.id.clock f.clock-from)) f.ascends

  pub content-for-fits : Fit narrow_kind (content_for x)
  content-for-fits = record { whole = whole; rules = unfold content_for in rules }

  pub transaction-for : transaction_of (content_for x) ≡ x
  unfolding transaction_of content_for entry_of
  transaction-for = ap (λ (ws : List Write). record { id = x.id; writes = ws }) (writes-read x.id x.writes f.values)
