-- A committed set of 64 whose stream has the 47,808 bytes that no store's exceeds (specs/Claims, `greatest_stream`; LengthLaws, `stream-fits`).
use Prim.Native.Nat.{ℕ, zero, suc, ◌+◌, ◌*◌, ◌/◌, ◌^◌, ◌<◌, ◌≤◌}
use mathlib.Core.Path.{◌≡◌, refl, ap, ◌∙◌}
use mathlib.Core.Logic.{inl}
use mathlib.Core.Bool.{true}
use mathlib.Core.List.{List, ◌∷◌, ◌++◌, map}
use lib.ListN.{length, get_or, length-append, length-map}
use native.Mathlib.Nat.{pow-succ', one-le-pow}
use native.Mathlib.Decide.{dec_lt}
use native.Mathlib.Omega.{arith}
use Rattle.model.specs.declared.Id.{Id}
use Rattle.model.specs.Types.{Write}
use Rattle.model.specs.Lists.{◌and◌, from, ascending}
use Rattle.model.specs.Limits.{number_range}
use Rattle.model.specs.Lives.{write_key}
use Rattle.model.proofs.Tests.{and_intro}
use Rattle.model.proofs.ListLaws.{from-length, from_at, map_at, every-from}
use Rattle.model.proofs.IdLaws.{is-older}
use Rattle.model.proofs.DistinctLaws.{distinct_of}
use Rattle.decimal.specs.Digits.{digits}
use Rattle.decimal.proofs.DigitLaws.{count_small, count-large, count-below}
use Rattle.resp.specs.Streams.{Transaction, TransactionFits, CommittedSet, slash, line_end, bulk, set_command, id_text, version_name, version_command, commit_name, keys_after, keys_text, commit_command, versions_text, transaction_text, stream_of, oldest_first, none_twice}
use Rattle.resp.specs.Claims.{greatest_stream}
use Rattle.resp.proofs.LengthLaws.{set-begins}
use Rattle.resp.proofs.SlotSet.{txn_of}

-- ── how long exactly ──
-- from ten to the k on a number has more than k digits
count-least : (k n : ℕ) → 10 ^ k ≤ n → suc k ≤ length (digits n)
count-least zero n h = some (dec_lt n 10)
  where
    some : Dec (n < 10) → 1 ≤ length (digits n)
    some (yes o) = omega (arith, count_small n o)
    some (no o) = omega (arith, count-large n (omega arith))
count-least (suc k) n h = omega (arith, count-large n ten, count-least k (n / 10) (omega (arith, pow-succ' 10 k)))
  where
    ten : 10 ≤ n
    ten = omega (arith, pow-succ' 10 k, one-le-pow k 10 (omega arith))

count-is : (k n : ℕ) → 10 ^ k ≤ n → n < 10 ^ suc k → length (digits n) ≡ suc k
count-is k n a b = omega (arith, count-least k n a, count-below k n b)

bulk-is : (w : List ℕ) → 10 ≤ length w → length w < 100 → length (bulk w) ≡ 7 + length w
unfolding bulk line_end
bulk-is w a b = simp length-append (omega (arith, count-is 1 (length w) (omega arith) (omega arith)))

set_is : (name value : List ℕ) → 10 ≤ length name → length name < 100 → 10 ≤ length value → length value < 100 → length (set_command name value) ≡ 27 + length name + length value
unfolding set_command
set_is name value a b c d = simp length-append (omega (arith, ap length set-begins, bulk-is name a b, bulk-is value c d))

-- ── a transaction whose every number has all its digits ──
module _ (i : Id) (hc : length (digits i.clock) ≡ 20) (ht : length (digits i.txn) ≡ 10) where
  id-is : length (id_text i) ≡ 31
  unfolding id_text
  id-is = simp length-append (omega arith)

  version-is : (w : Write) → length (digits w.key) ≡ 2 → length (digits w.value) ≡ 20 → length (version_command i w) ≡ 83
  unfolding version_command version_name
  version-is w hk hv =
      let n : length (digits w.key ++ (slash ∷ id_text i)) ≡ 34 = simp length-append (omega (arith, id-is)) in
      let q = set_is (118 ∷ slash ∷ digits w.key ++ (slash ∷ id_text i)) (digits w.value) (omega arith) (omega arith) (omega arith) (omega arith) in
      omega (arith, q)

  commit-is : (ks : List ℕ) → length (keys_text ks) ≡ 23 → length (commit_command i ks) ≡ 83
  unfolding commit_command commit_name
  commit-is ks h =
      let q = set_is (99 ∷ slash ∷ id_text i) (keys_text ks) (omega (arith, id-is)) (omega (arith, id-is)) (omega arith) (omega arith) in
      omega (arith, q, id-is)

-- ── keys 10 to 17, the greatest value; 64 ids up to the greatest ──
abbrev write_of : ℕ → Write
write_of k = record { key = k; value = 18446744073709551615 }

unfoldable pub greatest_at : ℕ → Transaction
greatest_at i = record { id = record { clock = 18446744073709551552 + i; txn = 4294967232 + i }; writes = from 8 10 write_of }

unfoldable pub greatest_set : List Transaction
greatest_set = from 64 0 greatest_at

key-is : (k : ℕ) → 10 ≤ k → k < 100 → length (digits k) ≡ 2
key-is k a b = count-is 1 k (omega arith) (omega arith)

value-is : length (digits 18446744073709551615) ≡ 20
value-is = count-is 19 18446744073709551615 (omega arith) (omega arith)

versions-are : (i : Id) → length (digits i.clock) ≡ 20 → length (digits i.txn) ≡ 10 → (n k : ℕ) → 10 ≤ k → k + n ≤ 100 → length (versions_text i (from n k write_of)) ≡ 83 * n
unfolding versions_text from
versions-are i hc ht zero k a b = refl
versions-are i hc ht (suc n) k a b =
    simp length-append (omega (arith, version-is i hc ht (write_of k) (key-is k a (omega arith)) value-is, versions-are i hc ht n (suc k) (omega arith) (omega arith)))

keys-after-are : (n k : ℕ) → 10 ≤ k → k + n ≤ 100 → length (keys_after (map write_key (from n k write_of))) ≡ 3 * n
unfolding keys_after from
keys-after-are zero k a b = refl
keys-after-are (suc n) k a b = simp length-append (omega (arith, key-is k a (omega arith), keys-after-are n (suc k) (omega arith) (omega arith)))

keys-are : (n k : ℕ) → 10 ≤ k → k + n < 100 → length (keys_text (map write_key (from (suc n) k write_of))) ≡ 3 * n + 2
unfolding keys_text from
keys-are n k a b = simp length-append (omega (arith, key-is k a (omega arith), keys-after-are n (suc k) (omega arith) (omega arith)))

transaction-is : (i : ℕ) → i < 64 → length (transaction_text (greatest_at i)) ≡ 747
unfolding transaction_text greatest_at
transaction-is i o =
    let v = versions-are (greatest_at i).id hc ht 8 10 (omega arith) (omega arith) in
    let c = commit-is (greatest_at i).id hc ht (map write_key (from 8 10 write_of)) (keys-are 7 10 (omega arith) (omega arith)) in
    simp length-append (omega (arith, v, c))
  where
    hc : length (digits (18446744073709551552 + i)) ≡ 20
    hc = count-is 19 (18446744073709551552 + i) (omega arith) (omega arith)

    ht : length (digits (4294967232 + i)) ≡ 10
    ht = count-is 9 (4294967232 + i) (omega arith) (omega arith)

stream-is : (n i : ℕ) → i + n ≤ 64 → length (stream_of (from n i greatest_at)) ≡ 747 * n
unfolding stream_of from
stream-is zero i o = refl
stream-is (suc n) i o = simp length-append (omega (arith, transaction-is i (omega arith), stream-is n (suc i) (omega arith)))

-- ── it is a committed set ──
fits-at : (i : ℕ) → i < 64 → TransactionFits (greatest_at i)
unfolding greatest_at
fits-at i o = record {
  clock-from = omega arith;
  clock64 = omega arith;
  txn-from = omega arith;
  txn32 = omega arith;
  some-write = omega (arith, from-length write_of 8 10);
  writes-fit = omega (arith, from-length write_of 8 10);
  ascends = unfold ascending from ◌and◌ in refl;
  values = every-from (λ (w : Write). w.value < number_range) write_of 8 10 (λ j a b. omega arith);
}

ordered-from : (n i : ℕ) → oldest_first (from n i greatest_at) ≡ true
unfolding oldest_first from greatest_at
ordered-from zero i = refl
ordered-from (suc zero) i = refl
ordered-from (suc (suc n)) i = and_intro _ _ (is-older (greatest_at i).id (greatest_at (suc i)).id (inl (omega arith))) (ordered-from (suc n) (suc i))

pub greatest-length : length greatest_set ≡ 64
unfolding greatest_set
greatest-length = from-length greatest_at 64 0

greatest-once : none_twice greatest_set ≡ true
unfolding none_twice
greatest-once = distinct_of (map txn_of greatest_set) (λ i j oi oj e n. omega (arith, e, at i (omega (arith, long)), at j (omega (arith, long))))
  where
    long : length (map txn_of greatest_set) ≡ 64
    long = length-map greatest_set txn_of ∙ greatest-length

    at : (i : ℕ) → i < 64 → get_or (map txn_of greatest_set) i 0 ≡ 4294967232 + i
    at i o = unfold greatest_set greatest_at in (map_at txn_of (from 64 0 greatest_at) i (omega (arith, from-length greatest_at 64 0)) 0 (greatest_at 0)
        ∙ (ap txn_of (from_at greatest_at 64 0 i (greatest_at 0) o) ∙ (omega arith)))

pub greatest-fits : CommittedSet greatest_set
greatest-fits = record {
  fit = unfold greatest_set in every-from TransactionFits greatest_at 64 0 (λ j a b. fits-at j (omega arith));
  ordered = unfold greatest_set in ordered-from 64 0;
  once = greatest-once;
}

pub greatest-long : length (stream_of greatest_set) ≡ greatest_stream
unfolding greatest_set
greatest-long = stream-is 64 0 (omega arith)
