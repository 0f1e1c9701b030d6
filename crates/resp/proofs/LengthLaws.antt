-- How long the texts of a stream are at most.
use Prim.Native.Nat.{ℕ, suc, ◌+◌, ◌*◌, ◌-◌, ◌<◌, ◌≤◌}
use mathlib.Core.Path.{◌≡◌, ap}
use mathlib.Core.Bool.{true}
use mathlib.Core.List.{List, [], ◌∷◌, ◌++◌, map}
use lib.ListN.{length, length-append, length-map}
use native.Mathlib.Omega.{arith}
use Rattle.model.specs.declared.Id.{Id}
use Rattle.model.specs.Types.{Write}
use Rattle.model.specs.Lists.{ascending}
use Rattle.model.specs.Limits.{keys, txn_range, number_range}
use Rattle.model.specs.Lives.{write_key}
use Rattle.model.specs.Ranges.{Every}
use Rattle.model.proofs.InsertLaws.{ascending-head, ascending-tail}
use Rattle.decimal.specs.Digits.{digits}
use Rattle.decimal.proofs.DigitLaws.{digits-small, count-below}
use Rattle.resp.specs.Streams.{Transaction, TransactionFits, slash, line_end, bulk, set_begins, set_command, id_text, version_name, version_command}
use Rattle.resp.specs.Streams.{commit_name, keys_after, keys_text, commit_command, versions_text, transaction_text, stream_of}
use Rattle.resp.specs.Claims.{StreamFits}

-- ── numbers: a key has at most two digits, a transaction ten, a clock or a value twenty ──
pub key-digits : (k : ℕ) → k < keys → length (digits k) ≤ 2
key-digits k h = count-below 1 k (omega arith)

pub txn-digits : (t : ℕ) → t < txn_range → length (digits t) ≤ 10
txn-digits t h = count-below 9 t (omega arith)

pub number_digits : (v : ℕ) → v < number_range → length (digits v) ≤ 20
number_digits v h = count-below 19 v (omega arith)

-- ── commands ──
-- a bulk string of at most 64 bytes has at most seven more
pub bulk-long : (w : List ℕ) → length w ≤ 64 → length (bulk w) ≤ 7 + length w
unfolding bulk line_end
bulk-long w h = simp length-append (omega (arith, count-below 1 (length w) (omega arith)))

-- what each begins with, byte by byte
pub set-begins : set_begins ≡ 42 ∷ 51 ∷ 13 ∷ 10 ∷ 36 ∷ 51 ∷ 13 ∷ 10 ∷ 83 ∷ 69 ∷ 84 ∷ 13 ∷ 10 ∷ []
unfolding set_begins bulk line_end
set-begins = rw (digits-small 3 (omega arith))

pub set_long : (name value : List ℕ) → length name + length value ≤ 56 → length (set_command name value) ≤ 83
unfolding set_command
set_long name value h =
    simp length-append (omega (arith, ap length set-begins, bulk-long name (omega arith), bulk-long value (omega arith)))

pub id-long : (i : Id) → i.clock < number_range → i.txn < txn_range → length (id_text i) ≤ 31
unfolding id_text
id-long i c t = simp length-append (omega (arith, number_digits i.clock c, txn-digits i.txn t))

-- a version's, of an id's text
pub version-long : (k : ℕ) (id : List ℕ) (v : ℕ) → k < keys → length id ≤ 31 → v < number_range → length (set_command (118 ∷ slash ∷ digits k ++ (slash ∷ id)) (digits v)) ≤ 83
version-long k id v hk hi hv =
    let n : length (digits k ++ (slash ∷ id)) ≤ 34 = simp length-append (omega (arith, key-digits k hk)) in
    set_long (118 ∷ slash ∷ digits k ++ (slash ∷ id)) (digits v) (omega (arith, number_digits v hv))

-- keys with their commas: three bytes each, and none after the last
keys-after-long : (lo : ℕ) (ks : List ℕ) → ascending lo keys ks ≡ true → length (keys_after ks) ≤ 3 * length ks
unfolding keys_after
keys-after-long lo [] h = omega arith
keys-after-long lo (k ∷ ks) h =
    simp length-append (omega (arith, key-digits k (ascending-head lo keys k ks h).1, keys-after-long (suc k) ks (ascending-tail lo keys k ks h)))

pub keys-long : (ks : List ℕ) → ascending 0 keys ks ≡ true → length (keys_text ks) ≤ 3 * length ks - 1
unfolding keys_text
keys-long [] h = omega arith
keys-long (k ∷ ks) h =
    simp length-append (omega (arith, key-digits k (ascending-head 0 keys k ks h).1, keys-after-long (suc k) ks (ascending-tail 0 keys k ks h)))

-- a commit's
pub commit-long : (id ks : List ℕ) → length id ≤ 31 → ascending 0 keys ks ≡ true → length ks ≤ 8 → length (set_command (99 ∷ slash ∷ id) (keys_text ks)) ≤ 83
commit-long id ks hi ha hk = set_long (99 ∷ slash ∷ id) (keys_text ks) (omega (arith, keys-long ks ha))

-- ── transactions ──
pub versions-long : (i : Id) (lo : ℕ) (ws : List Write) → length (id_text i) ≤ 31 → ascending lo keys (map write_key ws) ≡ true → Every (λ (w : Write). w.value < number_range) ws
    → length (versions_text i ws) ≤ 83 * length ws
unfolding versions_text version_command version_name
versions-long i lo [] hi ha hv = omega arith
versions-long i lo (w ∷ ws) hi ha (hw, hv) =
    let o : w.key < keys = (ascending-head lo keys w.key (map write_key ws) ha).1 in
    let a : ascending (suc w.key) keys (map write_key ws) ≡ true = ascending-tail lo keys w.key (map write_key ws) ha in
    simp length-append (omega (arith, version-long w.key (id_text i) w.value o hi hw, versions-long i (suc w.key) ws hi a hv))

pub transaction-long : (x : Transaction) → TransactionFits x → length (transaction_text x) ≤ 747
unfolding transaction_text commit_command commit_name
transaction-long x f =
    let i : length (id_text x.id) ≤ 31 = id-long x.id f.clock64 f.txn32 in
    let n : length (map write_key x.writes) ≡ length x.writes = length-map x.writes write_key in
    simp length-append (omega (
      arith,
      versions-long x.id 0 x.writes i f.ascends f.values,
      commit-long (id_text x.id) (map write_key x.writes) i f.ascends (omega (arith, n, f.writes-fit)),
      f.writes-fit,
    ))

-- a store's stream fits its target
pub stream-long : (xs : List Transaction) → Every TransactionFits xs → length (stream_of xs) ≤ 747 * length xs
unfolding stream_of
stream-long [] f = omega arith
stream-long (x ∷ xs) (f, fs) = simp length-append (omega (arith, transaction-long x f, stream-long xs fs))

pub stream-fits : StreamFits
stream-fits xs c o = omega (arith, stream-long xs c.fit, o)
