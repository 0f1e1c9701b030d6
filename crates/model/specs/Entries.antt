-- 01 'Words': "An entry (a held drawer) is a committed transaction: its id and write set." All that looks into an entry stands here: its keys,
-- the unused one, its rules, the one that a closing transaction becomes, and its commit record's bytes.
use Rattle.std.specs.Prelude.{ℕ, suc, Bool, List, [], ◌++◌, map, eqb, leb, length, take, drop, get_or}
use Rattle.model.specs.declared.Id.{Id}
use Rattle.model.specs.Types.{Entry, Live}
use Rattle.model.specs.Lists.{◌and◌, any, first, member, ascending, same}
use Rattle.model.specs.Limits.{keys, keys_size}
use Rattle.model.specs.Kinds.{Kind}
use Rattle.model.specs.Ids.{same_id, no_id}
use Rattle.model.specs.Bytes.{head_bytes, id_in}
use Rattle.model.specs.Lives.{writes_of, write_key, closing_clock}

-- ── its write set ──
abbrev pub keys_of : Entry → List ℕ
keys_of e = e.keys

unfoldable pub wrote : Entry → ℕ → Bool
wrote e k = member k (keys_of e)

-- the transaction with an id is among the entries and wrote the key
unfoldable pub wrote_as : List Entry → Id → ℕ → Bool
wrote_as es i k = any (λ e. same_id e.id i and wrote e k) es

-- the number of the version record of a key: "Version slip n (from 1) of a committed drawer carries its nth key"
unfoldable pub record_of : Entry → ℕ → ℕ
record_of e k = suc (first (eqb k) (keys_of e))

-- ── unused: "All fields of unused places, entries and list positions are zero." ──
abbrev pub no_entry : Entry
no_entry = record { id = no_id; keys = [] }

unfoldable pub is_no_entry : Entry → Bool
is_no_entry e = same_id e.id no_id and eqb (length (keys_of e)) 0

-- ── the rules of the commit record (slip), which an entry keeps: "count 1 to 8, ticket and clock at least 1, the first count keys strictly
-- ascending and below 64"; 8 is the narrow kind's limit ──
unfoldable pub entry_rules : Kind → Entry → Bool
entry_rules κ e =
    leb 1 (length (keys_of e)) and leb (length (keys_of e)) κ.write_limit
    and leb 1 e.id.txn and leb 1 e.id.clock
    and ascending 0 keys (keys_of e)

-- ── the entry that a closing transaction becomes ──
unfoldable pub entry_for : Live → Entry
entry_for l = record { id = record { clock = closing_clock l.phase; txn = l.txn }; keys = map write_key (writes_of l) }

-- ── its bytes. "Commit slip: mark 1, count 1, two zeros, ticket 4, clock 8, keys 8." (sizes) ──
-- "Mark is 0 (drawer free, the rest not read) or 1 (committed)."; 1 is the narrow kind's
abbrev pub free_mark : ℕ
free_mark = 0

unfoldable pub commit_record : Kind → Entry → List ℕ
commit_record κ e = head_bytes κ.mark (length (keys_of e)) e.id ++ κ.encode (keys_of e)

unfoldable pub mark_in : List ℕ → ℕ
mark_in r = get_or r 0 0

abbrev pub count_in : List ℕ → ℕ
count_in r = get_or r 1 0

abbrev pub key_bytes : List ℕ → List ℕ
key_bytes r = take keys_size (drop 16 r)

unfoldable pub entry_in : Kind → List ℕ → Entry
entry_in κ r = record { id = id_in r; keys = κ.decode (count_in r) (key_bytes r) }

-- count and key bytes are those of a write set: "the remaining key bytes zero", or "count equal to its ones"
unfoldable pub carries_keys : Kind → List ℕ → List ℕ → Bool
carries_keys κ r ks = eqb (count_in r) (length ks) and same (key_bytes r) (κ.encode ks)

-- a commit record that is marked keeps the rules: with the other kind's mark it does not
unfoldable pub commit_rules : Kind → List ℕ → Bool
commit_rules κ r =
    eqb (mark_in r) κ.mark and eqb (get_or r 2 0) 0 and eqb (get_or r 3 0) 0
    and carries_keys κ r (keys_of (entry_in κ r)) and entry_rules κ (entry_in κ r)

-- a commit record carries an entry: "id, keys, count, mark and zeros"
unfoldable pub carries_entry : Kind → List ℕ → Entry → Bool
carries_entry κ r e =
    eqb (mark_in r) κ.mark and eqb (get_or r 2 0) 0 and eqb (get_or r 3 0) 0
    and same_id (id_in r) e.id and carries_keys κ r (keys_of e)
