-- 02 §6, computed: what is read of a slot's records under each kind. Rows that a careless reading of the request fails.
use Prim.Native.Nat.{ℕ}
use mathlib.Core.Path.{◌≡◌, refl}
use mathlib.Core.List.{List, [], ◌∷◌, ◌++◌, map}
use lib.ListN.{replicate}
use Rattle.model.specs.declared.Id.{Id}
use Rattle.model.specs.Types.{Entry}
use Rattle.model.specs.Lists.{◌and◌, padded, from, ascending, same}
use Rattle.model.specs.Ids.{same_id}
use Rattle.model.specs.Bytes.{bytes, number, head_bytes, id_in}
use Rattle.model.specs.KeySets.{with_lowest, keys_below, key_set, set_number}
use Rattle.model.specs.Kinds.{Kind, narrow_kind, wide_kind, slot_start}
use Rattle.model.specs.Entries.{mark_in, entry_in, commit_record, entry_rules, carries_keys, commit_rules}
use Rattle.model.specs.Records.{version_record, carries_version, record_at}
use Rattle.model.specs.Slots.{Seen, free, committed, damaged, versions_carry, judged, seen}

abbrev id : Id
id = record { clock = 100; txn = 5 }

abbrev wrote : List ℕ → Entry
wrote ks = record { id = id; keys = ks }

-- the version records of some keys, after a commit record
pub versions : List ℕ → List ℕ
versions [] = []
versions (k ∷ ks) = version_record k id 7 ++ versions ks

-- a commit record by its mark, its count and its key bytes
pub commit : ℕ → ℕ → List ℕ → List ℕ
commit m n ks = head_bytes m n id ++ ks

-- keys 0 to n - 1
pub first_keys : ℕ → List ℕ
first_keys n = from n 0 (λ k. k)

pub record Row : Type 0 where
  pub kind : Kind
  pub slot : List ℕ
  pub reads : Seen

abbrev row : Kind → List ℕ → Seen → Row
row κ s x = record { kind = κ; slot = s; reads = x }

pub rows : List Row
rows =
    -- keys 1 and 63 in either kind: the keys themselves, and the number, least byte first
    row narrow_kind (commit 1 2 (1 ∷ 63 ∷ 0 ∷ 0 ∷ 0 ∷ 0 ∷ 0 ∷ 0 ∷ []) ++ versions (1 ∷ 63 ∷ [])) (committed (wrote (1 ∷ 63 ∷ [])))
    ∷ row wide_kind (commit 2 2 (2 ∷ 0 ∷ 0 ∷ 0 ∷ 0 ∷ 0 ∷ 0 ∷ 128 ∷ []) ++ versions (1 ∷ 63 ∷ [])) (committed (wrote (1 ∷ 63 ∷ [])))
    -- the other kind's mark is damage, whatever the key bytes
    ∷ row wide_kind (commit 1 2 (2 ∷ 0 ∷ 0 ∷ 0 ∷ 0 ∷ 0 ∷ 0 ∷ 128 ∷ []) ++ versions (1 ∷ 63 ∷ [])) damaged
    ∷ row wide_kind (commit 1 2 (1 ∷ 63 ∷ 0 ∷ 0 ∷ 0 ∷ 0 ∷ 0 ∷ 0 ∷ []) ++ versions (1 ∷ 63 ∷ [])) damaged
    ∷ row narrow_kind (commit 2 2 (1 ∷ 63 ∷ 0 ∷ 0 ∷ 0 ∷ 0 ∷ 0 ∷ 0 ∷ []) ++ versions (1 ∷ 63 ∷ [])) damaged
    -- "with count equal to its ones": not fewer, not more
    ∷ row wide_kind (commit 2 1 (2 ∷ 0 ∷ 0 ∷ 0 ∷ 0 ∷ 0 ∷ 0 ∷ 128 ∷ []) ++ versions (1 ∷ 63 ∷ [])) damaged
    ∷ row wide_kind (commit 2 3 (2 ∷ 0 ∷ 0 ∷ 0 ∷ 0 ∷ 0 ∷ 0 ∷ 128 ∷ []) ++ versions (1 ∷ 63 ∷ [])) damaged
    ∷ row wide_kind (commit 2 0 (replicate 8 0)) damaged
    -- "write lists up to 16 keys": nine and sixteen, not seventeen; narrow, eight and not nine
    ∷ row wide_kind (commit 2 9 (255 ∷ 1 ∷ replicate 6 0) ++ versions (first_keys 9)) (committed (wrote (first_keys 9)))
    ∷ row wide_kind (commit 2 16 (255 ∷ 255 ∷ replicate 6 0) ++ versions (first_keys 16)) (committed (wrote (first_keys 16)))
    ∷ row wide_kind (commit 2 17 (255 ∷ 255 ∷ 1 ∷ replicate 5 0) ++ versions (first_keys 17)) damaged
    ∷ row narrow_kind (commit 1 8 (first_keys 8) ++ versions (first_keys 8)) (committed (wrote (first_keys 8)))
    ∷ row narrow_kind (commit 1 9 (first_keys 8) ++ versions (first_keys 9)) damaged
    -- mark 0: free, the rest not read
    ∷ row wide_kind (commit 0 17 (replicate 8 255)) free
    ∷ []

-- The claim: every slot is read as its row says, and a committed one's commit record is the entry's.
pub kinds-hold : map (λ (r : Row). seen r.kind r.slot 0) rows ≡ map (λ (r : Row). r.reads) rows
unfolding versions commit first_keys rows ◌and◌ padded from ascending same same_id bytes number head_bytes id_in with_lowest keys_below key_set set_number slot_start mark_in entry_in entry_rules carries_keys commit_rules version_record carries_version record_at versions_carry judged seen
kinds-hold = refl

pub sixteen-keys : commit_record wide_kind (wrote (first_keys 16)) ≡ commit 2 16 (255 ∷ 255 ∷ replicate 6 0)
unfolding commit first_keys from bytes head_bytes set_number commit_record
sixteen-keys = refl
