-- 01 'Slip bytes': what is read of a slot (drawer).
use Rattle.std.specs.Prelude.{ℕ, suc, Bool, true, false, List, [], ◌∷◌, eqb, take, drop}
use Rattle.model.specs.declared.Id.{Id}
use Rattle.model.specs.Types.{Entry}
use Rattle.model.specs.Lists.{◌and◌}
use Rattle.model.specs.Kinds.{Kind, slot_size, slot_start}
use Rattle.model.specs.Entries.{keys_of, mark_in, entry_in, free_mark, commit_rules}
use Rattle.model.specs.Records.{carries_version, record_at}

pub data Seen : Type 0 where
  free : Seen
  committed : Entry → Seen
  damaged : Seen

-- "Version slip n (from 1) of a committed drawer carries its nth key and the commit slip's ticket and clock.
-- Version slips above count are leftovers and are not read." The records r n, r (n + 1), .. carry the keys ks.
unfoldable pub versions_carry : (ℕ → List ℕ) → Id → ℕ → List ℕ → Bool
versions_carry r i n [] = true
versions_carry r i n (k ∷ ks) = carries_version (r n) k i and versions_carry r i (suc n) ks

-- by the mark being 0, and by the rules being kept
unfoldable pub judged : Bool → Bool → Entry → Seen
judged true kept e = free
judged false true e = committed e
judged false false e = damaged

-- "Mark is 0 (drawer free, the rest not read) or 1 (committed)."
unfoldable pub seen : Kind → List ℕ → ℕ → Seen
seen κ s d =
    let r : List ℕ = record_at κ s d 0 in
    judged (eqb (mark_in r) free_mark)
    (commit_rules κ r and versions_carry (record_at κ s d) (entry_in κ r).id 1 (keys_of (entry_in κ r)))
    (entry_in κ r)

-- "A drawer is handed on as its 216 bytes out of the store": those bytes, in which it is slot 0
unfoldable pub slot_bytes : Kind → List ℕ → ℕ → List ℕ
slot_bytes κ s d = take (slot_size κ) (drop (slot_start κ d) s)
