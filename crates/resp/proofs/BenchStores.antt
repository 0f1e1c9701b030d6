-- 02 §11: a store filled, and exported again, computed: "drawers from the top", the oldest in slot 63, all else zero.
use Prim.Native.Nat.{ℕ}
use mathlib.Core.Path.{◌≡◌, refl}
use mathlib.Core.List.{List, [], ◌∷◌, map}
use lib.ListN.{length, replicate}
use Rattle.model.specs.Lists.{◌and◌, ◌or◌, same, ascending, from, padded}
use Rattle.model.specs.Kinds.{narrow_kind, slot_start}
use Rattle.model.specs.Ids.{older, same_id}
use Rattle.model.specs.Bytes.{bytes, number, head_bytes, id_in}
use Rattle.model.specs.Entries.{commit_record, mark_in, entry_in, carries_keys, commit_rules, entry_rules}
use Rattle.model.specs.Records.{version_record, value_in, carries_version, record_at}
use Rattle.model.specs.Slots.{versions_carry, judged, seen}
use Rattle.model.specs.Scan.{slots_seen}
use Rattle.resp.specs.Exports.{writes_at, transaction_at, transactions_from, inserted, by_age, committed_set}
use Rattle.resp.specs.Imports.{entry_of, version_records, slot_of, slots_down, filled}
use Rattle.resp.proofs.BenchStreams.{first_two}

-- some records of the store of the two transactions: the first is in slot 63, the second in 62
pub places : List (ℕ × ℕ × List ℕ)
places =
    (63, 0, 1 ∷ 2 ∷ 0 ∷ 0 ∷ 5 ∷ 0 ∷ 0 ∷ 0 ∷ 7 ∷ 0 ∷ 0 ∷ 0 ∷ 0 ∷ 0 ∷ 0 ∷ 0 ∷ 2 ∷ 10 ∷ 0 ∷ 0 ∷ 0 ∷ 0 ∷ 0 ∷ 0 ∷ [])
    ∷ (63, 1, 2 ∷ 0 ∷ 0 ∷ 0 ∷ 5 ∷ 0 ∷ 0 ∷ 0 ∷ 7 ∷ 0 ∷ 0 ∷ 0 ∷ 0 ∷ 0 ∷ 0 ∷ 0 ∷ 40 ∷ 0 ∷ 0 ∷ 0 ∷ 0 ∷ 0 ∷ 0 ∷ 0 ∷ [])
    ∷ (63, 2, 10 ∷ 0 ∷ 0 ∷ 0 ∷ 5 ∷ 0 ∷ 0 ∷ 0 ∷ 7 ∷ 0 ∷ 0 ∷ 0 ∷ 0 ∷ 0 ∷ 0 ∷ 0 ∷ 0 ∷ 0 ∷ 0 ∷ 0 ∷ 0 ∷ 0 ∷ 0 ∷ 0 ∷ [])
    ∷ (63, 3, replicate 24 0)
    ∷ (62, 0, 1 ∷ 1 ∷ 0 ∷ 0 ∷ 6 ∷ 0 ∷ 0 ∷ 0 ∷ 7 ∷ 0 ∷ 0 ∷ 0 ∷ 0 ∷ 0 ∷ 0 ∷ 0 ∷ 2 ∷ 0 ∷ 0 ∷ 0 ∷ 0 ∷ 0 ∷ 0 ∷ 0 ∷ [])
    ∷ (62, 1, 2 ∷ 0 ∷ 0 ∷ 0 ∷ 6 ∷ 0 ∷ 0 ∷ 0 ∷ 7 ∷ 0 ∷ 0 ∷ 0 ∷ 0 ∷ 0 ∷ 0 ∷ 0 ∷ 41 ∷ 0 ∷ 0 ∷ 0 ∷ 0 ∷ 0 ∷ 0 ∷ 0 ∷ [])
    ∷ (62, 2, replicate 24 0)
    ∷ (61, 0, replicate 24 0)
    ∷ (0, 0, replicate 24 0)
    ∷ []

pub records-hold : map (λ (x : ℕ × ℕ × List ℕ). record_at narrow_kind (filled first_two) x.0 x.1) places ≡ map (λ (x : ℕ × ℕ × List ℕ). x.2) places
unfolding places first_two filled slots_down slot_of padded commit_record entry_of version_records version_record head_bytes bytes record_at slot_start
records-hold = refl

pub store_long : length (filled first_two) ≡ 13824
unfolding first_two filled slots_down slot_of padded commit_record entry_of version_records version_record head_bytes bytes
store_long = refl

-- "tickets oldest id first": their slots are 62 and 63, and the one in 63 comes first
pub exported-again : committed_set (filled first_two) ≡ first_two
unfolding first_two filled slots_down slot_of padded commit_record entry_of version_records version_record head_bytes bytes number record_at slot_start slots_seen from seen judged mark_in commit_rules carries_keys entry_rules entry_in id_in carries_version versions_carry value_in transactions_from transaction_at writes_at committed_set by_age inserted older same_id same ascending ◌and◌ ◌or◌
exported-again = refl
