-- A commit record's fields as its bytes have them, and its rules by these.
use Rattle.std.specs.Prelude.{ℕ, ◌≡◌, Bool, true, false, List, Option, Some, None, eqb, leb, length, take, drop, get_or}
use Rattle.model.specs.Lists.{◌and◌, all, ascending}
use Rattle.model.specs.Limits.{keys, keys_size, record_size}
use Rattle.model.specs.Kinds.{Kind, wide_kind}
use Rattle.model.specs.declared as machine
use Rattle.model.specs.Types.{Entry}
use Rattle.model.specs.Listed.{listed_entry}
use Rattle.model.specs.declared.Id.{Id}
use Rattle.model.specs.Bytes.{id_in}
use Rattle.model.specs.Entries.{keys_of, count_in, key_bytes, mark_in, entry_in, carries_keys, entry_rules}
use Rattle.model.specs.Records.{record_at}
use Rattle.model.specs.Slots.{versions_carry}
use Rattle.records.specs.declared.Fields.{Fields}

unfoldable pub fields_in : List ℕ → Fields
fields_in r = record { id = id_in r; count = count_in r; keys = key_bytes r }

unfoldable pub first_keys : Fields → List ℕ
first_keys f = take f.count f.keys

-- 01 'Slip bytes': "count 1 to 8, ticket and clock at least 1, the first count keys strictly ascending and below 64, the remaining key bytes zero"
unfoldable pub field_rules : Fields → Bool
field_rules f =
    leb 1 f.count and leb f.count keys_size
    and leb 1 f.id.txn and leb 1 f.id.clock
    and ascending 0 keys (first_keys f)
    and all (eqb 0) (drop f.count f.keys)

-- 02 §6: "with count equal to its ones", up to 16; the id as above
unfoldable pub number_rules : ℕ → List ℕ → Id → Bool
number_rules count ks i = eqb count (length ks) and leb 1 (length ks) and leb (length ks) wide_kind.write_limit and leb 1 i.txn and leb 1 i.clock

-- its kind's mark, and the two zeros
unfoldable pub is_commit : Kind → List ℕ → Bool
is_commit κ r = eqb (mark_in r) κ.mark and eqb (get_or r 2 0) 0 and eqb (get_or r 3 0) 0

-- the other rules of a slot's bytes w
unfoldable pub rest_rules : Kind → List ℕ → Bool
rest_rules κ w =
    let e : Entry = entry_in κ (take record_size w) in
    (carries_keys κ (take record_size w) (keys_of e) and entry_rules κ e) and versions_carry (record_at κ w 0) e.id 1 (keys_of e)

-- its entry, where these are kept; none, where they are not
unfoldable pub IsWritten : Kind → List ℕ → Option machine.Entry.Entry → Type 0
IsWritten κ w None = rest_rules κ w ≡ false
IsWritten κ w (Some e) = (rest_rules κ w ≡ true) × (listed_entry e ≡ entry_in κ (take record_size w))
