-- 01 'Slip bytes': the version record, and where a record (slip) lies. The commit record is in Entries.
use Rattle.std.specs.Prelude.{ℕ, ◌+◌, ◌*◌, Bool, List, ◌++◌, eqb, take, drop, get_or, replicate}
use Rattle.model.specs.declared.Id.{Id}
use Rattle.model.specs.Lists.{◌and◌}
use Rattle.model.specs.Limits.{record_size}
use Rattle.model.specs.Kinds.{Kind, slot_start}
use Rattle.model.specs.Ids.{same_id}
use Rattle.model.specs.Bytes.{bytes, number, head_bytes, id_in}

-- ── "Version slip: key 1, three zeros, ticket 4, clock 8, value 8." ──
unfoldable pub version_record : ℕ → Id → ℕ → List ℕ
version_record k i v = head_bytes k 0 i ++ bytes 8 v

unfoldable pub value_in : List ℕ → ℕ
value_in r = number (take 8 (drop 16 r))

-- it carries a key and an id, and has its zeros; any value
unfoldable pub carries_version : List ℕ → ℕ → Id → Bool
carries_version r k i = eqb (get_or r 0 0) k and eqb (get_or r 1 0) 0 and eqb (get_or r 2 0) 0 and eqb (get_or r 3 0) 0 and same_id (id_in r) i

-- what a collection stores: "24 zero bytes"
unfoldable pub zero_record : List ℕ
zero_record = replicate record_size 0

-- ── "64 drawers of 9 slips of 24 bytes. Slip 0 of a drawer is its commit slip, slips 1 to 8 its version slips." ──
-- where record n of slot d begins
abbrev pub record_place : Kind → ℕ → ℕ → ℕ
record_place κ d n = slot_start κ d + record_size * n

unfoldable pub record_at : Kind → List ℕ → ℕ → ℕ → List ℕ
record_at κ s d n = take record_size (drop (record_place κ d n) s)

-- "One store call writes one whole slip"
unfoldable pub with_record : Kind → List ℕ → ℕ → ℕ → List ℕ → List ℕ
with_record κ s d n r = take (record_place κ d n) s ++ (r ++ drop (record_place κ d n + record_size) s)
