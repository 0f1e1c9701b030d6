-- 02 §6: what a store's kind says, and the two kinds. "Limits 1, 2, 11, 13, 14 and 18 follow the store's kind."
use Rattle.std.specs.Prelude.{ℕ, ◌+◌, ◌*◌, ◌≤◌, ◌<◌, ◌≡◌, ◌≢◌, true, List, length, take, get_or}
use Rattle.model.specs.Lists.{ascending, padded}
use Rattle.model.specs.Limits.{keys, entry_places, write_places, record_size, keys_size, byte_range}
use Rattle.model.specs.Bytes.{bytes, number}
use Rattle.model.specs.KeySets.{key_set, set_number}

pub record Kind : Type 0 where
  -- slots (drawers); the keys of a write set, at most; the mark of a commit record
  pub slots : ℕ
  pub write_limit : ℕ
  pub mark : ℕ
  -- the key bytes of a write set; the keys that a count and key bytes name
  pub encode : List ℕ → List ℕ
  pub decode : ℕ → List ℕ → List ℕ

-- 01: "64 drawers of 9 slips", mark 1, "the first count keys .., the remaining key bytes zero"
abbrev pub narrow_kind : Kind
narrow_kind = record { slots = 64; write_limit = 8; mark = 1; encode = padded 0 keys_size; decode = take }

-- 02 §6: "32 drawers of 17 slips, 13,056 bytes, write lists up to 16 keys. Its commit slip has mark 2, and its eight key bytes are the number
-- of §5, least byte first, with count equal to its ones."
abbrev pub wide_kind : Kind
wide_kind = record { slots = 32; write_limit = 16; mark = 2; encode = λ ks. bytes keys_size (set_number ks); decode = λ n bs. key_set (number bs) }

-- ── places. "Slip 0 of a drawer is its commit slip, slips 1 to 8 its version slips.": one for each key of a write set ──
abbrev pub width : Kind → ℕ
width κ = κ.write_limit + 1

abbrev pub slot_size : Kind → ℕ
slot_size κ = record_size * width κ

-- where slot d begins
unfoldable pub slot_start : Kind → ℕ → ℕ
slot_start κ d = slot_size κ * d

-- "Store: 13,824 lent bytes"
abbrev pub store_size : Kind → ℕ
store_size κ = slot_size κ * κ.slots

-- ── what is asked of a kind ──
-- a write set of it: the keys ascend, and are within its limit
abbrev pub WriteSet : Kind → List ℕ → Type 0
WriteSet κ ks = (ascending 0 keys ks ≡ true) × (length ks ≤ κ.write_limit)

-- a station has room for it; the mark is a byte, and not a free slot's; a write set has eight key bytes, and they and its count name its keys
pub record KindFits (κ : Kind) : Type 0 where
  pub slots-fit : κ.slots ≤ entry_places
  pub writes-fit : κ.write_limit ≤ write_places
  pub marked : κ.mark ≢ 0
  pub mark8 : κ.mark < byte_range
  pub eight : (ks : List ℕ) → WriteSet κ ks → length (κ.encode ks) ≡ keys_size
  pub bytes8 : (ks : List ℕ) → WriteSet κ ks → (i : ℕ) → get_or (κ.encode ks) i 0 < byte_range
  pub round : (ks : List ℕ) → WriteSet κ ks → κ.decode (length ks) (κ.encode ks) ≡ ks
