-- The station as an image of fixed length in lent bytes, for hosts in other languages (image version 3): sizes, and the bytes of each part.
-- "All numbers are least byte first; 4,552 bytes.
-- Head, 8 bytes: byte 0 the kind of the station's store, by its mark (1 narrow, 2 wide), bytes 1 to 7 zero.
-- Live place, 408 bytes, eight of them: byte 0 phase (0 unused, 1 open, 2 closing), byte 1 slot, byte 2 records stored (both 0 unless
-- closing), byte 3 count of reads, bytes 4 to 7 transaction, bytes 8 to 15 clock (0 unless closing), bytes 16 to 23 the write set's keys (a
-- number in which bit k stands for key k); then 16 values of 8 bytes; then 16 reads of 16 bytes (key, three zeros, transaction 4, clock 8).
-- Entry, 20 bytes, 64 of them after the places: transaction 4, clock 8, keys 8 (a number in which bit k stands for key k)."
use Rattle.std.specs.Prelude.{ℕ, zero, suc, ◌+◌, ◌*◌, List, [], ◌∷◌, ◌++◌, take, drop, get_or, replicate}
use Rattle.model.specs.declared.Id.{Id}
use Rattle.model.specs.declared.Read.{Read}
use Rattle.model.specs.declared.Entry.{Entry}
use Rattle.model.specs.declared.Phase.{Phase}
use Rattle.model.specs.declared.Phase.TheVariants.{Unused, Open, Closing}
use Rattle.model.specs.declared.Kind.{Kind}
use Rattle.model.specs.Limits.{live_places, entry_places, write_places, read_limit}
use Rattle.model.specs.Bytes.{bytes, number, id_in}
use Rattle.model.specs.Listed.{kind_named}
use Rattle.model.specs.Lives.{closing_slot, closing_clock, records_stored}

-- ── sizes ──
-- "Head, 8 bytes": the kind's
abbrev pub kind_size : ℕ
kind_size = 8

-- the 24 bytes before a place's values; "values of 8 bytes", "reads of 16 bytes"
abbrev pub head_size : ℕ
head_size = 24

abbrev pub value_size : ℕ
value_size = 8

abbrev pub read_size : ℕ
read_size = 16

abbrev pub values_size : ℕ
values_size = value_size * write_places

abbrev pub reads_size : ℕ
reads_size = read_size * read_limit

-- "live place, 408 bytes, eight of them", "entry, 20 bytes, 64 of them after the places"
abbrev pub place_size : ℕ
place_size = head_size + values_size + reads_size

abbrev pub places_size : ℕ
places_size = place_size * live_places

abbrev pub entry_size : ℕ
entry_size = 20

abbrev pub entries_size : ℕ
entries_size = entry_size * entry_places

abbrev pub image_size : ℕ
image_size = kind_size + places_size + entries_size

-- ── one after the other ──
-- the bytes of each element; n parts of k bytes
module _ {A : Type 0} where
  unfoldable pub flat : (A → List ℕ) → List A → List ℕ
  flat f [] = []
  flat f (x ∷ xs) = f x ++ flat f xs

unfoldable pub parts : ℕ → ℕ → List ℕ → List (List ℕ)
parts k zero b = []
parts k (suc n) b = take k b ∷ parts k n (drop k b)

-- ── a field: a number of so many bytes, or so many bytes as they are ──
pub data Field : Type 0 where
  num : ℕ → ℕ → Field
  raw : ℕ → List ℕ → Field

abbrev pub byte : ℕ → Field
byte x = raw 1 (x ∷ [])

abbrev pub zeros : ℕ → Field
zeros n = raw n (replicate n 0)

unfoldable pub field_bytes : Field → List ℕ
field_bytes (num n x) = bytes n x
field_bytes (raw n xs) = xs

-- a row: the bytes of its fields
unfoldable pub row : List Field → List ℕ
row fs = flat field_bytes fs

-- ── "Head, 8 bytes: byte 0 the kind .., by its mark .., bytes 1 to 7 zero" ──
abbrev pub kind_row : ℕ → List Field
kind_row m = byte m ∷ zeros 7 ∷ []

unfoldable pub kind_bytes : ℕ → List ℕ
kind_bytes m = row (kind_row m)

-- any other mark than the wide kind's is taken as the narrow kind's, and is then not among the bytes written
unfoldable pub kind_from : List ℕ → Kind
kind_from b = kind_named (get_or b 0 0)

-- ── "values of 8 bytes" ──
unfoldable pub value_bytes : ℕ → List ℕ
value_bytes v = bytes value_size v

unfoldable pub value_from : List ℕ → ℕ
value_from b = number b

-- ── what begins a read and a place: four bytes, then "transaction 4, clock 8" ──
unfoldable pub start_bytes : ℕ → ℕ → ℕ → ℕ → Id → List ℕ
start_bytes a b c d i = row (byte a ∷ byte b ∷ byte c ∷ byte d ∷ num 4 i.txn ∷ num 8 i.clock ∷ [])

-- ── "reads of 16 bytes (key, three zeros, transaction 4, clock 8)" ──
abbrev pub read_row : Read → List Field
read_row r = byte r.key ∷ zeros 3 ∷ num 4 r.id.txn ∷ num 8 r.id.clock ∷ []

unfoldable pub read_bytes : Read → List ℕ
read_bytes r = row (read_row r)

unfoldable pub read_from : List ℕ → Read
read_from b = record { key = get_or b 0 0; id = id_in b }

-- ── "Entry, 20 bytes ..: transaction 4, clock 8, keys 8" ──
abbrev pub entry_row : Entry → List Field
entry_row e = num 4 e.id.txn ∷ num 8 e.id.clock ∷ num 8 e.keys ∷ []

unfoldable pub entry_bytes : Entry → List ℕ
entry_bytes e = row (entry_row e)

unfoldable pub entry_from : List ℕ → Entry
entry_from b = record { id = record { clock = number (take 8 (drop 4 b)); txn = number (take 4 b) }; keys = number (take 8 (drop 12 b)) }

-- ── a phase: "0 unused, 1 open, 2 closing"; any other number is taken as closing, and is then not among the bytes written ──
unfoldable pub phase_number : Phase → ℕ
phase_number Unused = 0
phase_number Open = 1
phase_number (Closing d c n) = 2

unfoldable pub phase_of : ℕ → ℕ → ℕ → ℕ → Phase
phase_of zero d c n = Unused
phase_of (suc zero) d c n = Open
phase_of (suc (suc m)) d c n = Closing d c n

unfoldable pub phase_from : List ℕ → Phase
phase_from b = phase_of (get_or b 0 0) (get_or b 1 0) (id_in b).clock (get_or b 2 0)

-- ── what stands before a place's values: "byte 0 phase .., bytes 16 to 23 the write set's keys" ──
-- of a phase, a transaction, the count of its reads and the keys of its write set
abbrev pub head_row : Phase → ℕ → ℕ → ℕ → List Field
head_row p t r ks = byte (phase_number p) ∷ byte (closing_slot p) ∷ byte (records_stored p) ∷ byte r ∷ num 4 t ∷ num 8 (closing_clock p) ∷ num 8 ks ∷ []

unfoldable pub place_head : Phase → ℕ → ℕ → ℕ → List ℕ
place_head p t r ks = row (head_row p t r ks)

-- the keys that it carries
unfoldable pub keys_from : List ℕ → ℕ
keys_from b = number (take 8 (drop 16 b))
