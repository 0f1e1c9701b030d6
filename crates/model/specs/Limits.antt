-- 01 'Words': the limits, by name.
use Rattle.std.specs.Prelude.{ℕ, ◌^◌}

-- "Key: 0 to 63."
abbrev pub keys : ℕ
keys = 64

-- "A station holds eight live places and 64 drawer entries.": a wide one (02 §6) uses the first 32
abbrev pub live_places : ℕ
live_places = 8

abbrev pub entry_places : ℕ
entry_places = 64

-- "a write list (at most 8 keys ..) and a read list (at most 16 keys ..)": the room for a write list; its limit follows the kind (Kinds)
abbrev pub write_places : ℕ
write_places = 16

abbrev pub read_limit : ℕ
read_limit = 16

-- 02 §2: "20: limit 0 or above 64"
abbrev pub sweep_limit : ℕ
sweep_limit = 64

-- "64 drawers of 9 slips of 24 bytes"; in a commit record "keys 8" (bytes)
abbrev pub record_size : ℕ
record_size = 24

abbrev pub keys_size : ℕ
keys_size = 8

-- "Ticket: 1 to 2^32 − 1", "Value: a whole number below 2^64", "Clock: 1 to 2^64 − 1"; a key or a slot is handed over in a byte
abbrev pub txn_range : ℕ
txn_range = 2 ^ 32

abbrev pub number_range : ℕ
number_range = 2 ^ 64

abbrev pub byte_range : ℕ
byte_range = 2 ^ 8

-- "Clock: 1 to 2^64 − 1": that number, after which there is no clock (written out: the table computes with it often; ClockLaws, `last-clock`)
abbrev pub last_clock : ℕ
last_clock = 18446744073709551615
