-- 01 'Words': a live transaction (ticket) and its place. Every other definition builds and reads one through these.
use Rattle.std.specs.Prelude.{ℕ, suc, Bool, true, false, List, [], map, eqb, length, take, get_or, replicate}
use Rattle.model.specs.Types.{Write, Live}
use Rattle.model.specs.declared.Read.{Read}
use Rattle.model.specs.declared.Phase.{Phase}
use Rattle.model.specs.declared.Phase.TheVariants.{Unused, Open, Closing}
use Rattle.model.specs.Lists.{first, member, padded}
use Rattle.model.specs.Limits.{write_places, read_limit}
use Rattle.model.specs.Ids.{no_id}

-- ── unused: "All fields of unused places, entries and list positions are zero." ──
abbrev pub no_write : Write
no_write = record { key = 0; value = 0 }

abbrev pub no_read : Read
no_read = record { key = 0; id = no_id }

-- with empty lists
abbrev pub blank : ℕ → Phase → Live
blank t p = record { txn = t; phase = p; write_count = 0; writes = replicate write_places no_write; read_count = 0; reads = replicate read_limit no_read }

abbrev pub no_live : Live
no_live = blank 0 Unused

-- past the last place, where no call looks, all is zero
abbrev pub live_beyond : Live
live_beyond = record { txn = 0; phase = Unused; write_count = 0; writes = []; read_count = 0; reads = [] }

-- ── its sets ──
unfoldable pub writes_of : Live → List Write
writes_of l = take l.write_count l.writes

unfoldable pub reads_of : Live → List Read
reads_of l = take l.read_count l.reads

-- how many keys it writes
abbrev pub write_count : Live → ℕ
write_count l = length (writes_of l)

-- their keys
abbrev pub write_key : Write → ℕ
write_key w = w.key

abbrev pub write_value : Write → ℕ
write_value w = w.value

abbrev pub read_key : Read → ℕ
read_key r = r.key

unfoldable pub has_written : ℕ → Live → Bool
has_written k l = member k (map write_key (writes_of l))

unfoldable pub has_read : ℕ → Live → Bool
has_read k l = member k (map read_key (reads_of l))

-- the value under a key of a write set
unfoldable pub value_under : ℕ → List Write → ℕ
value_under k ws = (get_or ws (first (eqb k) (map write_key ws)) no_write).value

-- ── how far it is ──
unfoldable pub is_closing : Phase → Bool
is_closing Unused = false
is_closing Open = false
is_closing (Closing d c n) = true

-- a closing transaction's slot, clock and records stored; 0 of any other
unfoldable pub closing_slot : Phase → ℕ
closing_slot Unused = 0
closing_slot Open = 0
closing_slot (Closing d c n) = d

unfoldable pub closing_clock : Phase → ℕ
closing_clock Unused = 0
closing_clock Open = 0
closing_clock (Closing d c n) = c

unfoldable pub records_stored : Phase → ℕ
records_stored Unused = 0
records_stored Open = 0
records_stored (Closing d c n) = n

-- the slot that a closing transaction has, counted from 1; 0 of any other
unfoldable pub slot_mark : Phase → ℕ
slot_mark Unused = 0
slot_mark Open = 0
slot_mark (Closing d c n) = suc d

-- ── it with other writes, other reads, another phase ──
unfoldable pub with_writes : List Write → Live → Live
with_writes ws l = record { txn = l.txn; phase = l.phase; write_count = length ws; writes = padded no_write write_places ws; read_count = l.read_count; reads = l.reads }

unfoldable pub with_reads : List Read → Live → Live
with_reads rs l = record { txn = l.txn; phase = l.phase; write_count = l.write_count; writes = l.writes; read_count = length rs; reads = padded no_read read_limit rs }

unfoldable pub with_phase : Phase → Live → Live
with_phase p l = record { txn = l.txn; phase = p; write_count = l.write_count; writes = l.writes; read_count = l.read_count; reads = l.reads }
