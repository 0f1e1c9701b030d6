-- 01 'Sound stations', sentence by sentence. "At most 8 live tickets": a station has 8 live places.
use Rattle.std.specs.Prelude.{◌+◌, Bool, not, List, ◌++◌, map, eqb, ltb, leb, drop}
use Rattle.model.specs.declared.Read.{Read}
use Rattle.model.specs.Types.{Entry, Write, Live, Station}
use Rattle.model.specs.declared.Phase.{Phase}
use Rattle.model.specs.declared.Phase.TheVariants.{Unused, Open, Closing}
use Rattle.model.specs.Lists.{◌and◌, ◌or◌, all, ascending, distinct}
use Rattle.model.specs.Limits.{keys, read_limit}
use Rattle.model.specs.Kinds.{Kind}
use Rattle.model.specs.Ids.{same_id, no_id}
use Rattle.model.specs.Lives.{writes_of, reads_of, write_count, write_key, read_key, closing_slot, closing_clock, records_stored}
use Rattle.model.specs.Entries.{wrote_as, entry_rules, is_no_entry}
use Rattle.model.specs.Stations.{live_txns, held_txns, holds, closing_slots}

-- ── "All fields of unused places, entries and list positions are zero." ──
unfoldable pub is_no_write : Write → Bool
is_no_write w = eqb w.key 0 and eqb w.value 0

unfoldable pub is_no_read : Read → Bool
is_no_read r = eqb r.key 0 and same_id r.id no_id

unfoldable pub is_no_live : Live → Bool
is_no_live l = eqb l.txn 0 and eqb l.write_count 0 and eqb l.read_count 0 and all is_no_write l.writes and all is_no_read l.reads

unfoldable pub zero_past_counts : Live → Bool
zero_past_counts l = all is_no_write (drop l.write_count l.writes) and all is_no_read (drop l.read_count l.reads)

-- ── "Write and read lists are within their limits and strictly ascending, keys below 64." ──
unfoldable pub sets_right : Kind → Live → Bool
sets_right κ l =
    leb l.write_count κ.write_limit and leb l.read_count read_limit
    and ascending 0 keys (map write_key (writes_of l)) and ascending 0 keys (map read_key (reads_of l))

-- ── "Every read names an entry that wrote that key." ──
unfoldable pub names : List Entry → Read → Bool
names es r = wrote_as es r.id r.key

-- ── a live transaction: its number is nonzero, and the three sentences above hold ──
unfoldable pub in_use : Kind → List Entry → Live → Bool
in_use κ es l = leb 1 l.txn and sets_right κ l and all (names es) (reads_of l) and zero_past_counts l

-- ── "A closing ticket has 1 to 8 keys, a clock at least 1, 0 to n + 1 slips stored and a drawer below 64 that nothing else has." ──
-- (that no other closing transaction has it is said of the whole station)
unfoldable pub closing_right : Station → Live → Bool
closing_right st l =
    leb 1 (write_count l) and leb 1 (closing_clock l.phase) and leb (records_stored l.phase) (write_count l + 1)
    and ltb (closing_slot l.phase) st.kind.slots and not (holds st (closing_slot l.phase))

unfoldable pub place_right : Station → Phase → Live → Bool
place_right st Unused l = is_no_live l
place_right st Open l = in_use st.kind st.entries l
place_right st (Closing d c n) l = in_use st.kind st.entries l and closing_right st l

-- ── "Entries keep the commit slip's rules." ──
unfoldable pub entry_right : Kind → Entry → Bool
entry_right κ e = is_no_entry e or entry_rules κ e

unfoldable pub sound : Station → Bool
sound st =
    all (entry_right st.kind) st.entries
    -- of a kind with fewer slots than a station has entries, the rest are unused
    and all is_no_entry (drop st.kind.slots st.entries)
    and all (λ l. place_right st l.phase l) st.live
    -- "All tickets, live and held, are nonzero and different."
    and distinct (live_txns st ++ held_txns st)
    -- ".. a drawer .. that nothing else has"
    and distinct (closing_slots st)
