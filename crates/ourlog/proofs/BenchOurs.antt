-- The log of a history, computed: 1 writes two keys and power goes right after its commit record; 2 reads both and writes one, whose own value it then
-- gets, and is aborted. What is said of it: six lines, and the numbers that were started.
use mathlib.Core.Path.{◌≡◌, refl}
use mathlib.Core.List.{List, [], ◌∷◌}
use mathlib.Core.Option.{Option-elim}
use Rattle.model.specs.declared.Id.{Id}
use Rattle.model.specs.Lists.{◌and◌, ◌or◌, all, any, first, filter, count, insert, padded, from, member, least, maximum, ascending, distinct, same, any_below, greatest_below}
use Rattle.model.specs.Kinds.{narrow_kind, slot_start}
use Rattle.model.specs.Ids.{older, same_id, newer_of, greatest}
use Rattle.model.specs.Bytes.{bytes, number, id_in, head_bytes}
use Rattle.model.specs.Lives.{writes_of, reads_of, has_written, has_read, value_under, is_closing, closing_slot, closing_clock, records_stored, slot_mark, with_writes, with_reads, with_phase}
use Rattle.model.specs.Entries.{carries_keys, wrote, wrote_as, mark_in, entry_in, commit_record, entry_rules, commit_rules, carries_entry, record_of, is_no_entry, entry_for}
use Rattle.model.specs.Stations.{empty_station, live_at, entry_at, set_live, set_entry, live_txns, held_txns, is_live, is_held, place_of, slot_of, holds, closing_slots, is_free}
use Rattle.model.specs.Records.{value_in, version_record, zero_record, carries_version, record_at, with_record}
use Rattle.model.specs.Slots.{versions_carry, judged, seen}
use Rattle.model.specs.Sound.{is_no_write, is_no_read, is_no_live, zero_past_counts, sets_right, names, in_use, closing_right, place_right, entry_right, sound}
use Rattle.model.specs.Orders.{keep_first, foremost, newest}
use Rattle.model.specs.Reading.{lower_bound, conflicts_with, lowest_conflict, conflicts, passes, newest_writer, key_in_the_way, chosen, choose}
use Rattle.model.specs.Effects.{stored, says, says_storing, refusals, wrong_length, unsound}
use Rattle.model.specs.Start.{opened, start}
use Rattle.model.specs.Put.{with_write, put}
use Rattle.model.specs.Get.{choice_of, with_read, version_at, no_room, not_carried, answered, get}
use Rattle.model.specs.Clocks.{clocks, clock_above}
use Rattle.model.specs.Commit.{highest_free, commit}
use Rattle.model.specs.Step.{one_more, stepped, step}
use Rattle.model.specs.Abort.{abort}
use Rattle.model.specs.Scan.{slots_seen, entry_seen, entries_seen, breaks, lowest_broken, scanned, scan}
use Rattle.model.specs.Answers.{swept_in}
use Rattle.model.specs.Calls.{Start, Put, Get, Commit, Step, Abort, Scan, does, is_scan, is_sweep, txn_of, key_of, number_of}
use Rattle.history.specs.Ledger.{empty_ledger, draft_of, without, revised, with_drafts, at, committed_from, clocks_in, feed}
use Rattle.history.specs.Histories.{Event, called, cut, begin, handed, reports, fed, given_after, after_call, after_cut, next}
use Rattle.shoplog.specs.Lines as log
use Rattle.ourlog.specs.OurLog.{logged, reports_for, reports_of, lines_of, log_of, started_in, starts_in, starts_of}

pub day : List Event
day =
    called (Start 1) ∷ called (Put 1 0 400) ∷ called (Put 1 1 500) ∷ called (Commit 1 100) ∷ called (Step 1) ∷ called (Step 1) ∷ cut (Step 1) 1
    ∷ called Scan ∷ called (Start 2) ∷ called (Get 2 0) ∷ called (Get 2 1) ∷ called (Put 2 0 401) ∷ called (Get 2 0) ∷ called (Abort 2) ∷ []

abbrev first-id : Id
first-id = record { clock = 100; txn = 1 }

pub day-logged : (log_of day (begin narrow_kind) ≡ log.write 1 0 ∷ log.write 1 1 ∷ log.commit 1 100 ∷ log.read 2 0 first-id ∷ log.read 2 1 first-id ∷ log.write 2 0 ∷ []) × (starts_of day (begin narrow_kind) ≡ 1 ∷ 2 ∷ [])
unfolding day logged reports_for reports_of lines_of log_of started_in starts_in starts_of empty_ledger draft_of without revised with_drafts at committed_from clocks_in feed begin handed is_scan reports fed given_after after_call after_cut next is_sweep txn_of key_of number_of swept_in ◌and◌ ◌or◌ all any first filter count insert padded from member ascending distinct same any_below greatest_below older same_id newer_of greatest empty_station writes_of reads_of wrote wrote_as has_written has_read value_under is_closing closing_slot closing_clock records_stored live_at entry_at set_live set_entry live_txns held_txns is_live is_held place_of slot_of holds slot_mark closing_slots is_free bytes number id_in mark_in entry_in value_in head_bytes commit_record version_record zero_record entry_rules carries_keys commit_rules carries_entry carries_version slot_start record_at with_record record_of versions_carry judged seen is_no_write is_no_read is_no_entry is_no_live zero_past_counts sets_right names in_use closing_right place_right entry_right sound lower_bound conflicts_with least lowest_conflict conflicts Option-elim passes keep_first foremost newest newest_writer key_in_the_way chosen choose stored says says_storing refusals wrong_length unsound opened start with_writes with_write put choice_of with_reads with_read version_at no_room not_carried answered get with_phase highest_free maximum clocks clock_above commit entry_for one_more stepped step abort slots_seen entry_seen entries_seen breaks lowest_broken scanned scan does
day-logged = (refl, refl)
