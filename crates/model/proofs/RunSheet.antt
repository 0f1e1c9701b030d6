-- 01 'The run sheet': its example. The fifteen calls, and the values a, b, c that the answers give; `cut` is a scan.
use mathlib.Core.Path.{◌≡◌, refl}
use mathlib.Core.List.{List, [], ◌∷◌, map}
use mathlib.Core.Option.{Option-elim}
use lib.ListN.{replicate}
use Rattle.model.specs.declared.Answer.{Answer}
use Rattle.model.specs.declared.Answer.TheVariants as A
use Rattle.model.specs.Lists.{◌and◌, ◌or◌, all, any, first, filter, count, insert, padded, from, member, least, maximum, ascending, distinct, same, any_below, greatest_below}
use Rattle.model.specs.Kinds.{narrow_kind, slot_start, store_size}
use Rattle.model.specs.Ids.{older, same_id, newer_of, greatest}
use Rattle.model.specs.Bytes.{bytes, number, id_in, head_bytes}
use Rattle.model.specs.Lives.{writes_of, reads_of, has_written, has_read, value_under, is_closing, closing_slot, closing_clock, records_stored, slot_mark, with_writes, with_reads, with_phase}
use Rattle.model.specs.Entries.{carries_keys, wrote, wrote_as, mark_in, entry_in, commit_record, entry_rules, commit_rules, carries_entry, record_of, is_no_entry, entry_for}
use Rattle.model.specs.Stations.{empty_station, live_at, entry_at, set_live, set_entry, live_txns, held_txns, is_live, is_held, place_of, slot_of, holds, closing_slots, is_free}
use Rattle.model.specs.Records.{value_in, version_record, zero_record, carries_version, record_at, with_record}
use Rattle.model.specs.Slots.{versions_carry, judged, seen}
use Rattle.model.specs.Sound.{is_no_write, is_no_read, is_no_live, zero_past_counts, sets_right, names, in_use, closing_right, place_right, entry_right, sound}
use Rattle.model.specs.Orders.{keep_first, foremost, newest}
use Rattle.model.specs.Reading.{lower_bound, conflicts_with, lowest_conflict, conflicts, passes, newest_writer, key_in_the_way, chosen, choose}
use Rattle.model.specs.Supersedence.{newer_on, superseded, is_read_by, is_read}
use Rattle.model.specs.Effects.{stored, says, says_storing, refusals, wrong_length, unsound}
use Rattle.model.specs.Start.{opened, start}
use Rattle.model.specs.Put.{with_write, put}
use Rattle.model.specs.Get.{choice_of, with_read, version_at, no_room, not_carried, answered, get}
use Rattle.model.specs.Clocks.{clocks, clock_above}
use Rattle.model.specs.Commit.{highest_free, commit}
use Rattle.model.specs.Step.{one_more, stepped, step}
use Rattle.model.specs.Abort.{abort}
use Rattle.model.specs.Collect.{collect}
use Rattle.model.specs.Scan.{slots_seen, entry_seen, entries_seen, is_committed, breaks, lowest_broken, scanned, scan}
use Rattle.model.specs.Calls.{Call, Start, Put, Get, Commit, Step, Abort, Collect, Scan, does, answers}
use Rattle.model.specs.Answers.{Values, values, values_of}

pub sheet_calls : List Call
sheet_calls =
    Start 5 ∷ Put 5 2 40 ∷ Put 5 1 7 ∷ Get 5 2 ∷ Commit 5 100 ∷ Step 5 ∷ Step 5 ∷ Step 5
    ∷ Scan ∷ Start 6 ∷ Get 6 2 ∷ Get 6 9 ∷ Commit 5 200 ∷ Collect 63 ∷ Abort 6 ∷ []

pub sheet_answers : List Answer
sheet_answers =
    A.Started ∷ A.Kept ∷ A.Kept ∷ A.Own 40 ∷ A.Closing 63 ∷ A.Stored 1 ∷ A.Stored 2 ∷ A.Slipped 63
    ∷ A.Found 1 ∷ A.Started ∷ A.Version 40 (record { clock = 100; txn = 5 }) ∷ A.None ∷ A.Done (record { clock = 100; txn = 5 })
    ∷ A.Refused 15 0 ∷ A.Dropped ∷ []

pub sheet_values : List Values
sheet_values =
    values 0 0 0 ∷ values 0 0 0 ∷ values 0 0 0 ∷ values 40 0 0 ∷ values 63 0 0 ∷ values 1 0 0 ∷ values 2 0 0 ∷ values 63 0 0
    ∷ values 1 0 0 ∷ values 0 0 0 ∷ values 40 100 5 ∷ values 0 0 0 ∷ values 0 100 5 ∷ values 15 0 0 ∷ values 0 0 0 ∷ []

pub sheet-answers : answers sheet_calls (empty_station narrow_kind) (replicate (store_size narrow_kind) 0) ≡ sheet_answers
unfolding sheet_calls sheet_answers ◌and◌ ◌or◌ all any first filter count insert padded from member ascending distinct same any_below greatest_below older same_id newer_of greatest empty_station writes_of reads_of wrote wrote_as has_written has_read value_under is_closing closing_slot closing_clock records_stored live_at entry_at set_live set_entry live_txns held_txns is_live is_held place_of slot_of holds slot_mark closing_slots is_free bytes number id_in mark_in entry_in value_in head_bytes commit_record version_record zero_record entry_rules carries_keys commit_rules carries_entry carries_version slot_start record_at with_record record_of versions_carry judged seen is_no_write is_no_read is_no_entry is_no_live zero_past_counts sets_right names in_use closing_right place_right entry_right sound lower_bound conflicts_with least lowest_conflict conflicts Option-elim passes keep_first foremost newest newest_writer key_in_the_way chosen choose newer_on superseded is_read_by is_read stored says says_storing refusals wrong_length unsound opened start with_writes with_write put choice_of with_reads with_read version_at no_room not_carried answered get with_phase highest_free maximum clocks clock_above commit entry_for one_more stepped step abort collect slots_seen entry_seen entries_seen is_committed breaks lowest_broken scanned scan does answers
sheet-answers = refl

pub sheet-values : map values_of sheet_answers ≡ sheet_values
unfolding sheet_answers sheet_values values_of
sheet-values = refl
