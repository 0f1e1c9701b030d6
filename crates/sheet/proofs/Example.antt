-- 01's example sheet, run through the definitions byte by byte.
use Prim.Native.Nat.{ℕ}
use mathlib.Core.Path.{◌≡◌, refl}
use mathlib.Core.List.{List, [], ◌∷◌}
use mathlib.Core.Option.{Option-elim}
use Rattle.model.specs.Kinds.{slot_start}
use Rattle.model.specs.Lists.{◌and◌, ◌or◌, all, any, first, filter, count, insert, padded, from, member, least, maximum, ascending, distinct, same, any_below, greatest_below}
use Rattle.model.specs.Ids.{older, same_id, newer_of, greatest}
use Rattle.model.specs.Bytes.{bytes, number, id_in, head_bytes}
use Rattle.model.specs.Lives.{writes_of, reads_of, has_written, has_read, value_under, is_closing, closing_slot, closing_clock, records_stored, slot_mark, with_writes, with_reads, with_phase}
use Rattle.model.specs.Entries.{carries_keys, wrote, wrote_as, mark_in, entry_in, commit_record, entry_rules, commit_rules, carries_entry, record_of, is_no_entry, entry_for}
use Rattle.model.specs.Stations.{empty_station, live_at, entry_at, set_live, set_entry, live_txns, held_txns, is_live, is_held, place_of, slot_of, holds, closing_slots, is_free}
use Rattle.model.specs.Clocks.{clocks, clock_above}
use Rattle.model.specs.Records.{value_in, version_record, zero_record, carries_version, record_at, with_record}
use Rattle.model.specs.Slots.{versions_carry, judged, seen}
use Rattle.model.specs.Sound.{is_no_write, is_no_read, is_no_live, zero_past_counts, sets_right, names, in_use, closing_right, place_right, entry_right, sound}
use Rattle.model.specs.Orders.{keep_first, foremost, newest}
use Rattle.model.specs.Reading.{lower_bound, conflicts_with, lowest_conflict, conflicts, passes, newest_writer, key_in_the_way, chosen, choose}
use Rattle.model.specs.Supersedence.{newer_on, superseded, is_read_by, is_read}
use Rattle.model.specs.Effects.{stored, says, says_storing, refusals, wrong_length, unsound}
use Rattle.model.specs.Start.{opened, start}
use Rattle.model.specs.Put.{with_write, put}
use Rattle.model.specs.Get.{choice_of, with_read, version_at, no_room, not_carried, answered, get}
use Rattle.model.specs.Commit.{highest_free, commit}
use Rattle.model.specs.Step.{one_more, stepped, step}
use Rattle.model.specs.Abort.{abort}
use Rattle.model.specs.Collect.{collect}
use Rattle.model.specs.Scan.{slots_seen, entry_seen, entries_seen, is_committed, breaks, lowest_broken, scanned, scan}
use Rattle.model.specs.Calls.{does}
use Rattle.model.specs.Answers.{values_of}
use Rattle.decimal.specs.Digits.{digits_of, digits, is_digit, number_from, is_decimal, number_below}
use Rattle.decimal.specs.Fields.{field, after_field}
use Rattle.sheet.specs.Words.{verb_bytes, word_of, header}
use Rattle.sheet.specs.Lines.{verb_in, if_unused, call_in, of_fields, fourth, third, second, line_call}
use Rattle.lines.specs.Lines.{first_line, other_lines}
use Rattle.sheet.specs.Sheets.{new_desk, line_effect, after_line, printed, line_output, lines_output, sheet_of}

pub example_input : List ℕ
example_input = 115 ∷ 116 ∷ 97 ∷ 114 ∷ 116 ∷ 44 ∷ 53 ∷ 44 ∷ 48 ∷ 44 ∷ 48 ∷ 10 ∷ 112 ∷ 117 ∷ 116 ∷ 44 ∷ 53 ∷ 44 ∷ 50 ∷ 44 ∷ 52 ∷ 48 ∷ 10 ∷ 112 ∷ 117 ∷ 116 ∷ 44 ∷ 53 ∷ 44 ∷ 49 ∷ 44 ∷ 55 ∷ 10 ∷ 103 ∷ 101 ∷ 116 ∷ 44 ∷ 53 ∷ 44 ∷ 50 ∷ 44 ∷ 48 ∷ 10 ∷ 99 ∷ 111 ∷ 109 ∷ 109 ∷ 105 ∷ 116 ∷ 44 ∷ 53 ∷ 44 ∷ 48 ∷ 44 ∷ 49 ∷ 48 ∷ 48 ∷ 10 ∷ 115 ∷ 116 ∷ 101 ∷ 112 ∷ 44 ∷ 53 ∷ 44 ∷ 48 ∷ 44 ∷ 48 ∷ 10 ∷ 115 ∷ 116 ∷ 101 ∷ 112 ∷ 44 ∷ 53 ∷ 44 ∷ 48 ∷ 44 ∷ 48 ∷ 10 ∷ 115 ∷ 116 ∷ 101 ∷ 112 ∷ 44 ∷ 53 ∷ 44 ∷ 48 ∷ 44 ∷ 48 ∷ 10 ∷ 99 ∷ 117 ∷ 116 ∷ 44 ∷ 48 ∷ 44 ∷ 48 ∷ 44 ∷ 48 ∷ 10 ∷ 115 ∷ 116 ∷ 97 ∷ 114 ∷ 116 ∷ 44 ∷ 54 ∷ 44 ∷ 48 ∷ 44 ∷ 48 ∷ 10 ∷ 103 ∷ 101 ∷ 116 ∷ 44 ∷ 54 ∷ 44 ∷ 50 ∷ 44 ∷ 48 ∷ 10 ∷ 103 ∷ 101 ∷ 116 ∷ 44 ∷ 54 ∷ 44 ∷ 57 ∷ 44 ∷ 48 ∷ 10 ∷ 99 ∷ 111 ∷ 109 ∷ 109 ∷ 105 ∷ 116 ∷ 44 ∷ 53 ∷ 44 ∷ 48 ∷ 44 ∷ 50 ∷ 48 ∷ 48 ∷ 10 ∷ 99 ∷ 111 ∷ 108 ∷ 108 ∷ 101 ∷ 99 ∷ 116 ∷ 44 ∷ 48 ∷ 44 ∷ 54 ∷ 51 ∷ 44 ∷ 48 ∷ 10 ∷ 97 ∷ 98 ∷ 111 ∷ 114 ∷ 116 ∷ 44 ∷ 54 ∷ 44 ∷ 48 ∷ 44 ∷ 48 ∷ 10 ∷ []

pub example_output : List ℕ
example_output = 108 ∷ 105 ∷ 110 ∷ 101 ∷ 44 ∷ 97 ∷ 110 ∷ 115 ∷ 119 ∷ 101 ∷ 114 ∷ 44 ∷ 97 ∷ 44 ∷ 98 ∷ 44 ∷ 99 ∷ 10 ∷ 49 ∷ 44 ∷ 115 ∷ 116 ∷ 97 ∷ 114 ∷ 116 ∷ 101 ∷ 100 ∷ 44 ∷ 48 ∷ 44 ∷ 48 ∷ 44 ∷ 48 ∷ 10 ∷ 50 ∷ 44 ∷ 107 ∷ 101 ∷ 112 ∷ 116 ∷ 44 ∷ 48 ∷ 44 ∷ 48 ∷ 44 ∷ 48 ∷ 10 ∷ 51 ∷ 44 ∷ 107 ∷ 101 ∷ 112 ∷ 116 ∷ 44 ∷ 48 ∷ 44 ∷ 48 ∷ 44 ∷ 48 ∷ 10 ∷ 52 ∷ 44 ∷ 111 ∷ 119 ∷ 110 ∷ 44 ∷ 52 ∷ 48 ∷ 44 ∷ 48 ∷ 44 ∷ 48 ∷ 10 ∷ 53 ∷ 44 ∷ 99 ∷ 108 ∷ 111 ∷ 115 ∷ 105 ∷ 110 ∷ 103 ∷ 44 ∷ 54 ∷ 51 ∷ 44 ∷ 48 ∷ 44 ∷ 48 ∷ 10 ∷ 54 ∷ 44 ∷ 115 ∷ 116 ∷ 111 ∷ 114 ∷ 101 ∷ 100 ∷ 44 ∷ 49 ∷ 44 ∷ 48 ∷ 44 ∷ 48 ∷ 10 ∷ 55 ∷ 44 ∷ 115 ∷ 116 ∷ 111 ∷ 114 ∷ 101 ∷ 100 ∷ 44 ∷ 50 ∷ 44 ∷ 48 ∷ 44 ∷ 48 ∷ 10 ∷ 56 ∷ 44 ∷ 115 ∷ 108 ∷ 105 ∷ 112 ∷ 112 ∷ 101 ∷ 100 ∷ 44 ∷ 54 ∷ 51 ∷ 44 ∷ 48 ∷ 44 ∷ 48 ∷ 10 ∷ 57 ∷ 44 ∷ 102 ∷ 111 ∷ 117 ∷ 110 ∷ 100 ∷ 44 ∷ 49 ∷ 44 ∷ 48 ∷ 44 ∷ 48 ∷ 10 ∷ 49 ∷ 48 ∷ 44 ∷ 115 ∷ 116 ∷ 97 ∷ 114 ∷ 116 ∷ 101 ∷ 100 ∷ 44 ∷ 48 ∷ 44 ∷ 48 ∷ 44 ∷ 48 ∷ 10 ∷ 49 ∷ 49 ∷ 44 ∷ 118 ∷ 101 ∷ 114 ∷ 115 ∷ 105 ∷ 111 ∷ 110 ∷ 44 ∷ 52 ∷ 48 ∷ 44 ∷ 49 ∷ 48 ∷ 48 ∷ 44 ∷ 53 ∷ 10 ∷ 49 ∷ 50 ∷ 44 ∷ 110 ∷ 111 ∷ 110 ∷ 101 ∷ 44 ∷ 48 ∷ 44 ∷ 48 ∷ 44 ∷ 48 ∷ 10 ∷ 49 ∷ 51 ∷ 44 ∷ 100 ∷ 111 ∷ 110 ∷ 101 ∷ 44 ∷ 48 ∷ 44 ∷ 49 ∷ 48 ∷ 48 ∷ 44 ∷ 53 ∷ 10 ∷ 49 ∷ 52 ∷ 44 ∷ 114 ∷ 101 ∷ 102 ∷ 117 ∷ 115 ∷ 101 ∷ 100 ∷ 44 ∷ 49 ∷ 53 ∷ 44 ∷ 48 ∷ 44 ∷ 48 ∷ 10 ∷ 49 ∷ 53 ∷ 44 ∷ 100 ∷ 114 ∷ 111 ∷ 112 ∷ 112 ∷ 101 ∷ 100 ∷ 44 ∷ 48 ∷ 44 ∷ 48 ∷ 44 ∷ 48 ∷ 10 ∷ []

pub example-holds : sheet_of example_input ≡ example_output
unfolding example_input example_output ◌and◌ ◌or◌ all any first filter count insert padded from member maximum ascending distinct same any_below greatest_below older same_id newer_of greatest empty_station clocks clock_above writes_of reads_of wrote wrote_as has_written has_read value_under is_closing closing_slot closing_clock records_stored live_at entry_at set_live set_entry live_txns held_txns is_live is_held place_of slot_of holds slot_mark closing_slots is_free bytes number id_in mark_in entry_in value_in head_bytes commit_record version_record zero_record entry_rules carries_keys commit_rules carries_entry carries_version record_at with_record record_of versions_carry judged seen is_no_write is_no_read is_no_entry is_no_live zero_past_counts sets_right names in_use closing_right place_right entry_right sound lower_bound conflicts_with least lowest_conflict conflicts Option-elim passes keep_first foremost newest newest_writer key_in_the_way chosen choose newer_on superseded is_read_by is_read stored says says_storing refusals wrong_length unsound opened start with_writes with_write put choice_of with_reads with_read version_at no_room not_carried answered get with_phase highest_free commit entry_for one_more stepped step abort collect slots_seen entry_seen entries_seen is_committed breaks lowest_broken scanned scan does values_of digits_of digits is_digit number_from is_decimal number_below verb_bytes word_of header field after_field verb_in if_unused call_in of_fields fourth third second line_call first_line other_lines new_desk line_effect after_line printed line_output lines_output sheet_of slot_start
example-holds = refl
