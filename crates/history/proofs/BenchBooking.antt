-- The theorem of bookings has an instance: the request's own case, with clocks 100 and 50. Transaction 5 is committed with clock 100; then 9 closes, given 50, is
-- acknowledged, and 1 is started and asks.
use Prim.Native.Nat.{ℕ}
use mathlib.Core.Path.{◌≡◌, refl}
use mathlib.Core.List.Memᴰ
use mathlib.Core.List.{List, [], ◌∷◌}
use native.Mathlib.Omega.{arith}
use Rattle.model.specs.Kinds.{narrow_kind, slot_start}
use Rattle.model.specs.Lists.{◌and◌, ◌or◌, all, any, first, insert, padded, from, member, maximum, ascending, distinct, any_below, greatest_below}
use Rattle.model.specs.Ids.{same_id}
use Rattle.model.specs.Bytes.{bytes, head_bytes}
use Rattle.model.specs.Lives.{writes_of, reads_of, has_written, is_closing, closing_slot, closing_clock, records_stored, slot_mark, with_writes, with_phase}
use Rattle.model.specs.Entries.{commit_record, entry_rules, is_no_entry, entry_for}
use Rattle.model.specs.Stations.{empty_station, live_at, entry_at, set_live, set_entry, live_txns, held_txns, is_live, is_held, place_of, slot_of, holds, closing_slots, is_free}
use Rattle.model.specs.Records.{version_record, with_record}
use Rattle.model.specs.Sound.{is_no_write, is_no_read, is_no_live, zero_past_counts, sets_right, names, in_use, closing_right, place_right, entry_right, sound}
use Rattle.model.specs.Effects.{stored, says, says_storing, refusals, wrong_length, unsound}
use Rattle.model.specs.Start.{opened, start}
use Rattle.model.specs.Put.{with_write, put}
use Rattle.model.specs.Clocks.{clocks, clock_above}
use Rattle.model.specs.Commit.{highest_free, commit}
use Rattle.model.specs.Step.{one_more, stepped, step}
use Rattle.model.specs.Calls.{Start, Put, Commit, Step, does, is_sweep, txn_of, key_of, number_of}
use Rattle.history.specs.Ledger.{empty_ledger, draft_of, without, revised, with_drafts, at, committed_from, clocks_in, feed}
use Rattle.history.specs.Histories.{Event, called, begin, handed, reports, fed, after_call, next, run, call_in}
use Rattle.history.specs.Booking.{Booking}

pub before : List Event
before = called (Start 5) ∷ called (Put 5 11 7) ∷ called (Commit 5 100) ∷ called (Step 5) ∷ called (Step 5) ∷ called (Step 5) ∷ called (Start 9) ∷ called (Put 9 11 8) ∷ []

pub closing : List Event
closing = called (Step 9) ∷ called (Step 9) ∷ []

pub later : List Event
later = called (Start 1) ∷ []

no_start : Step 9 ≡ Start 9 → ⊥
no_start e = let z : ◌≡◌ {A = ℕ} 0 1 = cc in absurd (omega arith)

pub is-booking : Booking narrow_kind before closing later 9 50 1 11 8 (record { clock = 101; txn = 9 })
unfolding before closing later empty_ledger draft_of without revised with_drafts at committed_from clocks_in feed begin handed reports fed after_call next run call_in is_sweep txn_of key_of number_of ◌and◌ ◌or◌ all any first insert padded from member ascending distinct any_below greatest_below same_id empty_station writes_of reads_of has_written is_closing closing_slot closing_clock records_stored live_at entry_at set_live set_entry live_txns held_txns is_live is_held place_of slot_of holds slot_mark closing_slots is_free bytes head_bytes commit_record version_record entry_rules slot_start with_record is_no_write is_no_read is_no_entry is_no_live zero_past_counts sets_right names in_use closing_right place_right entry_right sound stored says says_storing refusals wrong_length unsound opened start with_writes with_write put with_phase highest_free maximum clocks clock_above commit entry_for one_more stepped step does
is-booking = record {
  slot = 62;
  closes = (_, refl, refl);
  acknowledged = (_, refl, refl);
  same = (no_start, (no_start, tt));
  wrote = (_, refl, refl);
  runs = (_, refl);
  asks = record { draft = _; live = refl; open-still = refl; unread = λ r m. absurd (Memᴰ.not-nil m); unwritten = refl };
}
