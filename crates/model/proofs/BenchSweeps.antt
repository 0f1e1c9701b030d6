-- 02 §2, computed: sweeps of made-up stations, with the calls around them, and which slots are held afterwards.
use Prim.Native.Nat.{ℕ, suc, ◌+◌, ◌*◌}
use mathlib.Core.Path.{◌≡◌, refl}
use mathlib.Core.Bool.{Bool, true, false}
use mathlib.Core.List.{List, [], ◌∷◌, map}
use mathlib.Core.Option.{Option-elim}
use lib.ListN.{replicate, set}
use Rattle.model.specs.declared.Id.{Id}
use Rattle.model.specs.Types.{Entry, Station}
use Rattle.model.specs.declared.Phase.TheVariants.{Open}
use Rattle.model.specs.declared.Answer.{Answer}
use Rattle.model.specs.declared.Answer.TheVariants as A
use Rattle.model.specs.Lists.{◌and◌, ◌or◌, all, any, first, filter, padded, from, member, ascending, distinct, same}
use Rattle.model.specs.Limits.{entry_places}
use Rattle.model.specs.Kinds.{narrow_kind, slot_size, slot_start, store_size}
use Rattle.model.specs.Ids.{older, same_id}
use Rattle.model.specs.Bytes.{bytes, number, id_in, head_bytes}
use Rattle.model.specs.Lives.{blank, writes_of, reads_of, slot_mark, with_reads}
use Rattle.model.specs.Entries.{carries_keys, no_entry, wrote, wrote_as, mark_in, entry_in, commit_record, entry_rules, carries_entry, is_no_entry}
use Rattle.model.specs.Stations.{idle_station, live_at, entry_at, set_live, set_entry, live_txns, held_txns, holds, closing_slots}
use Rattle.model.specs.Records.{zero_record, record_at, with_record}
use Rattle.model.specs.Sound.{is_no_write, is_no_read, is_no_live, zero_past_counts, sets_right, names, in_use, place_right, entry_right, sound}
use Rattle.model.specs.Orders.{keep_first, foremost, newer, oldest}
use Rattle.model.specs.Supersedence.{newer_on, superseded, is_read_by, is_read}
use Rattle.model.specs.Effects.{Effect, stored, says, says_storing, refusals, wrong_length, unsound}
use Rattle.model.specs.Collect.{collect}
use Rattle.model.specs.Answers.{refused_with}
use Rattle.model.specs.Sweep.{may_collect, oldest_to_collect, collections, station_after, records_of, sweep}
use Rattle.model.specs.Calls.{Call, Collect, Sweep, does}

abbrev id : ℕ → ℕ → Id
id c t = record { clock = c; txn = t }

abbrev K : ℕ
K = 11

-- an entry of K alone
abbrev keyed : ℕ → ℕ → Entry
keyed c t = record { id = id c t; keys = K ∷ [] }

-- these entries in slots 0, 1, .., and their commit records
pub held : List Entry → Station
held es = idle_station narrow_kind (padded no_entry entry_places es)

pub storing : ℕ → List Entry → List ℕ → List ℕ
storing d [] s = s
storing d (e ∷ es) s = storing (suc d) es (with_record narrow_kind s d 0 (commit_record narrow_kind e))

pub records : List Entry → List ℕ
records es = storing 0 es (replicate (store_size narrow_kind) 0)

-- a byte of the keys in a slot's commit record changed
pub damaged : ℕ → List ℕ → List ℕ
damaged d s = set s (slot_size narrow_kind * d + 17) 9

-- a live transaction that has read K of an entry
pub read_by9 : Id → Station → Station
read_by9 i st = set_live st 0 (with_reads (record { key = K; id = i } ∷ []) (blank 9 Open))

-- calls one after the other, with what is left in slots 0 to 3
pub ran : List Call → Station → List ℕ → List (Answer × List Bool)
ran [] st s = []
ran (c ∷ cs) st s = let e : Effect = does c st s in (e.answer, from 4 0 (holds e.station)) ∷ ran cs e.station (stored e.stores s)

pub record Row : Type 0 where
  pub station : Station
  pub store : List ℕ
  pub lines : List (Call × (Answer × List Bool))

abbrev row : Station → List ℕ → List (Call × (Answer × List Bool)) → Row
row st s ls = record { station = st; store = s; lines = ls }

pub four : List Entry
four = keyed 1 1 ∷ keyed 2 2 ∷ keyed 3 3 ∷ keyed 4 4 ∷ []

pub mixed : List Entry
mixed = keyed 5 1 ∷ keyed 3 7 ∷ keyed 9 3 ∷ keyed 3 4 ∷ []

abbrev no : Bool
no = false

abbrev yes : Bool
yes = true

abbrev says4 : Answer → Bool → Bool → Bool → Bool → Answer × List Bool
says4 a w x y z = (a, w ∷ x ∷ y ∷ z ∷ [])

pub rows : List Row
rows =
    -- "20: limit 0 or above 64"; "stops at the limit or when it may collect none": the newest of K stays, and the count is of the collects, not the limit
    row (held four) (records four) (
    (Sweep 0, says4 (A.Refused 20 0) yes yes yes yes) ∷ (Sweep 65, says4 (A.Refused 20 0) yes yes yes yes)
    ∷ (Sweep 2, says4 (A.Swept 2) no no yes yes) ∷ (Sweep 64, says4 (A.Swept 1) no no no yes) ∷ (Sweep 1, says4 (A.Swept 0) no no no yes) ∷ [])
    -- "It collects the oldest id it may, looks again": by clock, then number, not by slot and not the newest
    ∷ row (held mixed) (records mixed) (
    (Sweep 1, says4 (A.Swept 1) yes yes yes no) ∷ (Sweep 1, says4 (A.Swept 1) yes no yes no) ∷ (Collect 2, says4 (A.Refused 15 0) yes no yes no) ∷ (Sweep 64, says4 (A.Swept 1) no no yes no) ∷ [])
    -- what a live transaction has read stays, and the next oldest goes
    ∷ row (read_by9 (id 1 1) (held four)) (records four) (
    (Sweep 64, says4 (A.Swept 2) yes no no yes) ∷ (Collect 0, says4 (A.Refused 16 0) yes no no yes) ∷ [])
    -- "A slip that 17 names plays no part in the choice and ends the sweep with its count so far.": as the oldest, and no other is taken in its place
    ∷ row (held four) (damaged 0 (records four)) ((Collect 0, says4 (A.Refused 17 0) yes yes yes yes) ∷ (Sweep 64, says4 (A.Swept 0) yes yes yes yes) ∷ [])
    -- as the second: 1, and not the third
    ∷ row (held four) (damaged 1 (records four)) ((Sweep 64, says4 (A.Swept 1) no yes yes yes) ∷ (Sweep 64, says4 (A.Swept 0) no yes yes yes) ∷ [])
    -- one that may not be collected is not looked at
    ∷ row (held four) (damaged 3 (records four)) ((Sweep 64, says4 (A.Swept 3) no no no yes) ∷ [])
    ∷ []

-- The claim: every line of every row is answered as it says, and leaves those slots held.
pub sweeps-hold : map (λ (r : Row). ran (map (λ (l : Call × (Answer × List Bool)). l.0) r.lines) r.station r.store) rows ≡ map (λ (r : Row). map (λ (l : Call × (Answer × List Bool)). l.1) r.lines) rows
unfolding held storing records damaged read_by9 ran four mixed rows ◌and◌ ◌or◌ all any first filter padded from member ascending distinct same older same_id writes_of reads_of wrote wrote_as live_at entry_at set_live set_entry live_txns held_txns holds slot_mark closing_slots bytes number id_in mark_in entry_in head_bytes commit_record zero_record entry_rules carries_keys carries_entry slot_start record_at with_record is_no_write is_no_read is_no_entry is_no_live zero_past_counts sets_right names in_use place_right entry_right sound with_reads Option-elim keep_first foremost newer oldest newer_on superseded is_read_by is_read stored says says_storing refusals wrong_length unsound collect may_collect oldest_to_collect refused_with collections station_after records_of sweep does
sweeps-hold = refl
