-- 01 'Bench sheet': the ★ cases, and for each of 01's 'Slips of thought seen before' a case that a definition with that slip fails,
-- as one table of calls with their answers under one claim; and 02's rows, request by request. All keys, values and numbers are run through
-- the definitions.
use Prim.Native.Nat.{ℕ}
use mathlib.Core.Path.{◌≡◌, refl}
use mathlib.Core.List.{List, [], ◌∷◌, ◌++◌, map}
use mathlib.Core.Option.{Option-elim}
use lib.ListN.{replicate}
use Rattle.model.specs.declared.Id.{Id}
use Rattle.model.specs.declared.Read.{Read}
use Rattle.model.specs.Types.{Entry, Write, Station}
use Rattle.model.specs.declared.Phase.TheVariants.{Open}
use Rattle.model.specs.declared.Answer.{Answer}
use Rattle.model.specs.declared.Answer.TheVariants as A
use Rattle.model.specs.Lists.{◌and◌, ◌or◌, all, any, first, filter, count, insert, padded, from, member, least, maximum, ascending, distinct, same, any_below, greatest_below}
use Rattle.model.specs.Limits.{entry_places, last_clock}
use Rattle.model.specs.Kinds.{narrow_kind, slot_start, store_size}
use Rattle.model.specs.Ids.{older, same_id, newer_of, greatest}
use Rattle.model.specs.Bytes.{bytes, number, id_in, head_bytes}
use Rattle.model.specs.Lives.{blank, writes_of, reads_of, has_written, has_read, value_under, is_closing, closing_slot, closing_clock, records_stored, slot_mark, with_writes, with_reads, with_phase}
use Rattle.model.specs.Entries.{carries_keys, no_entry, wrote, wrote_as, mark_in, entry_in, commit_record, entry_rules, commit_rules, carries_entry, record_of, is_no_entry, entry_for}
use Rattle.model.specs.Stations.{idle_station, empty_station, live_at, entry_at, set_live, set_entry, live_txns, held_txns, is_live, is_held, place_of, slot_of, holds, closing_slots, is_free}
use Rattle.model.specs.Records.{value_in, version_record, zero_record, carries_version, record_at, with_record}
use Rattle.model.specs.Slots.{versions_carry, judged, seen}
use Rattle.model.specs.Sound.{is_no_write, is_no_read, is_no_live, zero_past_counts, sets_right, names, in_use, closing_right, place_right, entry_right, sound}
use Rattle.model.specs.Orders.{keep_first, foremost, newest}
use Rattle.model.specs.Reading.{lower_bound, conflicts_with, lowest_conflict, conflicts, passes, newest_writer, key_in_the_way, Choice, nofit, chosen, choose}
use Rattle.model.specs.Supersedence.{newer_on, superseded, is_read_by, is_read}
use Rattle.model.specs.Effects.{stored, says, says_storing, refusals, wrong_length, unsound}
use Rattle.model.specs.Start.{opened, start}
use Rattle.model.specs.Put.{with_write, put}
use Rattle.model.specs.Get.{choice_of, with_read, version_at, no_room, not_carried, answered, get}
use Rattle.model.specs.Clocks.{clocks, clock_above}
use Rattle.model.specs.Commit.{highest_free, commit}
use Rattle.model.specs.Step.{one_more, stepped, step}
use Rattle.model.specs.Abort.{abort}
use Rattle.model.specs.Collect.{collect}
use Rattle.model.specs.Scan.{slots_seen, entry_seen, entries_seen, is_committed, breaks, lowest_broken, scanned, scan}
use Rattle.model.specs.Calls.{Call, Start, Put, Get, Commit, Step, Abort, Collect, Scan, does, answers}

abbrev pub Line : Type 0
Line = Call × Answer

abbrev id : ℕ → ℕ → Id
id c t = record { clock = c; txn = t }

abbrev w : ℕ → ℕ → Write
w k v = record { key = k; value = v }

pub puts : ℕ → List Write → List Line
puts t [] = []
puts t (x ∷ xs) = (Put t x.key x.value, A.Kept) ∷ puts t xs

pub versions : ℕ → List Write → List Line
versions t [] = []
versions t (x ∷ xs) = (Step t, A.Stored x.key) ∷ versions t xs

-- transaction t from its start to its last version record, in slot d; to its commit record; to its end, with the clock that it takes
pub begun : ℕ → ℕ → ℕ → List Write → List Line
begun t c d ws = (Start t, A.Started) ∷ puts t ws ++ ((Commit t c, A.Closing d) ∷ versions t ws)

pub slipped : ℕ → ℕ → ℕ → List Write → List Line
slipped t c d ws = begun t c d ws ++ ((Step t, A.Slipped d) ∷ [])

pub taking : ℕ → ℕ → ℕ → ℕ → List Write → List Line
taking t given taken d ws = slipped t given d ws ++ ((Step t, A.Done (id taken t)) ∷ [])

-- which takes the clock given
pub whole : ℕ → ℕ → ℕ → List Write → List Line
whole t c d ws = taking t c c d ws

abbrev K : ℕ
K = 11

abbrev L : ℕ
L = 22

-- "a {K}, b {L}; K read; then c {K, L} held"
pub read_before_c : List Line
read_before_c =
    whole 1 1 63 (w K 10 ∷ []) ++ whole 2 2 62 (w L 20 ∷ []) ++ ((Start 9, A.Started) ∷ (Get 9 K, A.Version 10 (id 1 1)) ∷ [])
    ++ whole 3 3 61 (w K 30 ∷ w L 31 ∷ [])

-- calls on a store that has these: transactions that wrote K alone, each in a slot with an id and a value
pub record Case : Type 0 where
  pub held : List (ℕ × Id × ℕ)
  pub lines : List Line

abbrev fresh : List Line → Case
fresh ls = record { held = []; lines = ls }

-- an entry of K alone
abbrev keyed : Id → Entry
keyed i = record { id = i; keys = K ∷ [] }

pub storing : List (ℕ × Id × ℕ) → List ℕ
storing [] = replicate (store_size narrow_kind) 0
storing (h ∷ hs) = with_record narrow_kind (with_record narrow_kind (storing hs) h.0 1 (version_record K h.1 h.2)) h.0 0 (commit_record narrow_kind (keyed h.1))

-- a row each, in 01's order and from 01's own state
pub starred : List Case
starred =
    -- "Entries a {L}, b {K, L}: read K gives b, then L gives b."
    fresh (whole 1 1 63 (w L 10 ∷ []) ++ whole 2 2 62 (w K 20 ∷ w L 21 ∷ [])
    ++ ((Start 9, A.Started) ∷ (Get 9 K, A.Version 20 (id 2 2)) ∷ (Get 9 L, A.Version 21 (id 2 2)) ∷ []))
    -- "Only a {L}; L read; then b {K, L} held: K is nofit."
    ∷ fresh (whole 1 1 63 (w L 10 ∷ []) ++ ((Start 9, A.Started) ∷ (Get 9 L, A.Version 10 (id 1 1)) ∷ [])
    ++ whole 2 2 62 (w K 20 ∷ w L 21 ∷ []) ++ ((Get 9 K, A.Nofit L) ∷ []))
    -- "a {K}, b {L}; K read; then c {K, L} held: L gives b."
    ∷ fresh (read_before_c ++ ((Get 9 L, A.Version 20 (id 2 2)) ∷ []))
    -- "The same, b collected first: L is nofit (§5.2.1)."
    ∷ fresh (read_before_c ++ ((Collect 62, A.Collected (id 2 2)) ∷ (Get 9 L, A.Nofit K) ∷ []))
    -- "The same, collecting a: 16."
    ∷ fresh (read_before_c ++ ((Collect 63, A.Refused 16 0) ∷ []))
    -- "Clock 100, tickets 5 and 9 write K: 9 is newer.": it is read, and of the two only 5 can be collected. No two commits take one clock (02 §3), so
    -- they are in the store
    ∷ record {
      held = (63, id 100 5, 5) ∷ (62, id 100 9, 9) ∷ [];
      lines = (Scan, A.Found 2) ∷ (Start 1, A.Started) ∷ (Get 1 K, A.Version 9 (id 100 9)) ∷ (Collect 62, A.Refused 15 0) ∷ (Collect 63, A.Collected (id 100 5)) ∷ [];
    }
    -- "Clock 100 held, then clock 50, both only K": 02 §3: "The case with clocks 100 and 50 now gives 101, and it is 100 that can be collected."
    ∷ fresh (whole 5 100 63 (w K 5 ∷ []) ++ taking 9 50 101 62 (w K 9 ∷ [])
    ++ ((Start 1, A.Started) ∷ (Get 1 K, A.Version 9 (id 101 9)) ∷ (Collect 62, A.Refused 15 0) ∷ (Collect 63, A.Collected (id 100 5)) ∷ []))
    -- "Eight keys, one put again: kept. A ninth key: 11."
    ∷ fresh ((Start 1, A.Started) ∷ puts 1 (w 8 0 ∷ w 7 1 ∷ w 6 2 ∷ w 5 3 ∷ w 4 4 ∷ w 3 5 ∷ w 2 6 ∷ w 1 7 ∷ w 5 9 ∷ []) ++ ((Put 1 9 9, A.Refused 11 0) ∷ (Get 1 5, A.Own 9) ∷ []))
    -- "Cut after the last version slip: found 0. After the commit slip, unacknowledged: found 1.": and a retry is done
    ∷ fresh (begun 5 1 63 (w K 5 ∷ w L 6 ∷ []) ++ ((Scan, A.Found 0) ∷ [])
    ++ slipped 5 1 63 (w K 5 ∷ w L 6 ∷ []) ++ ((Scan, A.Found 1) ∷ (Commit 5 9, A.Done (id 1 5)) ∷ []))
    -- "Commit with nothing put: empty; the same again: 8."
    ∷ fresh ((Start 5, A.Started) ∷ (Commit 5 1, A.Empty) ∷ (Commit 5 1, A.Refused 8 0) ∷ [])
    ∷ []

-- The ★ rows refute "Storing the commit slip ahead of the last version slip" (the cut) and "Testing the lower bound alone and forgetting
-- conflicts" (nofit). The other three:
pub slips_of_thought : List Case
slips_of_thought =
    -- "Comparing clocks and leaving tickets out.": 9 is newer than 5 in whichever slot
    record { held = (63, id 100 9, 9) ∷ (62, id 100 5, 5) ∷ []; lines = (Scan, A.Found 2) ∷ (Start 1, A.Started) ∷ (Get 1 K, A.Version 9 (id 100 9)) ∷ [] }
    -- "Entering own puts in the read list.": own K is no read of K's version, so that may be collected; and the station stays sound
    ∷ fresh (whole 1 1 63 (w K 10 ∷ []) ++ ((Start 9, A.Started) ∷ (Put 9 K 5, A.Kept) ∷ (Get 9 K, A.Own 5) ∷ []) ++ whole 2 2 62 (w K 20 ∷ [])
    ++ ((Collect 63, A.Collected (id 1 1)) ∷ []))
    -- "Making the entry at slip time, before the acknowledging step.": till then nobody reads it, and its slot can't be collected
    ∷ fresh (slipped 5 1 63 (w K 5 ∷ []) ++ ((Start 9, A.Started) ∷ (Get 9 K, A.None) ∷ (Collect 63, A.Refused 14 0) ∷ (Step 5, A.Done (id 1 5)) ∷ (Get 9 K, A.Version 5 (id 1 5)) ∷ []))
    ∷ []

-- 02 §1: nofit names "the lowest on which the newest entry that wrote the wanted key conflicts", not a key of the last candidate tried. Keys
-- 1 and 2 read; then b {0, 2} and c {0, 1} held: c, the newest, says 1, and b, tried last, says 2.
pub nofit_names : List Case
nofit_names =
    fresh (whole 1 1 63 (w 1 11 ∷ w 2 12 ∷ []) ++ ((Start 9, A.Started) ∷ (Get 9 1, A.Version 11 (id 1 1)) ∷ (Get 9 2, A.Version 12 (id 1 1)) ∷ [])
    ++ whole 2 2 62 (w 0 20 ∷ w 2 22 ∷ []) ++ whole 3 3 61 (w 0 30 ∷ w 1 31 ∷ []) ++ ((Get 9 0, A.Nofit 1) ∷ []))
    ∷ []

-- 02 §3: "the greater of the clock given and one more than the greatest clock of any entry or closing ticket"
pub clocks_taken : List Case
clocks_taken =
    -- "the greater of the clock given and one more": the first takes the clock given; the clock is set back by an hour, and then put right. A retry answers
    -- the stored id
    fresh (whole 5 3600 63 (w K 5 ∷ []) ++ taking 6 1 3601 62 (w K 6 ∷ []) ++ whole 8 3700 61 (w K 8 ∷ [])
    ++ ((Commit 6 1, A.Done (id 3601 6)) ∷ (Start 1, A.Started) ∷ (Get 1 K, A.Version 8 (id 3700 8)) ∷ []))
    -- "of any entry or closing ticket": 5 is closing and has no entry yet. It takes its clock at commit, so it keeps 100 though 9 is acknowledged
    -- before it: then an entry appears below another, and K still gives 9
    ∷ fresh (begun 5 100 63 (w K 5 ∷ []) ++ taking 9 7 101 62 (w K 9 ∷ []) ++ ((Step 5, A.Slipped 63) ∷ (Step 5, A.Done (id 100 5)) ∷ (Start 1, A.Started) ∷ (Get 1 K, A.Version 9 (id 101 9)) ∷ (Collect 63, A.Collected (id 100 5)) ∷ []))
    ∷ []

-- "(21: write list not empty, and some entry or closing ticket has clock 2^64 − 1, after 13.)"
pub no_clock_left : List Case
no_clock_left =
    -- one more than 2^64 − 2 is taken, and after it no clock is left. What has written nothing needs none, nor does a retry; and the refused one goes on
    fresh (whole 5 18446744073709551614 63 (w K 5 ∷ []) ++ begun 6 1 62 (w K 6 ∷ [])
    ++ ((Start 9, A.Started) ∷ (Put 9 K 9, A.Kept) ∷ (Commit 9 1, A.Refused 21 0) ∷ (Step 6, A.Slipped 62) ∷ (Step 6, A.Done (id last_clock 6)) ∷ (Commit 9 last_clock, A.Refused 21 0)
    ∷ (Commit 6 1, A.Done (id last_clock 6)) ∷ (Put 9 K 8, A.Kept) ∷ (Abort 9, A.Dropped) ∷ (Start 7, A.Started) ∷ (Commit 7 1, A.Empty) ∷ (Collect 62, A.Refused 15 0) ∷ []))
    ∷ []

-- computed by the definitions
pub given : Case → List Answer
unfolding storing ◌and◌ ◌or◌ all any first filter count insert padded from member ascending distinct same any_below greatest_below older same_id newer_of greatest empty_station writes_of reads_of wrote wrote_as has_written has_read value_under is_closing closing_slot closing_clock records_stored live_at entry_at set_live set_entry live_txns held_txns is_live is_held place_of slot_of holds slot_mark closing_slots is_free bytes number id_in mark_in entry_in value_in head_bytes commit_record version_record zero_record entry_rules carries_keys commit_rules carries_entry carries_version slot_start record_at with_record record_of versions_carry judged seen is_no_write is_no_read is_no_entry is_no_live zero_past_counts sets_right names in_use closing_right place_right entry_right sound lower_bound conflicts_with least lowest_conflict conflicts Option-elim passes keep_first foremost newest newest_writer key_in_the_way chosen choose newer_on superseded is_read_by is_read stored says says_storing refusals wrong_length unsound opened start with_writes with_write put choice_of with_reads with_read version_at no_room not_carried answered get with_phase highest_free maximum clocks clock_above commit entry_for one_more stepped step abort collect slots_seen entry_seen entries_seen is_committed breaks lowest_broken scanned scan does answers
given x = answers (map (λ (l : Line). l.0) x.lines) (empty_station narrow_kind) (storing x.held)

pub expected : Case → List Answer
expected x = map (λ (l : Line). l.1) x.lines

pub table : List Case
table = starred ++ slips_of_thought ++ nofit_names

-- The claim: every line of every case is answered as the table says.
pub bench-holds : map given table ≡ map expected table
unfolding puts versions begun slipped whole taking read_before_c starred slips_of_thought nofit_names given expected table
bench-holds = refl

pub clocks-hold : map given clocks_taken ≡ map expected clocks_taken
unfolding puts versions begun slipped whole taking clocks_taken given expected
clocks-hold = refl

pub no-clock-left-holds : map given no_clock_left ≡ map expected no_clock_left
unfolding puts versions begun slipped whole taking no_clock_left given expected
no-clock-left-holds = refl

-- ── 13 before 21, on stations with every slot held but the last so many ──
-- the first of n entries has clock c, the others clocks from 1; transaction 900 has put K, 901 nothing
pub crowded : ℕ → ℕ → Station
crowded n c =
    set_live (set_live (idle_station narrow_kind (padded no_entry entry_places (keyed (id c 800) ∷ from n 1 (λ i. keyed (id i i))))) 0 (with_writes (w K 9 ∷ []) (blank 900 Open))) 1 (blank 901 Open)

pub answered-at : Station → List Answer
answered-at st = (commit st 900 5).answer ∷ (commit st 901 5).answer ∷ (commit st 800 5).answer ∷ []

-- "(21: .., after 13.)": no slot and no clock, 13; no slot, 13; no clock, 21; else the greatest of 62 others and one more
pub thirteen-first : answered-at (crowded 63 last_clock) ∷ answered-at (crowded 63 70) ∷ answered-at (crowded 62 last_clock) ∷ answered-at (crowded 62 62) ∷ []
    ≡ (A.Refused 13 0 ∷ A.Empty ∷ A.Done (id last_clock 800) ∷ []) ∷ (A.Refused 13 0 ∷ A.Empty ∷ A.Done (id 70 800) ∷ [])
    ∷ (A.Refused 21 0 ∷ A.Empty ∷ A.Done (id last_clock 800) ∷ []) ∷ (A.Closing 63 ∷ A.Empty ∷ A.Done (id 62 800) ∷ []) ∷ []
unfolding crowded answered-at ◌and◌ ◌or◌ all any first from padded member ascending distinct same any_below greatest_below same_id maximum clocks clock_above writes_of reads_of is_closing closing_slot closing_clock records_stored live_at entry_at set_live live_txns held_txns is_live is_held place_of slot_of holds slot_mark closing_slots is_free entry_rules is_no_write is_no_read is_no_entry is_no_live zero_past_counts sets_right names in_use closing_right place_right entry_right sound says refusals unsound with_writes with_phase highest_free commit
thirteen-first = refl

-- ── Algorithm 1 alone, on entries and reads as no history makes them ──
abbrev wrote_at : ℕ → List ℕ → Entry
wrote_at c ks = record { id = id c c; keys = ks }

abbrev read_at : ℕ → ℕ → Read
read_at k c = record { key = k; id = id c c }

-- entries, reads, the wanted key, what is chosen
pub choices : List (List Entry × List Read × ℕ × Choice)
choices =
    -- The lower bound: L read at a's version, K at b's, which wrote L too. Then a is below the bound, b conflicts, and L is nofit. The key in
    -- the way is L; not K, whose read set the bound.
    (wrote_at 1 (L ∷ []) ∷ wrote_at 2 (K ∷ L ∷ []) ∷ [], read_at K 2 ∷ read_at L 1 ∷ [], L, nofit L)
    -- of all keys on which the newest conflicts the lowest, wherever its read stands
    ∷ (wrote_at 3 (0 ∷ 1 ∷ 2 ∷ []) ∷ [], read_at 2 1 ∷ read_at 1 1 ∷ [], 0, nofit 1)
    -- but not the lowest on which any candidate does: the newest says 2, the other 1
    ∷ (wrote_at 2 (0 ∷ 1 ∷ []) ∷ wrote_at 3 (0 ∷ 2 ∷ []) ∷ [], read_at 1 1 ∷ read_at 2 1 ∷ [], 0, nofit 2)
    -- and of the entries that wrote the wanted key: a newer one that did not plays no part
    ∷ (wrote_at 2 (0 ∷ 2 ∷ []) ∷ wrote_at 3 (1 ∷ []) ∷ [], read_at 1 1 ∷ read_at 2 1 ∷ [], 0, nofit 2)
    ∷ []

pub choices-hold : map (λ (x : List Entry × List Read × ℕ × Choice). choose x.0 x.1 x.2) choices ≡ map (λ (x : List Entry × List Read × ℕ × Choice). x.3) choices
unfolding choices choose chosen newest foremost keep_first newest_writer key_in_the_way passes conflicts lowest_conflict least Option-elim conflicts_with lower_bound greatest newer_of wrote_as wrote member any filter same_id older ◌and◌ ◌or◌
choices-hold = refl
