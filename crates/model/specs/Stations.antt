-- 01 'Words': "A station holds eight live places and 64 drawer entries." Every other definition builds and reads a station through these.
use Rattle.std.specs.Prelude.{ℕ, suc, Bool, not, List, map, eqb, get_or, replicate, set}
use Rattle.model.specs.Types.{Entry, Live, Station}
use Rattle.model.specs.Lists.{◌and◌, first, member}
use Rattle.model.specs.Limits.{live_places, entry_places}
use Rattle.model.specs.Kinds.{Kind}
use Rattle.model.specs.Lives.{no_live, live_beyond, slot_mark}
use Rattle.model.specs.Entries.{no_entry}

-- ── stations, built here alone ──
-- no live transaction, and these entries
abbrev pub idle_station : Kind → List Entry → Station
idle_station κ es = record { kind = κ; live = replicate live_places no_live; entries = es }

-- "An empty station is made from nothing"
unfoldable pub empty_station : Kind → Station
empty_station κ = idle_station κ (replicate entry_places no_entry)

-- another transaction at a place; another entry in a slot
unfoldable pub set_live : Station → ℕ → Live → Station
set_live st i l = record { kind = st.kind; live = set st.live i l; entries = st.entries }

unfoldable pub set_entry : Station → ℕ → Entry → Station
set_entry st d e = record { kind = st.kind; live = st.live; entries = set st.entries d e }

-- ── places and slots ──
unfoldable pub live_at : Station → ℕ → Live
live_at st i = get_or st.live i live_beyond

unfoldable pub entry_at : Station → ℕ → Entry
entry_at st d = get_or st.entries d no_entry

-- ── transactions by number; 0 stands for an unused place or entry ──
unfoldable pub live_txns : Station → List ℕ
live_txns st = map (λ (l : Live). l.txn) st.live

unfoldable pub held_txns : Station → List ℕ
held_txns st = map (λ (e : Entry). e.id.txn) st.entries

unfoldable pub is_live : ℕ → Station → Bool
is_live t st = member t (live_txns st)

unfoldable pub is_held : ℕ → Station → Bool
is_held t st = member t (held_txns st)

-- the place of a live transaction, of 0 the lowest unused; the slot of a held one
unfoldable pub place_of : ℕ → Station → ℕ
place_of t st = first (eqb t) (live_txns st)

unfoldable pub slot_of : ℕ → Station → ℕ
slot_of t st = first (eqb t) (held_txns st)

-- ── slots that are taken ──
-- by an entry
unfoldable pub holds : Station → ℕ → Bool
holds st d = not (eqb (entry_at st d).id.txn 0)

-- by closing transactions, counted from 1; 0 for any other place
unfoldable pub closing_slots : Station → List ℕ
closing_slots st = map (λ (l : Live). slot_mark l.phase) st.live

-- "Free: no entry and no closing ticket has it."
unfoldable pub is_free : Station → ℕ → Bool
is_free st d = not (holds st d) and not (member (suc d) (closing_slots st))
