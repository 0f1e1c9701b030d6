-- 01 'Calls': "scan store: a station with no live tickets and one entry for each committed drawer. It writes nothing."
use Rattle.std.specs.Prelude.{ℕ, Bool, true, false, cond, List, [], ◌∷◌, map, ltb, length, take, get_or}
use Rattle.model.specs.Types.{Entry}
use Rattle.model.specs.declared.Answer.TheVariants as A
use Rattle.model.specs.Lists.{first, count, from, member, padded}
use Rattle.model.specs.Limits.{entry_places}
use Rattle.model.specs.Kinds.{Kind}
use Rattle.model.specs.Entries.{no_entry}
use Rattle.model.specs.Stations.{idle_station, empty_station}
use Rattle.model.specs.Slots.{Seen, free, committed, damaged, seen}
use Rattle.model.specs.Effects.{Effect, says, ◌when◌, refusals, wrong_length}

-- what is read of each slot
unfoldable pub slots_seen : Kind → List ℕ → List Seen
slots_seen κ s = from κ.slots 0 (seen κ s)

unfoldable pub entry_seen : Seen → Entry
entry_seen free = no_entry
entry_seen (committed e) = e
entry_seen damaged = no_entry

unfoldable pub is_committed : Seen → Bool
is_committed free = false
is_committed (committed e) = true
is_committed damaged = false

-- row 18: a slot "whose slips break the slip rules, or whose ticket a lower committed drawer has"
unfoldable pub breaks : List Seen → Seen → Bool
breaks lower free = false
breaks lower (committed e) = member e.id.txn (map (λ (x : Seen). (entry_seen x).id.txn) lower)
breaks lower damaged = true

-- the "lowest drawer" that does; the number of slots if none does
unfoldable pub lowest_broken : List Seen → ℕ
lowest_broken xs = first (λ d. breaks (take d xs) (get_or xs d free)) (from (length xs) 0 (λ d. d))

-- "one entry for each committed drawer": the entries of the slots seen, in their places
unfoldable pub entries_seen : List Seen → List Entry
entries_seen xs = padded no_entry entry_places (map entry_seen xs)

unfoldable pub scanned : Kind → List Seen → Effect
scanned κ xs =
    cond (ltb (lowest_broken xs) (length xs)) (says (A.Refused 18 (lowest_broken xs)) (empty_station κ))
    (says (A.Found (count is_committed xs)) (idle_station κ (entries_seen xs)))

-- "a refused scan hands back the empty station"
unfoldable pub scan : Kind → List ℕ → Effect
scan κ s = refusals (1 when wrong_length κ s ∷ []) (empty_station κ) (scanned κ (slots_seen κ s))
