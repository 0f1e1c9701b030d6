-- Names for what the contracts of this crate say of lists.
use Rattle.std.specs.Prelude.{ℕ, Bool, not, cond, List, [], ◌∷◌, ◌++◌, map, eqb, leb, take, drop, get_or}
use Rattle.model.specs.Kinds.{Kind}
use Rattle.model.specs.Types.{Live, Entry, Station}
use Rattle.model.specs.Lists.{first, member}
use Rattle.model.specs.Limits.{keys}
use Rattle.model.specs.Lives.{live_beyond, slot_mark, is_closing}
use Rattle.model.specs.Clocks.{entry_clock, live_clock}
use Rattle.model.specs.Effects.{Row, ◌when◌}

-- the transaction at a place, and of an entry
abbrev pub live_txn : Live → ℕ
live_txn l = l.txn

abbrev pub entry_txn : Entry → ℕ
entry_txn e = e.id.txn

-- the slot of a closing transaction, counted from 1
abbrev pub live_mark : Live → ℕ
live_mark l = slot_mark l.phase

-- the station of a kind that has these
abbrev pub station_of : Kind → List Live → List Entry → Station
station_of κ ls es = record { kind = κ; live = ls; entries = es }

-- ── by the live places and the entries alone, whatever the kind ──
-- the transaction at a place (model's live_at), the place of a transaction (place_of), and whether it has one (is_live)
abbrev pub live_in : List Live → ℕ → Live
live_in ls i = get_or ls i live_beyond

abbrev pub place_in : ℕ → List Live → ℕ
place_in t ls = first (eqb t) (map live_txn ls)

abbrev pub is_live_in : ℕ → List Live → Bool
is_live_in t ls = member t (map live_txn ls)

-- the clocks that are taken (clocks)
abbrev pub clocks_in : List Live → List Entry → List ℕ
clocks_in ls es = map entry_clock es ++ map live_clock ls

module _ {A : Type 0} where
  -- has a key that is k or greater
  abbrev pub at_least : (A → ℕ) → ℕ → A → Bool
  at_least key k y = leb k (key y)

  -- a list with one element more, at a position
  unfoldable pub joined : ℕ → A → List A → List A
  joined i x xs = take i xs ++ (x ∷ drop i xs)

-- ── rows of the table of refusals ──
-- the number of the first that applies; 0 where none does
unfoldable pub first_row : List Row → ℕ
first_row [] = 0
first_row (r ∷ rs) = cond r.applies r.returned (first_row rs)

-- rows 2, 3, 4 and 8 of a call on transaction t and key k, where the soundness test said b and these are live; a call without a key has key 0
unfoldable pub named_rows : List Live → ℕ → ℕ → Bool → List Row
named_rows ls t k b = 2 when not b ∷ 3 when eqb t 0 ∷ 4 when leb keys k ∷ 8 when not (is_live_in t ls) ∷ []

-- and row 9
unfoldable pub open_rows : List Live → ℕ → ℕ → Bool → List Row
open_rows ls t k b = named_rows ls t k b ++ (9 when is_closing (live_in ls (place_in t ls)).phase ∷ [])
