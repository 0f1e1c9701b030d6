-- 02 §11: histories that go on through imports. "An import not refused ends the store's history. A cut one is begun again; the cut rule's history
-- starts anew from a finished one, scanned for one station, its tickets and values counting as put and reported stored."
use Rattle.std.specs.Prelude.{List, [], ◌∷◌, map, ℕ, Result, Ok, Err}
use Rattle.std.proofs.Math.Option.{Option, some, none}
use Rattle.model.specs.Kinds.{Kind, narrow_kind, KindFits}
use Rattle.model.specs.Ranges.{Every}
use Rattle.history.specs.Ledger.{Committed, Ledger}
use Rattle.history.specs.Matches.{lookup}
use Rattle.history.specs.Histories.{down, World, begin}
use Rattle.history.specs.CutRule.{CutRule}
use Rattle.history.specs.Moves.{Leg, go_on, LegsInRange}
use Rattle.resp.specs.declared.Refused.{Refused}
use Rattle.resp.specs.Streams.{Transaction}
use Rattle.resp.specs.Inverse.{transactions_in}
use Rattle.resp.specs.Imports.{import}

-- a transaction of a stream as the ledger has it: "ticket, clock and values by key"
unfoldable pub committed_as : Transaction → Committed
committed_as x = record { id = x.id; values = λ k. lookup k x.writes }

-- "its tickets and values counting as put and reported stored": standing and past, and no draft
unfoldable pub ledger_of : List Transaction → Ledger
ledger_of xs = record { drafts = []; standing = map committed_as xs; past = map committed_as xs }

unfoldable pub ledger_read : Option (List Transaction) → Ledger
ledger_read none = ledger_of []
ledger_read (some xs) = ledger_of xs

-- by the answer: no station runs, so the next call that does anything is a scan; a refusal alters nothing
unfoldable pub after_answer : Result ℕ Refused → List ℕ → List ℕ → World → World
after_answer (Ok n) bs s w = record { kind = narrow_kind; node = down; store = s; ledger = ledger_read (transactions_in bs) }
after_answer (Err r) bs s w = w

-- a part of a history
pub data Part : Type 0 where
  -- calls and cuts, and moves
  legs : List Leg → Part
  -- a stream imported into a lent store, by its bytes: whatever they are, so also what an import that was cut short has left
  imports : List ℕ → List ℕ → Part

unfoldable pub after_part : Part → World → World
after_part (legs ls) w = go_on ls w
after_part (imports bs s) w = after_answer (import bs s).answer bs (import bs s).store w

unfoldable pub go_through : List Part → World → World
go_through [] w = w
go_through (p ∷ ps) w = go_through ps (after_part p w)

-- the hypothesis: numbers of calls are in their ranges, and kinds fit. Of streams none is asked
abbrev pub PartInRange : Part → Type 0
PartInRange (legs ls) = LegsInRange ls
PartInRange (imports bs s) = Unit {0}

unfoldable pub PartsInRange : List Part → Type 0
PartsInRange ps = Every PartInRange ps

-- The cut rule of every history with calls, cuts, moves and imports in it. `cut-rule-imported` proves it.
abbrev pub CutRuleImported : Type 0
CutRuleImported = (κ : Kind) → KindFits κ → (ps : List Part) → PartsInRange ps → CutRule (go_through ps (begin κ)).kind (go_through ps (begin κ)).store (go_through ps (begin κ)).ledger
