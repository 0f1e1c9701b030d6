-- 02 §6: histories that go on through moves. "A move copies a narrow store into a lent wide one .. A move back does the reverse."
use Rattle.std.specs.Prelude.{ℕ, cond, List, [], ◌∷◌, eqb}
use Rattle.model.specs.Kinds.{Kind, KindFits}
use Rattle.model.specs.Ranges.{Every}
use Rattle.model.specs.Answers.{refused_with}
use Rattle.model.specs.Moves.{Move, move}
use Rattle.history.specs.Ledger.{with_drafts}
use Rattle.history.specs.Histories.{Event, down, World, begin, run, AllInRange}
use Rattle.history.specs.CutRule.{CutRule}

-- "a finished one, scanned, carries the source's cut rule history up to the move over": the store is now the target, and the ledger the source's.
-- No station runs, so the next call that does anything is a scan; and "found: every page is torn out."
unfoldable pub carried_over : Kind → List ℕ → World → World
carried_over κ t w = record { kind = κ; node = down; store = t; ledger = with_drafts [] w.ledger }

-- by the answer: a refusal alters nothing
unfoldable pub after_move : Kind → Move → World → World
after_move κ m w = cond (eqb (refused_with m.answer) 0) (carried_over κ m.target w) w

-- a part of a history
pub data Leg : Type 0 where
  -- calls and cuts
  events : List Event → Leg
  -- a move of the store into a lent one, by its kind and its bytes. "A move not refused ends any history that its target had.": whatever bytes
  -- these are, and whatever a ledger of theirs would say
  moves : Kind → List ℕ → Leg
  -- "a move cut short is begun again": its source is never written, so of the world the station alone is lost. The target plays no part
  move_cut : Leg

unfoldable pub after_leg : Leg → World → World
after_leg (events vs) w = run vs w
after_leg (moves κ t) w = after_move κ (move w.kind κ w.store t) w
after_leg move_cut w = record { kind = w.kind; node = down; store = w.store; ledger = w.ledger }

unfoldable pub go_on : List Leg → World → World
go_on [] w = w
go_on (l ∷ ls) w = go_on ls (after_leg l w)

-- the hypothesis: numbers of calls are in their ranges, and a target's kind is one that fits, as narrow and wide do
abbrev pub LegInRange : Leg → Type 0
LegInRange (events vs) = AllInRange vs
LegInRange (moves κ t) = KindFits κ
LegInRange move_cut = Unit {0}

unfoldable pub LegsInRange : List Leg → Type 0
LegsInRange ls = Every LegInRange ls

-- The cut rule of every history with moves in it, from the zero store of any kind that fits. `cut-rule-moved` proves it. A move leaves its source's
-- own history as it was: to go on with the source is to leave the move out of the list.
abbrev pub CutRuleMoved : Type 0
CutRuleMoved = (κ : Kind) → KindFits κ → (ls : List Leg) → LegsInRange ls → CutRule (go_on ls (begin κ)).kind (go_on ls (begin κ)).store (go_on ls (begin κ)).ledger
