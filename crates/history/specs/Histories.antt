-- Histories: lists of calls and cuts, from the empty station and the zero store of a kind.
use Rattle.std.specs.Prelude.{ℕ, ◌-◌, cond, List, [], ◌∷◌, map, leb, length, take, replicate}
use Rattle.std.proofs.Math.Option.{Option, some, none}
use Rattle.model.specs.Types.{Station}
use Rattle.model.specs.Kinds.{Kind, store_size}
use Rattle.model.specs.Stations.{empty_station}
use Rattle.model.specs.Ranges.{Every}
use Rattle.model.specs.Effects.{Effect, stored}
use Rattle.model.specs.declared.Answer.{Answer}
use Rattle.model.specs.Answers.{swept_in}
use Rattle.model.specs.Sweep.{Collection, collections}
use Rattle.model.specs.Calls.{Call, Collect, does, is_scan, is_sweep, InRange}
use Rattle.history.specs.Ledger.{Ledger, empty_ledger, feed}

pub data Event : Type 0 where
  -- a call
  called : Call → Event
  -- a call cut short: power goes after its first n stores
  cut : Call → ℕ → Event

-- a node of the paper: a station that runs, the definitions' or the machine's, or that a cut has taken
pub data Node (S : Type 0) : Type 0 where
  running : S → Node S
  down : Node S

pub record World : Type 0 where
  pub kind : Kind
  pub node : Node Station
  pub store : List ℕ
  pub ledger : Ledger

-- "At first none."
unfoldable pub begin : Kind → World
begin κ = record { kind = κ; node = running (empty_station κ); store = replicate (store_size κ) 0; ledger = empty_ledger }

-- the station that a call is handed. "All else in a station is lost in a cut.": until a scan, which needs none, a call does nothing
unfoldable pub handed : Kind → Call → Node Station → Option Station
handed κ c (running st) = some st
handed κ c down = cond (is_scan c) (some (empty_station κ)) none

-- ── what the ledger is fed ──
-- a call with its answer, and how many stores that answer reports
pub record Report : Type 0 where
  pub call : Call
  pub answer : Answer
  pub stores : ℕ

-- 02 §2: "The book takes a sweep as those collects with their answers"
unfoldable pub report_of : Collection → Report
report_of x = record { call = Collect x.slot; answer = x.effect.answer; stores = length x.effect.stores }

-- "The book is fed each call with its answer.": a sweep as the collects that its answer counts, any other call as itself,
-- which reports with its last store, or stores nothing
unfoldable pub reports : Call → Answer → Station → List ℕ → List Report
reports c a st s = cond (is_sweep c) (map report_of (collections (swept_in a) st s)) (record { call = c; answer = a; stores = length (does c st s).stores } ∷ [])

unfoldable pub fed : List Report → Ledger → Ledger
fed [] b = b
fed (r ∷ rs) b = fed rs (feed r.answer r.call b)

-- 01 'Words': "the answer that reports a write counts as given with it": those that report no more than the first n stores
unfoldable pub given_after : ℕ → List Report → List Report
given_after n [] = []
given_after n (r ∷ rs) = cond (leb r.stores n) (r ∷ given_after (n - r.stores) rs) []

-- ── a call, and a call cut short ──
unfoldable pub after_call : Option Station → Call → World → World
after_call none c w = w
after_call (some st) c w =
    let e : Effect = does c st w.store in
    record { kind = w.kind; node = running e.station; store = stored e.stores w.store; ledger = fed (reports c e.answer st w.store) w.ledger }

-- "a cut falls only between such writes, those before it standing whole and the cut call's later ones never begun". The station is lost
unfoldable pub after_cut : Option Station → Call → ℕ → World → World
after_cut none c n w = w
after_cut (some st) c n w =
    let e : Effect = does c st w.store in
    record { kind = w.kind; node = down; store = stored (take n e.stores) w.store; ledger = fed (given_after n (reports c e.answer st w.store)) w.ledger }

unfoldable pub next : Event → World → World
next (called c) w = after_call (handed w.kind c w.node) c w
next (cut c n) w = after_cut (handed w.kind c w.node) c n w

unfoldable pub run : List Event → World → World
run [] w = w
run (v ∷ vs) w = run vs (next v w)

-- the only hypothesis: transactions and numbers are in their ranges
unfoldable pub call_in : Event → Call
call_in (called c) = c
call_in (cut c n) = c

unfoldable pub AllInRange : List Event → Type 0
AllInRange vs = Every (λ (v : Event). InRange (call_in v)) vs
