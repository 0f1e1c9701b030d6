-- The public calls as functions with the contracts that the code is proved to meet, and histories run by them. Nothing of a call is used here
-- but its contract. A station here is the machine's, its write sets numbers; a contract speaks of its lists (model's specs/Listed).
use Rattle.std.specs.Prelude.{ℕ, ◌<◌, ◌≡◌, cond, List, [], ◌∷◌, replicate}
use Rattle.std.proofs.Math.Option.{Option, some, none}
use Rattle.model.specs.declared.Kind as machine
use Rattle.model.specs.declared.Kind.TheVariants.{Narrow, Wide}
use Rattle.model.specs.declared.Station.{Station}
use Rattle.model.specs.declared.Outcome.{Outcome}
use Rattle.model.specs.Limits.{txn_range, number_range}
use Rattle.model.specs.Kinds.{narrow_kind, wide_kind, store_size}
use Rattle.model.specs.Types as L
use Rattle.model.specs.Listed.{kind_of, listed, listed_outcome, numbered}
use Rattle.model.specs.Stations.{empty_station}
use Rattle.model.specs.Ranges.{Every, IsByte, StationFits}
use Rattle.model.specs.Effects.{outcome_of, stored}
use Rattle.model.specs.Start as Start
use Rattle.model.specs.Put as Put
use Rattle.model.specs.Get as Get
use Rattle.model.specs.Commit as Commit
use Rattle.model.specs.Step as Step
use Rattle.model.specs.Abort as Abort
use Rattle.model.specs.Collect as Collect
use Rattle.model.specs.Scan as Scan
use Rattle.model.specs.Sweep as Sweep
use Rattle.model.specs.Calls as C
use Rattle.model.specs.Calls.{Call, is_scan, IsTyped}
use Rattle.history.specs.Ledger.{Ledger, empty_ledger}
use Rattle.history.specs.Histories.{Event, called, cut, Node, running, down, World, reports, fed, next, call_in}

-- what a call hands back, and the store afterwards
pub record Returned : Type 0 where
  pub outcome : Outcome
  pub store : List ℕ

-- the nine calls' functions, as crates calls and recovery have them; a scan makes a station of the kind that it is asked for
pub record Functions : Type 0 where
  pub start : Station → ℕ → Outcome
  pub put : Station → ℕ → ℕ → ℕ → Outcome
  pub get : Station → List ℕ → ℕ → ℕ → Outcome
  pub commit : Station → ℕ → ℕ → Outcome
  pub step : Station → List ℕ → ℕ → Returned
  pub abort : Station → ℕ → Outcome
  pub collect : Station → List ℕ → ℕ → Returned
  pub scan : List ℕ → Outcome
  pub scan_wide : List ℕ → Outcome
  pub sweep : Station → List ℕ → ℕ → Returned

-- the scan of a kind
unfoldable pub scan_by : Functions → machine.Kind → List ℕ → Outcome
scan_by f Narrow s = f.scan s
scan_by f Wide s = f.scan_wide s

-- a call of one of them: a call that is lent no store, or lent it to read, leaves it
unfoldable pub returned : Functions → Call → Station → List ℕ → Returned
returned f (C.Start t) st s = record { outcome = f.start st t; store = s }
returned f (C.Put t k v) st s = record { outcome = f.put st t k v; store = s }
returned f (C.Get t k) st s = record { outcome = f.get st s t k; store = s }
returned f (C.Commit t c) st s = record { outcome = f.commit st t c; store = s }
returned f (C.Step t) st s = f.step st s t
returned f (C.Abort t) st s = record { outcome = f.abort st t; store = s }
returned f (C.Collect d) st s = f.collect st s d
returned f C.Scan st s = record { outcome = scan_by f st.kind s; store = s }
returned f (C.Sweep n) st s = f.sweep st s n

-- the contracts, word for word: what they say of values within their types
pub record Meets (f : Functions) : Type 0 where
  pub start : (st : Station) (t : ℕ) → StationFits st → t < txn_range → listed_outcome (f.start st t) ≡ outcome_of (Start.start (listed st) t)
  pub put : (st : Station) (t k v : ℕ) → StationFits st → t < txn_range → IsByte k → v < number_range → listed_outcome (f.put st t k v) ≡ outcome_of (Put.put (listed st) t k v)
  pub get : (st : Station) (s : List ℕ) (t k : ℕ) → StationFits st → Every IsByte s → t < txn_range → IsByte k → listed_outcome (f.get st s t k) ≡ outcome_of (Get.get (listed st) s t k)
  pub commit : (st : Station) (t c : ℕ) → StationFits st → t < txn_range → c < number_range → listed_outcome (f.commit st t c) ≡ outcome_of (Commit.commit (listed st) t c)
  pub step : (st : Station) (s : List ℕ) (t : ℕ) → StationFits st → Every IsByte s → t < txn_range
      → (listed_outcome (f.step st s t).outcome ≡ outcome_of (Step.step (listed st) s t)) × ((f.step st s t).store ≡ stored (Step.step (listed st) s t).stores s)
  pub abort : (st : Station) (t : ℕ) → StationFits st → t < txn_range → listed_outcome (f.abort st t) ≡ outcome_of (Abort.abort (listed st) t)
  pub collect : (st : Station) (s : List ℕ) (d : ℕ) → StationFits st → Every IsByte s → IsByte d
      → (listed_outcome (f.collect st s d).outcome ≡ outcome_of (Collect.collect (listed st) s d)) × ((f.collect st s d).store ≡ stored (Collect.collect (listed st) s d).stores s)
  pub scan : (s : List ℕ) → Every IsByte s → listed_outcome (f.scan s) ≡ outcome_of (Scan.scan narrow_kind s)
  pub scan-wide : (s : List ℕ) → Every IsByte s → listed_outcome (f.scan_wide s) ≡ outcome_of (Scan.scan wide_kind s)
  pub sweep : (st : Station) (s : List ℕ) (n : ℕ) → StationFits st → Every IsByte s → n < number_range
      → (listed_outcome (f.sweep st s n).outcome ≡ outcome_of (Sweep.sweep (listed st) s n)) × ((f.sweep st s n).store ≡ stored (Sweep.sweep (listed st) s n).stores s)
  -- what a function hands back is within its types, as every value of the machine is
  pub fits : (c : Call) (st : Station) (s : List ℕ) → IsTyped c → StationFits st → Every IsByte s → StationFits (returned f c st s).outcome.station

-- ── histories run by them ──
-- a node that runs them, its store, and the ledger that is fed their answers
pub record Host : Type 0 where
  pub kind : machine.Kind
  pub node : Node Station
  pub store : List ℕ
  pub ledger : Ledger

unfoldable pub host_begin : machine.Kind → Host
host_begin k = record { kind = k; node = running (numbered (empty_station (kind_of k))); store = replicate (store_size (kind_of k)) 0; ledger = empty_ledger }

-- with the definitions' station: the world that it is
abbrev pub listed_node : Node Station → Node L.Station
listed_node (running st) = running (listed st)
listed_node down = down

abbrev pub listed_host : Host → World
listed_host h = record { kind = kind_of h.kind; node = listed_node h.node; store = h.store; ledger = h.ledger }

-- the station that a function is handed: the one last handed back. After a cut a scan, which looks at none, gets the empty one
unfoldable pub lent : machine.Kind → Call → Node Station → Option Station
lent k c (running st) = some st
lent k c down = cond (is_scan c) (some (numbered (empty_station (kind_of k)))) none

unfoldable pub after_return : Functions → Option Station → Call → Host → Host
after_return f none c h = h
after_return f (some st) c h =
    let r : Returned = returned f c st h.store in
    record { kind = h.kind; node = running r.outcome.station; store = r.store; ledger = fed (reports c r.outcome.answer (listed st) h.store) h.ledger }

-- a contract speaks of a call that returns. Of one cut short, the first n of the records that its definition stores are written: a call writes
-- them in that order, each whole, and no other byte
unfoldable pub next_by : Functions → Event → Host → Host
next_by f (called c) h = after_return f (lent h.kind c h.node) c h
next_by f (cut c n) h = let w : World = next (cut c n) (listed_host h) in record { kind = h.kind; node = down; store = w.store; ledger = w.ledger }

unfoldable pub run_by : Functions → List Event → Host → Host
run_by f [] h = h
run_by f (v ∷ vs) h = run_by f vs (next_by f v h)

-- the only hypothesis: numbers are in the ranges of their types
unfoldable pub AllTyped : List Event → Type 0
AllTyped vs = Every (λ (v : Event). IsTyped (call_in v)) vs
