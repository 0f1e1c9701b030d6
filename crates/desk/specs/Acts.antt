-- What a request comes to: its call's effect, or row 19.
use Rattle.std.specs.Prelude.{ℕ, Bool, false, List}
use Rattle.std.proofs.Math.Option.{Option, some, none}
use Rattle.model.specs.Types.{Station, Outcome}
use Rattle.model.specs.Effects.{Effect, stored, outcome_of}
use Rattle.model.specs.Calls.{Call, Start, Put, Get, Commit, Step, Abort, Collect, Scan, Sweep, is_scan, is_sweep}
use Rattle.sheet.specs.declared.Command.{Command}
use Rattle.sheet.specs.declared.Command.TheVariants as C
use Rattle.sheet.specs.Sheets.{line_effect}
use Rattle.desk.specs.declared.Request.{Request}

-- the call that a command is; none for a malformed line
unfoldable pub call_of : Command → Option Call
call_of (C.Start t) = some (Start t)
call_of (C.Put t k v) = some (Put t k v)
call_of (C.Get t k) = some (Get t k)
call_of (C.Commit t c) = some (Commit t c)
call_of (C.Step t) = some (Step t)
call_of (C.Abort t) = some (Abort t)
call_of (C.Collect d) = some (Collect d)
call_of C.Cut = some Scan
call_of C.Malformed = none
call_of (C.Sweep n) = some (Sweep n)

-- whether a scan is asked, which a sheet calls a cut
unfoldable pub asks_scan : Option Call → Bool
asks_scan none = false
asks_scan (some c) = is_scan c

-- whether a sweep is asked, which a sheet has no verb for
unfoldable pub asks_sweep : Option Call → Bool
asks_sweep none = false
asks_sweep (some c) = is_sweep c

unfoldable pub effect_of : Station → List ℕ → Request → Effect
effect_of st s q = line_effect (call_of q.command) st s

-- what is handed back, and the store afterwards
unfoldable pub acted : Station → List ℕ → Request → Outcome
acted st s q = outcome_of (effect_of st s q)

unfoldable pub kept : Station → List ℕ → Request → List ℕ
kept st s q = stored (effect_of st s q).stores s
