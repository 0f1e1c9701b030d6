-- `interface::run_requests` meets its contract.
use Prim.Native.Nat.{ℕ, ◌-◌, ◌≤◌}
use mathlib.Core.Path.{◌≡◌}
use mathlib.Core.Bool.{Bool}
use mathlib.Core.List.{List}
use lib.ListN.{length}
use Rattle.model.specs.declared.Station.{Station}
use Rattle.model.specs.Listed.{listed}
use Rattle.model.specs.Sound.{sound}
use Rattle.image.specs.Layout.{parts}
use Rattle.interface.specs.Exchange.{request_size, Held, after_requests, answers_to}
use Rattle.interface.specs.Parts.{held_of}
use Rattle.interface.proofs.RunLaws.{Passed}
use Rattle.interface.proofs.run_requests.Given as goal

-- what is held, of the loop's variables
abbrev pub held : Bool → Bool → Station → List ℕ → Held
held w t st s = held_of (record { whole = w; tested = t; station = st }) s

abbrev pub invariant-loop-i : goal.invariant-loop-i
invariant-loop-i l =
    (l.i ≤ l.count) × (length l.answers ≡ length l.initial.answers) × (length l.store ≡ length l.initial.store) × (l.tested ≡ sound (listed l.station))
    × Passed l.count l.requests (after_requests (parts request_size l.count l.requests) (held l.initial.whole l.initial.tested l.initial.station l.initial.store)) (answers_to (parts request_size l.count l.requests) (held l.initial.whole l.initial.tested l.initial.station l.initial.store)) l.i (held l.whole l.tested l.station l.store) l.answers

abbrev pub decreases-loop-i : goal.decreases-loop-i
decreases-loop-i l = l.count - l.i
