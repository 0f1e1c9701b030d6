-- `stations::phase_at` meets its contract. The loop's invariant: the place is not before i. Assumes nothing.
use Prim.Native.Nat.{◌≤◌}
use Rattle.stations.proofs.phase_at.Given as goal

abbrev pub invariant-loop-i : goal.invariant-loop-i
invariant-loop-i l = l.i ≤ l.place
