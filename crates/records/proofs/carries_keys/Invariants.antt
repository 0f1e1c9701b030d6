-- `records::carries_keys` meets its contract. The loop's invariant: the records above n are to carry the keys left.
use lib.ListN.{drop}
use Rattle.records.proofs.SlotSteps.{Left}
use Rattle.records.proofs.carries_keys.Given as goal

abbrev pub invariant-loop-n : goal.invariant-loop-n
invariant-loop-n l = Left l.w l.id l.ks (drop l.n l.ks) l.n
