-- `records::carries_set` meets its contract. The loop's invariant: the records above n are to carry the keys left.
use Rattle.model.specs.KeySets.{key_set}
use Rattle.keysets.specs.Parts.{keys_left}
use Rattle.records.proofs.SlotSteps.{Left}
use Rattle.records.proofs.carries_set.Given as goal

abbrev pub invariant-loop-n : goal.invariant-loop-n
invariant-loop-n l = Left l.w l.id (key_set l.set) (keys_left l.n-iterator.iter) l.n-iterator.count
