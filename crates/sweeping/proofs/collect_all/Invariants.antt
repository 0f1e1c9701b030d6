-- `sweeping::collect_all` meets its contract.
use Rattle.model.specs.Listed.{listed}
use Rattle.sweeping.proofs.SweepLoop.{Sweeping}
use Rattle.sweeping.proofs.collect_all.Given as goal

abbrev pub invariant-loop-d : goal.invariant-loop-d
invariant-loop-d l = Sweeping l.limit (listed l.initial.next) l.initial.store (listed l.next) l.store l.count l.left l.order.slots

abbrev pub decreases-loop-d : goal.decreases-loop-d
decreases-loop-d l = l.left
