-- `sweeping::mark_id` meets its contract.
use Rattle.model.specs.Ids.{same_id}
use Rattle.reading.specs.Columns.{id_at}
use Rattle.sweeping.proofs.MarkLoop.{Marking}
use Rattle.sweeping.proofs.mark_id.Given as goal

abbrev pub invariant-loop-d : goal.invariant-loop-d
invariant-loop-d l = Marking (λ j. same_id (id_at l.clocks l.txns j) l.id) 64 l.d l.initial.marks l.marks
