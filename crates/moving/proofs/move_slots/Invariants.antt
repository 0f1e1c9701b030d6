-- `moving::move_slots` meets its contract.
use Rattle.model.specs.Listed.{kind_of}
use Rattle.moving.proofs.MoveLoop.{Moving}
use Rattle.moving.proofs.move_slots.Given as goal

abbrev pub invariant-loop-d : goal.invariant-loop-d
invariant-loop-d l = Moving (kind_of l.from) (kind_of l.to) l.source l.target l.at l.d
