-- `interface::gorehimu_move_back` meets its contract.
use Rattle.model.specs.Listed.{kind_of}
use Rattle.interface.proofs.gorehimu_move_back.Goals as goal

pub returns : goal.returns
unfolding kind_of
returns c =
    let w = c.answer_move.ensures in
    record { value = w.value; narrow_after = w.target_after; answer_after = w.answer_after }
