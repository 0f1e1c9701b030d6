-- `interface::gorehimu_empty` meets its contract.
use Rattle.model.specs.Listed.{kind_of}
use Rattle.interface.proofs.gorehimu_empty.Goals as goal

pub returns : goal.returns
unfolding kind_of
returns c = c.write_empty.ensures
