-- `interface::gorehimu_empty_wide` meets its contract.
use Rattle.model.specs.Listed.{kind_of}
use Rattle.interface.proofs.gorehimu_empty_wide.Goals as goal

pub returns : goal.returns
unfolding kind_of
returns c = c.write_empty.ensures
