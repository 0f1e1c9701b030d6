-- `interface::gorehimu_recover_wide` meets its contract.
use Rattle.model.specs.Listed.{kind_of}
use Rattle.interface.proofs.gorehimu_recover_wide.Goals as goal

pub returns : goal.returns
unfolding kind_of
returns c = c.recover_of.ensures
