-- `stations::unchanged` meets its contract. Assumes nothing.
use Rattle.stations.proofs.Changes.{is_unchanged}
use Rattle.stations.proofs.unchanged.Goals as goal

pub returns : goal.returns
returns c = is_unchanged _ _ _ _
