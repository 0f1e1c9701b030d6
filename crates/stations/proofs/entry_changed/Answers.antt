-- `stations::entry_changed` meets its contract. Assumes nothing.
use Rattle.stations.proofs.Changes.{is-entry-changed}
use Rattle.stations.proofs.entry_changed.Goals as goal

pub returns : goal.returns
returns c = is-entry-changed _ _ _ _ _ c.requires
