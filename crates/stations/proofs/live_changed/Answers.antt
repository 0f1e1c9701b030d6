-- `stations::live_changed` meets its contract. Assumes nothing.
use Rattle.stations.proofs.Changes.{is-live-changed}
use Rattle.stations.proofs.live_changed.Goals as goal

pub returns : goal.returns
returns c = is-live-changed _ _ _ _ _ c.requires
