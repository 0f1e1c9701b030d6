use Rattle.std.proofs.Common.{refl}
use Rattle.model.specs.KeySets.{key_set, keys_below, with_lowest}
use Rattle.model.specs.Listed.{valued}
use Rattle.model.specs.Stations.{empty_station}
use Rattle.model.proofs.empty_of.Goals as goal

pub returns : goal.returns
unfolding empty_station valued key_set keys_below with_lowest
returns c = refl
