use Rattle.std.proofs.Common.{refl}
use Rattle.model.specs.KeySets.{key_set, keys_below, with_lowest}
use Rattle.model.proofs.no_entry.Goals as goal

pub returns : goal.returns
unfolding key_set keys_below with_lowest
returns c = refl
