-- `stations::value_under` meets its contract.
use Prim.Native.Nat.{◌<◌}
use mathlib.Core.Path.{◌∙◌}
use lib.ListN.{length}
use native.Mathlib.Omega.{arith}
use Rattle.model.specs.KeySets.{key_set}
use Rattle.keysets.proofs.SetLaws.{key-near}
use Rattle.stations.proofs.Sets.{has-written, written_below, value_there}
use Rattle.stations.proofs.value_under.Goals as goal

pub keys_below-at-requires : goal.keys_below-at-requires
keys_below-at-requires c = key-near c.args.l.keys c.args.key (has-written c.args.l c.args.key ∙ c.requires.l_value)

-- the position is in the write set
below : (c : goal.After-keys_below-at) → c.keys_below-at.result < length (key_set c.args.l.keys)
below c = written_below c.args.l c.args.key _ c.keys_below-at.ensures c.requires.l_value

pub offset_bounds-l-at : goal.offset_bounds-l-at
offset_bounds-l-at c = omega (arith, below c, c.requires.keys_len_bound)

pub bounds-l-at : goal.bounds-l-at
bounds-l-at c = omega (arith, below c, c.requires.keys_len_bound)

pub returns : goal.returns
returns c = value_there c.args.l c.args.key _ c.keys_below-at.ensures c.requires.l_value
