-- `stations::record_of` meets its contract. Assumes nothing.
use mathlib.Core.Path.{◌≡◌, ◌∙◌}
use lib.Dec.{eqb}
use native.Mathlib.Omega.{arith}
use native.Mathlib.Numerals.{add-one}
use Rattle.model.specs.Lists.{first}
use Rattle.model.specs.KeySets.{key_set}
use Rattle.model.specs.Entries.{wrote, record_of}
use Rattle.model.proofs.ListLaws.{member-finds}
use Rattle.model.proofs.KeySetLaws.{set-few, set-position}
use Rattle.keysets.proofs.SetLaws.{key-near}
use Rattle.stations.proofs.record_of.Goals as goal

pub keys_below-requires : goal.keys_below-requires
unfolding wrote
keys_below-requires c = key-near c.args.e.keys c.args.key c.requires

-- of a key that it has, the keys below are its position
position : (c : goal.After-keys_below) → c.keys_below.result ≡ first (eqb c.args.key) (key_set c.args.e.keys)
unfolding wrote
position c = c.keys_below.ensures ∙ set-position c.args.e.keys c.args.key c.requires

pub overflow_add-result : goal.overflow_add-result
unfolding wrote
overflow_add-result c =
    let n = c.args.e.keys in
    omega (arith, (member-finds c.args.key (key_set n) c.requires).0, set-few n, position c)

pub returns : goal.returns
unfolding record_of
returns c = rw (position c) (add-one _)
