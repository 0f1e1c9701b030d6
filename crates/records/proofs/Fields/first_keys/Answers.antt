use mathlib.Core.Path.{ap}
use lib.ListN.{take}
use Rattle.records.specs.Fields.{first_keys}
use Rattle.records.proofs.Fields.first_keys.Goals as goal

pub returns : goal.returns
unfolding first_keys
returns c = ap (λ n. take n c.args.self.now.keys) c.from.ensures
