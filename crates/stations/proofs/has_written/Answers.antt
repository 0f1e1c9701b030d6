-- `stations::has_written` meets its contract.
use mathlib.Core.Path.{◌∙◌}
use Rattle.stations.proofs.Sets.{has-written}
use Rattle.stations.proofs.has_written.Goals as goal

pub returns : goal.returns
returns c = c.has_key.ensures ∙ has-written c.args.l c.args.key
