use Rattle.stations.proofs.Joined.{joined-shifted}
use Rattle.stations.proofs.join.Goals as goal

pub returns : goal.returns
returns g c = rw c.copy_within.ensures.after (joined-shifted c.args.items.now c.args.at c.args.item c.requires)
