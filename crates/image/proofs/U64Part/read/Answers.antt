use Rattle.image.proofs.Names.{value_from}
use Rattle.image.proofs.U64Part.read.Goals as goal

pub returns : goal.returns
unfolding value_from
returns c = c.number_in.ensures.0
