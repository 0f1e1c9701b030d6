use Rattle.image.proofs.Names.{get_or, read_from}
use Rattle.image.proofs.ReadPart.read.Goals as goal

pub returns : goal.returns
unfolding read_from
returns c = λ z. record { key = get_or c.args.b.now 0 0; id = c.id_in.ensures z }
