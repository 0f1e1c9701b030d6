use Rattle.image.proofs.Names.{entry_from}
use Rattle.image.proofs.EntryPart.read.Goals as goal

pub returns : goal.returns
unfolding entry_from
returns c = λ z. record { id = record { clock = c.number_in.ensures.0 z; txn = c.number_in-2.ensures.0 z }; keys = c.number_in-3.ensures.0 z }
