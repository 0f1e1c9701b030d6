-- `records::value_in` meets its contract.
use Rattle.model.specs.Records.{value_in}
use Rattle.records.proofs.value_in.Goals as goal

pub returns : goal.returns
unfolding value_in
returns c = c.number_in.ensures.0
