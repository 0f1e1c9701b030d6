-- `records::fields_in` meets its contract.
use lib.ListN.{get_or}
use Rattle.records.specs.Fields.{fields_in}
use Rattle.records.proofs.fields_in.Goals as goal

pub returns : goal.returns
unfolding fields_in
returns c = λ z. record { id = c.id_in.ensures z; count = get_or c.args.r.now 1 0; keys = c.copy_from_slice.ensures.after z }
