-- `records::write_zero` meets its contract.
use mathlib.Core.Path.{ap, ◌∙◌}
use lib.ListN.{replicate}
use Rattle.model.specs.Records.{zero_record}
use Rattle.records.proofs.write_zero.Goals as goal

pub returns : goal.returns
unfolding zero_record
returns c = c.fill.ensures.after (λ y h. h) ∙ ap (λ n. replicate n 0) c.requires
