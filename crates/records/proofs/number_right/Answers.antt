-- `records::number_right` meets its contract.
use Rattle.std.proofs.Common.{arith}
use Rattle.std.proofs.lemmas.Grind.{common_steps}
use Rattle.model.specs.Lists.{◌and◌}
use Rattle.records.specs.Fields.{number_rules}
use Rattle.records.proofs.FieldLaws.{some_number}
use Rattle.records.proofs.number_right.Goals as goal

pub returns-then-id-ne0 : goal.returns-then-id-ne0
unfolding number_rules ◌and◌
returns-then-id-ne0 c = grind (arith, common_steps, some_number)

pub returns-else-id-ne0 : goal.returns-else-id-ne0
unfolding number_rules ◌and◌
returns-else-id-ne0 c = grind (arith, common_steps, some_number)
