-- `records::Fields::keeps_rules` meets its contract.
use Rattle.std.proofs.Common.{arith}
use Rattle.std.proofs.lemmas.Grind.{common_steps}
use Rattle.model.specs.Lists.{◌and◌}
use Rattle.records.specs.Fields.{first_keys, field_rules}
use Rattle.records.proofs.Fields.keeps_rules.Goals as goal

pub returns-then-keys_ascend : goal.returns-then-keys_ascend
unfolding field_rules first_keys ◌and◌
returns-then-keys_ascend c = grind (arith, common_steps)

pub returns-else-keys_ascend : goal.returns-else-keys_ascend
unfolding field_rules first_keys ◌and◌
returns-else-keys_ascend c = grind (arith, common_steps)
