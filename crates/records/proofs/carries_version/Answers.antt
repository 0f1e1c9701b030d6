-- `records::carries_version` meets its contract.
use Rattle.std.proofs.Common.{arith}
use Rattle.std.proofs.lemmas.Grind.{common_steps}
use Rattle.model.specs.Lists.{◌and◌}
use Rattle.model.specs.Ids.{same_id}
use Rattle.model.specs.Records.{carries_version}
use Rattle.records.proofs.carries_version.Goals as goal

pub returns-then-r-eq0-3 : goal.returns-then-r-eq0-3
unfolding carries_version same_id ◌and◌
returns-then-r-eq0-3 c = grind (arith, common_steps)

pub returns-else-r-eq0-3 : goal.returns-else-r-eq0-3
unfolding carries_version same_id ◌and◌
returns-else-r-eq0-3 c = grind (arith, common_steps)
