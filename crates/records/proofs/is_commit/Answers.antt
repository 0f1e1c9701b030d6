-- `records::is_commit` meets its contract.
use Rattle.std.proofs.Common.{arith}
use Rattle.std.proofs.lemmas.Grind.{common_steps}
use Rattle.model.specs.Lists.{◌and◌}
use Rattle.model.specs.Entries.{mark_in}
use Rattle.records.specs.Fields.{is_commit}
use Rattle.records.proofs.is_commit.Goals as goal

pub returns-then-r-eq0 : goal.returns-then-r-eq0
unfolding is_commit mark_in ◌and◌
returns-then-r-eq0 c = grind (arith, common_steps)

pub returns-else-r-eq0 : goal.returns-else-r-eq0
unfolding is_commit mark_in ◌and◌
returns-else-r-eq0 c = grind (arith, common_steps)
