-- `interface::sweep_for` meets its contract.
use Rattle.std.proofs.Common.{arith}
use Rattle.std.proofs.lemmas.Grind.{common_steps}
use Rattle.model.specs.Lists.{◌and◌}
use Rattle.sheet.specs.Lines.{if_unused}
use Rattle.sheet.specs.Commands.{command_of}
use Rattle.interface.proofs.sweep_for.Goals as goal

pub returns-then-k-eq0 : goal.returns-then-k-eq0
unfolding command_of if_unused ◌and◌
returns-then-k-eq0 c = grind (arith, common_steps)

pub returns-else-t-eq0 : goal.returns-else-t-eq0
unfolding command_of if_unused ◌and◌
returns-else-t-eq0 c = grind (arith, common_steps)
