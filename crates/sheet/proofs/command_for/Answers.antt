-- `sheet::command_for` meets its contract.
use native.Mathlib.Omega.{arith}
use Rattle.std.proofs.lemmas.Grind.{common_steps}
use Rattle.model.specs.Lists.{◌and◌}
use Rattle.sheet.specs.Lines.{if_unused, call_in, of_fields}
use Rattle.sheet.specs.Commands.{command_of}
use Rattle.sheet.specs.Parts.{verb_of, only_if}
use Rattle.sheet.proofs.command_for.Goals as goal

pub returns-after-k-eq0 : goal.returns-after-k-eq0
unfolding verb_of of_fields call_in if_unused command_of only_if ◌and◌
returns-after-k-eq0 c = grind (arith, common_steps)

pub returns-after-k-eq0-2 : goal.returns-after-k-eq0-2
unfolding verb_of of_fields call_in if_unused command_of only_if ◌and◌
returns-after-k-eq0-2 c = grind (arith, common_steps)

pub returns-after-k-eq0-3 : goal.returns-after-k-eq0-3
unfolding verb_of of_fields call_in if_unused command_of only_if ◌and◌
returns-after-k-eq0-3 c = grind (arith, common_steps)

pub returns-after-t-eq0 : goal.returns-after-t-eq0
unfolding verb_of of_fields call_in if_unused command_of only_if ◌and◌
returns-after-t-eq0 c = grind (arith, common_steps)

pub returns-after-k-eq0-4 : goal.returns-after-k-eq0-4
unfolding verb_of of_fields call_in if_unused command_of only_if ◌and◌
returns-after-k-eq0-4 c = grind (arith, common_steps)
