use Rattle.std.proofs.Common.{arith}
use Rattle.std.proofs.lemmas.Grind.{common_steps}
use Rattle.model.specs.Lists.{◌and◌}
use Rattle.soundness.specs.Parts.{lists_right}
use Rattle.soundness.proofs.lists_right.Goals as goal

pub returns-then-l-le-READS_U8 : goal.returns-then-l-le-READS_U8
unfolding lists_right ◌and◌
returns-then-l-le-READS_U8 c = grind (arith, common_steps)

pub returns-else-l-le-READS_U8 : goal.returns-else-l-le-READS_U8
unfolding lists_right ◌and◌
returns-else-l-le-READS_U8 c = grind (arith, common_steps)
