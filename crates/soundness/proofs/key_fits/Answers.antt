use Rattle.std.proofs.Common.{arith}
use Rattle.std.proofs.lemmas.Grind.{common_steps}
use Rattle.model.specs.Lists.{◌and◌}
use Rattle.soundness.specs.Parts.{fits}
use Rattle.soundness.proofs.key_fits.Goals as goal

pub returns-then-low-key : goal.returns-then-low-key
unfolding fits ◌and◌
returns-then-low-key c = grind (arith, common_steps)

pub returns-else-low-key : goal.returns-else-low-key
unfolding fits ◌and◌
returns-else-low-key c = grind (arith, common_steps)
