use Rattle.std.proofs.Common.{arith, rules}
use Rattle.std.proofs.lemmas.Grind.{common_steps}
use Rattle.model.specs.Lists.{◌and◌}
use Rattle.soundness.proofs.PartLaws.{unused-is}
use Rattle.soundness.proofs.unused_right.Goals as goal

pub returns-then-no_values : goal.returns-then-no_values
unfolding ◌and◌
returns-then-no_values c = rw (unused-is c.args.l.now (search rules)) (grind (arith, common_steps))

pub returns-else-no_values : goal.returns-else-no_values
unfolding ◌and◌
returns-else-no_values c = rw (unused-is c.args.l.now (search rules)) (grind (arith, common_steps))
