use Rattle.std.proofs.Common.{arith}
use Rattle.std.proofs.lemmas.Grind.{common_steps}
use Rattle.model.specs.Lists.{◌and◌}
use Rattle.soundness.proofs.PartLaws.{entry-none, entry-some}
use Rattle.soundness.proofs.entry_right.Goals as goal

pub returns-then-e-eq0 : goal.returns-then-e-eq0
unfolding ◌and◌
returns-then-e-eq0 c = rw (entry-none _ c.args.e _ c.key_count-n.ensures c.if-n-eq0.true) (grind (arith, common_steps))

pub returns-else-e-eq0 : goal.returns-else-e-eq0
unfolding ◌and◌
returns-else-e-eq0 c = rw (entry-none _ c.args.e _ c.key_count-n.ensures c.if-n-eq0.true) (grind (arith, common_steps))

pub returns-then-e-ne0 : goal.returns-then-e-ne0
unfolding ◌and◌
returns-then-e-ne0 c = rw (entry-some _ c.args.e _ c.key_count-n.ensures c.if-n-eq0.false) (grind (arith, common_steps))

pub returns-else-e-ne0 : goal.returns-else-e-ne0
unfolding ◌and◌
returns-else-e-ne0 c = rw (entry-some _ c.args.e _ c.key_count-n.ensures c.if-n-eq0.false) (grind (arith, common_steps))
