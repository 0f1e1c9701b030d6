use Rattle.std.proofs.Common.{arith}
use Rattle.std.proofs.lemmas.Grind.{common_steps}
use Rattle.model.specs.Lists.{◌and◌, ◌or◌}
use Rattle.soundness.specs.Parts.{slot_free}
use Rattle.soundness.proofs.slot_free.Goals as goal

pub returns-then-slot-eq0 : goal.returns-then-slot-eq0
unfolding slot_free ◌or◌
returns-then-slot-eq0 c = grind (arith, common_steps)

pub returns-then-slot-most : goal.returns-then-slot-most
unfolding slot_free ◌or◌ ◌and◌
returns-then-slot-most c = grind (arith, common_steps)

pub returns-else-slot-most : goal.returns-else-slot-most
unfolding slot_free ◌or◌ ◌and◌
returns-else-slot-most c = grind (arith, common_steps)
