use Rattle.std.proofs.Common.{◌≡◌, arith, true}
use lib.Dec.{leb}
use borrow.Author.Tests.{le-leb}
use Rattle.std.proofs.lemmas.Grind.{common_steps}
use Rattle.model.specs.Lists.{◌and◌}
use Rattle.soundness.specs.Parts.{counts_right}
use Rattle.soundness.proofs.counts_right.Goals as goal

pub returns-then-clock-ne0 : goal.returns-then-clock-ne0
unfolding counts_right ◌and◌
returns-then-clock-ne0 c =
    let a = c.args in
    let e : leb 1 a.writes ≡ true = le-leb 1 a.writes (omega arith) in
    let f : leb 1 a.clock ≡ true = le-leb 1 a.clock (omega arith) in
    rw (e, f) (grind (arith, common_steps))

pub returns-else-clock-ne0 : goal.returns-else-clock-ne0
unfolding counts_right ◌and◌
returns-else-clock-ne0 c = grind (arith, common_steps)
