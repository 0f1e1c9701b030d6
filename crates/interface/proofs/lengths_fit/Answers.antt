-- `interface::lengths_fit` meets its contract.
use Rattle.std.proofs.Common.{arith}
use Rattle.std.proofs.lemmas.Grind.{common_steps}
use Rattle.interface.proofs.LengthLaws.{no-image, no-requests, no-answers, one_each}
use Rattle.interface.proofs.lengths_fit.Goals as goal

pub returns-then-answers-eq0 : goal.returns-then-answers-eq0
returns-then-answers-eq0 c =
    let a = c.args in
    grind (arith, common_steps, one_each a.image a.requests a.answers)

pub returns-else-answers-eq0 : goal.returns-else-answers-eq0
returns-else-answers-eq0 c =
    let a = c.args in
    grind (arith, common_steps, no-image a.image a.requests a.answers, no-requests a.image a.requests a.answers, no-answers a.image a.requests a.answers)
