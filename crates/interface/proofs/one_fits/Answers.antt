-- `interface::one_fits` meets its contract.
use Rattle.std.proofs.Common.{arith}
use Rattle.std.proofs.lemmas.Grind.{common_steps}
use Rattle.model.specs.Lists.{◌and◌}
use Rattle.interface.specs.Exchange.{fits_one}
use Rattle.interface.proofs.one_fits.Goals as goal

pub returns-then-request-eq-REQUEST : goal.returns-then-request-eq-REQUEST
unfolding fits_one ◌and◌
returns-then-request-eq-REQUEST c = grind (arith, common_steps)

pub returns-else-request-eq-REQUEST : goal.returns-else-request-eq-REQUEST
unfolding fits_one ◌and◌
returns-else-request-eq-REQUEST c = grind (arith, common_steps)
