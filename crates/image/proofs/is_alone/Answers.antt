-- `image::is_alone` meets its contract.
use Rattle.image.proofs.Names.{eqb, ℕ, is_alone, ap}
use Rattle.image.proofs.is_alone.Goals as goal

pub returns : goal.returns
unfolding is_alone
returns c = ap (λ (n : ℕ). eqb n 0) c.number_in.ensures.0
