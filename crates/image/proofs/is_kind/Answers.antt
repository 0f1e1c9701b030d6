-- `image::is_kind` meets its contract.
use Rattle.std.proofs.lemmas.Grind.{common_steps}
use Rattle.image.proofs.Names.{◌and◌, arith}
use Rattle.image.proofs.PlaceLaws.{kind-is}
use Rattle.image.proofs.is_kind.Goals as goal

pub returns-then-mark-b : goal.returns-then-mark-b
unfolding ◌and◌
returns-then-mark-b c = let t = kind-is c.args.b.now c.requires (λ i o. omega (arith, c.type_inv.b i)) in grind (arith, common_steps)

pub returns-else-mark-b : goal.returns-else-mark-b
unfolding ◌and◌
returns-else-mark-b c = let t = kind-is c.args.b.now c.requires (λ i o. omega (arith, c.type_inv.b i)) in grind (arith, common_steps)
