-- `image::is_place` meets its contract.
use Rattle.std.proofs.lemmas.Grind.{common_steps}
use Rattle.image.proofs.Names.{◌and◌, arith}
use Rattle.image.proofs.PlaceLaws.{place_is}
use Rattle.image.proofs.is_place.Goals as goal

pub returns-then-is_head : goal.returns-then-is_head
unfolding ◌and◌
returns-then-is_head c = let t = place_is c.args.b.now c.requires (λ i o. omega (arith, c.type_inv.b i)) in grind (arith, common_steps)

pub returns-else-is_head : goal.returns-else-is_head
unfolding ◌and◌
returns-else-is_head c = let t = place_is c.args.b.now c.requires (λ i o. omega (arith, c.type_inv.b i)) in grind (arith, common_steps)
