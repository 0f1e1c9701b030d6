-- `image::is_image` meets its contract.
use Rattle.std.proofs.lemmas.Grind.{common_steps}
use Rattle.image.proofs.Names.{◌≡◌, ◌and◌, length, image_size, arith}
use Rattle.image.proofs.Round.{no-image, image-is}
use Rattle.image.proofs.is_image.Goals as goal

pub returns-then-is_kind : goal.returns-then-is_kind
unfolding ◌and◌
returns-then-is_kind c =
    let t = λ (l : length c.args.bytes.now ≡ image_size). image-is c.args.bytes.now l (λ i o. omega (arith, c.type_inv.bytes i)) in
    grind (arith, common_steps, no-image)

pub returns-else-is_kind : goal.returns-else-is_kind
unfolding ◌and◌
returns-else-is_kind c =
    let t = λ (l : length c.args.bytes.now ≡ image_size). image-is c.args.bytes.now l (λ i o. omega (arith, c.type_inv.bytes i)) in
    grind (arith, common_steps, no-image)
