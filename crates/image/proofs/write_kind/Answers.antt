-- `image::write_kind` meets its contract.
use Rattle.image.proofs.Names.{ℕ, ap, ◌∙◌, length, bytes}
use Rattle.image.proofs.PlaceLaws.{kind-written}
use Rattle.image.proofs.write_kind.Goals as goal

pub returns : goal.returns
returns c =
    let n = length c.args.part.now in
    c.write_number.ensures ∙ ap (λ (m : ℕ). bytes n m) (c.from.ensures ∙ c.mark.ensures) ∙ kind-written n c.args.kind c.requires
