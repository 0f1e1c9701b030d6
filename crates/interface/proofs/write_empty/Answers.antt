-- `interface::write_empty` meets its contract.
use mathlib.Core.Path.{sym, ap, ◌∙◌}
use lib.ListN.{length}
use borrow.Author.Tests.{eq-eqb, ne_eqb}
use Rattle.model.specs.Listed.{numbered}
use Rattle.image.specs.Layout.{image_size}
use Rattle.image.specs.Images.{station_bytes}
use Rattle.interface.specs.Exchange.{image_of}
use Rattle.interface.proofs.LengthLaws.{cond_yes, cond_no}
use Rattle.interface.proofs.write_empty.Goals as goal

pub returns-then-image-ne-IMAGE : goal.returns-then-image-ne-IMAGE
returns-then-image-ne-IMAGE c =
    let e = ne_eqb (length c.args.image.now) image_size c.if-image-ne-IMAGE.true in
    record { value = cond_no _ _ _ e; image_after = cond_no _ _ _ e }

pub returns : goal.returns
unfolding image_of
returns c =
    let w = c.write_image.ensures in
    let e = eq-eqb (length c.args.image.now) image_size c.if-image-ne-IMAGE.false in
    record { value = cond_yes _ _ _ e; image_after = w.bytes_after ∙ ap station_bytes (sym w.station_value ∙ ap numbered c.empty_of.ensures) ∙ cond_yes _ _ _ e }
