-- `interface::keep` meets its contract.
use mathlib.Core.Path.{sym, ap, ◌∙◌}
use Rattle.image.specs.Images.{station_bytes}
use Rattle.interface.specs.Exchange.{image_of}
use Rattle.interface.proofs.LengthLaws.{cond_yes}
use Rattle.interface.proofs.keep.Goals as goal

pub returns-then-last-clause-image_after : goal.returns-then-last-clause-image_after
unfolding image_of
returns-then-last-clause-image_after c =
    let w = c.write_image.ensures in
    w.bytes_after ∙ sym (ap station_bytes w.station_value) ∙ cond_yes c.args.last.whole _ _ c.if-last.true
