-- `interface::current_in` meets its contract.
use mathlib.Core.Path.{sym, ap, ◌∙◌}
use Rattle.model.specs.Listed.{listed}
use Rattle.model.specs.Sound.{sound}
use Rattle.image.specs.Images.{station_in, is_image}
use Rattle.interface.specs.Exchange.{unsound_station}
use Rattle.interface.proofs.LengthLaws.{cond_no}
use Rattle.interface.proofs.RefusedRequests.{unsound-station}
use Rattle.interface.proofs.current_in.Goals as goal

pub returns-in-None : goal.returns-in-None
returns-in-None c =
    let u = c.unsound_station in
    let x = c.args.image.now in (
      sym c.in-None.ensures,
      u.ensures ∙ cond_no (is_image x) (listed (station_in x)) unsound_station c.in-None.ensures,
      sym unsound-station ∙ ap sound (sym u.ensures),
    )
