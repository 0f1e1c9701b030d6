-- `interface::run_scan` meets its contract.
use mathlib.Core.Path.{refl, ap, ◌∙◌}
use Rattle.model.specs.Types.{Outcome}
use Rattle.model.specs.Effects.{outcome_of}
use Rattle.interface.specs.Exchange.{answer_bytes}
use Rattle.interface.proofs.run_scan.Goals as goal

pub returns : goal.returns
unfolding outcome_of
returns c =
    let o = c.scan_of-scanned in
    (refl, refl, ap (λ (x : Outcome). x.station) o.ensures, c.write_answer.ensures ∙ ap (λ (x : Outcome). answer_bytes x.answer) o.ensures)
