-- `interface::run_sweep` meets its contract.
use mathlib.Core.Path.{ap, ◌∙◌}
use Rattle.model.specs.Types.{Outcome}
use Rattle.model.specs.Effects.{outcome_of}
use Rattle.interface.specs.Exchange.{answer_bytes}
use Rattle.interface.proofs.run_sweep.Goals as goal

pub returns : goal.returns
unfolding outcome_of
returns c =
    let w = c.sweep-swept in
    (ap (λ (x : Outcome). x.station) w.ensures.0, w.ensures.1, c.write_answer.ensures ∙ ap (λ (x : Outcome). answer_bytes x.answer) w.ensures.0)
