-- `interface::write_answer` meets its contract.
use mathlib.Core.Path.{◌∙◌}
use Rattle.interface.specs.Exchange.{four_bytes, answer_bytes}
use Rattle.interface.proofs.write_answer.Goals as goal

pub returns : goal.returns
unfolding answer_bytes
returns c =
    let v = c.values_in-v in
    let k = c.answer_kind in
    c.write_four.ensures ∙ (λ i. four_bytes (k.ensures i) (v.ensures.0 i) (v.ensures.1 i) (v.ensures.2 i))
