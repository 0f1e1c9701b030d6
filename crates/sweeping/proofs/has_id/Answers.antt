-- `sweeping::has_id` meets its contract.
use mathlib.Core.Path.{sym, ◌∙◌}
use borrow.Author.Tests.{eq-eqb, ne_eqb}
use Rattle.model.specs.Ids.{same_id}
use Rattle.model.proofs.Tests.{and-none-right}
use Rattle.reading.proofs.Order.{and-when}
use Rattle.sweeping.proofs.has_id.Goals as goal

pub returns-then-txns-d : goal.returns-then-txns-d
unfolding same_id
returns-then-txns-d c = and-when _ _ (eq-eqb _ _ c.if-txns-d.true)

pub returns-else-txns-d : goal.returns-else-txns-d
unfolding same_id
returns-else-txns-d c = ne_eqb _ _ c.if-txns-d.false ∙ sym (and-none-right _ _ (ne_eqb _ _ c.if-txns-d.false))
