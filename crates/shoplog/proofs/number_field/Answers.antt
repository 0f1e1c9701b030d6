-- `shoplog::number_field` meets its contract.
use mathlib.Core.Logic.{⊎_elim}
use native.Mathlib.Omega.{arith}
use Rattle.shoplog.proofs.LineLaws.{field-unread, field-last, field-more, place-within}
use Rattle.shoplog.proofs.number_field.Goals as goal

pub returns-in_err-n : goal.returns-in_err-n
returns-in_err-n c = rw c.from_residual.ensures (field-unread _ _ c.number_in.ensures c.in_err-n.was)

pub overflow_add-at : goal.overflow_add-at
overflow_add-at c = omega (arith, place-within _ _ c.number_in.ensures c.in_ok-n.n c.in_ok-n.at c.in_ok-n.was)

pub returns-in_err-rest : goal.returns-in_err-rest
returns-in_err-rest c =
    rw c.from_residual-in_err-rest.ensures
    (field-last _ _ c.number_in.ensures c.in_ok-n.n c.in_ok-n.at c.in_ok-n.was (⊎_elim (λ o. o) (λ o. absurd (omega arith)) c.in_err-rest.ensures.lookup.0))

pub returns : goal.returns
returns c =
    let g = c.in_ok-rest.ensures.lookup.0 in
    field-more _ _ c.number_in.ensures c.in_ok-n.n c.in_ok-n.at c.in_ok-n.was g.0 c.in_ok-rest.rest.now g.2
