-- `stations::open_at` meets its contract. Assumes nothing.
use mathlib.Core.Path.{sym, ◌∙◌}
use Rattle.std.proofs.lemmas.Result.{err_from_is_err_and}
use Rattle.model.specs.Listed.{listed_lives}
use Rattle.stations.proofs.RowLaws.{open-early, open-closing, open_none}
use Rattle.stations.proofs.open_at.Goals as goal

pub returns-in_err-place : goal.returns-in_err-place
returns-in_err-place c =
    let a = c.args in
    let p = err_from_is_err_and c.from_residual.result c.from_residual.ensures.1 in
    let e = c.in_err-place.ensures.err in
    rw (p.1, p.2) (record { ok = tt; err = (open-early (listed_lives a.live) a.txn a.key a.tested _ e.0, e.1) })

pub returns-then-is_closing : goal.returns-then-is_closing
returns-then-is_closing c =
    let n = c.in_ok-place.ensures.ok in
    record { ok = tt; err = (open-closing _ _ _ _ n.0 _ n.1 _ c.phase_at.ensures (sym c.is_closing.ensures ∙ c.if-is_closing.true), n.1) }

pub returns-clause-ok : goal.returns-clause-ok
returns-clause-ok c =
    let n = c.in_ok-place.ensures.ok in
    (open_none _ _ _ _ n.0 _ n.1 _ c.phase_at.ensures (sym c.is_closing.ensures ∙ c.if-is_closing.false), n.1, n.2)
