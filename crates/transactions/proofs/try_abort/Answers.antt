-- `transactions::try_abort` meets its contract. Assumes nothing.
use mathlib.Core.Path.{refl}
use Rattle.std.proofs.lemmas.Result.{err_from_is_err_and}
use Rattle.model.specs.declared.Answer.TheVariants as A
use Rattle.model.specs.Listed.{listed}
use Rattle.stations.proofs.Changes.{as-effect}
use Rattle.transactions.proofs.Rows.{placed, abort_refused, abort-done}
use Rattle.transactions.proofs.try_abort.Goals as goal

pub returns-in_err-place-clause-err : goal.returns-in_err-place-clause-err
returns-in_err-place-clause-err c =
    let p = err_from_is_err_and c.from_residual.result c.from_residual.ensures.1 in
    rw (p.1, p.2) (abort_refused (listed c.args.station) c.args.txn c.args.tested c.requires _ c.in_err-place.ensures.err.0)

pub returns-clause-ok : goal.returns-clause-ok
returns-clause-ok c =
    let a = c.in_ok-place.ensures.ok in
    as-effect _ _ _ _ (placed A.Dropped _ _ _ _ _ _ refl c.no_live.ensures (abort-done _ _ _ c.requires a.0 _ a.1)) c.live_changed.ensures
