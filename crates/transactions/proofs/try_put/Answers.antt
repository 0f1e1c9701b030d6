-- `transactions::try_put` meets its contract. Assumes nothing.
use mathlib.Core.Path.{refl, sym, subst, ◌∙◌}
use mathlib.Core.Logic.{inl, inr}
use Prim.Native.Nat.{◌≤◌}
use native.Mathlib.Omega.{arith}
use Rattle.std.proofs.lemmas.Result.{err_from_is_err_and}
use Rattle.model.specs.declared.Answer.TheVariants as A
use Rattle.model.specs.Listed.{kind_of, listed_live, listed}
use Rattle.model.specs.Limits.{write_places}
use Rattle.model.specs.Stations.{live_at}
use Rattle.model.proofs.ListedLaws.{written_count, kind_fits}
use Rattle.model.proofs.SoundLaws.{Used, write-limit}
use Rattle.stations.proofs.Changes.{as-effect}
use Rattle.stations.proofs.RowLaws.{Placed, open-found, place-used}
use Rattle.transactions.proofs.Rows.{placed, put_refused, put-11, put-done, room}
use Rattle.transactions.proofs.try_put.Goals.{else-from-write_limit-via-then-from-write_limit+else-not-has_written, else-from-write_limit-via-else-from-write_limit}
use Rattle.transactions.proofs.try_put.Goals as goal

pub returns-in_err-place-clause-err : goal.returns-in_err-place-clause-err
returns-in_err-place-clause-err c =
    let a = c.args in
    let p = err_from_is_err_and c.from_residual.result c.from_residual.ensures.1 in
    rw (p.1, p.2) (put_refused (listed a.station) a.txn a.key a.value a.tested c.requires _ c.in_err-place.ensures.err.0)

pub returns-then-not-has_written-clause-err : goal.returns-then-not-has_written-clause-err
returns-then-not-has_written-clause-err c =
    let o = c.in_ok-place.ensures.ok in
    put-11 _ _ _ _ _ c.requires o.0 _ o.1 _ c.live_at-l.ensures
    (omega (arith, c.if-from-write_limit.true, c.write_limit.ensures, c.from.ensures, c.write_count.ensures, written_count c.live_at-l.result))
    (sym c.has_written.ensures ∙ c.if-not-has_written.true)

pub with_write-kept-requires : goal.with_write-kept-requires
unfolding live_at
with_write-kept-requires c =
    let a = c.args in
    let st = listed a.station in
    let o = c.in_ok-place.ensures.ok in
    let f : Placed st a.txn a.key c.in_ok-place.place = open-found st a.txn a.key c.in_ok-place.place o.1 o.2 a.tested c.requires o.0 in
    let u : Used st.kind st.entries (listed_live c.live_at-l.result) = subst (Used st.kind st.entries) (sym c.live_at-l.ensures) (place-used st a.txn a.key c.in_ok-place.place f) in
    let fits : (kind_of a.station.kind).write_limit ≤ write_places = (kind_fits a.station.kind).writes-fit in
    record { key_lt_keys = f.key; keys_len_bound = omega (arith, fits, write-limit _ _ u.sets); l_value = u.zeros; keys_value = room write_places _ _ (elim c.else-from-write_limit.branch [ else-from-write_limit-via-then-from-write_limit+else-not-has_written w ↦ inr (sym w.has_written.ensures ∙ w.if-not-has_written.false) | else-from-write_limit-via-else-from-write_limit w ↦ inl (omega (arith, fits, w.if-from-write_limit.false, c.write_limit.ensures, c.from.ensures, c.write_count.ensures, written_count c.live_at-l.result)) ]) }

pub returns-clause-ok : goal.returns-clause-ok
returns-clause-ok c =
    let o = c.in_ok-place.ensures.ok in
    as-effect _ _ _ _
    (placed A.Kept _ _ _ _ _ _ refl c.with_write-kept.ensures
    (put-done _ _ _ _ _ c.requires o.0 _ o.1 _ c.live_at-l.ensures (room _ _ _ (elim c.else-from-write_limit.branch [ else-from-write_limit-via-then-from-write_limit+else-not-has_written w ↦ inr (sym w.has_written.ensures ∙ w.if-not-has_written.false) | else-from-write_limit-via-else-from-write_limit w ↦ inl (omega (arith, w.if-from-write_limit.false, c.write_limit.ensures, c.from.ensures, c.write_count.ensures, written_count c.live_at-l.result)) ]))))
    c.live_changed.ensures
