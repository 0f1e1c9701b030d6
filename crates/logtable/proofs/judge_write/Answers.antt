-- `logtable::judge_write` meets its contract.
use Prim.Native.Nat.{ℕ, ◌+◌}
use mathlib.Core.Path.{refl, sym, ap, ◌∙◌}
use lib.ListN.{set}
use Rattle.std.proofs.Common.{Err}
use Rattle.logtable.specs.Tables.{after_write}
use Rattle.logtable.specs.Findings.{write_found}
use Rattle.logtable.specs.Parts.{if_fine}
use Rattle.std.proofs.lemmas.Result.{err_from_is_err_and}
use Rattle.logtable.proofs.KeyLaws.{key-put}
use Rattle.logtable.proofs.SeatLaws.{place-is, place-none}
use Rattle.logtable.proofs.FoundLaws.{write-nowhere}
use Rattle.logtable.proofs.judge_write.Goals as goal

pub returns-in_default : goal.returns-in_default
unfolding if_fine
returns-in_default c = (write-nowhere c.args.table.now _ (place-none _ c.seat_of.result c.seat_of.ensures c.in_default.is) c.args.key, refl)

pub returns-in_err-write_found : goal.returns-in_err-write_found
unfolding if_fine
returns-in_err-write_found c =
    let a = c.args in
    let p = place-is _ c.in-Some.place c.seat_of.result c.seat_of.ensures c.in-Some.is in
    let e = err_from_is_err_and c.from_residual.result c.from_residual.ensures.1 in
    rw (e.1) (ap Err e.2 ∙ sym c.in_err-write_found.was ∙ c.write_found.ensures ∙ ap (λ (q : ℕ). write_found a.table.now q a.key) p.0, refl)

pub returns : goal.returns
unfolding if_fine after_write
returns c =
    let a = c.args in
    let p = place-is _ c.in-Some.place c.seat_of.result c.seat_of.ensures c.in-Some.is in
    rw c.from.ensures (
      sym c.in_ok-write_found.was ∙ c.write_found.ensures ∙ ap (λ (q : ℕ). write_found a.table.now q a.key) p.0,
      ap (λ (r : ℕ). set (set a.table.now c.in-Some.place a.txn) (128 + c.in-Some.place) r) (key-put _ _ _ c.requires.1 c.with_key-more.type_inv c.with_key-more.ensures)
          ∙ ap (λ (q : ℕ). after_write a.table.now q a.txn a.key) p.0,
    )
