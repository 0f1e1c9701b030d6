-- `logtable::judge_commit` meets its contract.
use Prim.Native.Nat.{ℕ}
use mathlib.Core.Path.{refl, sym, ap, ◌∙◌}
use Rattle.logtable.specs.Tables.{after_commit}
use Rattle.logtable.specs.Findings.{commit_found}
use Rattle.logtable.specs.Parts.{if_fine}
use Rattle.logtable.proofs.SeatLaws.{place-is, place-none}
use Rattle.logtable.proofs.FoundLaws.{commit-nowhere, commit-here}
use Rattle.logtable.proofs.judge_commit.Goals as goal

pub returns-in-Some : goal.returns-in-Some
unfolding if_fine after_commit
returns-in-Some c =
    let a = c.args in
    let p = place-is _ c.in-Some.place c.seat_of.result c.seat_of.ensures c.in-Some.is in (
      commit-here a.table.now c.in-Some.place p.1 _ (sym c.if-may_commit.true ∙ c.may_commit.ensures) ∙ ap (commit_found a.table.now) p.0,
      ap (λ (q : ℕ). after_commit a.table.now q a.clock) p.0,
    )

pub returns-in_default : goal.returns-in_default
unfolding if_fine
returns-in_default c =
    let a = c.args in
    let p = place-is _ c.in-Some.place c.seat_of.result c.seat_of.ensures c.in-Some.is in
    (commit-here a.table.now c.in-Some.place p.1 _ (sym c.if-may_commit.false ∙ c.may_commit.ensures) ∙ ap (commit_found a.table.now) p.0, refl)

pub returns-in_default-2 : goal.returns-in_default-2
unfolding if_fine
returns-in_default-2 c = (commit-nowhere c.args.table.now _ (place-none _ c.seat_of.result c.seat_of.ensures c.in_default.is), refl)
