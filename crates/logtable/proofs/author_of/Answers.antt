-- `logtable::author_of` meets its contract.
use Prim.Native.Nat.{ℕ}
use mathlib.Core.Path.{ap, ◌∙◌}
use mathlib.Core.Bool.{cond}
use Rattle.std.proofs.Common.{Some, None}
use Rattle.logtable.specs.Tables.{seat_of}
use Rattle.logtable.specs.Findings.{is_unknown}
use Rattle.logtable.proofs.SeatLaws.{place-is, place-none}
use Rattle.logtable.proofs.FoundLaws.{unknown-nowhere, author-here}
use Rattle.logtable.proofs.author_of.Goals as goal

pub returns-in_err-author : goal.returns-in_err-author
returns-in_err-author c =
    let a = c.args in
    rw (c.from_residual.ensures, unknown-nowhere a.table.now (seat_of a.table.now a.id.txn) a.key a.id.clock (place-none _ c.seat_of.result c.seat_of.ensures c.in_err-author.was))

pub returns : goal.returns
returns c =
    let a = c.args in
    let p = place-is _ c.in_ok-author.author c.seat_of.result c.seat_of.ensures c.in_ok-author.was in
    c.then_some.ensures ∙ author-here a.table.now c.in_ok-author.author a.key a.id.clock p.1 c.has_version.result c.has_version.ensures
    ∙ ap (λ (s : ℕ). cond (is_unknown a.table.now s a.key a.id.clock) None (Some s)) p.0
