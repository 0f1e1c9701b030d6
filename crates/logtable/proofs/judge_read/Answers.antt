-- `logtable::judge_read` meets its contract.
use Prim.Native.Nat.{ℕ}
use mathlib.Core.Path.{◌≡◌, refl, sym, ap, ap₂, ◌∙◌}
use lib.ListN.{length-set}
use native.Mathlib.Omega.{arith}
use Rattle.std.proofs.Common.{Err}
use Rattle.std.proofs.lemmas.Result.{err_from_is_err_and}
use Rattle.shoplog.specs.Findings.{Fine}
use Rattle.logtable.specs.Tables.{seat_of, after_read}
use Rattle.logtable.specs.Findings.{read_found}
use Rattle.logtable.specs.Parts.{if_fine}
use Rattle.logtable.proofs.KeyLaws.{key-put}
use Rattle.logtable.proofs.ReadSteps.{read_again, read-added}
use Rattle.logtable.proofs.SeatLaws.{place-is, place-none}
use Rattle.logtable.proofs.FoundLaws.{read-nowhere, fine-author, fault-found, author-seated, read-room}
use Rattle.logtable.proofs.judge_read.Goals.{In_ok-author}
use Rattle.logtable.proofs.judge_read.Goals as goal

pub returns-in_default : goal.returns-in_default
unfolding if_fine
returns-in_default c =
    (read-nowhere c.args.table.now _ (place-none _ c.seat_of.result c.seat_of.ensures c.in_default.is) (seat_of c.args.table.now c.args.id.txn) c.args.key c.args.id.clock, refl)

pub returns-in_err-author : goal.returns-in_err-author
unfolding if_fine
returns-in_err-author c =
    let a = c.args in
    let p = place-is _ c.in-Some.place c.seat_of.result c.seat_of.ensures c.in-Some.is in
    let e = err_from_is_err_and c.from_residual.result c.from_residual.ensures.1 in
    rw (e.1)
    (ap Err e.2 ∙ sym (fault-found _ _ _ c.read_found.result c.read_found.ensures c.in_err-author.was) ∙ ap (λ (q : ℕ). read_found a.table.now q (seat_of a.table.now a.id.txn) a.key a.id.clock) p.0, refl)

-- ── a fine read ──
fine : (c : In_ok-author)
    → (let a = c.args in
    (read_found a.table.now c.in-Some.place c.in_ok-author.author a.key a.id.clock ≡ Fine) × (c.in_ok-author.author ≡ seat_of a.table.now a.id.txn))
fine c = let r = fine-author _ _ c.in_ok-author.author c.read_found.result c.read_found.ensures c.in_ok-author.was in (rw (r.1) (r.0), r.1)

-- it is what is found at the seats, and the table after it is theirs
seats : (c : In_ok-author)
    → (let a = c.args in
    (Fine ≡ read_found a.table.now (seat_of a.table.now a.txn) (seat_of a.table.now a.id.txn) a.key a.id.clock)
    × (after_read a.table.now c.in-Some.place c.in_ok-author.author a.txn a.key
    ≡ after_read a.table.now (seat_of a.table.now a.txn) (seat_of a.table.now a.id.txn) a.txn a.key))
seats c =
    let a = c.args in
    let p = place-is _ c.in-Some.place c.seat_of.result c.seat_of.ensures c.in-Some.is in (
      sym (fine c).0 ∙ ap₂ (λ (q r : ℕ). read_found a.table.now q r a.key a.id.clock) p.0 (fine c).1,
      ap₂ (λ (q r : ℕ). after_read a.table.now q r a.txn a.key) p.0 (fine c).1,
    )

pub read_word-requires : goal.read_word-requires
read_word-requires c = author-seated _ _ _ _ _ (fine (goal.at.read_word-requires c).In_ok-author).0

pub bounds-table-at : goal.bounds-table-at
bounds-table-at c =
    let r = read-room _ _ _ _ _ (fine (goal.at.bounds-table-at c).In_ok-author).0 (sym c.has_key.ensures ∙ c.if-not-has_key.true) in
    let p = place-is _ c.in-Some.place c.seat_of.result c.seat_of.ensures c.in-Some.is in
    simp length-set (omega (arith, r, p.1, c.requires.0, c.key_count.ensures, c.from.ensures))

pub returns-then-not-has_key : goal.returns-then-not-has_key
unfolding if_fine
returns-then-not-has_key c =
    let s = seats (goal.at.returns-then-not-has_key c).In_ok-author in
    rw (c.from-then-not-has_key.ensures, c.read_word.ensures) (
      s.0,
      read-added _ _ _ _ _ _ _ (sym c.has_key.ensures ∙ c.if-not-has_key.true) (c.from.ensures ∙ c.key_count.ensures) (key-put _ _ _ c.requires.1 c.with_key.type_inv c.with_key.ensures) ∙ s.1,
    )

pub returns-else-not-has_key : goal.returns-else-not-has_key
unfolding if_fine
returns-else-not-has_key c =
    let s = seats (goal.at.returns-else-not-has_key c).In_ok-author in
    (s.0, read_again _ _ _ _ _ (sym c.has_key.ensures ∙ c.if-not-has_key.false) ∙ s.1)
