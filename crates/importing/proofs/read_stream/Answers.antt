-- `importing::read_stream` meets its contract.
use Prim.Native.Nat.{ℕ}
use mathlib.Core.Path.{sym, ◌∙◌}
use lib.ListN.{length-replicate}
use native.Mathlib.Omega.{arith}
use borrow.Author.Tests.{eqb-true, eqb-false}
use Rattle.importing.proofs.ReadingLaws.{reading-none, reading-stops, reading-unordered, reading-repeated, reading-kept, reading-past, reading-all}
use Rattle.importing.proofs.read_stream.Goals.{then-not-is_older-via-then-not-is_older, then-not-is_older-via-else-not-is_older+then-has_txn}
use Rattle.importing.proofs.read_stream.Goals as goal

pub loop-left-init : goal.loop-left-init
loop-left-init c = reading-none c.args.s.now c.args.room.now _ (length-replicate {A = ℕ} 64 0) c.requires

pub returns-in_err-id : goal.returns-in_err-id
returns-in_err-id c =
    let n = eqb-false _ 0 (sym c.is_empty.ensures ∙ c.loop-left-test.true) in
    rw c.from_residual.ensures (reading-stops c.loop-left.invariant (omega (arith, n)) c.in_err-id.ensures)

pub returns-then-not-is_older : goal.returns-then-not-is_older
returns-then-not-is_older c = elim c.then-not-is_older.branch [
  | then-not-is_older-via-then-not-is_older w ↦ reading-unordered c.loop-left.invariant c.in_ok-id.ensures (sym c.is_older.ensures ∙ w.if-not-is_older.true)
  | then-not-is_older-via-else-not-is_older+then-has_txn w ↦ reading-repeated c.loop-left.invariant c.in_ok-id.ensures (sym w.has_txn.ensures ∙ w.if-has_txn.true)
]

pub loop-left-preserved-then-kept-lt-SLOTS : goal.loop-left-preserved-then-kept-lt-SLOTS
loop-left-preserved-then-kept-lt-SLOTS c =
    reading-kept c.loop-left.invariant c.in_ok-id.ensures (sym c.is_older.ensures ∙ c.if-not-is_older.false) (sym c.has_txn.ensures ∙ c.if-has_txn.false) c.transaction_in.auto.slot c.if-kept-lt-SLOTS.true c.requires

pub loop-left-preserved : goal.loop-left-preserved
loop-left-preserved c =
    reading-past c.loop-left.invariant c.in_ok-id.ensures (sym c.is_older.ensures ∙ c.if-not-is_older.false) (sym c.has_txn.ensures ∙ c.if-has_txn.false) c.transaction_in.auto.slot c.if-kept-lt-SLOTS.false

pub returns : goal.returns
returns c = reading-all c.loop-left.invariant (eqb-true _ 0 (sym c.is_empty.ensures ∙ c.loop-left-test.false))
