-- `resp::id_text_in` meets its contract.
use native.Mathlib.Omega.{arith}
use Rattle.model.specs.Limits.{txn_range}
use Rattle.decimal.proofs.ReadLaws.{read_below}
use Rattle.resp.proofs.NameLaws.{clockless, txnless, zeroed, id-read}
use Rattle.resp.proofs.id_text_in.Goals as goal

pub returns-in_err-clock : goal.returns-in_err-clock
returns-in_err-clock c = rw c.from_residual.ensures (clockless _ c.in_err-clock.ensures)

pub returns-in_err-txn : goal.returns-in_err-txn
returns-in_err-txn c = rw c.from_residual-in_err-txn.ensures (txnless _ c.in_ok-clock.ensures c.in_err-txn.ensures)

pub overflow_cast-result : goal.overflow_cast-result
overflow_cast-result c = omega (arith, read_below txn_range _ _ c.in_ok-txn.ensures)

pub returns-then-txn-eq0 : goal.returns-then-txn-eq0
returns-then-txn-eq0 c = zeroed _ c.in_ok-clock.ensures c.in_ok-txn.ensures c.if-txn-eq0.either

pub returns-else-txn-eq0 : goal.returns-else-txn-eq0
returns-else-txn-eq0 c = let (y, z) = c.if-txn-eq0.false in id-read _ c.in_ok-clock.ensures c.in_ok-txn.ensures y z
