-- `decimal::starts_number` meets its contract.
use mathlib.Core.Path.{sym}
use native.Mathlib.Omega.{arith}
use borrow.Author.Tests.{eq-eqb, ne_eqb}
use Rattle.decimal.proofs.ReadLaws.{start-empty, start-end, start-digit, start-only, start-zero}
use Rattle.decimal.proofs.starts_number.Goals as goal

pub returns-in-empty : goal.returns-in-empty
returns-in-empty c = sym (start-empty c.args.end c.args.s.now (omega arith))

pub returns-in-len1 : goal.returns-in-len1
returns-in-len1 c = sym (start-only c.args.end c.args.s.now (omega arith))

pub returns-then-first-ne48 : goal.returns-then-first-ne48
returns-then-first-ne48 c = rw (ne_eqb _ 48 c.if-first-ne48.true) (sym (start-digit c.args.end c.args.s.now (λ z. omega arith) c.if-first-end.true c.if-first-ne48.true))

pub returns-else-first-ne48 : goal.returns-else-first-ne48
returns-else-first-ne48 c = sym (start-zero c.args.end c.args.s.now (λ z. omega arith) (λ z. omega arith) c.if-first-end.true c.if-first-ne48.false)

pub returns-else-first-end : goal.returns-else-first-end
returns-else-first-end c = rw (eq-eqb _ _ c.if-first-end.false) (sym (start-end c.args.end c.args.s.now (λ z. omega arith) c.if-first-end.false))
