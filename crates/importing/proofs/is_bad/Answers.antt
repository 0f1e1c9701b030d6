-- `importing::is_bad` meets its contract.
use mathlib.Core.Path.{sym, ◌∙◌}
use native.Mathlib.Omega.{arith}
use borrow.Author.Tests.{eqb-true}
use Rattle.importing.proofs.PassLaws.{searching-bad, searching-few, searching-more, searching-all}
use Rattle.importing.proofs.is_bad.Goals as goal

pub loop-left-init : goal.loop-left-init
loop-left-init c = record { same = λ r h. h }

pub returns-in_default : goal.returns-in_default
returns-in_default c = searching-bad c.loop-left.invariant c.in_default.ensures

pub returns-then-pass-le-SLOTS : goal.returns-then-pass-le-SLOTS
returns-then-pass-le-SLOTS c = searching-few c.loop-left.invariant c.in-Some.ensures c.if-pass-le-SLOTS.true

pub loop-left-smaller : goal.loop-left-smaller
loop-left-smaller c = omega (arith, c.in-Some.ensures.shorter)

pub loop-left-preserved : goal.loop-left-preserved
loop-left-preserved c = searching-more c.loop-left.invariant c.in-Some.ensures

pub returns : goal.returns
returns c = searching-all c.loop-left.invariant (eqb-true _ 0 (sym c.is_empty.ensures ∙ c.loop-left-test.false))
