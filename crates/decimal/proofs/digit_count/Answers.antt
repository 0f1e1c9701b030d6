-- `decimal::digit_count` meets its contract.
use native.Mathlib.Omega.{arith}
use Rattle.decimal.proofs.DigitLaws.{count_small, count-large, count-below}
use Rattle.decimal.proofs.digit_count.Goals as goal

pub loop-left-init : goal.loop-left-init
loop-left-init c = (omega arith, count-below 19 _ (omega arith))

pub loop-left-preserved : goal.loop-left-preserved
loop-left-preserved c =
    let l = c.loop-left in
    (omega (arith, count-large l.left (omega arith)), l.invariant.1)

pub returns : goal.returns
returns c = omega (arith, count_small c.loop-left.left (omega arith))
