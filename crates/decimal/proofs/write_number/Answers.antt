use Prim.Native.Nat.{ℕ, ◌+◌, ◌-◌, ◌/◌, ◌%◌, ◌≤◌}
use mathlib.Core.Path.{◌≡◌, refl, sym, ap, ◌∙◌}
use mathlib.Core.List.{List}
use lib.ListN.{length, set, length-set}
use native.Mathlib.Omega.{arith}
use Rattle.decimal.specs.Digits.{digits}
use Rattle.decimal.specs.Written.{written}
use Rattle.decimal.proofs.DigitLaws.{digits-small, digits-large, count-large, count-below}
use Rattle.decimal.proofs.WrittenLaws.{written_last, written_one, written_then}
use Rattle.decimal.proofs.write_number.Goals as goal

pub overflow_add-after : goal.overflow_add-after
overflow_add-after c = omega (arith, count-below 19 c.args.x (omega arith), c.digit_count.ensures)

pub loop-rest-init : goal.loop-rest-init
loop-rest-init c =
    let a = c.args in
    let e : c.digit_count.result ≡ length (digits a.x) = c.digit_count.ensures in
    let m : length (digits a.x) ≤ 20 = count-below 19 a.x (omega arith) in
    (omega arith, omega arith, m, refl, refl)

pub overflow_sub-at : goal.overflow_sub-at
overflow_sub-at c = omega (arith, count-large c.loop-rest.rest c.loop-rest-test.true)

pub loop-rest-preserved : goal.loop-rest-preserved
loop-rest-preserved c =
    let l = c.loop-rest in
    let start = c.args.start in
    let n : length (digits l.rest) ≡ length (digits (l.rest / 10)) + 1 = count-large l.rest c.loop-rest-test.true in
    let e : l.at - 1 ≡ start + length (digits (l.rest / 10)) = omega arith in (
      e,
      omega arith,
      l.invariant.2,
      length-set l.out (l.at - 1) _ ∙ l.invariant.3,
      written_last l.out start (l.at - 1) (48 + l.rest % 10) (digits (l.rest / 10)) e (omega arith)
          ∙ ap (written l.out start) (sym (digits-large l.rest c.loop-rest-test.true))
          ∙ l.invariant.4,
    )

pub bounds-out-after : goal.bounds-out-after
bounds-out-after c = simp length-set (omega (arith, c.digit_count.ensures))

pub overflow_add-result : goal.overflow_add-result
overflow_add-result c = omega (arith, c.digit_count.ensures)

pub shape_of-out : goal.shape_of-out
shape_of-out c = simp length-set (omega arith)

pub returns : goal.returns
returns c =
    let l = c.loop-rest in
    let a = c.args in
    let s = a.out.now in
    let n = c.digit_count.result in
    let e : n ≡ length (digits a.x) = c.digit_count.ensures in
    let w : set l.out a.start (48 + l.rest) ≡ written s a.start (digits a.x) =
    written_one l.out a.start (48 + l.rest) (omega arith) ∙ ap (written l.out a.start) (sym (digits-small l.rest c.loop-rest-test.false)) ∙ l.invariant.4 in (
      omega arith,
      omega arith,
      ap (λ (t : List ℕ). set t (a.start + n) a.end) w ∙ written_then s a.start (a.start + n) a.end (digits a.x) (omega arith) (omega arith),
    )
