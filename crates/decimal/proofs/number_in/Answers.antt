use Prim.Native.Nat.{suc}
use mathlib.Core.Path.{sym, ap, ◌∙◌}
use lib.ListN.{length}
use native.Mathlib.Omega.{arith}
use Rattle.decimal.proofs.FieldLaws.{field-here, field_next, field_end}
use Rattle.decimal.proofs.ReadLaws.{read_next, read-other, read-over, read-end, read_none, read-start, digit-is, digit-high, as-unread, as_read}
use Rattle.decimal.proofs.number_in.Goals as goal

pub returns-then-not-starts_number : goal.returns-then-not-starts_number
returns-then-not-starts_number c = as-unread _ _ (read_none _ _ (sym c.starts_number.ensures ∙ c.if-not-starts_number.true))

pub loop-i-init : goal.loop-i-init
loop-i-init c = record { small = omega arith; long = omega arith; rest = read-start (suc c.args.max) _ (sym c.starts_number.ensures ∙ c.if-not-starts_number.false) }

pub returns-then-b-end : goal.returns-then-b-end
returns-then-b-end c =
    let a = c.args in
    let l = c.loop-i in
    let e = field-here a.end a.s.now l.i (omega arith) c.if-b-end.true in
    as_read _ _ l.sum l.i (l.invariant.rest ∙ read-end (suc a.max) l.sum _ e (omega arith)) (omega (arith, l.invariant.long, ap length e))

pub returns-then-not-is_ascii_digit : goal.returns-then-not-is_ascii_digit
returns-then-not-is_ascii_digit c =
    let a = c.args in
    let l = c.loop-i in
    let d = digit-is _ _ _ c.is_ascii_digit.ensures.value c.if-not-is_ascii_digit.true in
    as-unread _ _ (l.invariant.rest ∙ read-other a.end (suc a.max) l.sum a.s.now l.i (omega arith) c.if-b-end.false d)

pub returns-then-sum-max : goal.returns-then-sum-max
returns-then-sum-max c =
    let a = c.args in
    let l = c.loop-i in
    let d = digit-is _ _ _ c.is_ascii_digit.ensures.value c.if-not-is_ascii_digit.false in
    as-unread _ _ (l.invariant.rest ∙ read_next a.end (suc a.max) l.sum a.s.now l.i (omega arith) c.if-b-end.false d ∙ read-over (suc a.max) _ _ (omega (arith, digit-high _ d)))

pub loop-i-preserved : goal.loop-i-preserved
loop-i-preserved c =
    let a = c.args in
    let l = c.loop-i in
    let d = digit-is _ _ _ c.is_ascii_digit.ensures.value c.if-not-is_ascii_digit.false in
    record {
      small = omega (arith, digit-high _ d);
      long = omega (arith, l.invariant.long, ap length (field_next a.end a.s.now l.i (omega arith) c.if-b-end.false));
      rest = rw c.from-digit.ensures (l.invariant.rest ∙ read_next a.end (suc a.max) l.sum a.s.now l.i (omega arith) c.if-b-end.false d);
    }

pub returns : goal.returns
returns c =
    let a = c.args in
    let l = c.loop-i in
    let e = field_end a.end a.s.now l.i (omega arith) in
    as_read _ _ l.sum _ (l.invariant.rest ∙ read-end (suc a.max) l.sum _ e (omega arith)) (omega (arith, l.invariant.long, ap length e))
