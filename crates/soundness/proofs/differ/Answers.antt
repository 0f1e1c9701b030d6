use Rattle.std.proofs.Common.{refl, sym, arith, length-set}
use Rattle.soundness.proofs.Distinct.{New, passed_none, passed-all, new-byte, new-count, passed-zero, passed-more, distinct-twice}
use Rattle.soundness.proofs.differ.Goals.{then-x-ne0+else-seen-byte, else-seen-byte-via-then-seen-byte+else-times-gt1, else-seen-byte-via-else-seen-byte, else-x-ne0}
use Rattle.soundness.proofs.differ.Goals as goal

pub loop-x-init : goal.loop-x-init
loop-x-init c = record { bytes = refl; passed = passed_none _ _ }

pub returns-then-times-gt1 : goal.returns-then-times-gt1
returns-then-times-gt1 c = sym (distinct-twice _ c.args.xs.now c.if-x-ne0.true (omega (arith, c.times.ensures, c.if-times-gt1.true)))

pub loop-x-preserved : goal.loop-x-preserved
loop-x-preserved c =
    let p = c.loop-x.invariant.passed in
    elim c.if-x-ne0.branch [
      | then-x-ne0+else-seen-byte w ↦ rw w.seen-is (
          let new : New c.args.xs.now c.loop-x.x-index = elim w.else-seen-byte.branch [
            | else-seen-byte-via-then-seen-byte+else-times-gt1 z ↦ new-count _ _ _ p (omega arith) (omega (arith, z.times.ensures, z.if-times-gt1.false))
            | else-seen-byte-via-else-seen-byte z ↦ new-byte _ _ _ p z.if-seen-byte.false
          ] in
          record { bytes = simp length-set c.loop-x.invariant.bytes; passed = passed-more _ _ _ p (omega arith) new }
          )
      | else-x-ne0 w ↦ rw w.seen-is (record { bytes = c.loop-x.invariant.bytes; passed = passed-zero _ _ _ p w.if-x-ne0.false })
    ]

pub returns : goal.returns
returns c = sym (passed-all _ _ _ (omega arith) c.loop-x.invariant.passed)
