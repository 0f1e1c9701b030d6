use Rattle.std.proofs.Common.{arith}
use Rattle.std.proofs.lemmas.List.{nil_from_length}
use Rattle.records.proofs.ByteLaws.{summed-starts, summed-byte, summed-next, summed-room, summed-ends}
use Rattle.records.proofs.number_in.Goals as goal

pub loop-byte-init : goal.loop-byte-init
loop-byte-init c = rw (c.into_iter-byte-iterator.ensures.into_iter_gives, c.rev-byte-items.ensures.source, c.iter.ensures.rest) (summed-starts c.args.part.now)

pub overflow_mul-sum : goal.overflow_mul-sum
overflow_mul-sum c = omega (arith, summed-room _ _ _ _ _ c.loop-byte.invariant c.in-Some.ensures.steps c.requires)

pub overflow_add-sum : goal.overflow_add-sum
overflow_add-sum c = omega (arith, summed-room _ _ _ _ _ c.loop-byte.invariant c.in-Some.ensures.steps c.requires, summed-byte _ _ _ _ _ c.loop-byte.invariant c.in-Some.ensures.steps c.type_inv.part, c.from.ensures)

pub loop-byte-preserved : goal.loop-byte-preserved
loop-byte-preserved c = rw c.from.ensures (summed-next _ _ _ _ _ c.loop-byte.invariant c.in-Some.ensures.steps (summed-byte _ _ _ _ _ c.loop-byte.invariant c.in-Some.ensures.steps c.type_inv.part))

pub returns : goal.returns
returns c = summed-ends _ _ _ c.loop-byte.invariant (nil_from_length _ c.in-None.ensures.steps.0)
