-- `storing::record_place` meets its contract.
use Prim.Native.Nat.{◌<◌}
use mathlib.Core.Path.{subst}
use native.Mathlib.Omega.{arith}
use Rattle.model.specs.declared as machine
use Rattle.model.specs.Kinds.{narrow_kind, wide_kind, width}
use Rattle.model.specs.Listed.{kind_of}
use Rattle.model.proofs.RecordLaws.{slot-start}
use Rattle.storing.proofs.record_place.Goals.{In-Narrow, In-Wide}
use Rattle.storing.proofs.record_place.Goals as goal

-- the slot and the record are the kind's
narrow : (c : In-Narrow) → (c.args.slot < 64) × (c.args.n < 9)
unfolding kind_of
narrow c =
    let s = c in
    subst (λ (k : machine.Kind.Kind). (s.args.slot < (kind_of k).slots) × (s.args.n < width (kind_of k))) c.in-Narrow.is (s.requires.slot_bound, s.requires.n_bound)

wide : (c : In-Wide) → (c.args.slot < 32) × (c.args.n < 17)
unfolding kind_of
wide c =
    let s = c in
    subst (λ (k : machine.Kind.Kind). (s.args.slot < (kind_of k).slots) × (s.args.n < width (kind_of k))) c.in-Wide.is (s.requires.slot_bound, s.requires.n_bound)

pub overflow_mul-result : goal.overflow_mul-result
overflow_mul-result c = omega (arith, narrow (goal.at.overflow_mul-result c).In-Narrow)

pub overflow_mul-result-in-Narrow : goal.overflow_mul-result-in-Narrow
overflow_mul-result-in-Narrow c = omega (arith, narrow (goal.at.overflow_mul-result-in-Narrow c).In-Narrow)

pub overflow_add-result : goal.overflow_add-result
overflow_add-result c = omega (arith, narrow (goal.at.overflow_add-result c).In-Narrow)

pub overflow_mul-result-in-Wide : goal.overflow_mul-result-in-Wide
overflow_mul-result-in-Wide c = omega (arith, wide (goal.at.overflow_mul-result-in-Wide c).In-Wide)

pub overflow_mul-result-in-Wide-2 : goal.overflow_mul-result-in-Wide-2
overflow_mul-result-in-Wide-2 c = omega (arith, wide (goal.at.overflow_mul-result-in-Wide-2 c).In-Wide)

pub overflow_add-result-in-Wide : goal.overflow_add-result-in-Wide
overflow_add-result-in-Wide c = omega (arith, wide (goal.at.overflow_add-result-in-Wide c).In-Wide)

pub returns-in-Narrow : goal.returns-in-Narrow
unfolding kind_of
returns-in-Narrow c =
    let a = c.args in
    rw c.in-Narrow.is (omega (arith, slot-start narrow_kind a.slot), omega (arith, narrow (goal.at.returns-in-Narrow c).In-Narrow), omega (arith, narrow (goal.at.returns-in-Narrow c).In-Narrow))

pub returns-in-Wide : goal.returns-in-Wide
unfolding kind_of
returns-in-Wide c =
    let a = c.args in
    rw c.in-Wide.is (omega (arith, slot-start wide_kind a.slot), omega (arith, wide (goal.at.returns-in-Wide c).In-Wide), omega (arith, wide (goal.at.returns-in-Wide c).In-Wide))
