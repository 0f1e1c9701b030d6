-- `moving::move_slot` meets its contract.
use Prim.Native.Nat.{◌+◌, ◌*◌, ◌≤◌}
use native.Mathlib.Omega.{arith}
use Rattle.model.specs.Kinds.{store_size}
use Rattle.model.specs.Listed.{kind_of, listed_entry}
use Rattle.model.proofs.ListedLaws.{kind_fits}
use Rattle.recovery.proofs.ScanSteps.{slot-ends, store-short}
use Rattle.moving.proofs.SlotMade.{copied-ends, slot-made}
use Rattle.moving.proofs.move_slot.Goals.{After-used_size-size}
use Rattle.moving.proofs.move_slot.Goals as goal

ends : (u : After-used_size-size) → u.slot_size.result * u.args.d + u.used_size-size.result ≤ store_size (kind_of u.args.from)
ends u =
    let a = u.args in
    let p = u.requires in
    copied-ends (kind_of a.from) (kind_of a.to) a.source.now a.d (listed_entry a.e) p.source_len p.d_bound p.d_value u.slot_size.result u.used_size-size.result u.slot_size.ensures u.used_size-size.ensures

pub overflow_mul-begin : goal.overflow_mul-begin
overflow_mul-begin c =
    let a = c.args in
    omega (arith, slot-ends (kind_of a.from) a.source.now c.slot_size.result a.d c.slot_size.ensures c.requires.d_bound, store-short a.from)

pub overflow_add-begin : goal.overflow_add-begin
overflow_add-begin c = omega (arith, ends (goal.at.overflow_add-begin c).After-used_size-size, store-short c.args.from)

pub slice_bounds-copy-end : goal.slice_bounds-copy-end
slice_bounds-copy-end c = omega (arith, ends (goal.at.slice_bounds-copy-end c).After-used_size-size, c.requires.source_len)

pub returns : goal.returns
returns c =
    let w = c.write_commit in
    let a = c.args in
    let p = c.requires in
    slot-made (kind_of a.from) (kind_of a.to) a.source.now a.d (listed_entry a.e) p.source_len p.d_bound p.d_value c.slot_size.result c.used_size-size.result c.slot_size.ensures c.used_size-size.ensures
    (kind_fits a.to) (λ i o. omega (arith, c.shared_slice_known-1.given i)) p.keys_len_bound c.copy.new.part c.clear.new.part w.new.part (omega (arith, c.copy.auto.part, p.part_len)) c.copy.ensures c.clear.ensures w.ensures
