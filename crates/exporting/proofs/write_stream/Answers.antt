-- `exporting::write_stream` meets its contract.
use Prim.Native.Nat.{◌+◌, ◌*◌, ◌≤◌}
use mathlib.Core.Path.{◌≡◌, refl}
use mathlib.Core.List.{[], ◌∷◌, ◌++◌}
use lib.ListN.{length}
use native.Mathlib.Omega.{arith}
use Rattle.std.specs.Slice.Iter.{iter_rest}
use Rattle.std.specs.Iterator.Adapters.{rev_source}
use Rattle.model.specs.Kinds.{narrow_kind, slot_size}
use Rattle.model.specs.Listed.{listed_entries}
use Rattle.recovery.proofs.ScanSteps.{slot-ends, part_length}
use Rattle.exporting.proofs.StreamLaws.{LastSlot, last-slot, streaming-starts, streaming-next, streaming-ends}
use Rattle.exporting.proofs.write_stream.Goals.{After-from-d}
use Rattle.exporting.proofs.write_stream.Goals as goal

-- ── a turn: the slot, which is the last one that is left ──
module _ (c : After-from-d) where
  taken : iter_rest (rev_source c.loop-slot.slot-iterator) ≡ iter_rest (rev_source c.next.new.self) ++ (c.from-d.result ∷ [])
  taken = rw c.from-d.ensures c.in-Some.ensures.steps

  last : LastSlot c.args.entries c.loop-slot.out c.loop-slot.at c.from-d.result
  last = last-slot _ _ _ _ _ _ _ _ _ _ c.requires.2 c.loop-slot.invariant taken c.requires.0

  ends : slot_size narrow_kind * c.from-d.result + slot_size narrow_kind ≤ length c.args.store.now
  ends = omega (arith, slot-ends narrow_kind c.args.store.now (slot_size narrow_kind) c.from-d.result refl last.low, c.requires.1)

pub loop-slot-init : goal.loop-slot-init
loop-slot-init c =
    let o : c.args.order.n ≤ length c.args.order.slots = omega (arith, c.requires.2.fits) in
    rw (c.into_iter-slot-iterator.ensures.into_iter_gives, c.rev-slot-items.ensures.source)
    (streaming-starts c.args.out.now c.args.store.now (listed_entries c.args.entries) c.args.order.slots c.args.order.n _ o c.iter.ensures.rest)

pub write_transaction-at-requires : goal.write_transaction-at-requires
write_transaction-at-requires c =
    let p = (goal.at.write_transaction-at-requires c).After-from-d in
    (part_length narrow_kind c.args.store.now (slot_size narrow_kind) c.from-d.result refl c.requires.1 (last p).low, (last p).some_key, (last p).keys-fit, (last p).room)

pub loop-slot-preserved : goal.loop-slot-preserved
loop-slot-preserved c =
    let w = c.write_transaction-at in
    streaming-next _ _ _ _ _ _ _ _ _ _ c.requires.2 c.loop-slot.invariant (taken (goal.at.loop-slot-preserved c).After-from-d) c.requires.0 w.new.out w.result w.ensures.1 (w.ensures.0, w.ensures.2)

pub returns : goal.returns
returns c =
    let w = streaming-ends c.loop-slot.invariant c.in-None.ensures.steps.0 in
    (omega (arith, w.till-is), w.now-is)
