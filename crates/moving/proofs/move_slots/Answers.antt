use Prim.Native.Nat.{◌+◌, ◌<◌, ◌≤◌}
use mathlib.Core.Path.{◌≡◌}
use mathlib.Core.Logic.{◌≢◌}
use lib.ListN.{get_or}
use native.Mathlib.Omega.{arith}
use Rattle.model.specs.declared as machine
use Rattle.model.specs.Kinds.{store_size}
use Rattle.model.specs.Limits.{entry_places}
use Rattle.model.specs.Listed.{kind_of, listed_entry}
use Rattle.model.specs.Slots.{seen, committed}
use Rattle.model.proofs.ListedLaws.{kind_fits, zero_entry}
use Rattle.recovery.proofs.ScanSteps.{store-short}
use Rattle.moving.proofs.MoveLoop.{found-committed, found_none, slot-narrow, moving-none, moving-skips, moving-room, moving-part, moving-more, moving-all}
use Rattle.moving.proofs.move_slots.Goals.{In-loop-d, then-entries-d-ne0, else-entries-d-ne0}
use Rattle.moving.proofs.move_slots.Goals as goal

-- ── the slot at hand ──
low : (c : In-loop-d) → c.loop-d.d < (kind_of c.args.from).slots
low c = omega (arith, c.loop-d-test.true, c.slots-d-end.ensures)

few : (c : In-loop-d) → c.loop-d.d < entry_places
few c = let φ = kind_fits c.args.from in omega (arith, low c, φ.slots-fit)

abbrev entry_of : In-loop-d → machine.Entry.Entry
entry_of c = get_or c.args.entries.now c.loop-d.d zero_entry

is-committed : (i : In-loop-d) → (entry_of i).id.txn ≢ 0 → seen (kind_of i.args.from) i.args.source.now i.loop-d.d ≡ committed (listed_entry (entry_of i))
is-committed i n = found-committed (kind_of i.args.from) i.args.source.now i.args.entries.now i.requires.entries_value i.loop-d.d (low i) n

ends : (i : In-loop-d) → (entry_of i).id.txn ≢ 0 → i.loop-d.at + i.slot_size-room.result ≤ store_size (kind_of i.args.to)
ends i n =
    let l = i.loop-d in
    let z = i.slot_size-room in
    moving-room (kind_of i.args.from) (kind_of i.args.to) i.args.source.now l.target l.at l.d l.invariant (low i) (listed_entry (entry_of i)) (is-committed i n) z.result z.ensures

pub loop-d-init : goal.loop-d-init
loop-d-init c =
    moving-none (kind_of c.args.from) (kind_of c.args.to) c.args.source.now c.args.target.now c.requires.target_len c.requires.source_bound

pub overflow_add-at : goal.overflow_add-at
overflow_add-at c = omega (arith, ends (goal.at.overflow_add-at c).In-loop-d c.if-entries-d-ne0.true, store-short c.args.to)

pub slice_bounds-move_slot-end : goal.slice_bounds-move_slot-end
slice_bounds-move_slot-end c = omega (arith, ends (goal.at.slice_bounds-move_slot-end c).In-loop-d c.if-entries-d-ne0.true, c.loop-d.invariant.long)

pub move_slot-requires : goal.move_slot-requires
move_slot-requires c =
    let i = (goal.at.move_slot-requires c).In-loop-d in
    let held = is-committed i c.if-entries-d-ne0.true in
    let z = c.slot_size-room in
    let e = listed_entry (entry_of i) in record {
      source_len = c.requires.source_len;
      d_bound = low i;
      part_len = moving-part (kind_of c.args.from) (kind_of c.args.to) c.args.source.now c.loop-d.target c.loop-d.at c.loop-d.d c.loop-d.invariant (low i) e held z.result z.ensures;
      d_value = held;
      keys_len_bound = slot-narrow (kind_of c.args.from) (kind_of c.args.to) c.args.source.now c.loop-d.d e c.requires.source_value (low i) held;
    }

pub overflow_add-at-then-entries-d-ne0 : goal.overflow_add-at-then-entries-d-ne0
overflow_add-at-then-entries-d-ne0 c = omega (arith, ends (goal.at.overflow_add-at-then-entries-d-ne0 c).In-loop-d c.if-entries-d-ne0.true, store-short c.args.to)

pub loop-d-preserved : goal.loop-d-preserved
loop-d-preserved c =
    let i = (goal.at.loop-d-preserved c).In-loop-d in
    let z = c.slot_size-room in
    elim c.if-entries-d-ne0.branch [
      | then-entries-d-ne0 w ↦
          rw (w.target-is, w.at-is)
          (moving-more (kind_of c.args.from) (kind_of c.args.to) c.args.source.now c.loop-d.target c.loop-d.at c.loop-d.d c.loop-d.invariant (low i) (listed_entry (entry_of i)) (is-committed i w.if-entries-d-ne0.true) z.result z.ensures
          w.move_slot.new.part w.move_slot.ensures w.move_slot.auto.part)
      | else-entries-d-ne0 w ↦
          rw (w.target-is, w.at-is)
          (moving-skips (kind_of c.args.from) (kind_of c.args.to) c.args.source.now c.loop-d.target c.loop-d.at c.loop-d.d c.loop-d.invariant (low i)
          (found_none (kind_of c.args.from) c.args.source.now c.args.entries.now c.requires.entries_value c.loop-d.d (low i) w.if-entries-d-ne0.false))
    ]

pub shape_of-target : goal.shape_of-target
shape_of-target c = omega (arith, c.loop-d.invariant.long, c.requires.target_len)

pub returns : goal.returns
returns c =
    moving-all (kind_of c.args.from) (kind_of c.args.to) c.args.source.now c.loop-d.target c.loop-d.at c.loop-d.d c.loop-d.invariant (omega (arith, c.loop-d-test.false, c.slots-d-end.ensures))
