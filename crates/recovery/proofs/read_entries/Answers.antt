use Rattle.std.proofs.Common.{true, ◌≡◌, ◌<◌, ◌≤◌, ◌+◌, ◌*◌, ◌%◌, refl, sym, ◌∙◌, length, length-set, arith}
use Rattle.model.specs.Kinds.{store_size}
use Rattle.model.specs.Limits.{entry_places}
use Rattle.model.specs.Listed.{kind_of}
use Rattle.model.specs.Slots.{seen}
use Rattle.model.proofs.ListedLaws.{kind_fits}
use Rattle.model.proofs.ScanLaws.{scan-length}
use Rattle.records.specs.declared.Slot.{Slot}
use Rattle.records.specs.declared.Slot.TheVariants.{Free, Committed, Damaged}
use Rattle.records.specs.SlotView.{seen_as}
use Rattle.recovery.proofs.MarkLaws.{marked-none, marked_more}
use Rattle.recovery.proofs.ScanSteps.{slot-ends, slot_seen, passed_none, passed-free, passed-committed, refused-damaged, refused-repeated, found_all}
use Rattle.recovery.proofs.read_entries.Goals.{After-read_slot, At-loop-d, In-loop-d, in-Free, in-Committed-2}
use Rattle.recovery.proofs.read_entries.Goals as goal

-- ── the store, its kind and its slots ──
long : (l : At-loop-d) → length l.args.store.now ≡ store_size (kind_of l.args.kind)
long l = l.if-store-store_size.false ∙ l.store_size.ensures

-- ── the slot at hand ──
low : (c : In-loop-d) → c.loop-d.d < (kind_of c.args.kind).slots
low c = omega (arith, c.loop-d-test.true, c.slots-d-end.ensures)

-- it lies in a station's entries, and its bytes in the store
few : (c : In-loop-d) → c.loop-d.d < entry_places
few c = omega (arith, low c, (kind_fits c.args.kind).slots-fit)

ends : (c : In-loop-d) → c.slot_size-size.result * c.loop-d.d + c.slot_size-size.result ≤ store_size (kind_of c.args.kind)
ends c = slot-ends (kind_of c.args.kind) c.args.store.now c.slot_size-size.result c.loop-d.d c.slot_size-size.ensures (low c)

slot_is : (p : After-read_slot) (x : Slot) → p.read_slot.result ≡ x → seen (kind_of p.args.kind) p.args.store.now p.loop-d.d ≡ seen_as x
slot_is p x h =
    let z = p.slot_size-size in
    slot_seen (kind_of p.args.kind) p.args.store.now z.result p.loop-d.d z.ensures p.read_slot.result x p.read_slot.ensures h

pub returns-then-store-store_size : goal.returns-then-store-store_size
returns-then-store-store_size c = rw c.number.ensures (scan-length _ _ (λ h. c.if-store-store_size.true (h ∙ sym c.store_size.ensures)))

pub loop-d-init : goal.loop-d-init
loop-d-init c = record { passed = passed_none (kind_of c.args.kind) c.args.store.now c.args.entries.now c.requires; many = refl; marked = marked-none }

pub loop-d-preserved : goal.loop-d-preserved
loop-d-preserved c =
    let p = (goal.at.loop-d-preserved c).After-read_slot in
    let t = (goal.at.loop-d-preserved c).In-loop-d in
    let κ = kind_of c.args.kind in
    let l = c.loop-d in
    let i = l.invariant in
    elim c.match-read_slot.branch [
      | in-Free w ↦
          rw (w.entries-is, w.txns-is, w.marks-is, w.found-is)
          (record {
            passed = passed-free κ c.args.store.now (kind_fits c.args.kind) l.entries l.txns l.found l.d i.passed (low t) (unfold seen_as in slot_is p Free w.in-Free.is);
            many = i.many;
            marked = i.marked;
          })
      | in-Committed-2 w ↦
          let e = w.in-Committed.entry in
          rw (w.entries-is, w.txns-is, w.marks-is, w.found-is)
          (record {
            passed = passed-committed κ c.args.store.now (kind_fits c.args.kind) l.entries l.txns l.found l.d i.passed (low t) e
                (unfold seen_as in slot_is p (Committed e) w.in-Committed.is) (sym w.is_repeated.ensures ∙ w.if-is_repeated.false);
            many = length-set l.marks (e.id.txn % 256) true ∙ i.many;
            marked = marked_more l.marks l.txns l.d e.id.txn i.many (omega (arith, few t, i.passed.txn-places)) i.marked;
          })
    ]

pub returns : goal.returns
returns c =
    let l = c.loop-d in
    found_all _ _ l.entries l.txns l.found l.d l.invariant.passed (omega (arith, c.loop-d-test.false, c.slots-d-end.ensures)) (long (goal.at.returns c).At-loop-d)

pub returns-in-Damaged : goal.returns-in-Damaged
returns-in-Damaged c =
    let l = c.loop-d in
    rw c.number-in-loop-d.ensures (refused-damaged _ _ (kind_fits c.args.kind) l.entries l.txns l.found l.d l.invariant.passed (low (goal.at.returns-in-Damaged c).In-loop-d) (long (goal.at.returns-in-Damaged c).At-loop-d)
    (unfold seen_as in slot_is (goal.at.returns-in-Damaged c).After-read_slot Damaged c.in-Damaged.is))

pub returns-in-Committed : goal.returns-in-Committed
returns-in-Committed c =
    let l = c.loop-d in
    let e = c.in-Committed.entry in
    rw c.number-in-loop-d.ensures (refused-repeated _ _ (kind_fits c.args.kind) l.entries l.txns l.found l.d l.invariant.passed (low (goal.at.returns-in-Committed c).In-loop-d) e
    (unfold seen_as in slot_is (goal.at.returns-in-Committed c).After-read_slot (Committed e) c.in-Committed.is) (long (goal.at.returns-in-Committed c).At-loop-d) (sym c.is_repeated.ensures ∙ c.if-is_repeated.true))
