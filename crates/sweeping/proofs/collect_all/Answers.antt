use Prim.Native.Nat.{ℕ, ◌-◌, ◌<◌, ◌≤◌}
use mathlib.Core.Path.{◌≡◌, sym, ap, ap₂, subst, ◌∙◌}
use mathlib.Core.Bool.{false}
use mathlib.Core.List.{List, []}
use lib.Dec.{ltb}
use lib.ListN.{length, get_or}
use native.Mathlib.Decide.{ℕ_discrete}
use native.Mathlib.Omega.{arith}
use borrow.Author.Rules.{rules}
use borrow.Author.Tests.{ltb-true, ltb-false, lt-ltb}
use Rattle.model.specs.declared as machine
use Rattle.model.specs.Types.{Entry, Station}
use Rattle.model.specs.Lists.{◌and◌}
use Rattle.model.specs.Kinds.{Kind, store_size}
use Rattle.model.specs.KeySets.{key_set}
use Rattle.model.specs.Listed.{kind_of, listed_entry, listed}
use Rattle.model.specs.Entries.{keys_of, carries_entry}
use Rattle.model.specs.Stations.{entry_at}
use Rattle.model.specs.Records.{record_at}
use Rattle.model.specs.Sweep.{collections}
use Rattle.model.proofs.Tests.{and_left, and_right, and_second}
use Rattle.model.proofs.RecordLaws.{record-part}
use Rattle.model.proofs.ListedLaws.{zero_entry, listed-any, listed-length}
use Rattle.stations.proofs.Callers.{entry-count}
use Rattle.sweeping.proofs.SweepLoop.{last-low, last-below, Sweeping, sweeping-start, sweeping-next, sweeping-as, record-ends, none-ends, limit-ends, swept}
use Rattle.sweeping.proofs.collect_all.Goals.{After-carries_entry, After-from-d, At-loop-d, In-loop-d}
use Rattle.sweeping.proofs.collect_all.Goals as goal

pub loop-d-init : goal.loop-d-init
loop-d-init c =
    let s = c in
    let w : length s.args.station.entries ≡ 64 = s.well_formed.0.1.1.1.0.1.0.1 in
    sweeping-start _ _ _ _ _ s.requires.station_value.0 (listed-length s.args.station.entries ∙ w) s.requires.store_len s.requires.are_to_collect

-- there is one more, and the limit is not reached
going : (c : In-loop-d) → (0 < c.loop-d.left) × (c.loop-d.count < c.args.limit)
going c =
    let g = sym c.goes_on.ensures ∙ c.loop-d-test.true in
    (ltb-true _ _ (and_left _ _ g), ltb-true _ _ (and_right _ _ g))

pub overflow_sub-left : goal.overflow_sub-left
overflow_sub-left c = omega (arith, (going (goal.at.overflow_sub-left c).In-loop-d).0)

pub bounds-order-left : goal.bounds-order-left
bounds-order-left c = omega (arith, (going (goal.at.bounds-order-left c).In-loop-d).0, c.loop-d.invariant.slots-left.fits)

-- the store is as long as it was
same_size : (t : At-loop-d) → length t.loop-d.store ≡ length t.args.store.now
same_size t = let p = t.loop-d.invariant in p.size ∙ ap store_size p.kind ∙ sym t.requires.store_len

-- the slot at hand
low : (c : After-from-d) → c.from-d.result < 64
low c =
    let p = c.loop-d.invariant in
    let u = last-low _ p.right p.long _ _ p.slots-left (going (goal.at.After-from-d c).In-loop-d).0 in
    omega (arith, u, c.from-d.ensures)

-- it is held, so it is one of the kind's
below : (c : After-from-d) → c.from-d.result < (kind_of c.loop-d.next.kind).slots
below c =
    let p = c.loop-d.invariant in
    let u = last-below _ p.right p.long _ _ p.slots-left (going (goal.at.After-from-d c).In-loop-d).0 in
    omega (arith, u, c.from-d.ensures)

-- its entry; as the definitions have it; and that it has few keys
abbrev element : After-from-d → machine.Entry.Entry
element c = get_or c.loop-d.next.entries c.from-d.result zero_entry

is-entry : (c : After-from-d) → entry_at (listed c.loop-d.next) c.from-d.result ≡ listed_entry (element c)
unfolding entry_at
is-entry c = listed-any c.loop-d.next.entries c.from-d.result

abbrev κ : After-from-d → Kind
κ c = kind_of c.loop-d.next.kind

few : (c : After-from-d) → length (key_set (element c).keys) ≤ (κ c).write_limit
few c = subst (λ (e : Entry). length (keys_of e) ≤ (κ c).write_limit) (is-entry c) (entry-count (listed c.loop-d.next) c.loop-d.invariant.right c.from-d.result)

pub offset_bounds-next-d : goal.offset_bounds-next-d
offset_bounds-next-d c = omega (arith, low (goal.at.offset_bounds-next-d c).After-from-d)

pub bounds-next-d : goal.bounds-next-d
bounds-next-d c = low (goal.at.bounds-next-d c).After-from-d

pub record_place-at-requires : goal.record_place-at-requires
record_place-at-requires c = record { slot_bound = below (goal.at.record_place-at-requires c).After-from-d; n_bound = omega arith }

pub slice_bounds-carries_entry-end : goal.slice_bounds-carries_entry-end
slice_bounds-carries_entry-end c = let w = c in omega (arith, c.record_place-at.ensures.1, w.loop-d.invariant.size)

pub carries_entry-requires : goal.carries_entry-requires
carries_entry-requires c = record { r_len = search rules; keys_len_bound = few (goal.at.carries_entry-requires c).After-from-d }

-- whether its commit record carries it
abbrev slot : After-from-d → ℕ
slot c = get_or c.args.order.now.slots (c.loop-d.left - 1) 0

carried : (c : After-carries_entry)
    → carries_entry (κ (goal.at.After-carries_entry c).After-from-d) (record_at (κ (goal.at.After-carries_entry c).After-from-d) c.loop-d.store (slot (goal.at.After-carries_entry c).After-from-d) 0) (entry_at (listed c.loop-d.next) (slot (goal.at.After-carries_entry c).After-from-d)) ≡ c.carries_entry.result
carried c =
    let w = c.from-d in
    let t = c in
    let r = c.record_place-at in
    ap (λ (d : ℕ). carries_entry (κ (goal.at.After-carries_entry c).After-from-d) (record_at (κ (goal.at.After-carries_entry c).After-from-d) t.loop-d.store d 0) (entry_at (listed t.loop-d.next) d)) (sym w.ensures)
    ∙ (ap₂ (λ (x : List ℕ) (e : Entry). carries_entry (κ (goal.at.After-carries_entry c).After-from-d) x e) (sym (record-part (κ (goal.at.After-carries_entry c).After-from-d) t.loop-d.store w.result 0 r.result r.ensures.0)) (is-entry (goal.at.After-carries_entry c).After-from-d) ∙ sym c.carries_entry.ensures)

pub shape_of-store-then-not-carries_entry : goal.shape_of-store-then-not-carries_entry
shape_of-store-then-not-carries_entry c = same_size (goal.at.shape_of-store-then-not-carries_entry c).At-loop-d

pub returns-then-not-carries_entry : goal.returns-then-not-carries_entry
returns-then-not-carries_entry c =
    let w = c in
    let t = w in
    let s = t in
    swept _ _ _ _ _ _ _ _ t.loop-d.invariant s.requires.store_len s.requires.station_value.0 s.requires.station_value.1 s.requires.station_value.2
    (record-ends _ _ _ _ _ _ _ _ t.loop-d.invariant (going (goal.at.returns-then-not-carries_entry c).In-loop-d).0 (carried (goal.at.returns-then-not-carries_entry c).After-carries_entry ∙ c.if-not-carries_entry.true))

pub store_zero-requires : goal.store_zero-requires
store_zero-requires c = let w = (goal.at.store_zero-requires c).After-from-d in record { store_len = w.loop-d.invariant.size; slot_bound = below w }

-- the record is cleared
pub offset_bounds-next-d-in-loop-d : goal.offset_bounds-next-d-in-loop-d
offset_bounds-next-d-in-loop-d c = omega (arith, low (goal.at.offset_bounds-next-d-in-loop-d c).After-from-d)

pub bounds-next-d-in-loop-d : goal.bounds-next-d-in-loop-d
bounds-next-d-in-loop-d c = low (goal.at.bounds-next-d-in-loop-d c).After-from-d

pub overflow_sub-left-in-loop-d : goal.overflow_sub-left-in-loop-d
overflow_sub-left-in-loop-d c = omega (arith, (going (goal.at.overflow_sub-left-in-loop-d c).In-loop-d).0)

pub overflow_add-count : goal.overflow_add-count
overflow_add-count c = let w = (goal.at.overflow_add-count c).After-from-d in omega (arith, (going (goal.at.overflow_add-count c).In-loop-d).1, w.requires.station_value.2)

pub loop-d-smaller : goal.loop-d-smaller
loop-d-smaller c = omega (arith, (going (goal.at.loop-d-smaller c).In-loop-d).0)

pub loop-d-preserved : goal.loop-d-preserved
loop-d-preserved c =
    let w = (goal.at.loop-d-preserved c).After-from-d in
    let t = w in
    sweeping-as _ _ _ t.loop-d.next t.loop-d.store _ _ _ _
    (sweeping-next _ _ _ _ _ _ _ _ t.loop-d.invariant (going (goal.at.loop-d-preserved c).In-loop-d).0 (going (goal.at.loop-d-preserved c).In-loop-d).1 (carried (goal.at.loop-d-preserved c).After-carries_entry ∙ c.if-not-carries_entry.false))
    w.from-d.result w.from-d.ensures c.no_entry.result c.no_entry.ensures c.store_zero.new.store c.store_zero.ensures

pub shape_of-store-after-loop-d : goal.shape_of-store-after-loop-d
shape_of-store-after-loop-d c = same_size (goal.at.shape_of-store-after-loop-d c).At-loop-d

-- nothing goes on
ended : {limit : ℕ} {st₀ : Station} {s₀ : List ℕ} {st : Station} {s : List ℕ} {count n : ℕ} {xs : List ℕ} → Sweeping limit st₀ s₀ st s count n xs → Dec (n ≡ 0) → (ltb 0 n and ltb count limit) ≡ false → collections (limit - count) st s ≡ []
ended p (yes z) h = none-ends _ _ _ _ _ _ _ _ p z
ended {limit} {st₀} {s₀} {st} {s} {count} {n} {xs} p (no z) h = limit-ends _ _ _ _ _ _ _ _ p (ltb-false count limit (and_second _ _ h (lt-ltb 0 n (omega arith))))

pub returns-after-loop-d : goal.returns-after-loop-d
returns-after-loop-d c =
    let t = c in
    let s = t in
    swept _ _ _ _ _ _ _ _ t.loop-d.invariant s.requires.store_len s.requires.station_value.0 s.requires.station_value.1 s.requires.station_value.2 (ended t.loop-d.invariant (ℕ_discrete t.loop-d.left 0) (sym c.goes_on.ensures ∙ c.loop-d-test.false))
