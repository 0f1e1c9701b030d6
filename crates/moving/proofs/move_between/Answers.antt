-- `moving::move_between` meets its contract.
use Prim.Native.Nat.{ℕ, ◌≤◌}
use mathlib.Core.Path.{◌≡◌, sym, ap, ◌∙◌}
use mathlib.Core.List.{List, map}
use lib.ListN.{length}
use native.Mathlib.Omega.{arith}
use Rattle.model.specs.Types.{Entry}
use Rattle.model.specs.declared.Answer.TheVariants as A
use Rattle.model.specs.Kinds.{Kind, store_size}
use Rattle.model.specs.Lists.{any, count}
use Rattle.model.specs.Listed.{kind_of, listed_entries}
use Rattle.model.specs.Slots.{Seen, committed}
use Rattle.model.specs.Scan.{slots_seen, is_committed}
use Rattle.model.specs.Moves.{too_wide}
use Rattle.moving.proofs.MoveAnswers.{entries-wide, move-1-source, move-1-target, move-18, move-22, move-23, move-made, target-made, handed, Finds, scan-found, scan-refuses}
use Rattle.moving.proofs.move_between.Goals.{Else-target-store_size, In-Found, then-source-store_size-via-then-source-store_size, then-source-store_size-via-else-source-store_size+then-target-store_size}
use Rattle.moving.proofs.move_between.Goals as goal

-- ── the stores, whose lengths are right ──
abbrev from-kind : Else-target-store_size → Kind
from-kind e = kind_of e.args.from

abbrev to-kind : Else-target-store_size → Kind
to-kind e = kind_of e.args.to

abbrev source_of : Else-target-store_size → List ℕ
source_of e = e.args.source.now

abbrev target-of : Else-target-store_size → List ℕ
target-of e = e.args.target.now

abbrev slots-of : Else-target-store_size → List Seen
slots-of e = slots_seen (from-kind e) (source_of e)

source-long : (e : Else-target-store_size) → length (source_of e) ≡ store_size (from-kind e)
source-long e = e.if-source-store_size.false ∙ e.store_size.ensures

target-long : (e : Else-target-store_size) → length (target-of e) ≡ store_size (to-kind e)
target-long e = e.if-target-store_size.false ∙ e.store_size-else-source-store_size.ensures

-- ── the scan ──
finds : (k : In-Found) → Finds (kind_of k.args.from) k.args.source.now (k.if-source-store_size.false ∙ k.store_size.ensures) k.scan_of-scanned.result k.scan_of-scanned.ensures k.in-Found.found
finds k = scan-found (kind_of k.args.from) k.args.source.now (k.if-source-store_size.false ∙ k.store_size.ensures) k.scan_of-scanned.result k.scan_of-scanned.ensures k.in-Found.found k.in-Found.is

-- no more slots are committed than the target has
few : (k : In-Found) (n : ℕ) → k.in-Found.found ≤ n → n ≡ (kind_of k.args.to).slots → count is_committed (slots_seen (kind_of k.args.from) k.args.source.now) ≤ (kind_of k.args.to).slots
few k n h e = omega (arith, h, e, (finds k).counted)

-- the write sets of the entries are those of the slots
wide_is : (k : In-Found) → any (too_wide (kind_of k.args.to)) (map committed (listed_entries k.scan_of-scanned.result.station.entries)) ≡ any (too_wide (kind_of k.args.to)) (slots_seen (kind_of k.args.from) k.args.source.now)
wide_is k =
    ap (λ (es : List Entry). any (too_wide (kind_of k.args.to)) (map committed es)) (finds k).entries ∙ entries-wide (kind_of k.args.to) (slots_seen (kind_of k.args.from) k.args.source.now)

pub returns-then-source-store_size : goal.returns-then-source-store_size
returns-then-source-store_size c =
    let a = c.args in
    rw c.number.ensures (handed _ _ (elim c.then-source-store_size.branch [
      | then-source-store_size-via-then-source-store_size w ↦ move-1-source (kind_of a.from) (kind_of a.to) a.source.now a.target.now (λ h. w.if-source-store_size.true (h ∙ sym c.store_size.ensures))
      | then-source-store_size-via-else-source-store_size+then-target-store_size w ↦
          move-1-target (kind_of a.from) (kind_of a.to) a.source.now a.target.now (w.if-source-store_size.false ∙ c.store_size.ensures) (λ h. w.if-target-store_size.true (h ∙ sym w.store_size-else-source-store_size.ensures))
    ]))

pub returns-in_default : goal.returns-in_default
returns-in_default c =
    let e = (goal.at.returns-in_default c).Else-target-store_size in
    let o = c.scan_of-scanned in
    let r = scan-refuses (from-kind e) (source_of e) (source-long e) o.result o.ensures c.in_default.not-Found in
    let m = handed _ _ (move-18 (from-kind e) (to-kind e) (source_of e) (target-of e) (source-long e) (target-long e) r.broken) in
    (r.answer ∙ m.0, m.1)

pub returns-then-slots-from : goal.returns-then-slots-from
returns-then-slots-from c =
    let k = (goal.at.returns-then-slots-from c).In-Found in
    let e = (goal.at.returns-then-slots-from c).Else-target-store_size in
    rw c.number-then-slots-from.ensures (handed _ _ (move-22 (from-kind e) (to-kind e) (source_of e) (target-of e) (source-long e) (target-long e) (finds k).unbroken (omega (arith, c.if-slots-from.true, c.from.ensures, c.slots.ensures, (finds k).counted))))

pub returns-then-too_wide : goal.returns-then-too_wide
returns-then-too_wide c =
    let k = (goal.at.returns-then-too_wide c).In-Found in
    let e = (goal.at.returns-then-too_wide c).Else-target-store_size in
    rw c.number-then-too_wide.ensures (handed _ _ (move-23 (from-kind e) (to-kind e) (source_of e) (target-of e) (source-long e) (target-long e) (finds k).unbroken (few k _ (omega (arith, c.if-slots-from.false, c.from.ensures)) c.slots.ensures) (sym (c.too_wide.ensures ∙ wide_is k) ∙ c.if-too_wide.true)))

pub move_slots-end-requires : goal.move_slots-end-requires
move_slots-end-requires c =
    let k = (goal.at.move_slots-end-requires c).In-Found in
    let e = (goal.at.move_slots-end-requires c).Else-target-store_size in
    record { source_len = source-long e; target_len = target-long e; entries_value = (finds k).entries; source_bound = few k _ (omega (arith, c.if-slots-from.false, c.from.ensures)) c.slots.ensures; source_value = sym (c.too_wide.ensures ∙ wide_is k) ∙ c.if-too_wide.false }

pub returns : goal.returns
returns c =
    let k = (goal.at.returns c).In-Found in
    let e = (goal.at.returns c).Else-target-store_size in
    let m = handed _ _ (move-made (from-kind e) (to-kind e) (source_of e) (target-of e) (source-long e) (target-long e) (finds k).unbroken (few k _ (omega (arith, c.if-slots-from.false, c.from.ensures)) c.slots.ensures) (sym (c.too_wide.ensures ∙ wide_is k) ∙ c.if-too_wide.false)) in
    let u = c.move_slots-end.new.target in (
      ap (λ (i : ℕ). A.Moved i) (finds k).counted ∙ m.0,
      target-made (from-kind e) (to-kind e) (source_of e) u c.clear.new.part c.move_slots-end.result (c.move_slots-end.auto.target ∙ target-long e) c.move_slots-end.ensures.0 c.move_slots-end.ensures.1 c.clear.ensures ∙ m.1,
    )
