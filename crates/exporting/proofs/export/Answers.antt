-- `exporting::export` meets its contract.
use Prim.Native.Nat.{ℕ}
use mathlib.Core.Path.{◌≡◌}
use mathlib.Core.Logic.{⊎_elim}
use mathlib.Core.List.{List}
use Rattle.model.specs.Types.{Entry}
use Rattle.model.specs.Kinds.{narrow_kind}
use Rattle.model.specs.Listed.{listed_entries}
use Rattle.model.specs.Scan.{slots_seen, entries_seen}
use Rattle.model.proofs.ScanLaws.{KeepsRules}
use Rattle.reading.specs.declared.Candidates.{Candidates}
use Rattle.resp.specs.Exports.{committed_set}
use Rattle.resp.proofs.ExportRows.{wrong-store, wrong_target}
use Rattle.exporting.specs.Order.{AreWritten, backwards}
use Rattle.exporting.proofs.OrderLaws.{aged, are_written}
use Rattle.exporting.proofs.ExportAnswers.{handed, refused-is, kept, stream-exported}
use Rattle.exporting.proofs.export.Goals.{After-newest_first-order}
use Rattle.exporting.proofs.export.Goals as goal

-- ── the slots in order ──
abbrev store_of : After-newest_first-order → List ℕ
store_of c = c.args.store.now

abbrev entries-of : After-newest_first-order → List Entry
entries-of c = listed_entries c.scan_of-scanned.result.station.entries

keeps : (c : After-newest_first-order) → KeepsRules narrow_kind (store_of c) × (entries-of c ≡ entries_seen (slots_seen narrow_kind (store_of c)))
keeps c =
    let o = c.scan_of-scanned in
    kept (store_of c) c.if-store-ne-STORE.false o.result o.ensures c.in_default.not-Refused

module _ (c : After-newest_first-order) where
  abbrev order : Candidates
  order = c.newest_first-order.result

  set-written : AreWritten (entries-of c) order.n order.slots × (backwards (store_of c) (entries-of c) order.slots order.n ≡ committed_set (store_of c))
  set-written =
      let k = keeps c in
      let held = c.held_of-held in
      let clocks = c.clocks_of-clocks in
      let txns = c.txns_of-txns in (
        are_written (store_of c) (entries-of c) held.result clocks.result txns.result order.n order.slots
            k.0 k.1 held.ensures clocks.ensures txns.ensures c.newest_first-order.ensures,
        aged (store_of c) (entries-of c) held.result clocks.result txns.result order.n order.slots
            k.0 k.1 held.ensures clocks.ensures txns.ensures c.newest_first-order.ensures,
      )

pub returns-then-store-ne-STORE : goal.returns-then-store-ne-STORE
returns-then-store-ne-STORE c =
    rw c.into.ensures
    (handed _ _ (⊎_elim (λ n. wrong-store c.args.store.now c.args.target.now n) (λ p. wrong_target c.args.store.now c.args.target.now p.0 p.1) c.then-store-ne-STORE.either))

pub returns-in-Refused : goal.returns-in-Refused
returns-in-Refused c =
    refused-is c.args.store.now c.if-store-ne-STORE.false c.scan_of-scanned.result c.scan_of-scanned.ensures c.args.target.now c.in-Refused.number c.in-Refused.slot
    c.if-target-ne-TARGET.false c.in-Refused.is

pub write_stream-requires : goal.write_stream-requires
write_stream-requires c = (c.if-target-ne-TARGET.false, c.if-store-ne-STORE.false, (set-written (goal.at.write_stream-requires c).After-newest_first-order).0)

pub returns : goal.returns
returns c =
    let n = (goal.at.returns c).After-newest_first-order in
    let w = c.write_stream in
    stream-exported (store_of n) c.args.target.now w.new.out w.result _ c.if-store-ne-STORE.false c.if-target-ne-TARGET.false (keeps n).0 (set-written n).1 w.ensures.0 w.ensures.1
