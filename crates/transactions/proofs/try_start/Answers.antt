-- `transactions::try_start` meets its contract. Assumes nothing.
use mathlib.Core.Path.{◌≡◌, refl, sym, ◌∙◌}
use mathlib.Core.Logic.{inl, inr}
use Prim.Native.Nat.{ℕ}
use mathlib.Core.List.{map}
use lib.Dec.{eqb}
use lib.ListN.{length, length-map}
use Rattle.model.specs.declared.Answer.TheVariants as A
use Rattle.model.specs.declared.Station as machine
use Rattle.model.specs.Lists.{first}
use Rattle.model.specs.Listed.{listed_live, listed_lives, listed_entries, listed}
use Rattle.stations.specs.Found.{entry_txn, place_in}
use Rattle.model.proofs.ListedLaws.{listed-length}
use Rattle.stations.proofs.Callers.{place-eq, place-live, place_none, slot_held}
use Rattle.stations.proofs.Changes.{as-effect}
use Rattle.transactions.proofs.Rows.{Sought, placed, start-2, start-3, start-6, start-7, start-done}
use Rattle.transactions.proofs.try_start.Goals.{then-place_of-lt-LIVE-via-then-place_of-lt-LIVE, then-place_of-lt-LIVE-via-else-place_of-lt-LIVE+then-slot_of-lt-SLOTS}
use Rattle.transactions.proofs.try_start.Goals as goal

live8 : (st : machine.Station) → length st.live ≡ 8 → length (listed st).live ≡ 8
live8 st n = length-map st.live listed_live ∙ n

-- what the searches have found
found : (st : machine.Station) (t j i : ℕ) → length st.live ≡ 8 → length st.entries ≡ 64 → j ≡ first (eqb t) (map entry_txn (listed_entries st.entries)) → i ≡ place_in t (listed_lives st.live)
    → Sought (listed st) t j i
found st t j i n m q p = record { slot_at = q; place_at = p; entries64 = listed-length st.entries ∙ m; live8 = live8 st n }

pub returns-then-not-tested-clause-err : goal.returns-then-not-tested-clause-err
returns-then-not-tested-clause-err c = start-2 _ (sym c.requires ∙ c.if-not-tested.true) _

pub returns-then-txn-eq0-clause-err : goal.returns-then-txn-eq0-clause-err
returns-then-txn-eq0-clause-err c = start-3 _ (sym c.requires ∙ c.if-not-tested.false) _ c.if-txn-eq0.true

pub returns-then-place_of-lt-LIVE-clause-err : goal.returns-then-place_of-lt-LIVE-clause-err
returns-then-place_of-lt-LIVE-clause-err c =
    let st = c.args.station in
    start-6 _ (sym c.requires ∙ c.if-not-tested.false) _ c.if-txn-eq0.false
    (elim c.then-place_of-lt-LIVE.branch [
      | then-place_of-lt-LIVE-via-then-place_of-lt-LIVE w ↦ inl (place-live _ _ _ c.place_of.ensures (live8 st c.well_formed.0.1.1.0.1.0.1) w.if-place_of-lt-LIVE.true)
      | then-place_of-lt-LIVE-via-else-place_of-lt-LIVE+then-slot_of-lt-SLOTS w ↦ inr (slot_held _ _ _ w.slot_of.ensures (listed-length st.entries ∙ c.well_formed.0.1.1.1.0.1.0.1) w.if-slot_of-lt-SLOTS.true)
    ])

pub returns-then-place-ge-LIVE-clause-err : goal.returns-then-place-ge-LIVE-clause-err
returns-then-place-ge-LIVE-clause-err c =
    let st = c.args.station in
    start-7 _ _ _ _ (found st _ _ _ c.well_formed.0.1.1.0.1.0.1 c.well_formed.0.1.1.1.0.1.0.1 c.slot_of.ensures c.place_of.ensures) (sym c.requires ∙ c.if-not-tested.false) c.if-txn-eq0.false c.if-place_of-lt-LIVE.false c.if-slot_of-lt-SLOTS.false (place_none _ 0 _ c.place_of-place.ensures (live8 st c.well_formed.0.1.1.0.1.0.1) c.if-place-ge-LIVE.true)

pub returns-clause-ok : goal.returns-clause-ok
returns-clause-ok c =
    let st = c.args.station in
    let z = c.place_of-place in
    as-effect _ _ _ _
    (placed A.Started _ _ _ _ _ _ refl c.opened-begun.ensures
    (start-done _ _ _ _ (found st _ _ _ c.well_formed.0.1.1.0.1.0.1 c.well_formed.0.1.1.1.0.1.0.1 c.slot_of.ensures c.place_of.ensures) (sym c.requires ∙ c.if-not-tested.false) c.if-txn-eq0.false c.if-place_of-lt-LIVE.false c.if-slot_of-lt-SLOTS.false (place-live _ 0 _ z.ensures (live8 st c.well_formed.0.1.1.0.1.0.1) c.if-place-ge-LIVE.false) _ (place-eq _ 0 _ z.ensures)))
    c.live_changed.ensures
