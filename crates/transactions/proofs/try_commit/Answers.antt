-- `transactions::try_commit` meets its contract. Assumes nothing.
use Prim.Native.Nat.{ℕ}
use mathlib.Core.Path.{◌≡◌, sym, ap, ◌∙◌}
use mathlib.Core.Bool.{Bool}
use mathlib.Core.List.{map}
use lib.Dec.{eqb}
use lib.ListN.{length, length-map}
use native.Mathlib.Omega.{arith}
use Rattle.std.proofs.lemmas.Result.{err_from_is_err_and}
use Rattle.model.specs.declared.Station as machine
use Rattle.model.specs.declared.Answer.TheVariants as A
use Rattle.model.specs.Types.{Entry}
use Rattle.model.specs.Lists.{first}
use Rattle.model.specs.Listed.{listed_live, listed_lives, listed_entries, listed}
use Rattle.model.specs.Entries.{no_entry}
use Rattle.model.specs.Clocks.{clocks}
use Rattle.model.specs.Effects.{says}
use Rattle.model.specs.Sound.{sound}
use Rattle.model.proofs.ListedLaws.{listed-any, listed-length, kind_fits}
use Rattle.stations.specs.Found.{entry_txn, place_in, first_row}
use Rattle.stations.proofs.Changes.{as-effect}
use Rattle.transactions.specs.Committing.{unknown_rows, slot_for, clock_for, commit_answer}
use Rattle.transactions.proofs.Rows.{placed, Sought}
use Rattle.transactions.proofs.CommitRows.{Known, commit-unknown, known, commit-retry, commit-9, is_open, commit-13, commit-21, commit-done}
use Rattle.transactions.proofs.try_commit.Goals as goal

-- what the searches have found
module _ (st : machine.Station) (t j i : ℕ) (slot_at : j ≡ first (eqb t) (map entry_txn (listed_entries st.entries))) (place_at : i ≡ place_in t (listed_lives st.live))
    (n : length st.live ≡ 8) (m : length st.entries ≡ 64) where
  sought : Sought (listed st) t j i
  sought = record { slot_at = slot_at; place_at = place_at; entries64 = listed-length st.entries ∙ m; live8 = length-map st.live listed_live ∙ n }

  -- after rows 2, 3, 5 and 8
  known_at : (x : ℕ) (b : Bool) → b ≡ sound (listed st) → first_row (unknown_rows t x j i b) ≡ 0 → Known (listed st) t x j i
  known_at x b tested e = known _ _ _ _ sought x b tested e

pub returns-in_err-known-clause-err : goal.returns-in_err-known-clause-err
returns-in_err-known-clause-err c =
    let a = c.args in
    let y = sought a.station a.txn _ _ c.slot_of-held.ensures c.place_of-place.ensures c.well_formed.0.1.1.0.1.0.1 c.well_formed.0.1.1.1.0.1.0.1 in
    let p = err_from_is_err_and c.from_residual.result c.from_residual.ensures.1 in
    rw (p.1, p.2) (commit-unknown _ _ _ _ y a.clock a.tested c.requires _ c.in_err-known.ensures.err)

pub returns-then-held-lt-SLOTS-clause-ok : goal.returns-then-held-lt-SLOTS-clause-ok
returns-then-held-lt-SLOTS-clause-ok c =
    let a = c.args in
    let k = known_at a.station a.txn _ _ c.slot_of-held.ensures c.place_of-place.ensures c.well_formed.0.1.1.0.1.0.1 c.well_formed.0.1.1.1.0.1.0.1 a.clock a.tested c.requires c.in_ok-known.ensures.ok in
    as-effect _ _ _ _
    (commit-retry k c.if-held-lt-SLOTS.true no_entry ∙ ap (λ (e : Entry). says (A.Done e.id) (listed a.station)) (listed-any a.station.entries c.slot_of-held.result))
    c.unchanged.ensures

pub live_at-l-requires : goal.live_at-l-requires
live_at-l-requires c =
    let a = c.args in
    let k = known_at a.station a.txn _ _ c.slot_of-held.ensures c.place_of-place.ensures c.well_formed.0.1.1.0.1.0.1 c.well_formed.0.1.1.1.0.1.0.1 a.clock a.tested c.requires c.in_ok-known.ensures.ok in
    k.somewhere c.if-held-lt-SLOTS.false

pub returns-then-is_closing-clause-err : goal.returns-then-is_closing-clause-err
returns-then-is_closing-clause-err c =
    let a = c.args in
    let k = known_at a.station a.txn _ _ c.slot_of-held.ensures c.place_of-place.ensures c.well_formed.0.1.1.0.1.0.1 c.well_formed.0.1.1.1.0.1.0.1 a.clock a.tested c.requires c.in_ok-known.ensures.ok in
    commit-9 k c.if-held-lt-SLOTS.false _ c.live_at-l.ensures (sym c.is_closing.ensures ∙ c.if-is_closing.true)

-- after row 9: the slot and the clock for what the transaction writes
pub returns-in_default-clause-err : goal.returns-in_default-clause-err
returns-in_default-clause-err c =
    let a = c.args in
    let k = known_at a.station a.txn _ _ c.slot_of-held.ensures c.place_of-place.ensures c.well_formed.0.1.1.0.1.0.1 c.well_formed.0.1.1.1.0.1.0.1 a.clock a.tested c.requires c.in_ok-known.ensures.ok in
    let o = is_open k c.if-held-lt-SLOTS.false _ c.live_at-l.ensures (sym c.is_closing.ensures ∙ c.if-is_closing.false) in
    commit-13 o (kind_fits a.station.kind).slots-fit _ (ap (λ (n : ℕ). slot_for n (listed a.station)) c.write_count-writes.ensures) c.in_default.ensures

pub returns-in_default-clock_for-clause-err : goal.returns-in_default-clock_for-clause-err
unfolding clocks
returns-in_default-clock_for-clause-err c =
    let a = c.args in
    let w = c.write_count-writes.ensures in
    let k = known_at a.station a.txn _ _ c.slot_of-held.ensures c.place_of-place.ensures c.well_formed.0.1.1.0.1.0.1 c.well_formed.0.1.1.1.0.1.0.1 a.clock a.tested c.requires c.in_ok-known.ensures.ok in
    let o = is_open k c.if-held-lt-SLOTS.false _ c.live_at-l.ensures (sym c.is_closing.ensures ∙ c.if-is_closing.false) in
    let d = c.in-Some.ensures in
    commit-21 o (kind_fits a.station.kind).slots-fit _ (d.0 ∙ ap (λ (n : ℕ). slot_for n (listed a.station)) w) d.1
    _ (ap (λ (n : ℕ). clock_for n a.clock (clocks (listed a.station))) w) c.in_default-clock_for.ensures

pub returns-clause-ok : goal.returns-clause-ok
unfolding clocks
returns-clause-ok c =
    let a = c.args in
    let w = c.write_count-writes.ensures in
    let k = known_at a.station a.txn _ _ c.slot_of-held.ensures c.place_of-place.ensures c.well_formed.0.1.1.0.1.0.1 c.well_formed.0.1.1.1.0.1.0.1 a.clock a.tested c.requires c.in_ok-known.ensures.ok in
    let o = is_open k c.if-held-lt-SLOTS.false _ c.live_at-l.ensures (sym c.is_closing.ensures ∙ c.if-is_closing.false) in
    let d = c.in-Some.ensures in
    let q = c.in-Some-clock_for.ensures in
    as-effect _ _ _ _
    (placed _ _ _ _ _ _ _ (c.commit_answer.ensures ∙ ap (λ (n : ℕ). commit_answer n c.in-Some.slot) w) c.after_commit-after.ensures
    (commit-done o (kind_fits a.station.kind).slots-fit _ (d.0 ∙ ap (λ (n : ℕ). slot_for n (listed a.station)) w) d.1
    _ (q.0 ∙ ap (λ (n : ℕ). clock_for n a.clock (clocks (listed a.station))) w) (λ z. k.clocked (omega (arith, z, q.1)))))
    c.live_changed.ensures
