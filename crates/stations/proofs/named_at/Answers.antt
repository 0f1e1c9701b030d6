-- `stations::named_at` meets its contract. Assumes nothing.
use mathlib.Core.Path.{sym, ◌∙◌}
use lib.ListN.{length-map}
use borrow.Author.Tests.{eq-eqb, ne_eqb, le-leb, lt-leb}
use Rattle.model.specs.Limits.{keys, live_places}
use Rattle.model.specs.Listed.{listed_live, listed_lives}
use Rattle.stations.specs.Found.{first_row, named_rows}
use Rattle.stations.proofs.RowLaws.{place-row}
use Rattle.stations.proofs.named_at.Goals as goal

pub returns-then-not-tested-clause-err : goal.returns-then-not-tested-clause-err
unfolding first_row named_rows
returns-then-not-tested-clause-err c = (rw c.if-not-tested.true, c.place_of-place.ensures)

pub returns-then-txn-eq0-clause-err : goal.returns-then-txn-eq0-clause-err
unfolding first_row named_rows
returns-then-txn-eq0-clause-err c = (rw (c.if-not-tested.false, eq-eqb _ 0 c.if-txn-eq0.true), c.place_of-place.ensures)

pub returns-then-key-ge-KEYS_U8-clause-err : goal.returns-then-key-ge-KEYS_U8-clause-err
unfolding first_row named_rows
returns-then-key-ge-KEYS_U8-clause-err c = (rw (c.if-not-tested.false, ne_eqb _ 0 c.if-txn-eq0.false, le-leb keys _ c.if-key-ge-KEYS_U8.true), c.place_of-place.ensures)

pub returns-then-place-ge-LIVE-clause-err : goal.returns-then-place-ge-LIVE-clause-err
unfolding first_row named_rows
returns-then-place-ge-LIVE-clause-err c =
    let q = place-row (listed_lives c.args.live) c.args.txn _ (length-map c.args.live listed_live ∙ c.well_formed.0.1.0.1) c.place_of-place.ensures in
    (rw (c.if-not-tested.false, ne_eqb _ 0 c.if-txn-eq0.false, lt-leb keys _ c.if-key-ge-KEYS_U8.false, sym q ∙ le-leb live_places _ c.if-place-ge-LIVE.true), c.place_of-place.ensures)

pub returns-else-place-ge-LIVE-clause-ok : goal.returns-else-place-ge-LIVE-clause-ok
unfolding first_row named_rows
returns-else-place-ge-LIVE-clause-ok c =
    let q = place-row (listed_lives c.args.live) c.args.txn _ (length-map c.args.live listed_live ∙ c.well_formed.0.1.0.1) c.place_of-place.ensures in
    (rw (c.if-not-tested.false, ne_eqb _ 0 c.if-txn-eq0.false, lt-leb keys _ c.if-key-ge-KEYS_U8.false, sym q ∙ lt-leb live_places _ c.if-place-ge-LIVE.false), c.place_of-place.ensures, c.if-place-ge-LIVE.false)
