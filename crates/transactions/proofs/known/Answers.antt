-- `transactions::known` meets its contract. Assumes nothing.
use mathlib.Core.Path.{◌≡◌}
use mathlib.Core.Bool.{false}
use mathlib.Core.Logic.{⊎_elim}
use lib.Dec.{leb}
use Rattle.model.specs.Lists.{◌and◌}
use borrow.Author.Tests.{ne_eqb, le-leb, lt-leb}
use Rattle.model.specs.Limits.{live_places, entry_places}
use Rattle.model.proofs.Tests.{and_intro, and-none-left, and-none-right}
use Rattle.stations.specs.Found.{first_row}
use Rattle.transactions.specs.Committing.{unknown_rows}
use Rattle.transactions.proofs.known.Goals as goal

pub returns-then-place-ge-LIVE-clause-err : goal.returns-then-place-ge-LIVE-clause-err
unfolding first_row unknown_rows
returns-then-place-ge-LIVE-clause-err c = rw (c.if-not-tested.false, ne_eqb _ 0 c.if-txn-eq0.false, ne_eqb _ 0 c.if-clock-eq0.false, and_intro _ _ (le-leb live_places _ c.if-place-ge-LIVE.true) (le-leb entry_places _ c.if-held-ge-SLOTS.true))

pub returns-clause-ok : goal.returns-clause-ok
unfolding first_row unknown_rows
returns-clause-ok c =
    let a = c.args in
    let e : (leb live_places a.place and leb entry_places a.held) ≡ false = ⊎_elim (λ q. and-none-left _ _ (lt-leb live_places _ q.1)) (λ q. and-none-right _ _ (lt-leb entry_places _ q)) c.else-held-ge-SLOTS.either in
    rw (c.if-not-tested.false, ne_eqb _ 0 c.if-txn-eq0.false, ne_eqb _ 0 c.if-clock-eq0.false, e)
