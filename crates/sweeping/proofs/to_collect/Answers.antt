-- `sweeping::to_collect` meets its contract.
use mathlib.Core.Path.{◌≡◌, ◌∙◌}
use lib.ListN.{length}
use borrow.Author.Rules.{rules}
use Rattle.model.specs.Listed.{listed_entries}
use Rattle.model.proofs.ListedLaws.{listed-length}
use Rattle.sweeping.proofs.ToCollect.{to-collect}
use Rattle.sweeping.proofs.to_collect.Goals as goal

pub sifted-requires : goal.sifted-requires
sifted-requires c = let o = c.newest_first-order.ensures in (o.fits, λ i u. (o.marked i u).0)

pub returns : goal.returns
returns c κ r =
    let order = c.newest_first-order in
    let e : length c.args.entries.now ≡ 64 = search rules in
    let l : length (listed_entries c.args.entries.now) ≡ 64 = listed-length c.args.entries.now ∙ e in
    let x : length order.result.slots ≡ 64 = search rules in
    to-collect _ _ _ _ _ _ _
    (record { right = r; long = l; held = c.held_of-held.ensures; clocks = c.clocks_of-clocks.ensures; txns = c.txns_of-txns.ensures; rows = x; order = order.ensures; read_by = c.read_of-read.ensures })
    _ _ c.sifted.ensures
