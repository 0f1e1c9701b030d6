-- `logtable::seat_of` meets its contract.
use Rattle.std.proofs.Common.{rules}
use Rattle.logtable.proofs.SeatLaws.{seat-either}
use Rattle.logtable.proofs.seat_of.Goals as goal

pub returns : goal.returns
returns c =
    seat-either c.args.table.now c.args.txn c.requires c.place_of.result c.or_else.result (rw c.from.ensures at c.place_of.ensures) c.or_else.ensures (λ q. search rules)
