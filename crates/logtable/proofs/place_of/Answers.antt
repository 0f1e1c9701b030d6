-- `logtable::place_of` meets its contract.
use mathlib.Core.Path.{sym}
use lib.Dec.{eqb}
use lib.ListN.{take}
use lib.Seq.{length-take-le}
use native.Mathlib.Omega.{arith}
use Rattle.std.proofs.Common.{rules, tests}
use Rattle.std.proofs.lemmas.Iterator.{YieldsList-from_slice}
use Rattle.std.proofs.lemmas.Iterator.Search.{position_from_yields_List}
use Rattle.logtable.specs.Tables.{places}
use Rattle.logtable.proofs.SeatLaws.{place-found}
use Rattle.logtable.proofs.place_of.Goals as goal

pub slice_bounds-iter-end : goal.slice_bounds-iter-end
slice_bounds-iter-end c = sym (length-take-le 64 c.args.table.now (omega (arith, c.requires)))

pub returns : goal.returns
returns c =
    place-found c.args.table.now c.args.txn c.requires _
    (position_from_yields_List (eqb c.args.txn) _ _ c.position.result c.position.ensures.ran (YieldsList-from_slice (take places c.args.table.now) cc) (λ x b q k. search (rules, tests)))
