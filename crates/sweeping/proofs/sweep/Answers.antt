-- `sweeping::sweep` meets its contract.
use mathlib.Core.Path.{refl, sym, ◌∙◌}
use Rattle.model.specs.Listed.{listed}
use Rattle.stations.proofs.RowLaws.{numbered}
use Rattle.sweeping.proofs.SweepRows.{sweep-refused, sweep-allowed}
use Rattle.sweeping.proofs.sweep.Goals as goal

pub returns-in-Err : goal.returns-in-Err
returns-in-Err c = sweep-refused _ _ _ _ c.requires _ (c.number.ensures ∙ c.in-Err.ensures) (λ z. numbered c.in-Err.row (sym c.number.ensures ∙ z))

pub to_collect-order-requires : goal.to_collect-order-requires
to_collect-order-requires c = tt

pub collect_all-requires : goal.collect_all-requires
collect_all-requires c =
    let a = sweep-allowed (listed c.args.station) c.args.store.now c.args.limit c.args.tested c.requires _ (sym c.in_default.ensures) refl in
    record { store_len = a.0; station_value = (a.1, a.2, a.3); are_to_collect = c.to_collect-order.ensures _ a.1 }
