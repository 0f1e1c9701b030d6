-- `recovery::scan_of` meets its contract.
use Rattle.std.proofs.Common.{sym, ap, ◌∙◌}
use Rattle.model.specs.Types.{Station}
use Rattle.model.specs.declared.Answer.TheVariants.{Found}
use Rattle.model.specs.Effects.{outcome_of, says}
use Rattle.model.specs.Stations.{empty_station}
use Rattle.model.specs.Listed.{listed_entries}
use Rattle.recovery.proofs.scan_of.Goals as goal

pub read_entries-requires : goal.read_entries-requires
read_entries-requires c = ap (λ (x : Station). x.entries) c.empty_of-station.ensures

pub returns-in-Ok : goal.returns-in-Ok
unfolding outcome_of says empty_station
returns-in-Ok c = ap (λ (x : Station). outcome_of (says (Found c.in-Ok.found) record { kind = x.kind; live = x.live; entries = listed_entries c.read_entries.new.entries })) c.empty_of-station.ensures ∙ sym (ap outcome_of c.in-Ok.ensures)

pub returns-in-Err : goal.returns-in-Err
unfolding outcome_of says
returns-in-Err c = ap (λ (x : Station). outcome_of (says c.in-Err.answer x)) c.empty_of-station.ensures ∙ sym (ap outcome_of c.in-Err.ensures)
