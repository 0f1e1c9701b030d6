-- `desk::act` meets its contract. Assumes nothing.
use mathlib.Core.Path.{ap, ◌∙◌}
use Rattle.model.specs.Listed.{listed_outcome}
use Rattle.stations.proofs.Changes.{comes-to, is-inside}
use Rattle.model.specs.Calls.{is_scan}
use Rattle.sheet.specs.declared.Command.{Command}
use Rattle.desk.specs.Acts.{acted, call_of, asks_scan}
use Rattle.desk.proofs.ActLaws.{scan-acts, not_scan, not-sweep, sweep-acts}
use Rattle.desk.proofs.act.Goals as goal

pub returns-in-Cut : goal.returns-in-Cut
unfolding call_of asks_scan is_scan
returns-in-Cut c = scan-acts _ _ _ (ap (λ (x : Command). asks_scan (call_of x)) c.in-Cut.is) _ c.scan_of.ensures

pub returns-in-Sweep : goal.returns-in-Sweep
returns-in-Sweep c = sweep-acts _ _ _ _ c.in-Sweep.is _ c.sweep.ensures.0 _ c.sweep.ensures.1

pub decide-change-requires : goal.decide-change-requires
decide-change-requires c = let q = c.args.request.command in (c.requires, not_scan q c.in_default.not-Cut, not-sweep q c.in_default.not-Sweep)

pub changed-requires : goal.changed-requires
changed-requires c = is-inside _ _ _ c.decide-change.ensures.0

pub returns-in_default : goal.returns-in_default
unfolding acted
returns-in_default c = (ap listed_outcome c.changed.ensures ∙ comes-to _ _ _ c.decide-change.ensures.0, c.decide-change.ensures.1)
