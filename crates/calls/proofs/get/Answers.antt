-- `calls::get` meets its contract. Assumes nothing.
use mathlib.Core.Path.{ap, ◌∙◌}
use Rattle.model.specs.Listed.{listed_outcome}
use Rattle.stations.proofs.Changes.{comes-to, is-inside}
use Rattle.calls.proofs.get.Goals as goal

pub changed-requires : goal.changed-requires
changed-requires c = is-inside _ _ _ c.get-change.ensures

pub returns : goal.returns
returns c = ap listed_outcome c.changed.ensures ∙ comes-to _ _ _ c.get-change.ensures
