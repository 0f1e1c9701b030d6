-- `logtable::overwrites` meets its contract.
use mathlib.Core.Path.{sym, ◌∙◌}
use Rattle.model.specs.Lists.{◌and◌}
use Rattle.logtable.proofs.overwrites.Goals as goal

pub returns-then-has_key : goal.returns-then-has_key
unfolding ◌and◌
returns-then-has_key c = rw (sym c.has_key.ensures ∙ c.if-has_key.true) c.older_at.ensures

pub returns-else-has_key : goal.returns-else-has_key
unfolding ◌and◌
returns-else-has_key c = rw (← c.has_key.ensures, c.if-has_key.false)
