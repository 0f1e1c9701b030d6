-- `storing::no_read_room` meets its contract.
use mathlib.Core.Path.{sym, ◌∙◌}
use Rattle.model.specs.Lists.{◌and◌}
use Rattle.storing.proofs.no_read_room.Goals as goal

pub returns-then-not-has_read : goal.returns-then-not-has_read
unfolding ◌and◌
returns-then-not-has_read c = rw (sym c.has_read.ensures ∙ c.if-not-has_read.true)

pub returns-else-not-has_read : goal.returns-else-not-has_read
unfolding ◌and◌
returns-else-not-has_read c = rw (c.if-not-has_read.false, sym c.has_read.ensures ∙ c.if-not-has_read.false)
