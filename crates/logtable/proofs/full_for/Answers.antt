-- `logtable::full_for` meets its contract.
use mathlib.Core.Path.{sym, ◌∙◌}
use Rattle.model.specs.Lists.{◌and◌}
use Rattle.logtable.specs.Findings.{full_for}
use Rattle.logtable.proofs.full_for.Goals as goal

pub returns-then-not-has_key : goal.returns-then-not-has_key
unfolding full_for ◌and◌
returns-then-not-has_key c = rw (sym c.has_key.ensures ∙ c.if-not-has_key.true, sym c.key_count.ensures)

pub returns-else-not-has_key : goal.returns-else-not-has_key
unfolding full_for ◌and◌
returns-else-not-has_key c = rw (← c.has_key.ensures, c.if-not-has_key.false)
