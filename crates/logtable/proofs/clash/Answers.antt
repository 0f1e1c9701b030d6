-- `logtable::clash` meets its contract.
use mathlib.Core.Path.{sym, ◌∙◌}
use Rattle.model.specs.Lists.{◌or◌}
use Rattle.logtable.specs.Findings.{clash}
use Rattle.logtable.proofs.clash.Goals as goal

pub returns-then-overwrites : goal.returns-then-overwrites
unfolding clash ◌or◌
returns-then-overwrites c = rw (← c.overwrites.ensures, c.if-overwrites.true)

pub returns-else-overwrites : goal.returns-else-overwrites
unfolding clash ◌or◌
returns-else-overwrites c = rw (sym c.overwrites.ensures ∙ c.if-overwrites.false) c.overwrites-else-overwrites.ensures
