-- `desk::tested_after` meets its contract. Assumes nothing.
use mathlib.Core.Path.{sym, ◌∙◌}
use Rattle.model.specs.Lists.{◌or◌}
use Rattle.desk.proofs.tested_after.Goals as goal

pub returns-then-asks_scan : goal.returns-then-asks_scan
unfolding ◌or◌
returns-then-asks_scan c = rw (sym c.asks_scan.ensures ∙ c.if-asks_scan.true) c.if-asks_scan.true

pub returns-else-asks_scan : goal.returns-else-asks_scan
unfolding ◌or◌
returns-else-asks_scan c = rw (sym c.asks_scan.ensures ∙ c.if-asks_scan.false)
