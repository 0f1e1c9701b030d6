-- `lines::same_bytes` meets its contract.
use mathlib.Core.Path.{◌∙◌}
use Rattle.lines.proofs.SameLaws.{pointwise-same}
use Rattle.lines.proofs.same_bytes.Goals as goal

pub returns : goal.returns
returns c = c.eq.ensures ∙ pointwise-same c.args.a.now c.args.b.now
