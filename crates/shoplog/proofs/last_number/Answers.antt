-- `shoplog::last_number` meets its contract.
use mathlib.Core.Path.{sym, ap, ◌∙◌}
use Rattle.shoplog.specs.Parts.{number_of}
use Rattle.shoplog.proofs.LineLaws.{last-unread, last-is}
use Rattle.shoplog.proofs.last_number.Goals as goal

pub returns-in_err-n : goal.returns-in_err-n
unfolding number_of
returns-in_err-n c = rw c.from_residual.ensures (sym (last-unread _ _ c.number_in.ensures c.in_err-n.was))

pub returns : goal.returns
returns c = ap number_of c.then_some.ensures ∙ last-is _ _ c.number_in.ensures c.in_ok-n.n c.in_ok-n.at c.in_ok-n.was
