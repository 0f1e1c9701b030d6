-- `logtable::is_another` meets its contract.
use mathlib.Core.Path.{ap, ap₂, ◌∙◌}
use mathlib.Core.Bool.{not}
use Rattle.model.specs.Lists.{member}
use Rattle.model.proofs.StdWords.{list_any-member}
use Rattle.logtable.specs.Findings.{is_another}
use Rattle.logtable.proofs.is_another.Goals as goal

pub returns : goal.returns
unfolding is_another
returns c =
    ap not (c.contains.ensures.value ∙ list_any-member c.read_word.result c.reads_of.result.now ∙ ap₂ member c.read_word.ensures c.reads_of.ensures)
