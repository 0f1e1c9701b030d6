use mathlib.Core.Path.{sym, ◌∙◌}
use borrow.Author.Rules.{rules}
use Rattle.model.specs.KeySets.{key_set}
use Rattle.model.specs.Lives.{writes_of}
use Rattle.model.proofs.KeySetLaws.{set-ones}
use Rattle.model.proofs.ValuedLaws.{valued-count}
use Rattle.model.proofs.write_count.Goals as goal

pub returns : goal.returns
unfolding writes_of
returns c = let l = c.args.l in sym (set-ones l.keys (search rules)) ∙ sym (valued-count (key_set l.keys) l.values)
