use Rattle.std.proofs.Common.{◌∙◌, rules, tests}
use Rattle.std.proofs.lemmas.Iterator.{YieldsList-from_slice}
use Rattle.std.proofs.lemmas.Iterator.Search.{any_from_yields_List}
use Rattle.model.specs.Listed.{kind_of}
use Rattle.model.proofs.StdWords.{list_any-any}
use Rattle.moving.proofs.MoveAnswers.{many-keys, sets-wide}
use Rattle.moving.proofs.too_wide.Goals as goal

pub returns : goal.returns
returns c =
    any_from_yields_List (many-keys (kind_of c.args.kind).write_limit) _ _ _ c.any.ensures.ran (YieldsList-from_slice c.args.entries.now cc) (λ x b q k. search (rules, tests))
    ∙ list_any-any _ _ ∙ sets-wide (kind_of c.args.kind) c.args.entries.now
