use mathlib.Core.Path.{refl, ◌∙◌}
use borrow.Author.Rules.{rules}
use borrow.Author.Tests.{tests}
use Rattle.std.proofs.lemmas.Iterator.{YieldsList-from_slice}
use Rattle.std.proofs.lemmas.Iterator.Search.{position_from_yields_List}
use Rattle.model.specs.Lives.{read_key}
use Rattle.model.proofs.StdWords.{first_from_position}
use Rattle.stations.specs.Found.{at_least}
use Rattle.stations.proofs.place_for.Goals as goal

pub returns : goal.returns
returns c =
    let rs = c.args.reads.now in
    c.unwrap_or.ensures
    ∙ first_from_position (at_least read_key c.args.key) rs _ _ (position_from_yields_List _ _ _ _ c.position.ensures.ran (YieldsList-from_slice rs cc) (λ x b q k. search (rules, tests))) refl
