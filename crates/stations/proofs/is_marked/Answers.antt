use mathlib.Core.Path.{◌∙◌}
use lib.Dec.{eqb}
use borrow.Author.Rules.{rules}
use borrow.Author.Tests.{tests}
use Rattle.std.proofs.lemmas.Iterator.{YieldsList-from_slice}
use Rattle.std.proofs.lemmas.Iterator.Search.{any_from_yields_List}
use Rattle.model.specs.Listed.{listed_live}
use Rattle.model.proofs.StdWords.{list_any-any}
use Rattle.stations.specs.Found.{live_mark}
use Rattle.stations.proofs.Search.{member-translated}
use Rattle.stations.proofs.is_marked.Goals as goal

pub returns : goal.returns
returns c =
    let a = c.args in
    any_from_yields_List (λ l. eqb a.mark (live_mark (listed_live l))) _ _ _ c.any.ensures.ran (YieldsList-from_slice a.live.now cc) (λ x b q k. search (rules, tests))
    ∙ (list_any-any _ a.live.now ∙ member-translated live_mark listed_live a.mark a.live.now)
