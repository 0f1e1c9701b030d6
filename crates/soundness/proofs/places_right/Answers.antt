use Rattle.std.proofs.Common.{◌∙◌}
use borrow.Author.Rules.{rules}
use borrow.Author.Tests.{tests}
use Rattle.std.proofs.lemmas.Iterator.Search.{all_from_yields_List}
use Rattle.std.proofs.lemmas.Iterator.{YieldsList-from_slice}
use Rattle.model.proofs.StdWords.{list_all-all}
use Rattle.model.specs.Listed.{kind_of, listed_live, listed_entries}
use Rattle.soundness.specs.Parts.{place_fits}
use Rattle.soundness.proofs.PartLaws.{all-map-is}
use Rattle.soundness.proofs.places_right.Goals as goal

pub returns : goal.returns
returns c =
    let fits = place_fits (kind_of c.args.kind) (listed_entries c.args.entries.now) c.args.txns.now in
    all_from_yields_List (λ l. fits (listed_live l)) _ _ _ c.all.ensures.ran (YieldsList-from_slice c.args.live.now cc) (λ x b q k. search (rules, tests))
    ∙ list_all-all (λ l. fits (listed_live l)) c.args.live.now ∙ all-map-is listed_live fits c.args.live.now
