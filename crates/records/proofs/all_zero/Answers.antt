-- `records::all_zero` meets its contract.
use mathlib.Core.Path.{◌∙◌}
use lib.Dec.{eqb}
use Rattle.std.proofs.Common.{rules, tests}
use Rattle.std.proofs.lemmas.Iterator.{YieldsList-from_slice}
use Rattle.std.proofs.lemmas.Iterator.Search.{all_from_yields_List}
use Rattle.model.proofs.StdWords.{list_all-all, eqb-swap}
use Rattle.records.proofs.all_zero.Goals as goal

pub returns : goal.returns
returns c =
    all_from_yields_List (eqb 0) _ _ _ c.all.ensures.ran (YieldsList-from_slice c.args.bytes.now cc) (λ x b q k. search (rules, tests, eqb-swap))
    ∙ list_all-all (eqb 0) c.args.bytes.now
