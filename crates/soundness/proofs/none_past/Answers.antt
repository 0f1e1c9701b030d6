use Rattle.std.proofs.Common.{◌≡◌, ◌∙◌, ◌+◌, ◌-◌, eqb, drop, arith, length-drop}
use borrow.Author.Rules.{rules}
use borrow.Author.Tests.{tests}
use Rattle.std.proofs.lemmas.List.{take_all}
use Rattle.std.proofs.lemmas.Iterator.Search.{all_from_yields_List}
use Rattle.std.proofs.lemmas.Iterator.{YieldsList-from_slice}
use Rattle.model.specs.Lists.{all}
use Rattle.model.proofs.StdWords.{list_all-all, eqb-swap}
use Rattle.soundness.specs.Parts.{none_past}
use Rattle.soundness.proofs.none_past.Goals as goal

pub returns : goal.returns
unfolding none_past
returns c =
    let xs = drop (8 + c.args.most) c.args.txns.now in
    let e : c.iter.result.rest.now ≡ xs = c.iter.ensures.rest ∙ take_all (72 - (8 + c.args.most)) xs (omega (arith, c.told-txns, length-drop (8 + c.args.most) c.args.txns.now)) in
    all_from_yields_List (λ t. eqb t 0) _ _ _ c.all.ensures.ran (YieldsList-from_slice xs e) (λ x b q k. search (rules, tests)) ∙ list_all-all _ _
    ∙ (λ i. all (λ t. eqb-swap t 0 i) xs)
