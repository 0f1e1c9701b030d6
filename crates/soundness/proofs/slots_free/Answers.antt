use Rattle.std.proofs.Common.{◌∙◌}
use borrow.Author.Rules.{rules}
use borrow.Author.Tests.{tests}
use Rattle.std.proofs.lemmas.Iterator.Search.{all_from_yields_List}
use Rattle.std.proofs.lemmas.Iterator.{YieldsList-from_slice}
use Rattle.model.proofs.StdWords.{list_all-all}
use Rattle.soundness.specs.Parts.{slot_free}
use Rattle.soundness.proofs.slots_free.Goals as goal

pub returns : goal.returns
returns c = all_from_yields_List (slot_free c.args.most c.args.txns.now) _ _ _ c.all.ensures.ran (YieldsList-from_slice c.args.marks.now cc) (λ x b q k. search (rules, tests)) ∙ list_all-all _ _
