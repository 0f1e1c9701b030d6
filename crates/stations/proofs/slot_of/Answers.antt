use borrow.Author.Rules.{rules}
use borrow.Author.Tests.{tests}
use Rattle.std.proofs.lemmas.Iterator.{YieldsList-from_slice}
use Rattle.std.proofs.lemmas.Iterator.Search.{position_from_yields_List}
use Rattle.model.specs.Listed.{listed_entry}
use Rattle.stations.specs.Found.{entry_txn}
use Rattle.stations.proofs.Search.{first_translated}
use Rattle.stations.proofs.slot_of.Goals as goal

pub returns : goal.returns
returns c =
    let a = c.args in
    first_translated entry_txn listed_entry a.txn a.entries 64 _ _ c.unwrap_or.ensures
    (position_from_yields_List _ _ _ _ c.position.ensures.ran (YieldsList-from_slice a.entries cc) (λ x b q k. search (rules, tests))) (search rules)
