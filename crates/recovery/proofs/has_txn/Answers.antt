use Rattle.std.proofs.Common.{take, ◌∙◌}
use Rattle.model.proofs.StdWords.{list_any-member}
use Rattle.recovery.proofs.has_txn.Goals as goal

pub returns : goal.returns
returns c = c.contains.ensures.value ∙ list_any-member c.args.txn (take c.args.below c.args.txns.now)
