-- `keysets::is_within` meets its contract.
use borrow.Author.Rules.{rules}
use Rattle.model.specs.KeySets.{key_set}
use Rattle.model.proofs.KeySetLaws.{covered}
use Rattle.keysets.proofs.is_within.Goals as goal

pub returns : goal.returns
unfolding key_set
returns c = covered 64 c.args.set c.args.other (search rules) (search rules)
