-- `keysets::key_count` meets its contract.
use lib.Count.{ones-le}
use mir.Facts.{Fits-below}
use borrow.Author.Rules.{rules}
use Rattle.keysets.proofs.SetLaws.{count-is}
use Rattle.keysets.proofs.key_count.Goals as goal

pub overflow_cast-result : goal.overflow_cast-result
overflow_cast-result c = Fits-below {n = 64} tt (ones-le 64 _ (search rules))

pub returns : goal.returns
returns c = count-is c.args.set (search rules)
