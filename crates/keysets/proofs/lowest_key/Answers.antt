-- `keysets::lowest_key` meets its contract.
use lib.Count.{trailing_le}
use native.Mathlib.Omega.{arith}
use borrow.Author.Rules.{rules}
use Rattle.keysets.proofs.SetLaws.{lowest-is}
use Rattle.keysets.proofs.lowest_key.Goals as goal

pub overflow_cast-result : goal.overflow_cast-result
overflow_cast-result c = omega (arith, trailing_le 64 c.args.set)

pub returns : goal.returns
returns c = lowest-is c.args.set (search rules) c.requires
