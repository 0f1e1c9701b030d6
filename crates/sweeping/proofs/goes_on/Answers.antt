-- `sweeping::goes_on` meets its contract.
use mathlib.Core.Path.{ap}
use Prim.Native.Nat.{ℕ}
use lib.Dec.{ltb}
use native.Mathlib.Omega.{arith}
use borrow.Author.Rules.{rules}
use borrow.Author.Tests.{lt-ltb, le-ltb}
use Rattle.model.specs.Lists.{◌and◌}
use Rattle.sweeping.proofs.goes_on.Goals as goal

pub returns-then-left-ne0 : goal.returns-then-left-ne0
unfolding ◌and◌
returns-then-left-ne0 c = rw (lt-ltb 0 c.args.left (omega (arith, c.if-left-ne0.true))) (ap (λ (x : ℕ). ltb x c.args.limit) c.from.ensures)

pub returns-else-left-ne0 : goal.returns-else-left-ne0
unfolding ◌and◌
returns-else-left-ne0 c = rw (le-ltb 0 c.args.left (omega (arith, c.if-left-ne0.false))) (search rules)
