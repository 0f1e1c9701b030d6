-- `keysets::without_lowest` meets its contract.
use Prim.Native.Nat.{ℕ, ◌-◌}
use mathlib.Core.Path.{sym, subst}
use native.Mathlib.Omega.{arith}
use borrow.Author.Rules.{rules}
use Rattle.keysets.specs.Parts.{IsRest}
use Rattle.keysets.proofs.SetLaws.{rest-is}
use Rattle.keysets.proofs.without_lowest.Goals as goal

pub overflow_sub-result : goal.overflow_sub-result
overflow_sub-result c = omega (arith, c.bit.ensures, (rest-is c.args.set c.lowest_key.result (search rules) c.lowest_key.ensures).0)

pub returns : goal.returns
returns c =
    let n = c.args.set in
    subst (λ (x : ℕ). IsRest n (n - x)) (sym c.bit.ensures) (rest-is n c.lowest_key.result (search rules) c.lowest_key.ensures).1
