-- `keysets::keys_below` meets its contract.
use Prim.Native.Nat.{ℕ, ◌-◌}
use mathlib.Core.Path.{ap, ◌∙◌}
use lib.Pow.{pow_pos}
use lib.Bits.{bit_and}
use lib.Count.{ones}
use mir.Facts.{Fits-below}
use native.Mathlib.Omega.{arith}
use borrow.Author.Rules.{rules}
use Rattle.keysets.proofs.SetLaws.{count_most, below-is}
use Rattle.keysets.proofs.keys_below.Goals as goal

pub overflow_sub-result : goal.overflow_sub-result
overflow_sub-result c = omega (arith, c.bit.ensures, pow_pos c.args.key)

pub overflow_cast-result : goal.overflow_cast-result
overflow_cast-result c = Fits-below {n = 64} tt (count_most c.args.set _ (search rules))

pub returns : goal.returns
returns c =
    let a = c.args in
    ap (λ (x : ℕ). ones (bit_and a.set (x - 1))) c.bit.ensures ∙ below-is a.set a.key (search rules)
