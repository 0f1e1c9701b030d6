-- `keysets::with_key` meets its contract.
use Prim.Native.Nat.{ℕ}
use mathlib.Core.Path.{ap, ◌∙◌}
use lib.Bits.{bit_or}
use Rattle.model.specs.Lists.{member}
use Rattle.model.specs.KeySets.{key_set}
use Rattle.keysets.proofs.SetLaws.{key-added}
use Rattle.keysets.proofs.with_key.Goals as goal

pub returns : goal.returns
returns c = λ j.
    let a = c.args in
    ap (λ (x : ℕ). member j (key_set (bit_or a.set x))) c.bit.ensures ∙ key-added a.set a.key c.requires j
