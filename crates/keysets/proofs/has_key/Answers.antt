-- `keysets::has_key` meets its contract.
use Prim.Native.Nat.{ℕ}
use mathlib.Core.Path.{sym, ap, ◌∙◌}
use mathlib.Core.Bool.{not}
use lib.Dec.{eqb}
use lib.Bits.{bit_and}
use borrow.Author.Tests.{le-ltb}
use borrow.Author.Rules.{rules}
use Rattle.keysets.proofs.SetLaws.{key-tested, key-far}
use Rattle.keysets.proofs.has_key.Goals as goal

pub returns-then-key-lt-KEYS_U8 : goal.returns-then-key-lt-KEYS_U8
returns-then-key-lt-KEYS_U8 c =
    let a = c.args in
    ap (λ (x : ℕ). not (eqb (bit_and a.set x) 0)) c.bit.ensures ∙ key-tested a.set a.key (search rules)

pub returns-else-key-lt-KEYS_U8 : goal.returns-else-key-lt-KEYS_U8
returns-else-key-lt-KEYS_U8 c = le-ltb _ _ c.if-key-lt-KEYS_U8.false ∙ sym (key-far c.args.set c.args.key c.if-key-lt-KEYS_U8.false)
