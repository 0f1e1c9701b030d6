use mathlib.Core.Path.{refl}
use native.Mathlib.Omega.{arith}
use Rattle.keysets.proofs.MadeLaws.{made_none, made_more, made_all, key-low}
use Rattle.keysets.proofs.set_of.Goals as goal

pub loop-k-init : goal.loop-k-init
loop-k-init c = made_none c.args.ks.now

pub with_key-set-requires : goal.with_key-set-requires
with_key-set-requires c = key-low c.args.ks.now c.loop-k.k-index c.requires (omega arith)

pub loop-k-preserved : goal.loop-k-preserved
loop-k-preserved c = made_more c.args.ks.now c.loop-k.k-index c.loop-k.set _ _ (omega arith) refl c.loop-k.invariant c.with_key-set.ensures

pub returns : goal.returns
returns c = made_all c.args.ks.now c.loop-k.k-index c.loop-k.set (omega arith) c.requires c.loop-k.invariant
