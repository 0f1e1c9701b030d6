use mathlib.Core.Path.{subst}
use Rattle.model.specs.KeySets.{key_set}
use Rattle.keysets.proofs.RowLaws.{Storing, storing-starts, storing-next, storing-ends}
use Rattle.keysets.proofs.key_bytes.Goals as goal

pub loop-n-init : goal.loop-n-init
loop-n-init c = let e = c.enumerate-n-items.ensures in rw (c.into_iter-n-iterator.ensures.into_iter_gives, e.source, e.count) (storing-starts (key_set c.args.set) c.requires)

pub loop-n-preserved : goal.loop-n-preserved
loop-n-preserved c =
    let s = c.in-Some.ensures.steps in
    rw (s.1, s.2) (storing-next _ _ _ _ _ (subst (λ ks. Storing (key_set c.args.set) c.loop-n.out ks c.loop-n.n-iterator.count) s.0 c.loop-n.invariant))

pub returns : goal.returns
returns c = storing-ends _ _ _ _ c.loop-n.invariant c.in-None.ensures.steps.0.0
