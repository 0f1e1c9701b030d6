use mathlib.Core.Path.{◌≡◌, ap, ◌∙◌}
use lib.ListN.{get_or}
use native.Mathlib.Omega.{arith}
use Rattle.model.specs.KeySets.{key_set}
use Rattle.keysets.proofs.RowLaws.{rest_some, rest-next, rest-lowest}
use Rattle.keysets.proofs.nth_key.Goals as goal

pub without_lowest-rest-requires : goal.without_lowest-rest-requires
without_lowest-rest-requires c = rest_some (key_set c.args.set) _ c.loop.counter c.loop.invariant (omega (arith, c.loop-test.true, c.requires))

pub loop-preserved : goal.loop-preserved
loop-preserved c = rest-next (key_set c.args.set) _ c.loop.counter c.loop.invariant (omega (arith, c.loop-test.true, c.requires)) _ c.without_lowest-rest.ensures

-- at the end the counter is n
pub lowest_key-requires : goal.lowest_key-requires
lowest_key-requires c = rest_some (key_set c.args.set) _ c.loop.counter c.loop.invariant (omega (arith, c.loop.auto.counter-end, c.requires))

pub returns : goal.returns
returns c =
    let ks = key_set c.args.set in
    let q : c.loop.counter ≡ c.args.n = omega (arith, c.loop.auto.counter-end, c.loop-test.false) in
    rest-lowest ks _ c.loop.counter c.loop.invariant (omega (arith, q, c.requires)) _ c.lowest_key.ensures ∙ ap (λ i. get_or ks i 0) q
