-- `resp::write_keys` meets its contract.
use Rattle.resp.proofs.KeysLaws.{first-low, listing-next, listing-ends, listing-some}
use Rattle.resp.proofs.write_keys.Goals as goal

pub loop-key-preserved : goal.loop-key-preserved
loop-key-preserved c =
    let e = c.in-Some.ensures.steps in
    listing-next c.requires.0 c.loop-key.invariant e _ _ (first-low _ _ _ e) (rw c.from.ensures at c.write_number-at.ensures)

pub overflow_sub-result : goal.overflow_sub-result
overflow_sub-result c = listing-some c.requires.0 c.loop-key.invariant c.requires.1 c.in-None.ensures.steps.0

pub returns : goal.returns
returns c = listing-ends c.requires.0 c.loop-key.invariant c.requires.1 c.in-None.ensures.steps.0
