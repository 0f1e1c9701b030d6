use mathlib.Core.Path.{ap, ◌∙◌}
use Rattle.model.specs.KeySets.{key_set}
use Rattle.model.proofs.KeySetLaws.{set-none}
use Rattle.keysets.proofs.KeysIterator.next.Goals as goal

pub returns-then-self-eq0-clause-steps : goal.returns-then-self-eq0-clause-steps
returns-then-self-eq0-clause-steps c = let none = ap key_set c.if-self-eq0.true ∙ set-none in (none, none)
