-- `keysets::nth_key` meets its contract. The loop's invariant: the rest has the keys from the counter on.
use mathlib.Core.Path.{◌≡◌}
use lib.ListN.{drop}
use Rattle.model.specs.KeySets.{key_set}
use Rattle.keysets.proofs.nth_key.Given as goal

abbrev pub invariant-loop : goal.invariant-loop
invariant-loop l = key_set l.rest ≡ drop l.counter (key_set l.set)
