-- `records::keys_ascend` meets its contract.
use mathlib.Core.Path.{◌≡◌}
use lib.ListN.{drop}
use Rattle.model.specs.Limits.{keys}
use Rattle.model.specs.Lists.{ascending}
use Rattle.records.proofs.keys_ascend.Given as goal

abbrev pub invariant-loop-k : goal.invariant-loop-k
invariant-loop-k l = ascending 0 keys l.ks ≡ ascending l.low keys (drop l.k-index l.ks)
