-- `keysets::key_bytes` meets its contract.
use Rattle.model.specs.KeySets.{key_set}
use Rattle.keysets.specs.Parts.{keys_left}
use Rattle.keysets.proofs.RowLaws.{Storing}
use Rattle.keysets.proofs.key_bytes.Given as goal

abbrev pub invariant-loop-n : goal.invariant-loop-n
invariant-loop-n l = Storing (key_set l.set) l.out (keys_left l.n-iterator.iter) l.n-iterator.count
