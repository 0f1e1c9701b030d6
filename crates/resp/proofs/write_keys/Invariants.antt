-- `resp::write_keys` meets its contract.
use Rattle.model.specs.KeySets.{key_set}
use Rattle.keysets.specs.Parts.{keys_left}
use Rattle.resp.proofs.KeysLaws.{Listing}
use Rattle.resp.proofs.write_keys.Given as goal

abbrev pub invariant-loop-key : goal.invariant-loop-key
invariant-loop-key l = Listing l.initial.out (key_set l.set) l.out (keys_left l.key-iterator) l.at
