-- `keysets::set_of` meets its contract.
use Rattle.keysets.proofs.MadeLaws.{Made}
use Rattle.keysets.proofs.set_of.Given as goal

abbrev pub invariant-loop-k : goal.invariant-loop-k
invariant-loop-k l = Made l.ks l.k-index l.set
