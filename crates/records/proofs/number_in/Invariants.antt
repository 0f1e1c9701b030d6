-- `records::number_in` meets its contract.
use Rattle.std.specs.Slice.Iter.{iter_rest}
use Rattle.records.proofs.ByteLaws.{Summed}
use Rattle.records.proofs.number_in.Given as goal

abbrev pub invariant-loop-byte : goal.invariant-loop-byte
invariant-loop-byte l = Summed l.part (iter_rest l.byte-iterator.iter) l.sum
