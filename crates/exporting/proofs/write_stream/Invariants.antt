-- `exporting::write_stream` meets its contract.
use Rattle.std.specs.Slice.Iter.{iter_rest}
use Rattle.std.specs.Iterator.Adapters.{rev_source}
use Rattle.model.specs.Listed.{listed_entries}
use Rattle.exporting.proofs.StreamLaws.{Streaming}
use Rattle.exporting.proofs.write_stream.Given as goal

abbrev pub invariant-loop-slot : goal.invariant-loop-slot
invariant-loop-slot l = Streaming l.initial.out l.store (listed_entries l.entries) l.fn.order.slots l.fn.order.n l.out l.at (iter_rest (rev_source l.slot-iterator))
