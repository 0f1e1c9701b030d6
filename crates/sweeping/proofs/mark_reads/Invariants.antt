-- `sweeping::mark_reads` meets its contract.
use Prim.Native.Nat.{ℕ}
use lib.ListN.{take}
use Rattle.std.specs.Slice.Iter.{iter_rest}
use Rattle.model.specs.declared.Read.{Read}
use Rattle.model.specs.Ids.{same_id}
use Rattle.model.specs.Listed.{listed_live}
use Rattle.model.specs.Lives.{reads_of}
use Rattle.reading.specs.Columns.{id_at}
use Rattle.sweeping.proofs.MarkLoop.{MarksLeft}
use Rattle.sweeping.proofs.mark_reads.Given as goal

abbrev pub invariant-loop-read : goal.invariant-loop-read
invariant-loop-read l =
    MarksLeft (λ (r : Read) (d : ℕ). same_id (id_at l.clocks l.txns d) r.id) 64 l.initial.marks (reads_of (listed_live l.l)) (take l.read-iterator.n (iter_rest l.read-iterator.iter)) l.marks
