-- `sweeping::read_of` meets its contract.
use Prim.Native.Nat.{ℕ}
use mathlib.Core.Bool.{false}
use lib.ListN.{replicate}
use Rattle.model.specs.Types.{Live}
use Rattle.model.specs.Listed.{listed_lives}
use Rattle.model.specs.Lives.{reads_of}
use Rattle.reading.specs.Columns.{id_at, has_id}
use Rattle.sweeping.proofs.MarkLoop.{AlsoAny}
use Rattle.sweeping.proofs.read_of.Given as goal

abbrev pub invariant-loop-l : goal.invariant-loop-l
invariant-loop-l l = AlsoAny (λ (r : Live) (d : ℕ). has_id (reads_of r) (id_at l.clocks l.txns d)) (listed_lives l.live) 64 (replicate 64 false) l.l-index l.marks
