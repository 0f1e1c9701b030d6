use mathlib.Core.Path.{◌∙◌}
use Rattle.model.specs.Listed.{listed_live}
use Rattle.reading.specs.Columns.{has_id}
use Rattle.reading.proofs.Loops.{reads_taken}
use Rattle.sweeping.proofs.MarkLoop.{left-all, left-more, left-none, take-more, take-none}
use Rattle.sweeping.proofs.mark_reads.Goals as goal

pub loop-read-init : goal.loop-read-init
loop-read-init c = left-all _ _ _ _ _ ((cc) ∙ reads_taken (listed_live c.args.l.now) c.read_count.result c.read_count.ensures.value)

pub loop-read-preserved : goal.loop-read-preserved
loop-read-preserved c = let h = c.in-Some.ensures.steps in left-more _ _ _ _ _ _ c.loop-read.invariant _ _ _ (take-more _ _ _ _ _ h.0 h.1) c.mark_id.ensures

pub returns : goal.returns
unfolding has_id
returns c = left-none _ _ _ _ _ _ c.loop-read.invariant (take-none _ _ (λ o. (c.in-None.ensures.steps o).0))
