use Rattle.std.proofs.Common.{eqb}
use Rattle.model.specs.Lists.{◌and◌}
use Rattle.model.specs.Sound.{is_no_read}
use Rattle.soundness.proofs.OrLoop.{OrPassed}
use Rattle.soundness.proofs.no_reads.Given as goal

-- the fields or-ed are 0 where the reads passed are zero
abbrev pub invariant-loop-read : goal.invariant-loop-read
invariant-loop-read l = OrPassed is_no_read l.reads (eqb l.keys 0 and (eqb l.clocks 0 and eqb l.txns 0)) l.read-index
