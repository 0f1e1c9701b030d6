use Rattle.std.proofs.Common.{arith, get_or}
use Rattle.std.proofs.lemmas.Grind.{common_steps}
use Rattle.model.specs.Lists.{◌and◌}
use Rattle.model.specs.Lives.{no_read}
use Rattle.model.specs.Sound.{is_no_read}
use Rattle.soundness.proofs.OrLoop.{or-start, or-next, or-done, read-or}
use Rattle.soundness.proofs.no_reads.Goals as goal

pub loop-read-init : goal.loop-read-init
unfolding ◌and◌
loop-read-init c = or-start is_no_read _

pub loop-read-preserved : goal.loop-read-preserved
loop-read-preserved c =
    let l = c.loop-read in
    or-next is_no_read _ _ _ l.invariant no_read _ (omega arith) (read-or l.keys l.clocks l.txns (get_or c.args.reads.now l.read-index no_read))

pub returns-then-clocks-eq0 : goal.returns-then-clocks-eq0
unfolding ◌and◌
returns-then-clocks-eq0 c = rw (← (or-done is_no_read _ _ _ c.loop-read.invariant (omega arith))) (grind (arith, common_steps))

pub returns-else-clocks-eq0 : goal.returns-else-clocks-eq0
unfolding ◌and◌
returns-else-clocks-eq0 c = rw (← (or-done is_no_read _ _ _ c.loop-read.invariant (omega arith))) (grind (arith, common_steps))
