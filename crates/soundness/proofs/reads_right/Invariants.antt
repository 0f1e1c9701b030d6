use Rattle.std.proofs.Common.{take}
use Rattle.model.specs.Listed.{listed_entries}
use Rattle.model.specs.Lives.{read_key}
use Rattle.model.specs.Sound.{is_no_read}
use Rattle.soundness.specs.Parts.{named_by}
use Rattle.soundness.proofs.SetLoop.{SetPassed}
use Rattle.soundness.proofs.reads_right.Given as goal

abbrev pub invariant-loop-read : goal.invariant-loop-read
invariant-loop-read l = SetPassed read_key (named_by (listed_entries l.entries) l.txns) is_no_read l.n (take l.n l.l.reads) l.low l.read-index
