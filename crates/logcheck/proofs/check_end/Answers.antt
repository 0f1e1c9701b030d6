-- `logcheck::check_end` meets its contract.
use mathlib.Core.Path.{sym, ◌∙◌}
use lib.Seq.{length-take-le}
use native.Mathlib.Omega.{arith}
use Rattle.logcheck.proofs.EndLaws.{end_none, end_line}
use Rattle.logcheck.proofs.check_end.Goals as goal

pub returns-then-len-eq0 : goal.returns-then-len-eq0
returns-then-len-eq0 c =
    let a = c.args in
    end_none a.table.now a.above a.part.now a.len c.if-len-eq0.true

pub slice_bounds-judge_line-end : goal.slice_bounds-judge_line-end
slice_bounds-judge_line-end c =
    sym (length-take-le c.args.len c.args.part.now (omega (arith, c.requires.1, c.requires.2)))

pub returns-else-len-eq0 : goal.returns-else-len-eq0
returns-else-len-eq0 c =
    let a = c.args in
    c.judge_line.ensures.0 ∙ end_line a.table.now a.above a.part.now a.len c.if-len-eq0.false (omega (arith, c.requires.1, c.requires.2))
