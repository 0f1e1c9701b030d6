use native.Mathlib.Omega.{arith}
use borrow.Author.Rules.{rules}
use lib.ListN.{length}
use Rattle.std.proofs.Common.{◌≡◌}
use Rattle.model.specs.Listed.{listed_live}
use Rattle.model.proofs.InsideLaws.{reads-counted}
use Rattle.model.proofs.read_count.Goals as goal

pub returns-clause-value : goal.returns-clause-value
returns-clause-value c =
    let h : length c.args.l.reads ≡ 16 = search rules in
    (reads-counted (listed_live c.args.l) c.min.result h (omega arith)).1
