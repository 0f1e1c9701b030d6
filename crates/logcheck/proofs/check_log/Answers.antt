-- `logcheck::check_log` meets its contract.
use mathlib.Core.Path.{◌≡◌, refl, sym, ap, ◌∙◌}
use Rattle.shoplog.specs.declared.Verdict.{Verdict}
use Rattle.shoplog.specs.Logs.{verdict_of}
use Rattle.logcheck.specs.Checking.{verdict_at}
use Rattle.logcheck.specs.Parts.{checking_of}
use Rattle.logcheck.proofs.CheckedLaws.{verdict-stopped}
use Rattle.logcheck.proofs.VerdictLaws.{checked-verdict}
use Rattle.logcheck.proofs.check_log.Goals.{After-check_block-checked}
use Rattle.logcheck.proofs.check_log.Goals as goal

-- what was kept of the whole log gives its verdict
checked : (c : After-check_block-checked)
    → (let b = c.check_block-checked in
    verdict_at (checking_of b.result.verdict b.new.table b.result.above b.new.part b.result.len) ≡ verdict_of c.args.log.now)
checked c = checked-verdict c.args.log.now _ _ c.check_block-checked.ensures.0

pub returns-in_default : goal.returns-in_default
unfolding checking_of
returns-in_default c =
    let k = (goal.at.returns-in_default c).After-check_block-checked in
    verdict-stopped _ k.check_block-checked.result.verdict refl c.in_default.not-Clean ∙ checked k

pub returns-in-Clean : goal.returns-in-Clean
returns-in-Clean c =
    let k = (goal.at.returns-in-Clean c).After-check_block-checked in
    let d = k.check_block-checked in
    c.check_end.ensures ∙ ap (λ (v : Verdict). verdict_at (checking_of v d.new.table d.result.above d.new.part d.result.len)) (sym c.in-Clean.is) ∙ checked k
