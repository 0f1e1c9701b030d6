-- `interface::gorehimu_check_log` meets its contract.
use mathlib.Core.Path.{ap, ◌∙◌}
use lib.ListN.{length}
use borrow.Author.Tests.{eq-eqb, ne_eqb}
use Rattle.interface.specs.Exchange.{answer_size}
use Rattle.interface.specs.Verdicts.{verdict_bytes}
use Rattle.interface.proofs.LengthLaws.{cond_yes, cond_no}
use Rattle.interface.proofs.gorehimu_check_log.Goals as goal

pub returns-then-answer-ne-ANSWER : goal.returns-then-answer-ne-ANSWER
returns-then-answer-ne-ANSWER c =
    let e = ne_eqb (length c.args.answer.now) answer_size c.if-answer-ne-ANSWER.true in
    record { value = cond_no _ _ _ e; answer_after = cond_no _ _ _ e }

pub returns : goal.returns
returns c =
    let e = eq-eqb (length c.args.answer.now) answer_size c.if-answer-ne-ANSWER.false in
    record { value = cond_yes _ _ _ e; answer_after = c.write_verdict.ensures ∙ ap verdict_bytes c.check_log-verdict.ensures ∙ cond_yes _ _ _ e }
