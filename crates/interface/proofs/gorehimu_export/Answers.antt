-- `interface::gorehimu_export` meets its contract.
use mathlib.Core.Path.{◌≡◌, ap, ◌∙◌}
use mathlib.Core.Bool.{true}
use lib.Dec.{eqb}
use lib.ListN.{length}
use borrow.Author.Tests.{eq-eqb, ne_eqb}
use Rattle.interface.specs.Exchange.{answer_size}
use Rattle.interface.specs.Transfers.{transfer_bytes, exported_kind}
use Rattle.interface.proofs.LengthLaws.{cond_yes, cond_no}
use Rattle.interface.proofs.gorehimu_export.Goals.{Else-answer-ne-ANSWER}
use Rattle.interface.proofs.gorehimu_export.Goals as goal

pub returns-then-answer-ne-ANSWER : goal.returns-then-answer-ne-ANSWER
returns-then-answer-ne-ANSWER c =
    let e = ne_eqb (length c.args.answer.now) answer_size c.if-answer-ne-ANSWER.true in
    record { value = cond_no _ _ _ e; target_after = cond_no _ _ _ e; answer_after = cond_no _ _ _ e }

fit : (c : Else-answer-ne-ANSWER) → eqb (length c.args.answer.now) answer_size ≡ true
fit c = eq-eqb _ _ c.if-answer-ne-ANSWER.false

pub returns : goal.returns
returns c =
    let e = fit (goal.at.returns c).Else-answer-ne-ANSWER in
    let r = c.export-said.ensures in
    record { value = cond_yes _ _ _ e; target_after = r.1 ∙ cond_yes _ _ _ e; answer_after = c.write_transfer.ensures ∙ ap (transfer_bytes exported_kind) r.0 ∙ cond_yes _ _ _ e }
