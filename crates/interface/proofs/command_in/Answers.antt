-- `interface::command_in` meets its contract.
use mathlib.Core.Path.{sym, ap, ◌∙◌}
use lib.Dec.{eqb}
use lib.ListN.{get_or}
use borrow.Author.Tests.{ne_eqb}
use Rattle.model.proofs.Tests.{and-none-left, and-none-right}
use Rattle.sheet.specs.Commands.{command_of}
use Rattle.sheet.specs.Parts.{verb_of}
use Rattle.interface.proofs.ByteLaws.{no_zero, asks-sweep, asks-verb}
use Rattle.interface.proofs.command_in.Goals.{then-request-ne0-via-then-request-ne0, then-request-ne0-via-else-request-ne0+then-request-ne0-2}
use Rattle.interface.proofs.command_in.Goals as goal

pub returns-then-request-ne0 : goal.returns-then-request-ne0
unfolding command_of
returns-then-request-ne0 c =
    let q = c.args.request.now in
    elim c.then-request-ne0.branch [
      | then-request-ne0-via-then-request-ne0 w ↦ ap command_of (sym (no_zero q (and-none-left _ _ (ne_eqb (get_or q 2 0) 0 w.if-request-ne0.true))))
      | then-request-ne0-via-else-request-ne0+then-request-ne0-2 w ↦ ap command_of (sym (no_zero q (and-none-right (eqb (get_or q 2 0) 0) _ (ne_eqb (get_or q 3 0) 0 w.if-request-ne0-2.true))))
    ]

pub returns-then-verb-eq-SWEEP : goal.returns-then-verb-eq-SWEEP
returns-then-verb-eq-SWEEP c =
    let q = c.args.request.now in
    let i = c.id_in-id in
    c.sweep_for.ensures ∙ ap command_of (asks-sweep q c.if-request-ne0.false c.if-request-ne0-2.false i.result i.ensures c.if-verb-eq-SWEEP.true)

pub returns : goal.returns
returns c =
    let q = c.args.request.now in
    let i = c.id_in-id in
    let w = c.word_for in
    c.command_for.ensures ∙ ap command_of (asks-verb q c.if-request-ne0.false c.if-request-ne0-2.false i.result i.ensures c.if-verb-eq-SWEEP.false (verb_of w.result) w.ensures)
