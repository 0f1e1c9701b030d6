-- `records::Fields::wide_entry` meets its contract.
use mathlib.Core.Path.{sym, ◌∙◌}
use lib.ListN.{length}
use native.Mathlib.Omega.{arith}
use borrow.Author.Tests.{leb-true}
use Rattle.model.specs.Kinds.{wide_kind}
use Rattle.model.specs.KeySets.{key_set}
use Rattle.model.proofs.Tests.{and_left, and_right, and_intro, and-none-left, and-none-right}
use Rattle.model.proofs.RecordLaws.{Bytes}
use Rattle.records.specs.Fields.{number_rules, IsWritten}
use Rattle.records.proofs.SlotSteps.{wide-entry, wide-rest}
use Rattle.records.proofs.Fields.wide_entry.Goals.{else-number_right-via-then-number_right+else-carries_set, else-number_right-via-else-number_right}
use Rattle.records.proofs.Fields.wide_entry.Goals as goal

pub carries_set-requires : goal.carries_set-requires
unfolding number_rules
carries_set-requires c =
    let h = sym c.number_right.ensures ∙ c.if-number_right.true in
    omega (arith, c.requires.w_len, leb-true (length (key_set c.number_in-keys.result)) 16 (and_right _ _ (and_left _ _ (and_left _ _ h))))

pub returns-then-carries_set : goal.returns-then-carries_set
unfolding IsWritten
returns-then-carries_set c =
    let q = c.requires.f_value in
    let l = c.requires.w_len in
    let b : Bytes c.args.w.now = λ i o. omega (arith, c.type_inv.w i) in
    let right = rw c.number_in-keys.ensures.0 at (sym c.number_right.ensures ∙ c.if-number_right.true) in
    let carried = rw c.number_in-keys.ensures.0 at (sym (c.carries_set.ensures wide_kind) ∙ c.if-carries_set.true) in (
      wide-rest _ _ q l b ∙ and_intro _ _ right carried,
      (λ z. record { id = c.args.self.now.id; keys = key_set (c.number_in-keys.ensures.0 z) }) ∙ sym (wide-entry _ _ q l b),
    )

pub returns-else-number_right : goal.returns-else-number_right
unfolding IsWritten
returns-else-number_right c =
    wide-rest _ _ c.requires.f_value c.requires.w_len (λ i o. omega (arith, c.type_inv.w i))
    ∙ elim c.else-number_right.branch [
      | else-number_right-via-then-number_right+else-carries_set w ↦ and-none-right _ _ (rw c.number_in-keys.ensures.0 at (sym (w.carries_set.ensures wide_kind) ∙ w.if-carries_set.false))
      | else-number_right-via-else-number_right w ↦ and-none-left _ _ (rw c.number_in-keys.ensures.0 at (sym c.number_right.ensures ∙ w.if-number_right.false))
    ]
