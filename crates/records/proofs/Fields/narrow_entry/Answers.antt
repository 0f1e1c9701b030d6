-- `records::Fields::narrow_entry` meets its contract.
use mathlib.Core.Path.{sym, ap, ◌∙◌}
use lib.ListN.{length, length-take}
use native.Mathlib.Omega.{arith}
use Rattle.model.specs.Limits.{keys}
use Rattle.model.specs.Lists.{ascending}
use Rattle.model.specs.Kinds.{narrow_kind}
use Rattle.model.proofs.Tests.{and_intro, and-none-left, and-none-right}
use Rattle.records.specs.Fields.{first_keys, IsWritten}
use Rattle.records.proofs.FieldLaws.{fields-few, fields-ascend}
use Rattle.records.proofs.SlotSteps.{entry-is, narrow_rest}
use Rattle.records.proofs.Fields.narrow_entry.Goals.{else-keeps_rules-via-then-keeps_rules+else-carries_keys, else-keeps_rules-via-else-keeps_rules}
use Rattle.records.proofs.Fields.narrow_entry.Goals as goal

pub first_keys-requires : goal.first_keys-requires
first_keys-requires c = fields-few c.args.self.now (sym c.keeps_rules.ensures ∙ c.if-keeps_rules.true)

pub carries_keys-requires : goal.carries_keys-requires
unfolding first_keys
carries_keys-requires c =
    let f = c.args.self.now in
    omega (arith, c.requires.w_len, ap length c.first_keys.ensures, length-take f.count f.keys, fields-few f (sym c.keeps_rules.ensures ∙ c.if-keeps_rules.true))

pub first_keys-requires-then-carries_keys : goal.first_keys-requires-then-carries_keys
first_keys-requires-then-carries_keys c = fields-few c.args.self.now (sym c.keeps_rules.ensures ∙ c.if-keeps_rules.true)

pub set_of-requires : goal.set_of-requires
unfolding first_keys
set_of-requires c = ap (ascending 0 keys) c.first_keys-then-carries_keys.ensures ∙ fields-ascend c.args.self.now (sym c.keeps_rules.ensures ∙ c.if-keeps_rules.true)

pub returns-then-carries_keys : goal.returns-then-carries_keys
unfolding IsWritten
returns-then-carries_keys c =
    let q = c.requires.f_value in
    let l = c.requires.w_len in
    let carried = rw c.first_keys.ensures at (sym (c.carries_keys.ensures narrow_kind) ∙ c.if-carries_keys.true) in
    let same = c.set_of.ensures ∙ c.first_keys-then-carries_keys.ensures in (
      narrow_rest _ _ q l ∙ and_intro _ _ (sym c.keeps_rules.ensures ∙ c.if-keeps_rules.true) carried,
      (λ z. record { id = c.args.self.now.id; keys = same z }) ∙ sym (entry-is _ _ q l),
    )

pub returns-else-keeps_rules : goal.returns-else-keeps_rules
unfolding IsWritten
returns-else-keeps_rules c =
    narrow_rest _ _ c.requires.f_value c.requires.w_len
    ∙ elim c.else-keeps_rules.branch [
      | else-keeps_rules-via-then-keeps_rules+else-carries_keys w ↦ and-none-right _ _ (rw w.first_keys.ensures at (sym (w.carries_keys.ensures narrow_kind) ∙ w.if-carries_keys.false))
      | else-keeps_rules-via-else-keeps_rules w ↦ and-none-left _ _ (sym c.keeps_rules.ensures ∙ w.if-keeps_rules.false)
    ]
