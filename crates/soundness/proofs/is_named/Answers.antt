use Rattle.std.proofs.Common.{◌≡◌, ◌∙◌, sym, refl, arith, eqb, drop, true, false, Some, None, length-drop}
use borrow.Author.Rules.{rules}
use borrow.Author.Tests.{tests}
use Rattle.std.proofs.lemmas.List.{take_all}
use Rattle.std.proofs.lemmas.Iterator.Search.{position_from_yields_List}
use Rattle.std.proofs.lemmas.Iterator.{YieldsList-from_slice}
use Rattle.model.specs.Ids.{same_id}
use Rattle.model.specs.Lists.{◌and◌}
use Rattle.soundness.specs.Parts.{slot_in}
use Rattle.soundness.proofs.PartLaws.{found-slot, named-at, unnamed}
use Rattle.soundness.proofs.is_named.Goals.{In-Some, In-None}
use Rattle.soundness.proofs.is_named.Goals as goal

held : (c : In-Some) → c.in-Some.slot ≡ slot_in c.args.txns.now c.args.read.id.txn
held c =
    let xs = drop 8 c.args.txns.now in
    let e : c.iter.result.rest.now ≡ xs = c.iter.ensures.rest ∙ take_all 64 xs (omega (arith, c.told-txns, length-drop 8 c.args.txns.now)) in
    found-slot _ _ (Some c.in-Some.slot) c.told-txns (position_from_yields_List (λ t. eqb t c.args.read.id.txn) _ _ (Some c.in-Some.slot) c.in-Some.ensures.ran (YieldsList-from_slice xs e) (λ x b q k. search (rules, tests)))

pub returns-then-eq : goal.returns-then-eq
unfolding same_id ◌and◌
returns-then-eq c = sym (named-at _ _ c.args.read _ (held (goal.at.returns-then-eq c).In-Some) (omega (arith, c.in-Some.ensures.bound)) true c.has_key.result c.if-eq.ensures c.has_key.ensures)

pub returns-else-eq : goal.returns-else-eq
unfolding same_id ◌and◌
returns-else-eq c = c.if-eq.false ∙ sym (named-at _ _ c.args.read _ (held (goal.at.returns-else-eq c).In-Some) (omega (arith, c.in-Some.ensures.bound)) false _ c.if-eq.ensures refl)

pub returns-in-None : goal.returns-in-None
returns-in-None c =
    let xs = drop 8 c.args.txns.now in
    let e : c.iter.result.rest.now ≡ xs = c.iter.ensures.rest ∙ take_all 64 xs (omega (arith, c.told-txns, length-drop 8 c.args.txns.now)) in
    sym (unnamed _ _ c.args.read 64 (found-slot _ _ None c.told-txns (position_from_yields_List (λ t. eqb t c.args.read.id.txn) _ _ None c.in-None.ensures.ran (YieldsList-from_slice xs e) (λ x b q k. search (rules, tests)))) (omega arith))
