-- `image::is_head` meets its contract.
use Rattle.std.proofs.lemmas.Grind.{common_steps}
use Rattle.image.proofs.Names.{Id, ◌and◌, closing_slot, closing_clock, records_stored, phase_number, is_head, ◌≡◌, ap, ◌∙◌, arith}
use Rattle.image.proofs.PlaceLaws.{head_test, head-is}
use Rattle.image.proofs.is_head.Goals.{After-phase_marks-m}
use Rattle.image.proofs.is_head.Goals as goal

pub phase_in-requires : goal.phase_in-requires
phase_in-requires c = record { head_size_in_bounds = c.requires; clock_value = ap (λ (i : Id). i.clock) c.id_in-id.ensures }

-- the test, of the numbers at hand
tested : (c : After-phase_marks-m) → is_head c.args.b.now
    ≡ head_test c.args.b.now c.phase_marks-m.result.mark c.phase_marks-m.result.slot c.phase_marks-m.result.stored c.phase_marks-m.result.clock c.id_in-id.result.clock
tested c =
    let q = c.phase_in.ensures in
    let m = c.phase_marks-m.ensures in
    head-is c.args.b.now c.requires (λ i o. omega (arith, c.type_inv.b i)) _ _ _ _ _
    (m.0 ∙ ap phase_number q) (m.1 ∙ ap closing_slot q) (m.2 ∙ ap records_stored q) (m.3 ∙ ap closing_clock q) (ap (λ (i : Id). i.clock) c.id_in-id.ensures)

pub returns-then-m-b-3 : goal.returns-then-m-b-3
unfolding ◌and◌
returns-then-m-b-3 c = let t = tested (goal.at.returns-then-m-b-3 c).After-phase_marks-m in grind (arith, common_steps)

pub returns-else-m-b-3 : goal.returns-else-m-b-3
unfolding ◌and◌
returns-else-m-b-3 c = let t = tested (goal.at.returns-else-m-b-3 c).After-phase_marks-m in grind (arith, common_steps)
