-- `image::phase_marks` meets its contract.
use Rattle.image.proofs.Names.{closing_slot, closing_clock, records_stored, phase_number, refl}
use Rattle.image.proofs.phase_marks.Goals as goal

pub returns-in-Unused : goal.returns-in-Unused
unfolding phase_number closing_slot records_stored closing_clock
returns-in-Unused c = rw c.in-Unused.is (refl, refl, refl, refl)

pub returns-in-Open : goal.returns-in-Open
unfolding phase_number closing_slot records_stored closing_clock
returns-in-Open c = rw c.in-Open.is (refl, refl, refl, refl)

pub returns-in-Closing : goal.returns-in-Closing
unfolding phase_number closing_slot records_stored closing_clock
returns-in-Closing c = rw c.in-Closing.is (refl, refl, refl, refl)
