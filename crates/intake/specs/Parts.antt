-- The intake as the code holds it, and what its smaller functions come to.
use Rattle.std.specs.Prelude.{ℕ, List, take}
use Rattle.model.specs.declared.Station.{Station}
use Rattle.model.specs.Listed.{listed}
use Rattle.sheet.specs.Sheets.{Desk}
use Rattle.intake.specs.Intakes.{Intake}

unfoldable pub desk_of : Station → List ℕ → ℕ → Desk
desk_of station store number = record { station = listed station; store = store; line = number }

-- the line is the first len bytes of the part that is kept
unfoldable pub intake_of : Station → List ℕ → ℕ → List ℕ → ℕ → Intake
intake_of station store number part len = record { desk = desk_of station store number; line = take len part }
