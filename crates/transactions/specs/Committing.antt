-- Names for what the parts of a commit give.
use Rattle.std.specs.Prelude.{ℕ, Bool, not, cond, List, [], ◌∷◌, eqb, leb}
use Rattle.model.specs.Types.{Live}
use Rattle.model.specs.Types.{Station}
use Rattle.model.specs.declared.Phase.TheVariants.{Closing}
use Rattle.model.specs.declared.Answer.{Answer}
use Rattle.model.specs.declared.Answer.TheVariants as A
use Rattle.model.specs.Lists.{◌and◌, member, any_below}
use Rattle.model.specs.Limits.{live_places, entry_places, last_clock}
use Rattle.model.specs.Lives.{no_live, write_count, with_phase}
use Rattle.model.specs.Stations.{is_free}
use Rattle.model.specs.Clocks.{clock_above}
use Rattle.model.specs.Effects.{Row, ◌when◌}
use Rattle.model.specs.Commit.{highest_free}

-- rows 2, 3, 5 and 8 of a commit, where the soundness test said b: of a transaction's number, a clock, and the slot and the place found
unfoldable pub unknown_rows : ℕ → ℕ → ℕ → ℕ → Bool → List Row
unknown_rows t c j i b = 2 when not b ∷ 3 when eqb t 0 ∷ 5 when eqb c 0 ∷ 8 when (leb live_places i and leb entry_places j) ∷ []

-- the slot that a commit of so many writes takes; none has the number 64
unfoldable pub slot_for : ℕ → Station → ℕ
slot_for n st = cond (eqb n 0) 0 (cond (any_below (is_free st) st.kind.slots) (highest_free st) entry_places)

-- the clock that a commit of so many writes takes where c is given and these are taken; where none is left 0, which is no clock. Without writes it
-- takes none: c
unfoldable pub clock_for : ℕ → ℕ → List ℕ → ℕ
clock_for n c taken = cond (eqb n 0) c (cond (member last_clock taken) 0 (clock_above c taken))

-- 01 'Calls': "Open with an empty write list: empty, nothing stored, the ticket is forgotten. Else it becomes closing"
unfoldable pub after_commit : ℕ → ℕ → Live → Live
after_commit d c l = cond (eqb (write_count l) 0) no_live (with_phase (Closing d c 0) l)

unfoldable pub commit_answer : ℕ → ℕ → Answer
commit_answer n d = cond (eqb n 0) A.Empty (A.Closing d)
