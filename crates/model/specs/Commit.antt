-- 01 'Calls': "commit ticket, clock."; its clock by 02 §3.
use Rattle.std.specs.Prelude.{ℕ, not, cond, [], ◌∷◌, eqb, leb}
use Rattle.model.specs.Types.{Live, Station}
use Rattle.model.specs.declared.Phase.TheVariants.{Closing}
use Rattle.model.specs.declared.Answer.TheVariants as A
use Rattle.model.specs.Lists.{◌and◌, member, any_below, greatest_below}
use Rattle.model.specs.Limits.{last_clock}
use Rattle.model.specs.Lives.{no_live, write_count, is_closing, with_phase}
use Rattle.model.specs.Stations.{live_at, entry_at, set_live, is_live, is_held, place_of, slot_of, is_free}
use Rattle.model.specs.Clocks.{clocks, clock_above}
use Rattle.model.specs.Effects.{Effect, says, ◌when◌, refusals, unsound}

-- "the highest-numbered free drawer"
unfoldable pub highest_free : Station → ℕ
highest_free st = greatest_below (is_free st) st.kind.slots

unfoldable pub commit : Station → ℕ → ℕ → Effect
commit st t c =
    let i : ℕ = place_of t st in let l : Live = live_at st i in let d : ℕ = highest_free st in
    refusals (
    2 when unsound st
    ∷ 3 when eqb t 0
    ∷ 5 when eqb c 0
    ∷ 8 when (not (is_live t st) and not (is_held t st))
    ∷ 9 when is_closing l.phase
    ∷ 13 when (leb 1 (write_count l) and not (any_below (is_free st) st.kind.slots))
    -- 02 §3: "(21: write list not empty, and some entry or closing ticket has clock 2^64 − 1, after 13.)"
    ∷ 21 when (leb 1 (write_count l) and member last_clock (clocks st))
    ∷ []
    ) st
    -- "Already committed and held: done, with the stored id, whichever clock above 0 is given (a retry)."
    (cond (is_held t st) (says (A.Done (entry_at st (slot_of t st)).id) st)
    -- "Open with an empty write list: empty, nothing stored, the ticket is forgotten."
    (cond (eqb (write_count l) 0) (says A.Empty (set_live st i no_live))
    -- "Else it becomes closing and takes the highest-numbered free drawer; nothing is stored yet.": 02 §3's clock
    (says (A.Closing d) (set_live st i (with_phase (Closing d (clock_above c (clocks st)) 0) l)))))
