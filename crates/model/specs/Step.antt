-- 01 'Calls': "step ticket (closing, n keys)."
use Rattle.std.specs.Prelude.{ℕ, ◌+◌, not, cond, List, [], ◌∷◌, eqb, ltb, get_or}
use Rattle.model.specs.Types.{Write, Live, Station}
use Rattle.model.specs.declared.Phase.{Phase}
use Rattle.model.specs.declared.Phase.TheVariants.{Unused, Open, Closing}
use Rattle.model.specs.declared.Answer.TheVariants as A
use Rattle.model.specs.Lives.{no_write, no_live, write_count, is_closing, closing_slot, records_stored, with_phase}
use Rattle.model.specs.Entries.{entry_for, commit_record}
use Rattle.model.specs.Stations.{live_at, set_live, set_entry, is_live, place_of}
use Rattle.model.specs.Records.{version_record}
use Rattle.model.specs.Effects.{Effect, says, says_storing, ◌when◌, refusals, wrong_length, unsound}

-- one record more is stored
unfoldable pub one_more : Phase → Phase
one_more Unused = Unused
one_more Open = Open
one_more (Closing d c n) = Closing d c (n + 1)

-- what a step of the transaction l at place i does, its phase being p
unfoldable pub stepped : Station → ℕ → Live → Phase → Effect
stepped st i l p =
    let d : ℕ = closing_slot p in let j : ℕ = records_stored p in
    let w : Write = get_or l.writes j no_write in
    let on : Station = set_live st i (with_phase (one_more p) l) in
    -- "The first n steps store version slips 1 to n."
    cond (ltb j (write_count l)) (says_storing (A.Stored w.key) on d (j + 1) (version_record w.key (entry_for l).id w.value))
    -- "Step n + 1 stores the commit slip."
    (cond (eqb j (write_count l)) (says_storing (A.Slipped d) on d 0 (commit_record st.kind (entry_for l)))
    -- "Step n + 2 stores nothing: it makes the entry, ends the ticket and acknowledges (§3.3)."
    (says (A.Done (entry_for l).id) (set_entry (set_live st i no_live) d (entry_for l))))

unfoldable pub step : Station → List ℕ → ℕ → Effect
step st s t =
    let i : ℕ = place_of t st in let l : Live = live_at st i in
    refusals (
    1 when wrong_length st.kind s
    ∷ 2 when unsound st
    ∷ 3 when eqb t 0
    ∷ 8 when not (is_live t st)
    ∷ 10 when not (is_closing l.phase)
    ∷ []
    ) st
    (stepped st i l l.phase)
