-- 01 'Calls': "put ticket, key, value: adds the key or replaces its value."
use Rattle.std.specs.Prelude.{ℕ, not, [], ◌∷◌, eqb, leb}
use Rattle.model.specs.Types.{Live, Station}
use Rattle.model.specs.declared.Answer.TheVariants as A
use Rattle.model.specs.Lists.{◌and◌, insert}
use Rattle.model.specs.Limits.{keys}
use Rattle.model.specs.Lives.{writes_of, write_key, has_written, is_closing, with_writes}
use Rattle.model.specs.Stations.{live_at, set_live, is_live, place_of}
use Rattle.model.specs.Effects.{Effect, says, ◌when◌, refusals, unsound}

unfoldable pub with_write : ℕ → ℕ → Live → Live
with_write k v l = with_writes (insert write_key (record { key = k; value = v }) (writes_of l)) l

unfoldable pub put : Station → ℕ → ℕ → ℕ → Effect
put st t k v =
    let i : ℕ = place_of t st in let l : Live = live_at st i in
    refusals (
    2 when unsound st
    ∷ 3 when eqb t 0
    ∷ 4 when leb keys k
    ∷ 8 when not (is_live t st)
    ∷ 9 when is_closing l.phase
    ∷ 11 when (not (has_written k l) and leb st.kind.write_limit l.write_count)
    ∷ []
    ) st
    (says A.Kept (set_live st i (with_write k v l)))
