-- 01 'Calls': "abort ticket: forgets an open ticket. Its number may be started again."
use Rattle.std.specs.Prelude.{ℕ, not, [], ◌∷◌, eqb}
use Rattle.model.specs.Types.{Station}
use Rattle.model.specs.declared.Answer.TheVariants as A
use Rattle.model.specs.Lives.{no_live, is_closing}
use Rattle.model.specs.Stations.{live_at, set_live, is_live, place_of}
use Rattle.model.specs.Effects.{Effect, says, ◌when◌, refusals, unsound}

unfoldable pub abort : Station → ℕ → Effect
abort st t =
    let i : ℕ = place_of t st in
    refusals (
    2 when unsound st
    ∷ 3 when eqb t 0
    ∷ 8 when not (is_live t st)
    ∷ 9 when is_closing (live_at st i).phase
    ∷ []
    ) st
    (says A.Dropped (set_live st i no_live))
