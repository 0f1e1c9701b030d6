-- 01 'Calls': "start ticket: makes it live and open with empty lists, in the lowest unused place."
use Rattle.std.specs.Prelude.{ℕ, not, [], ◌∷◌, eqb}
use Rattle.model.specs.Types.{Live, Station}
use Rattle.model.specs.declared.Phase.TheVariants.{Open}
use Rattle.model.specs.declared.Answer.TheVariants as A
use Rattle.model.specs.Lists.{◌or◌}
use Rattle.model.specs.Lives.{blank}
use Rattle.model.specs.Stations.{set_live, is_live, is_held, place_of}
use Rattle.model.specs.Effects.{Effect, says, ◌when◌, refusals, unsound}

unfoldable pub opened : ℕ → Live
opened t = blank t Open

unfoldable pub start : Station → ℕ → Effect
start st t =
    refusals (
    2 when unsound st
    ∷ 3 when eqb t 0
    ∷ 6 when (is_live t st or is_held t st)
    ∷ 7 when not (is_live 0 st)
    ∷ []
    ) st
    (says A.Started (set_live st (place_of 0 st) (opened t)))
