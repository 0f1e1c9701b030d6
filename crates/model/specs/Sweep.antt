-- 02 §2: "Give one call that takes a limit. It collects the oldest id it may, looks again, and stops at the limit or when it may collect none."
use Rattle.std.specs.Prelude.{ℕ, zero, suc, Bool, not, cond, List, [], ◌∷◌, ◌++◌, eqb, ltb, length}
use Rattle.std.proofs.Math.Option.{Option, Option-elim}
use Rattle.model.specs.Types.{Entry, Station}
use Rattle.model.specs.declared.Answer.TheVariants as A
use Rattle.model.specs.Lists.{◌and◌, ◌or◌}
use Rattle.model.specs.Limits.{sweep_limit}
use Rattle.model.specs.Orders.{oldest}
use Rattle.model.specs.Supersedence.{superseded, is_read}
use Rattle.model.specs.Effects.{RecordWrite, Effect, stored, says_storing_all, ◌when◌, refusals, wrong_length, unsound}
use Rattle.model.specs.Collect.{collect}
use Rattle.model.specs.Answers.{refused_with}

-- an entry that may be collected: it is one, and neither 15 nor 16 applies to it
unfoldable pub may_collect : Station → Entry → Bool
may_collect st e = not (eqb e.id.txn 0) and superseded st.entries e and not (is_read st e)

-- "the oldest id it may": its slot
unfoldable pub oldest_to_collect : Station → Option ℕ
oldest_to_collect st = oldest (may_collect st) st.entries

-- one collect of a sweep: the slot, and what it comes to
pub record Collection : Type 0 where
  pub slot : ℕ
  pub effect : Effect

-- the single collects that a sweep is, at most so many. "A slip that 17 names plays no part in the choice and ends the sweep with its count so
-- far.": the slot is chosen, and where its collect is refused, that was the last
unfoldable pub collections : ℕ → Station → List ℕ → List Collection
collections zero st s = []
collections (suc n) st s =
    Option-elim (oldest_to_collect st) [] (λ d.
    let e : Effect = collect st s d in
    cond (eqb (refused_with e.answer) 0) (record { slot = d; effect = e } ∷ collections n e.station (stored e.stores s)) [])

-- the station after them, and their record writes in order
unfoldable pub station_after : List Collection → Station → Station
station_after [] st = st
station_after (c ∷ cs) st = station_after cs c.effect.station

unfoldable pub records_of : List Collection → List RecordWrite
records_of [] = []
records_of (c ∷ cs) = c.effect.stores ++ records_of cs

-- "(1 and 2 hold here too. 20: limit 0 or above 64, after 2.)" "It reports how many it cleared, and that number is the count of single
-- collects it equals."
unfoldable pub sweep : Station → List ℕ → ℕ → Effect
sweep st s n =
    let cs : List Collection = collections n st s in
    refusals (
    1 when wrong_length st.kind s
    ∷ 2 when unsound st
    ∷ 20 when (eqb n 0 or ltb sweep_limit n)
    ∷ []
    ) st
    (says_storing_all (A.Swept (length cs)) (station_after cs st) (records_of cs))
