-- A sweep's rows, as the code finds the first that applies.
use Prim.Native.Nat.{ℕ, ◌<◌, ◌≤◌}
use mathlib.Core.Path.{◌≡◌, refl, sym, ap}
use mathlib.Core.Logic.{◌≢◌}
use mathlib.Core.Bool.{Bool, true}
use mathlib.Core.List.{List}
use lib.ListN.{length}
use native.Mathlib.Omega.{arith}
use borrow.Author.Tests.{not-false, eqb-true, eqb-false, ltb-false}
use Rattle.model.specs.Types.{Station, Outcome}
use Rattle.model.specs.declared.Answer.TheVariants as A
use Rattle.model.specs.Lists.{all}
use Rattle.model.specs.Limits.{sweep_limit}
use Rattle.model.specs.Kinds.{store_size}
use Rattle.model.specs.Sound.{sound}
use Rattle.model.specs.Effects.{Effect, stored, outcome_of, says, wrong_length, unsound}
use Rattle.model.specs.Sweep.{sweep}
use Rattle.model.proofs.Tests.{or_left, or_right}
use Rattle.model.proofs.RefusalLaws.{row-off}
use Rattle.stations.specs.Found.{first_row}
use Rattle.sweeping.specs.Rows.{sweep_rows}
use Rattle.stations.proofs.RowLaws.{rows-refused, rows-off}

module _ (st : Station) (s : List ℕ) (n : ℕ) (b : Bool) (tested : b ≡ sound st) (r : ℕ) (e : r ≡ first_row (sweep_rows st.kind (length s) n b)) where
  refused : r ≢ 0 → sweep st s n ≡ says (A.Refused r 0) st
  unfolding sweep wrong_length unsound
  refused z = rows-refused st (sweep_rows st.kind (length s) n) b tested r e z _

  -- a refused sweep hands back what it was given
  pub sweep-refused : r ≢ 0 → (◌≡◌ {A = Outcome} (record { station = st; answer = A.Refused r 0 }) (outcome_of (sweep st s n))) × (s ≡ stored (sweep st s n).stores s)
  unfolding outcome_of says stored
  sweep-refused z = (sym (ap outcome_of (refused z)), sym (ap (λ (x : Effect). stored x.stores s) (refused z)))

  -- one that is not: the store is one, the station sound, the limit within its bounds
  pub sweep-allowed : r ≡ 0 → (length s ≡ store_size st.kind) × (sound st ≡ true) × (0 < n) × (n ≤ sweep_limit)
  unfolding all
  sweep-allowed z =
      let a = row-off 1 _ _ (rows-off st (sweep_rows st.kind (length s) n) b tested r e refl z) in
      let c = row-off 2 _ _ a.1 in
      let d = row-off 20 _ _ c.1 in (
        eqb-true (length s) (store_size st.kind) (not-false _ a.0),
        not-false _ c.0,
        (let k = eqb-false n 0 (or_left _ _ d.0) in omega (arith, k)),
        ltb-false sweep_limit n (or_right _ _ d.0),
      )
