-- `sweeping::sweep_row` meets its contract.
use Prim.Native.Nat.{ℕ, ◌<◌}
use mathlib.Core.Path.{◌≡◌, sym, ◌∙◌}
use mathlib.Core.Bool.{true, false}
use mathlib.Core.Logic.{◌⊎◌, inl, inr}
use lib.Dec.{eqb, ltb}
use borrow.Author.Tests.{eq-eqb, ne_eqb, lt-ltb, le-ltb}
use Rattle.model.specs.Lists.{◌or◌}
use Rattle.model.specs.Kinds.{store_size}
use Rattle.model.specs.Listed.{kind_of}
use Rattle.model.proofs.Tests.{or-intro-left, or-intro-right}
use Rattle.stations.specs.Found.{first_row}
use Rattle.sweeping.proofs.sweep_row.Goals.{Else-size-store_size, Then-size-store_size}
use Rattle.sweeping.proofs.sweep_row.Goals as goal

-- row 1: the length is not the kind's, or it is
wrong : (c : Then-size-store_size) → eqb c.args.size (store_size (kind_of c.args.kind)) ≡ false
wrong c = ne_eqb _ _ (λ q. c.if-size-store_size.true (q ∙ sym c.store_size.ensures))

right : (c : Else-size-store_size) → eqb c.args.size (store_size (kind_of c.args.kind)) ≡ true
right c = eq-eqb _ _ (c.if-size-store_size.false ∙ c.store_size.ensures)

pub returns-then-size-store_size : goal.returns-then-size-store_size
unfolding first_row
returns-then-size-store_size c = rw (wrong (goal.at.returns-then-size-store_size c).Then-size-store_size)

pub returns-then-not-tested : goal.returns-then-not-tested
unfolding first_row
returns-then-not-tested c = rw (right (goal.at.returns-then-not-tested c).Else-size-store_size, c.if-not-tested.true)

-- row 20
over : (n : ℕ) → (n ≡ 0) ⊎ ((n ≡ 0 → ⊥) × (64 < n)) → (eqb n 0 or ltb 64 n) ≡ true
over n (inl z) = or-intro-left _ _ (eq-eqb n 0 z)
over n (inr h) = or-intro-right _ _ (lt-ltb 64 n h.1)

pub returns-then-limit-gt-SWEEP : goal.returns-then-limit-gt-SWEEP
unfolding first_row
returns-then-limit-gt-SWEEP c = rw (right (goal.at.returns-then-limit-gt-SWEEP c).Else-size-store_size, c.if-not-tested.false, over c.args.limit c.if-limit-gt-SWEEP.either)

pub returns-else-limit-gt-SWEEP : goal.returns-else-limit-gt-SWEEP
unfolding first_row ◌or◌
returns-else-limit-gt-SWEEP c =
    let h = c.if-limit-gt-SWEEP.false in
    rw (right (goal.at.returns-else-limit-gt-SWEEP c).Else-size-store_size, c.if-not-tested.false, ne_eqb c.args.limit 0 h.0, le-ltb 64 c.args.limit h.1)
