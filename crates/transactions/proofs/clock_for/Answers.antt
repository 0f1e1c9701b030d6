-- `transactions::clock_for` meets its contract. Assumes nothing.
use Prim.Native.Nat.{ℕ, ◌+◌, ◌≤◌, max}
use mathlib.Core.Path.{◌≡◌, sym, ap, ◌∙◌}
use mathlib.Core.List.{List}
use lib.Dec.{eqb}
use native.Mathlib.Nat.{lt_irrefl}
use native.Mathlib.Omega.{arith}
use borrow.Author.Tests.{eq-eqb, ne_eqb}
use Rattle.model.specs.Lists.{member, maximum}
use Rattle.model.specs.Limits.{last_clock}
use Rattle.model.specs.Clocks.{clock_above}
use Rattle.model.proofs.ClockLaws.{greatest-is}
use Rattle.transactions.specs.Committing.{clock_for}
use Rattle.transactions.proofs.clock_for.Goals as goal

-- the last clock is taken where the greatest is the last
last_taken : (taken : List ℕ) (m : ℕ) → m ≡ maximum taken → m ≤ last_clock → member last_clock taken ≡ eqb m last_clock
last_taken taken m e o = sym (ap (λ (n : ℕ). eqb n last_clock) e ∙ greatest-is taken last_clock (λ z. lt_irrefl 0 (omega arith)) (omega (arith, o, e)))

pub returns-in_err-next : goal.returns-in_err-next
unfolding clock_for
returns-in_err-next c =
    let g = c.greatest_clock in
    let o : g.result ≤ last_clock = omega (arith, g.type_inv) in
    let q : g.result ≡ last_clock = omega (arith, g.type_inv, c.in_err-next.ensures) in
    rw (c.from_residual.ensures, ne_eqb _ 0 c.if-writes-eq0.false, last_taken _ _ g.ensures o, eq-eqb _ last_clock q)

pub returns : goal.returns
unfolding clock_for clock_above
returns c =
    let g = c.greatest_clock in
    let n = c.in_ok-next.ensures in
    let o : g.result ≤ last_clock = omega (arith, g.type_inv) in
    rw (ne_eqb _ 0 c.if-writes-eq0.false, last_taken _ _ g.ensures o, ne_eqb g.result last_clock (λ z. lt_irrefl 0 (omega (arith, n.0))))
    (c.max.ensures ∙ (ap (max c.args.given) n.1 ∙ ap (λ (m : ℕ). max c.args.given (m + 1)) g.ensures), omega arith)
