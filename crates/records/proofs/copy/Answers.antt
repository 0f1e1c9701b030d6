-- `records::copy` meets its contract.
use Prim.Native.Nat.{ℕ, ◌≤◌}
use mathlib.Core.Path.{◌≡◌, refl, sym, ap, ◌∙◌}
use mathlib.Core.List.{List, ◌++◌, append-nil}
use lib.ListN.{length, take, drop_of_length-le}
use native.Mathlib.Omega.{arith}
use Rattle.model.proofs.RestLaws.{rest-next}
use Rattle.records.proofs.WriteLoop.{written-more}
use Rattle.records.proofs.copy.Goals as goal

pub loop-i-init : goal.loop-i-init
loop-i-init c = (omega arith, refl, refl)

pub loop-i-preserved : goal.loop-i-preserved
loop-i-preserved c =
    let bs = c.args.bytes.now in
    written-more (length bs) c.args.part.now bs c.loop-i.i c.loop-i.part _ c.loop-i.invariant _ _ (omega arith) (omega arith) (rest-next bs c.loop-i.i 0 (omega arith))

pub returns : goal.returns
returns c =
    let bs = c.args.bytes.now in
    let p = c.loop-i.part in
    let e : length bs ≡ c.loop-i.i = omega arith in
    let z : length bs ≤ c.loop-i.i = omega arith in
    ap (λ (n : ℕ). take n p) e ∙ (sym (append-nil (take c.loop-i.i p)) ∙ (ap (λ (x : List ℕ). take c.loop-i.i p ++ x) (sym (drop_of_length-le bs z)) ∙ c.loop-i.invariant.2))
