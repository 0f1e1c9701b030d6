-- `sheet::field_before_comma` meets its contract.
use Prim.Native.Nat.{◌+◌}
use mathlib.Core.Path.{sym, ap, ◌∙◌}
use mathlib.Core.List.{List}
use mathlib.Core.Logic.{inl, inr}
use mathlib.Core.Option.{some}
use lib.ListN.{length}
use native.Mathlib.Nat.{le_refl}
use native.Mathlib.Omega.{arith}
use Rattle.std.proofs.Common.{ℕ}
use Rattle.std.proofs.lemmas.Slice.{between_to_end}
use Rattle.lines.specs.Lines.{comma}
use Rattle.decimal.proofs.FieldLaws.{field-short}
use Rattle.decimal.proofs.ReadLaws.{unread, read_as}
use Rattle.sheet.proofs.LineLaws.{is_last, is-more}
use Rattle.sheet.proofs.field_before_comma.Goals as goal

pub returns-in_err-n : goal.returns-in_err-n
returns-in_err-n c = rw c.from_residual.ensures (inl (unread _ _ _ c.number_in.ensures c.in_err-n.was))

pub overflow_add-at : goal.overflow_add-at
overflow_add-at c =
    let r = read_as _ _ _ c.in_ok-n.n c.in_ok-n.at c.number_in.ensures c.in_ok-n.was in
    omega (arith, r.1, field-short comma c.args.s.now)

pub returns-in_err-rest : goal.returns-in_err-rest
returns-in_err-rest c =
    let r = read_as _ _ _ c.in_ok-n.n c.in_ok-n.at c.number_in.ensures c.in_ok-n.was in
    rw c.from_residual-in_err-rest.ensures (inr (is_last c.args.s.now c.in_ok-n.at r.1 (omega (arith, c.in_err-rest.ensures.lookup))))

pub returns : goal.returns
returns c =
    let s = c.args.s.now in
    let r = read_as _ _ _ c.in_ok-n.n c.in_ok-n.at c.number_in.ensures c.in_ok-n.was in
    let from = c.in_ok-n.at + 1 in
    let l = c.in_ok-rest.ensures.lookup in
    let rest = l.0.2 ∙ between_to_end s from (length s) (le_refl _) in
    (r.0, is-more s c.in_ok-n.at r.1 (omega arith) ∙ ap (λ (bs : List ℕ). some bs) (sym rest))
