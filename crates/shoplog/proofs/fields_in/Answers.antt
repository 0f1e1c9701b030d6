-- `shoplog::fields_in` meets its contract.
use mathlib.Core.Path.{◌≡◌, sym, ap, ◌∙◌}
use native.Mathlib.Omega.{arith}
use Rattle.model.specs.Limits.{keys, txn_range}
use Rattle.decimal.proofs.ReadLaws.{read_below}
use Rattle.shoplog.specs.Parts.{kind_of, parsed_of, number_of}
use Rattle.std.proofs.Math.Option.{some}
use Rattle.shoplog.specs.Lines.{second, third, fourth, fifth}
use Rattle.shoplog.proofs.LineLaws.{malformed, second-field, second-none, third-field, third-none, fourth-field, fourth-none, fifth-field, fifth-none}
use Rattle.shoplog.proofs.fields_in.Goals.{In_ok-t, In_ok-k, In_ok-c}
use Rattle.shoplog.proofs.fields_in.Goals as goal

-- ── the fields up to one, each of which was read ──
after-t : (c : In_ok-t)
    → (let v = some (kind_of c.args.kind) in second v (some c.args.fields.now) ≡ third v (some c.in_ok-t.t) (some c.in_ok-t.fields.now))
after-t c = second-field _ _ _ _ c.in_ok-t.ensures

after-k : (c : In_ok-k)
    → (let v = some (kind_of c.args.kind) in second v (some c.args.fields.now) ≡ fourth v (some c.in_ok-t.t) (some c.in_ok-k.k) (some c.in_ok-k.fields.now))
after-k c = second-field _ _ _ _ c.in_ok-t.ensures ∙ third-field _ _ _ _ _ c.in_ok-k.ensures

after-c : (c : In_ok-c)
    → (let v = some (kind_of c.args.kind) in
    second v (some c.args.fields.now) ≡ fifth v (some c.in_ok-t.t) (some c.in_ok-k.k) (some c.in_ok-c.c) (some c.in_ok-c.fields.now))
after-c c = second-field _ _ _ _ c.in_ok-t.ensures ∙ third-field _ _ _ _ _ c.in_ok-k.ensures ∙ fourth-field _ _ _ _ _ _ c.in_ok-c.ensures

pub returns-in_err-t : goal.returns-in_err-t
returns-in_err-t c = rw c.from_residual.ensures (malformed _ (second-none _ _ c.in_err-t.ensures))

pub returns-in_err-k : goal.returns-in_err-k
returns-in_err-k c =
    rw c.from_residual-in_err-k.ensures (malformed _ (after-t (goal.at.returns-in_err-k c).In_ok-t ∙ third-none _ _ _ c.in_err-k.ensures))

pub returns-in_err-c : goal.returns-in_err-c
returns-in_err-c c =
    rw c.from_residual-in_err-c.ensures (malformed _ (after-k (goal.at.returns-in_err-c c).In_ok-k ∙ fourth-none _ _ _ _ c.in_err-c.ensures))

pub returns-in_err-a : goal.returns-in_err-a
unfolding number_of
returns-in_err-a c =
    rw c.from_residual-in_err-a.ensures (malformed _ (after-c (goal.at.returns-in_err-a c).In_ok-c ∙ fifth-none _ _ _ _ _ (sym c.in_err-a.ensures)))

pub overflow_cast-t : goal.overflow_cast-t
overflow_cast-t c = omega (arith, read_below txn_range _ _ c.in_ok-t.ensures.0)

pub overflow_cast-k : goal.overflow_cast-k
overflow_cast-k c = omega (arith, read_below keys _ _ c.in_ok-k.ensures.0)

pub overflow_cast-a : goal.overflow_cast-a
unfolding number_of
overflow_cast-a c = omega (arith, read_below txn_range _ _ (sym c.in_ok-a.ensures))

pub returns : goal.returns
unfolding number_of
returns c =
    c.line_for.ensures
    ∙ ap parsed_of (sym (after-c (goal.at.returns c).In_ok-c ∙ fifth-field _ _ _ _ _ _ (sym c.in_ok-a.ensures)))
