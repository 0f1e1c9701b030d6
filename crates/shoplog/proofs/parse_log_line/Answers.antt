-- `shoplog::parse_log_line` meets its contract.
use mathlib.Core.Path.{◌≡◌, sym, ap, ◌∙◌}
use mathlib.Core.Logic.{⊎_elim}
use native.Mathlib.Omega.{arith}
use Rattle.std.proofs.Math.Option.{Option, some, none}
use Rattle.decimal.proofs.FieldLaws.{field-short}
use Rattle.lines.specs.Lines.{comma}
use Rattle.shoplog.specs.Lines.{LineKind, second, line_in}
use Rattle.shoplog.specs.Parts.{kind_of, kind_found, parsed_of}
use Rattle.shoplog.proofs.LineLaws.{line-last, line-more, line-long, malformed, no-kind}
use Rattle.shoplog.proofs.parse_log_line.Goals.{After-kind_in}
use Rattle.shoplog.proofs.parse_log_line.Goals as goal

pub returns-then-line-gt-LINE : goal.returns-then-line-gt-LINE
returns-then-line-gt-LINE c = malformed _ (line-long c.args.line.now c.if-line-gt-LINE.true)

pub overflow_add-at : goal.overflow_add-at
overflow_add-at c = omega (arith, c.field_end-at.ensures, field-short comma c.args.line.now)

pub returns-in_err-fields : goal.returns-in_err-fields
returns-in_err-fields c =
    rw c.from_residual.ensures
    (malformed _ (line-last c.args.line.now _ c.field_end-at.ensures c.if-line-gt-LINE.false (⊎_elim (λ o. o) (λ o. absurd (omega arith)) c.in_err-fields.ensures.lookup.0)))

-- the first field names the kind v, or none
kind-known : (c : After-kind_in) → (v : Option LineKind) → kind_found c.kind_in.result ≡ v → line_in c.args.line.now ≡ second v (some c.in_ok-fields.fields.now)
kind-known c v e =
    let g = c.in_ok-fields.ensures.lookup.0 in
    line-more c.args.line.now _ c.field_end-at.ensures v _ c.if-line-gt-LINE.false g.0 g.2 (sym e ∙ c.kind_in.ensures)

pub returns-in_err-kind : goal.returns-in_err-kind
unfolding kind_found
returns-in_err-kind c =
    rw c.from_residual-in_err-kind.ensures (malformed _ (kind-known (goal.at.returns-in_err-kind c).After-kind_in none (ap kind_found c.in_err-kind.was) ∙ no-kind _))

pub returns : goal.returns
unfolding kind_found
returns c =
    c.fields_in.ensures
    ∙ ap parsed_of (sym (kind-known (goal.at.returns c).After-kind_in (some (kind_of c.in_ok-kind.kind)) (ap kind_found c.in_ok-kind.was)))
