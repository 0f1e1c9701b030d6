-- `sheet::command_in` meets its contract.
use Prim.Native.Nat.{ℕ, ◌+◌}
use mathlib.Core.Path.{◌≡◌, sym, ap, ◌∙◌}
use mathlib.Core.List.{List}
use mathlib.Core.Option.{Option, some}
use lib.ListN.{length, take}
use lib.Seq.{length-take-le}
use native.Mathlib.Nat.{le_refl}
use native.Mathlib.Omega.{arith}
use Rattle.std.proofs.lemmas.Slice.{between_to_end}
use Rattle.model.specs.Limits.{txn_range, byte_range}
use Rattle.lines.specs.Lines.{comma}
use Rattle.decimal.specs.Fields.{field}
use Rattle.decimal.proofs.FieldLaws.{field-short, field-taken}
use Rattle.decimal.proofs.ReadLaws.{unread, read_as, read_below}
use Rattle.sheet.specs.Commands.{command_of}
use Rattle.sheet.specs.Lines.{verb_in, second, fourth, line_call}
use Rattle.sheet.specs.Parts.{verb_of}
use Rattle.sheet.specs.Words.{Verb}
use Rattle.sheet.proofs.LineLaws.{is_last, is-more, line-is, line-last, line-long, second-is, second_none, third-is, third_none, fourth-comma, fourth-none, fourth-more, malformed}
use Rattle.sheet.proofs.command_in.Goals as goal
use Rattle.sheet.proofs.command_in.Goals.{In_ok-rest, In_ok-k}

pub returns-then-line-gt-LINE : goal.returns-then-line-gt-LINE
returns-then-line-gt-LINE c = malformed _ (line-long c.args.line.now c.if-line-gt-LINE.true)

pub slice_bounds-word_in-end : goal.slice_bounds-word_in-end
slice_bounds-word_in-end c = sym (length-take-le c.field_end-at.result c.args.line.now (omega (arith, field-short comma c.args.line.now)))

pub overflow_add-at : goal.overflow_add-at
overflow_add-at c = omega (arith, field-short comma c.args.line.now)

pub returns-in_err-rest : goal.returns-in_err-rest
returns-in_err-rest c =
    let line = c.args.line.now in
    rw c.from_residual.ensures (malformed _ (line-last line c.if-line-gt-LINE.false (is_last line c.field_end-at.result c.field_end-at.ensures (omega (arith, c.in_err-rest.ensures.lookup)))))

-- the line from its first comma on
from_rest : (p : In_ok-rest) → line_call p.args.line.now ≡ second (verb_of p.word_in-word.result) (some p.in_ok-rest.rest.now)
from_rest p =
    let line = p.args.line.now in
    let at = p.field_end-at.result in
    let l = p.in_ok-rest.ensures.lookup in
    let rest = l.0.2 ∙ between_to_end line (at + 1) (length line) (le_refl _) in
    let word = ap verb_in (sym (ap (λ (n : ℕ). take n line) p.field_end-at.ensures ∙ field-taken comma line)) ∙ sym p.word_in-word.ensures in
    line-is line p.in_ok-rest.rest.now p.if-line-gt-LINE.false (is-more line at p.field_end-at.ensures (omega arith) ∙ ap (λ (bs : List ℕ). some bs) (sym rest))
    ∙ ap (λ (v : Option Verb). second v (some p.in_ok-rest.rest.now)) word

pub returns-in_err-t : goal.returns-in_err-t
returns-in_err-t c =
    rw c.from_residual-in_err-t.ensures (malformed _ (from_rest (goal.at.returns-in_err-t c).In_ok-rest ∙ second_none _ _ c.in_err-t.ensures))

pub returns-in_err-k : goal.returns-in_err-k
returns-in_err-k c =
    rw
    c.from_residual-in_err-k.ensures
    (malformed
    _
    (from_rest (goal.at.returns-in_err-k c).In_ok-rest ∙ second-is _ _ c.in_ok-t.t c.in_ok-t.rest.now c.in_ok-t.ensures.0 c.in_ok-t.ensures.1 ∙ third_none _ _ _ c.in_err-k.ensures))

-- and from its third comma on
from_key : (p : In_ok-k) → line_call p.args.line.now ≡ second (verb_of p.word_in-word.result) (some p.in_ok-rest.rest.now)
    → line_call p.args.line.now ≡ fourth (verb_of p.word_in-word.result) (some p.in_ok-t.t) (some p.in_ok-k.k) (some p.in_ok-k.rest.now)
from_key p h =
    h
    ∙ second-is _ _ p.in_ok-t.t p.in_ok-t.rest.now p.in_ok-t.ensures.0 p.in_ok-t.ensures.1
    ∙ third-is _ _ _ p.in_ok-k.k p.in_ok-k.rest.now p.in_ok-k.ensures.0 p.in_ok-k.ensures.1

pub returns-in_err-n : goal.returns-in_err-n
returns-in_err-n c =
    let a = goal.at.returns-in_err-n c in
    rw
    c.from_residual-in_err-n.ensures
    (malformed _ (from_key a.In_ok-k (from_rest a.In_ok-rest) ∙ fourth-none _ c.in_ok-t.t c.in_ok-k.k c.in_ok-k.rest.now (unread _ _ _ c.number_in.ensures c.in_err-n.was)))

pub returns-then-end-rest : goal.returns-then-end-rest
returns-then-end-rest c =
    let a = goal.at.returns-then-end-rest c in
    let r = read_as _ _ _ c.in_ok-n.n c.in_ok-n.end c.number_in.ensures c.in_ok-n.was in
    malformed _ (from_key a.In_ok-k (from_rest a.In_ok-rest) ∙ fourth-comma _ c.in_ok-t.t c.in_ok-k.k c.in_ok-k.rest.now (omega (arith, r.1)))

pub overflow_cast-t : goal.overflow_cast-t
overflow_cast-t c = omega (arith, read_below txn_range (field comma c.in_ok-rest.rest.now) c.in_ok-t.t c.in_ok-t.ensures.0)

pub overflow_cast-k : goal.overflow_cast-k
overflow_cast-k c = omega (arith, read_below byte_range (field comma c.in_ok-t.rest.now) c.in_ok-k.k c.in_ok-k.ensures.0)

pub returns : goal.returns
returns c =
    let a = goal.at.returns c in
    let r = read_as _ _ _ c.in_ok-n.n c.in_ok-n.end c.number_in.ensures c.in_ok-n.was in
    c.command_for.ensures
    ∙ ap command_of (sym (from_key a.In_ok-k (from_rest a.In_ok-rest) ∙ fourth-more _ c.in_ok-t.t c.in_ok-k.k c.in_ok-k.rest.now c.in_ok-n.n (omega (arith, r.1)) r.0))
