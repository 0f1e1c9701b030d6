-- `lines::line_end` meets its contract.
use Prim.Native.Nat.{ℕ, ◌+◌, ◌-◌}
use mathlib.Core.Path.{refl, ap, ◌∙◌}
use mathlib.Core.List.{List}
use lib.Dec.{eqb}
use lib.ListN.{length, take, drop}
use native.Mathlib.Nat.{le_refl}
use Rattle.std.proofs.Common.{rules, tests}
use Rattle.std.proofs.lemmas.Iterator.{YieldsList-from_slice}
use Rattle.std.proofs.lemmas.Iterator.Search.{position_from_yields_List}
use Rattle.std.proofs.lemmas.Slice.{between_to_end}
use Rattle.model.proofs.StdWords.{first_from_position}
use Rattle.lines.specs.Lines.{newline, first_line}
use Rattle.lines.proofs.StopLaws.{first-newline}
use Rattle.lines.proofs.line_end.Goals as goal

pub returns : goal.returns
returns c =
    let input = c.args.input.now in
    let start = c.args.start in
    let rest = take (length input - start) (drop start input) in
    let ends = λ (b : ℕ). eqb b newline in
    ap
    (λ (n : ℕ). start + n)
    (c.unwrap_or.ensures
    ∙ first_from_position ends rest c.position.result (length rest) (position_from_yields_List ends _ _ c.position.result c.position.ensures.ran (YieldsList-from_slice rest c.iter.ensures.rest) (λ x b q k. search (rules, tests))) refl
    ∙ first-newline rest
    ∙ ap (λ (bs : List ℕ). length (first_line bs)) (between_to_end input start (length input) (le_refl _)))
