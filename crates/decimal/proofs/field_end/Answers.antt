-- `decimal::field_end` meets its contract.
use mathlib.Core.Path.{refl, ◌∙◌}
use lib.Dec.{eqb}
use lib.ListN.{length}
use Rattle.std.proofs.Common.{ℕ, rules, tests}
use Rattle.std.proofs.lemmas.Iterator.{YieldsList-from_slice}
use Rattle.std.proofs.lemmas.Iterator.Search.{position_from_yields_List}
use Rattle.model.proofs.StdWords.{first_from_position}
use Rattle.decimal.proofs.FieldLaws.{first-field}
use Rattle.decimal.proofs.field_end.Goals as goal

pub returns : goal.returns
returns c =
    let s = c.args.s.now in
    let ends = λ (b : ℕ). eqb b c.args.end in
    c.unwrap_or.ensures
    ∙ first_from_position ends s c.position.result (length s) (position_from_yields_List ends _ _ c.position.result c.position.ensures.ran (YieldsList-from_slice s c.iter.ensures.rest) (λ x b q k. search (rules, tests))) refl
    ∙ first-field c.args.end s
