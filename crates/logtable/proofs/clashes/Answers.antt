-- `logtable::clashes` meets its contract.
use Prim.Native.Nat.{ℕ}
use mathlib.Core.Path.{ap, ◌∙◌}
use Rattle.std.proofs.Common.{rules, tests}
use Rattle.std.proofs.lemmas.Iterator.{YieldsList-from_slice}
use Rattle.std.proofs.lemmas.Iterator.Search.{any_from_yields_List}
use Rattle.model.specs.Lists.{any}
use Rattle.model.proofs.StdWords.{list_any-any}
use Rattle.logtable.specs.Tables.{key_of, author_of}
use Rattle.logtable.specs.Findings.{clash, clashes}
use Rattle.logtable.proofs.clashes.Goals as goal

pub returns : goal.returns
unfolding clashes
returns c =
    let a = c.args in
    let test = λ (r : ℕ). clash a.table.now a.key a.author (key_of r) (author_of r) in
    any_from_yields_List test _ _ _ c.any.ensures.ran (YieldsList-from_slice c.reads_of.result.now cc) (λ x b q k. search (rules, tests))
    ∙ list_any-any test _ ∙ ap (any test) c.reads_of.ensures
