use mathlib.Core.Path.{ap, sym, ◌∙◌}
use lib.Dec.{eqb}
use lib.ListN.{take}
use borrow.Author.Rules.{rules}
use borrow.Author.Tests.{tests}
use Rattle.std.proofs.lemmas.Iterator.{YieldsList-from_slice}
use Rattle.std.proofs.lemmas.Iterator.Search.{any_from_yields_List}
use Rattle.model.specs.Lists.{any, member}
use Rattle.model.specs.Lives.{read_key, reads_of, has_read}
use Rattle.model.proofs.StdWords.{list_any-any}
use Rattle.stations.proofs.Search.{any-map}
use Rattle.stations.proofs.has_read.Goals as goal

pub returns : goal.returns
unfolding has_read reads_of member
returns c =
    let l = c.args.l in
    any_from_yields_List (λ r. eqb c.args.key (read_key r)) _ _ _ c.any.ensures.ran (YieldsList-from_slice (take c.from-n.result l.reads) cc) (λ x b q k. search (rules, tests))
    ∙ (list_any-any _ _ ∙ (ap (λ n. any (λ r. eqb c.args.key (read_key r)) (take n l.reads)) c.from-n.ensures ∙ sym (any-map read_key (eqb c.args.key) (take l.read_count l.reads))))
