use Rattle.std.proofs.Common.{◌∙◌, arith, rules, tests}
use Rattle.std.proofs.lemmas.Iterator.Search.{all_from_yields_List}
use Rattle.image.proofs.Names.{read_limit, read_size, is_alone}
use Rattle.image.proofs.Chunks.{YieldsList-from_parts}
use Rattle.model.proofs.StdWords.{list_all-all}
use Rattle.image.proofs.are_reads.Goals as goal

pub returns : goal.returns
returns c =
    all_from_yields_List (is_alone 4) _ _ _ c.all.ensures.ran (YieldsList-from_parts read_size read_limit c.args.b.now (omega arith) c.requires c.chunks_exact.ensures.rest c.chunks_exact.ensures.size) (λ x b q k. search (rules, tests))
    ∙ list_all-all _ _
