use Rattle.std.proofs.Common.{ap, ◌∙◌}
use Rattle.model.specs.Types.{Outcome}
use Rattle.model.specs.Sound.{sound}
use Rattle.desk.proofs.ActLaws.{acted-sound}
use Rattle.bench.proofs.bench_known.Goals as goal

pub loop-i-preserved : goal.loop-i-preserved
loop-i-preserved c = ap (λ (o : Outcome). sound o.station) c.act-o.ensures.0 ∙ acted-sound _ _ _ c.loop-i.invariant
