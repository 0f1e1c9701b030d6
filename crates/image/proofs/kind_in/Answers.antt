-- `image::kind_in` meets its contract.
use Rattle.image.proofs.PlaceLaws.{kind-wide, kind-narrow}
use Rattle.image.proofs.kind_in.Goals as goal

pub returns-then-b-eq-WIDE : goal.returns-then-b-eq-WIDE
returns-then-b-eq-WIDE c = kind-wide c.args.b.now c.if-b-eq-WIDE.true

pub returns-else-b-eq-WIDE : goal.returns-else-b-eq-WIDE
returns-else-b-eq-WIDE c = kind-narrow c.args.b.now c.if-b-eq-WIDE.false
