use Rattle.image.proofs.Names.{arith}
use Rattle.image.proofs.PartLaws.{read_next, read-end}
use Rattle.image.proofs.read_parts.Goals as goal

pub loop-i-preserved : goal.loop-i-preserved
loop-i-preserved g c = read_next c.loop-i.invariant c.read.result (omega arith) (rw c.SIZE-size.ensures at c.read.ensures)

pub returns : goal.returns
returns g c = read-end c.loop-i.invariant (omega arith)
