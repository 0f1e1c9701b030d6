use Rattle.image.proofs.Names.{ap, ◌∙◌, arith}
use Rattle.image.proofs.PartLaws.{write-next, write-end}
use Rattle.image.proofs.write_parts.Goals as goal

pub loop-i-preserved : goal.loop-i-preserved
loop-i-preserved g c =
    let w = c.write in
    let v = c.index-values-i in
    rw c.SIZE-size.ensures (write-next c.loop-i.invariant w.new.part v.result (omega arith) (rw c.SIZE-size.ensures at w.auto.part) (w.ensures ∙ ap g.P.Part.bytes_of v.is))

pub returns : goal.returns
returns g c = write-end c.loop-i.invariant (omega arith)
