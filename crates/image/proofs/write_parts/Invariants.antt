-- `image::write_parts` meets its contract.
use Rattle.image.proofs.Names.{length}
use Rattle.image.proofs.PartLaws.{Put}
use Rattle.image.proofs.write_parts.Given as goal

abbrev pub invariant-loop-i : goal.invariant-loop-i
invariant-loop-i g l = Put g.P.Part.bytes_of g.P.Part.SIZE (length l.values) l.values l.part l.i
