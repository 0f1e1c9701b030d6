-- `image::read_parts` meets its contract.
use Rattle.image.proofs.Names.{length}
use Rattle.image.proofs.PartLaws.{Taken}
use Rattle.image.proofs.read_parts.Given as goal

abbrev pub invariant-loop-i : goal.invariant-loop-i
invariant-loop-i g l = Taken g.P.Part.value_of g.P.Part.SIZE (length l.initial.values) l.b l.values l.i
