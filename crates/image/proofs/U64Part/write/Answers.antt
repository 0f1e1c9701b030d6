use Rattle.image.proofs.PlaceLaws.{value_written}
use Rattle.image.proofs.U64Part.write.Goals as goal

pub returns : goal.returns
returns c = value_written _ _ c.write_number.new.part c.requires c.write_number.ensures
