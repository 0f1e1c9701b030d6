use Rattle.image.proofs.Names.{start_bytes, read_bytes, row, flat, field_bytes}
use Rattle.image.proofs.ReadPart.write.Goals as goal

pub returns : goal.returns
unfolding start_bytes read_bytes row flat field_bytes
returns c = c.write_start.ensures
