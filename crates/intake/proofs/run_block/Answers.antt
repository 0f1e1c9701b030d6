-- `intake::run_block` meets its contract.
use Rattle.intake.proofs.run_block.Goals as goal

pub run_lines-requires : goal.run_lines-requires
run_lines-requires c = let p = c.requires in (p.0, p.1, p.2, p.3, c.is_sound-tested.ensures)

pub returns : goal.returns
returns c = c.run_lines.ensures
