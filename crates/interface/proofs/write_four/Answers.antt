-- `interface::write_four` meets its contract.
use Rattle.interface.specs.Exchange.{four_bytes}
use Rattle.interface.proofs.ByteLaws.{four-written}
use Rattle.interface.proofs.write_four.Goals as goal

pub returns : goal.returns
unfolding four_bytes
returns c =
    let w₀ = c.write_number in
    let w₁ = c.write_number-2 in
    let w₂ = c.write_number-3 in
    let w₃ = c.write_number-4 in
    four-written c.args.out.now w₀.new.part w₁.new.part w₂.new.part w₃.new.part c.args.kind c.args.a c.args.b c.args.c c.requires w₀.auto.part w₁.auto.part w₂.auto.part
    w₀.ensures w₁.ensures w₂.ensures w₃.ensures
