-- `sheet::print_line` meets its contract.
use Rattle.sheet.proofs.PrintLaws.{line-written}
use Rattle.sheet.proofs.print_line.Goals as goal

pub returns : goal.returns
returns c =
    let v = c.values_in-v in
    let a = c.args in
    let w₁ = c.write_number-word in
    let w₂ = c.write_word-a in
    let w₃ = c.write_number-b in
    let w₄ = c.write_number-c in
    let w₅ = c.write_number in
    line-written a.out.now w₁.new.out w₂.new.out w₃.new.out w₄.new.out w₅.new.out w₁.result w₂.result w₃.result w₄.result w₅.result
    a.number a.answer v.result.a v.result.b v.result.c c.requires v.ensures w₁.ensures w₂.ensures w₃.ensures w₄.ensures w₅.ensures
