-- `sheet::write_word` meets its contract.
use mathlib.Core.Path.{ap, ◌∙◌}
use Prim.Native.Nat.{ℕ}
use mathlib.Core.List.{List, [], ◌∷◌, ◌++◌}
use lib.ListN.{length, set}
use native.Mathlib.Omega.{arith}
use Rattle.decimal.specs.Written.{written}
use Rattle.decimal.proofs.WrittenLaws.{written_then}
use Rattle.sheet.proofs.write_word.Goals as goal

pub returns : goal.returns
returns c =
    let a = c.args in
    let w = c.write_bytes-end in
    let word = c.answer_word.ensures.0 in
    let n = ap length word in (
      omega (arith, w.ensures.0, n),
      omega (arith, w.ensures.0, c.answer_word.ensures.1),
      ap (λ (out : List ℕ). set out w.result 44) w.ensures.1 ∙ written_then a.out.now a.start w.result 44 c.answer_word.result.now w.ensures.0 (omega (arith, w.ensures.0, c.answer_word.ensures.1))
          ∙ ap (λ (bs : List ℕ). written a.out.now a.start (bs ++ (44 ∷ []))) word,
    )
