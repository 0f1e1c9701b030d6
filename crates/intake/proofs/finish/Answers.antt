-- `intake::finish` meets its contract.
use mathlib.Core.Path.{refl, ◌∙◌}
use native.Mathlib.Omega.{arith}
use Rattle.intake.proofs.RunLaws.{end_none, end_line, end-newline}
use Rattle.intake.proofs.finish.Goals as goal

pub returns-then-len-eq0 : goal.returns-then-len-eq0
returns-then-len-eq0 c =
    let a = c.args in
    (omega arith, end_none a.station a.store.now a.number a.part.now a.len c.if-len-eq0.true, refl)

pub run_lines-requires : goal.run_lines-requires
run_lines-requires c =
    let p = c.requires in
    (p.0, p.1, p.2, p.3, c.is_sound-tested.ensures)

pub returns : goal.returns
returns c =
    let a = c.args in
    let r = c.run_lines.ensures in
    (r.3, r.1 ∙ end-newline a.station a.store.now a.number a.part.now a.len ∙ end_line a.station a.store.now a.number a.part.now a.len c.if-len-eq0.false (omega (arith, c.requires.0, c.requires.1)), r.2)
