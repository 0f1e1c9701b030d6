-- `intake::run_line` meets its contract.
use mathlib.Core.Path.{◌∙◌}
use Rattle.desk.specs.declared.Request.{Request}
use Rattle.intake.proofs.RunLaws.{line-run, line-answered, line-tested}
use Rattle.intake.proofs.run_line.Goals as goal

pub returns : goal.returns
returns c =
    let a = c.args in
    let m = c.parse_line-command in
    let o = c.act_once-outcome in
    let w = c.print_line-used in
    let q : Request = record { command = m.result; tested = a.tested } in (
      line-run a.line.now a.station a.store.now a.number q m.ensures o.result o.ensures.0 o.new.store o.ensures.1,
      w.ensures.0,
      w.ensures.1 ∙ line-answered a.line.now a.station a.store.now a.number q m.ensures o.result o.ensures.0,
      w.ensures.2,
      line-tested a.line.now a.station a.store.now a.number q m.ensures o.result o.ensures.0 c.requires.1 c.tested_after.result c.tested_after.ensures,
    )
