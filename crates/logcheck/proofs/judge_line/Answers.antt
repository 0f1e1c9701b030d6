-- `logcheck::judge_line` meets its contract.
use mathlib.Core.Path.{sym, ap, ◌∙◌}
use Rattle.std.proofs.Common.{Some}
use Rattle.shoplog.specs.Lines.{line_in}
use Rattle.shoplog.specs.Logs.{finding_at}
use Rattle.shoplog.proofs.LineRanges.{line-fits}
use Rattle.logcheck.specs.Judged.{found, table_with}
use Rattle.logcheck.proofs.ParsedLaws.{parsed-write, parsed-commit, parsed-read, parsed-none, judged, unjudged}
use Rattle.logcheck.proofs.judge_line.Goals.{in-Write, in-Commit, in-Read}
use Rattle.logcheck.proofs.judge_line.Goals as goal

pub returns-in_default : goal.returns-in_default
returns-in_default c =
    rw c.number.ensures (unjudged c.args.table.now c.args.number (line_in c.args.line.now) (parsed-none _ (sym c.in_default.is ∙ c.parse_log_line.ensures)))

pub judge_write-found-requires : goal.judge_write-found-requires
judge_write-found-requires c =
    (c.requires, (line-fits c.args.line.now _ (parsed-write _ _ c.in-Write.key (ap Some (sym c.in-Write.is) ∙ sym c.in-Some.is ∙ c.parse_log_line.ensures))).1)

pub judge_read-found-requires : goal.judge_read-found-requires
judge_read-found-requires c =
    (c.requires, (line-fits c.args.line.now _ (parsed-read _ _ c.in-Read.key _ (ap Some (sym c.in-Read.is) ∙ sym c.in-Some.is ∙ c.parse_log_line.ensures))).1)

pub returns : goal.returns
unfolding found table_with
returns c =
    let n = c.args.number in
    let v = c.verdict_at.ensures in
    let p = sym c.in-Some.is ∙ c.parse_log_line.ensures in
    elim c.match-parsed.branch [
      | in-Write w ↦
          let j = w.judge_write-found in
          judged _ _ _ _ _ j.result _ (parsed-write _ _ _ (ap Some (sym w.in-Write.is) ∙ p)) j.ensures.0 (w.table-is ∙ j.ensures.1) (v ∙ ap (finding_at n) w.found-is)
      | in-Commit w ↦
          let j = w.judge_commit-found in
          judged _ _ _ _ _ j.result _ (parsed-commit _ _ _ (ap Some (sym w.in-Commit.is) ∙ p)) j.ensures.0 (w.table-is ∙ j.ensures.1) (v ∙ ap (finding_at n) w.found-is)
      | in-Read w ↦
          let j = w.judge_read-found in
          judged _ _ _ _ _ j.result _ (parsed-read _ _ _ _ (ap Some (sym w.in-Read.is) ∙ p)) j.ensures.0 (w.table-is ∙ j.ensures.1) (v ∙ ap (finding_at n) w.found-is)
    ]
