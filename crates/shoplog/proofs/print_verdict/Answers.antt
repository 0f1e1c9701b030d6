-- `shoplog::print_verdict` meets its contract.
use mathlib.Core.Path.{sym}
use native.Mathlib.Omega.{arith}
use Rattle.shoplog.specs.Printed.{verdict_printed}
use Rattle.shoplog.proofs.PrintedLaws.{word-printed, one-printed, two-printed}
use Rattle.shoplog.proofs.print_verdict.Goals as goal

pub returns-in-Clean : goal.returns-in-Clean
unfolding verdict_printed
returns-in-Clean c =
    let w = c.write_bytes in
    rw c.in-Clean.is (word-printed c.args.out.now w.new.out w.result _ c.requires (omega arith) w.ensures.0 w.ensures.1)

pub returns-in-Bad : goal.returns-in-Bad
unfolding verdict_printed
returns-in-Bad c =
    let w = c.write_bytes-line in
    let n = c.write_number in
    rw c.in-Bad.is (one-printed c.args.out.now w.new.out n.new.out w.result n.result _ _ 10 c.requires (omega arith) w.ensures.0 w.ensures.1 n.ensures)

pub returns-in-Refused : goal.returns-in-Refused
unfolding verdict_printed
returns-in-Refused c =
    let w = c.write_bytes-row in
    let m = c.write_number-line in
    let n = c.write_number-in-Refused in
    rw (c.in-Refused.is, sym c.from.ensures)
    (two-printed c.args.out.now w.new.out m.new.out w.result m.result _ _ 44 c.requires (omega arith) w.ensures.0 w.ensures.1 m.ensures n.new.out n.result _ 10 n.ensures)
