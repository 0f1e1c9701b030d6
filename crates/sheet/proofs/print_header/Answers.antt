-- `sheet::print_header` meets its contract.
use native.Mathlib.Omega.{arith}
use Rattle.sheet.specs.Words.{header}
use Rattle.decimal.proofs.WrittenLaws.{wrote-all}
use Rattle.sheet.proofs.print_header.Goals as goal

pub returns : goal.returns
unfolding header
returns c =
    let a = c.args in
    let w = c.write_bytes in
    let r = wrote-all a.out.now w.new.out w.result header (record { till-is = w.ensures.0; now-is = w.ensures.1 }) (omega arith) in
    (w.ensures.0, r.0, r.1, r.2)
