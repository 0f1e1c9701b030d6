-- `resp::write_set` meets its contract.
use Prim.Native.Nat.{◌+◌, ◌≤◌}
use mathlib.Core.Path.{◌≡◌, ◌∙◌}
use lib.ListN.{length}
use native.Mathlib.Omega.{arith}
use Rattle.resp.proofs.LengthLaws.{bulk-long}
use Rattle.resp.proofs.CommandLaws.{set-written}
use Rattle.resp.proofs.write_set.Goals as goal

-- the value's place, after the name
pub write_bulk-requires : goal.write_bulk-requires
write_bulk-requires c =
    let w = c.write_bulk-next in
    let b = c.write_bytes-at in
    let l : length w.new.out ≡ length c.args.out.now = w.auto.out ∙ b.auto.out in
    let o : w.result + 90 ≤ length w.new.out = omega (arith, l, b.ensures.0, w.ensures.0, bulk-long c.args.name.now c.requires.0, c.requires.0, c.requires.2) in
    (c.requires.1, o)

pub returns : goal.returns
returns c =
    let w₁ = c.write_bytes-at in
    let w₂ = c.write_bulk-next in
    let w₃ = c.write_bulk in
    set-written c.args.out.now w₁.new.out w₂.new.out w₃.new.out c.args.start w₁.result w₂.result w₃.result c.args.name.now c.args.value.now
    c.requires.0 c.requires.2 w₁.ensures w₂.ensures w₃.ensures
