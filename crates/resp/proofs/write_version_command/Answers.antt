-- `resp::write_version_command` meets its contract.
use Prim.Native.Nat.{ℕ, ◌-◌}
use mathlib.Core.List.{◌∷◌, ◌++◌}
use lib.ListN.{replicate, length-replicate}
use native.Mathlib.Omega.{arith}
use Rattle.decimal.specs.Digits.{digits}
use Rattle.decimal.proofs.WrittenLaws.{wrote-field}
use Rattle.resp.proofs.WrittenLaws.{Front, all-front, but-last-front}
use Rattle.resp.proofs.CommandLaws.{name-written, command-written}
use Rattle.resp.proofs.write_version_command.Goals.{After-write_bytes-end, After-write_number-after}
use Rattle.resp.proofs.write_version_command.Goals as goal

-- the name, and the value's digits
name-is : (c : After-write_bytes-end) → Front c.write_bytes-end.new.out c.write_bytes-end.result (118 ∷ 47 ∷ digits c.args.key ++ (47 ∷ c.args.id.now))
name-is c =
    let n = c.write_number-at in
    let w = c.write_bytes-end in
    let l = length-replicate {A = ℕ} 64 0 in
    all-front (replicate 64 0) w.new.out w.result _ l
    (name-written (replicate 64 0) n.new.out w.new.out 118 n.result w.result c.args.key c.args.id.now l c.requires.0 (rw c.from.ensures at n.ensures) w.ensures)
    (omega (arith, w.ensures.0, n.ensures.1, c.requires.0))

value-is : (c : After-write_number-after) → Front c.write_number-after.new.out (c.write_number-after.result - 1) (digits c.args.value)
value-is c =
    let w = c.write_number-after in
    but-last-front (replicate 64 0) w.new.out w.result _ 13 (length-replicate {A = ℕ} 64 0)
    (wrote-field (replicate 64 0) w.new.out 0 w.result 21 (digits c.args.value) 13 w.ensures) (omega (arith, w.ensures.1))

pub slice_bounds-write_set-end : goal.slice_bounds-write_set-end
slice_bounds-write_set-end c = (name-is (goal.at.slice_bounds-write_set-end c).After-write_bytes-end).long

pub slice_bounds-write_set-length : goal.slice_bounds-write_set-length
slice_bounds-write_set-length c = (value-is (goal.at.slice_bounds-write_set-length c).After-write_number-after).long

pub write_set-requires : goal.write_set-requires
write_set-requires c =
    let n = (goal.at.write_set-requires c).After-write_bytes-end in
    let v = (goal.at.write_set-requires c).After-write_number-after in
    ((name-is n).short, (value-is v).short, n.requires.1)

pub returns : goal.returns
returns c =
    let n = (goal.at.returns c).After-write_bytes-end in
    let v = (goal.at.returns c).After-write_number-after in
    let w = c.write_set in
    command-written c.args.out.now w.new.out c.args.start w.result _ _
    n.write_bytes-end.result (v.write_number-after.result - 1) n.write_bytes-end.new.out v.write_number-after.new.out (name-is n) (value-is v) w.ensures
