-- `resp::write_commit_command` meets its contract.
use Prim.Native.Nat.{ℕ}
use mathlib.Core.List.{◌∷◌}
use lib.ListN.{replicate, length-replicate}
use native.Mathlib.Omega.{arith}
use Rattle.model.specs.KeySets.{key_set}
use Rattle.resp.specs.Streams.{keys_text}
use Rattle.resp.proofs.WrittenLaws.{Front, all-front, short-front}
use Rattle.resp.proofs.CommandLaws.{commit-name-written, command-written}
use Rattle.resp.proofs.write_commit_command.Goals.{After-write_bytes-end, After-write_keys-size}
use Rattle.resp.proofs.write_commit_command.Goals as goal

-- the name, and the keys' text
name-is : (c : After-write_bytes-end) → Front c.write_bytes-end.new.out c.write_bytes-end.result (99 ∷ 47 ∷ c.args.id.now)
name-is c =
    let w = c.write_bytes-end in
    all-front (replicate 64 0) w.new.out w.result _ (length-replicate {A = ℕ} 64 0)
    (commit-name-written (replicate 64 0) w.new.out 99 w.result c.args.id.now (length-replicate {A = ℕ} 64 0) c.requires.0 w.ensures) (omega (arith, w.ensures.0, c.requires.0))

value-is : (c : After-write_keys-size) → Front c.write_keys-size.new.out c.write_keys-size.result (keys_text (key_set c.args.set))
value-is c = let w = c.write_keys-size in short-front w.new.out w.result _ w.ensures.0 (omega (arith, w.ensures.1)) w.ensures.2

pub slice_bounds-write_set-end : goal.slice_bounds-write_set-end
slice_bounds-write_set-end c = (name-is (goal.at.slice_bounds-write_set-end c).After-write_bytes-end).long

pub slice_bounds-write_set-end-2 : goal.slice_bounds-write_set-end-2
slice_bounds-write_set-end-2 c = (value-is (goal.at.slice_bounds-write_set-end-2 c).After-write_keys-size).long

pub write_set-requires : goal.write_set-requires
write_set-requires c =
    let n = (goal.at.write_set-requires c).After-write_bytes-end in
    let v = (goal.at.write_set-requires c).After-write_keys-size in
    ((name-is n).short, (value-is v).short, c.requires.3)

pub returns : goal.returns
returns c =
    let n = (goal.at.returns c).After-write_bytes-end in
    let v = (goal.at.returns c).After-write_keys-size in
    let w = c.write_set in
    command-written c.args.out.now w.new.out c.args.start w.result _ _
    n.write_bytes-end.result v.write_keys-size.result n.write_bytes-end.new.out v.write_keys-size.new.out (name-is n) (value-is v) w.ensures
