-- `resp::write_bulk` meets its contract.
use Prim.Native.Nat.{◌+◌, ◌<◌, ◌≤◌}
use mathlib.Core.Path.{◌≡◌, ◌∙◌}
use lib.ListN.{length, set, length-set}
use native.Mathlib.Omega.{arith}
use Rattle.resp.proofs.CommandLaws.{bulk-written}
use Rattle.resp.proofs.write_bulk.Goals.{After-write_bytes-end, After-write_number-feed}
use Rattle.resp.proofs.write_bulk.Goals as goal

-- no call changes the length
numbered : (c : After-write_number-feed) → length c.write_number-feed.new.out ≡ length c.args.out.now
numbered c = c.write_number-feed.auto.out ∙ length-set c.args.out.now c.args.start 36

copied : (c : After-write_bytes-end) → length c.write_bytes-end.new.out ≡ length c.args.out.now
copied c =
    c.write_bytes-end.auto.out ∙ length-set c.write_number-feed.new.out c.write_number-feed.result 10
    ∙ (c.write_number-feed.auto.out ∙ length-set c.args.out.now c.args.start 36)

pub bounds-out-feed : goal.bounds-out-feed
bounds-out-feed c =
    let w = c.write_number-feed in
    let o : w.result < length w.new.out = omega (arith, numbered (goal.at.bounds-out-feed c).After-write_number-feed, w.ensures.1, c.requires.1) in o

pub write_bytes-end-requires : goal.write_bytes-end-requires
write_bytes-end-requires c =
    let w = c.write_number-feed in
    let o : w.result + 1 + length c.args.w.now ≤ length (set w.new.out w.result 10) =
    omega (arith, length-set w.new.out w.result 10, numbered (goal.at.write_bytes-end-requires c).After-write_number-feed, w.ensures.1, c.requires.0, c.requires.1) in o

pub write_bytes-requires : goal.write_bytes-requires
write_bytes-requires c =
    let w = c.write_bytes-end in
    let n = c.write_number-feed in
    let o : w.result + 2 ≤ length w.new.out = omega (arith, copied (goal.at.write_bytes-requires c).After-write_bytes-end, w.ensures.0, n.ensures.1, c.requires.0, c.requires.1) in o

pub shape_of-out : goal.shape_of-out
shape_of-out c = c.write_bytes.auto.out ∙ copied (goal.at.shape_of-out c).After-write_bytes-end

pub returns : goal.returns
returns c =
    let n = (goal.at.returns c).After-write_number-feed in
    let w₁ = n.write_number-feed in
    let w₂ = c.write_bytes-end in
    let w₃ = c.write_bytes in
    bulk-written c.args.out.now w₁.new.out w₂.new.out w₃.new.out c.args.start w₁.result w₂.result w₃.result c.args.w.now
    c.requires.0 c.requires.1 (numbered n) w₁.ensures w₂.ensures w₃.ensures
