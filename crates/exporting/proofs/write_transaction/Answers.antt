-- `exporting::write_transaction` meets its contract.
use Prim.Native.Nat.{◌≤◌}
use lib.ListN.{length, take}
use native.Mathlib.Omega.{arith}
use Rattle.resp.specs.Streams.{id_text}
use Rattle.resp.proofs.WrittenLaws.{Front, short-front}
use Rattle.exporting.proofs.VersionsLaws.{transaction-written}
use Rattle.exporting.proofs.write_transaction.Goals.{After-write_id-size}
use Rattle.exporting.proofs.write_transaction.Goals as goal

-- the id's text
text-is : (c : After-write_id-size) → Front c.write_id-size.new.out c.write_id-size.result (id_text c.args.e.id)
text-is c = let w = c.write_id-size in short-front w.new.out w.result _ w.ensures.0 (omega (arith, w.ensures.1)) w.ensures.2

short : (c : After-write_id-size) → length (take c.write_id-size.result c.write_id-size.new.out) ≤ 31
short c = omega (arith, (text-is c).long, c.write_id-size.ensures.1)

pub write_versions-at-requires : goal.write_versions-at-requires
write_versions-at-requires c = let s = c in (s.requires.0, (text-is (goal.at.write_versions-at-requires c).After-write_id-size).is, s.requires.2, s.requires.3)

pub write_commit_command-requires : goal.write_commit_command-requires
write_commit_command-requires c =
    let s = c in
    let w = c.write_versions-at in
    (short (goal.at.write_commit_command-requires c).After-write_id-size, s.requires.1, s.requires.2, omega (arith, w.ensures.1, w.auto.out, s.requires.2, s.requires.3))

pub returns : goal.returns
returns c =
    let s = c in
    let i = (goal.at.returns c).After-write_id-size in
    let v = c.write_versions-at in
    let w = c.write_commit_command in
    let a = s.args in
    let r = transaction-written a.slot.now a.e a.out.now v.new.out w.new.out a.start v.result w.result _
    s.requires.3 s.requires.2 (text-is i).is (short i) v.ensures.1 (v.ensures.0, v.ensures.2) w.ensures in
    (r.1.0, r.0, r.1.1)
