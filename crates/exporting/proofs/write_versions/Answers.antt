-- `exporting::write_versions` meets its contract.
use Prim.Native.Nat.{◌+◌, ◌≤◌}
use mathlib.Core.Path.{ap, ◌∙◌}
use lib.ListN.{length}
use native.Mathlib.Omega.{arith}
use borrow.Author.Rules.{rules}
use Rattle.model.specs.KeySets.{key_set}
use Rattle.model.specs.Records.{value_in}
use Rattle.resp.proofs.KeysLaws.{first-low}
use Rattle.resp.proofs.LengthLaws.{id-long}
use Rattle.keysets.specs.Parts.{keys_left}
use Rattle.exporting.proofs.VersionsLaws.{version-part}
use Rattle.exporting.proofs.VersionsLaws.{Versioning, versioning-nth, versioning-room, versioning-next, versioning-ends}
use Rattle.exporting.proofs.write_versions.Goals.{In-Some, Start}
use Rattle.exporting.proofs.write_versions.Goals as goal

short : (s : Start) → length s.args.id.now ≤ 31
short s = omega (arith, ap length s.requires.1, id-long s.args.e.id (search rules) (search rules))

held : (c : In-Some) → Versioning c.args.e.id c.args.out.now c.args.start c.args.slot.now (key_set c.args.e.keys) c.loop-n.out c.loop-n.at (keys_left c.loop-n.n-iterator.iter) (c.loop-n.n-iterator.count + 1)
held c = c.loop-n.invariant c.args.e.id c.requires.1

pub slice_bounds-value_in-end : goal.slice_bounds-value_in-end
slice_bounds-value_in-end c =
    let s = c.in-Some.ensures.steps in
    omega (arith, c.requires.0, versioning-nth (held (goal.at.slice_bounds-value_in-end c).In-Some) c.requires.2 s.0, s.1)

pub write_version_command-at-requires : goal.write_version_command-at-requires
write_version_command-at-requires c =
    let p = goal.at.write_version_command-at-requires c in
    (short p.Start, versioning-room (held p.In-Some) c.requires.2 c.in-Some.ensures.steps.0 c.requires.3)

pub loop-n-preserved : goal.loop-n-preserved
loop-n-preserved c i h =
    let s = c.in-Some.ensures.steps in
    let w = c.write_version_command-at in
    let v = c.value_in-value in
    let is = v.ensures ∙ ap value_in (version-part c.args.slot.now (c.in-Some.n + 1)) in
    rw s.2
    (versioning-next (c.loop-n.invariant i h) c.requires.2 s.0 c.requires.3 c.args.id.now v.result w.new.out w.result (first-low _ _ _ s.0) h
    (short (goal.at.loop-n-preserved c).Start) (search rules) (rw s.1 at is) w.ensures)

pub returns : goal.returns
returns c =
    let h : Versioning _ _ _ _ _ _ _ _ _ = c.loop-n.invariant c.args.e.id c.requires.1 in
    let w = versioning-ends h c.in-None.ensures.steps.0.0 in
    (w.till-is, omega (arith, h.room), w.now-is)
