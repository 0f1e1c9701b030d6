-- `importing::after_commit` meets its contract.
use Prim.Native.Nat.{◌≤◌}
use mathlib.Core.Path.{sym, ap, ◌∙◌}
use lib.ListN.{length, take}
use native.Mathlib.Omega.{arith}
use Rattle.model.specs.KeySets.{key_set}
use Rattle.model.proofs.KeySetLaws.{set-ascends}
use Rattle.importing.proofs.CommitFound.{command-front, command-fits, commit-stripped}
use Rattle.importing.proofs.after_commit.Goals.{After-write_id-size}
use Rattle.importing.proofs.after_commit.Goals as goal

text-short : (c : After-write_id-size) → length (take c.write_id-size.result c.write_id-size.new.out) ≤ 31
text-short c =
    let w = c.write_id-size.ensures in
    omega (arith, w.0, w.1, ap length w.2)

pub slice_bounds-write_commit_command-end-2 : goal.slice_bounds-write_commit_command-end-2
slice_bounds-write_commit_command-end-2 c = c.write_id-size.ensures.0 ∙ ap length (sym c.write_id-size.ensures.2)

pub write_commit_command-end-requires : goal.write_commit_command-end-requires
write_commit_command-end-requires c = (text-short (goal.at.write_commit_command-end-requires c).After-write_id-size, c.requires.0, c.requires.1, omega arith)

pub slice_bounds-command-end : goal.slice_bounds-command-end
slice_bounds-command-end c =
    let e = c.args.e in
    let v = c.write_commit_command-end in
    omega (
      arith,
      v.auto.out,
      command-fits e.id (key_set e.keys) _ _ _ _ c.write_id-size.ensures.2 v.ensures.0 v.ensures.1
          (text-short (goal.at.slice_bounds-command-end c).After-write_id-size) (set-ascends e.keys) c.requires.1,
    )

pub slice_bounds-strip_prefix-end : goal.slice_bounds-strip_prefix-end
slice_bounds-strip_prefix-end c =
    let e = c.args.e in
    let v = c.write_commit_command-end in
    command-front e.id (key_set e.keys) _ _ _ _ c.write_id-size.ensures.2 v.ensures.0 v.ensures.1

pub returns : goal.returns
returns c =
    let e = c.args.e in
    let v = c.write_commit_command-end in
    commit-stripped e.id (key_set e.keys) _ _ _ _ c.write_id-size.ensures.2 v.ensures.0 v.ensures.1 c.args.s.now _ c.strip_prefix.ensures.cases
