-- `records::write_commit` meets its contract.
use Prim.Native.Nat.{ℕ}
use mathlib.Core.Path.{◌≡◌, ap₂, ◌∙◌}
use mathlib.Core.List.{◌++◌}
use lib.ListN.{length, drop, length-drop}
use native.Mathlib.Omega.{arith}
use Rattle.model.specs.Listed.{kind_of}
use Rattle.model.specs.Bytes.{head_bytes}
use Rattle.model.specs.KeySets.{key_set}
use Rattle.model.specs.Entries.{commit_record}
use Rattle.records.proofs.ByteLaws.{put-end, length-head}
use Rattle.records.proofs.write_commit.Goals as goal

pub returns : goal.returns
unfolding commit_record
returns c =
    let n = c.key_count in
    let m = c.mark in
    let a = c.args in
    let i = a.e.id in
    let ks = (kind_of a.kind).encode (key_set a.e.keys) in
    let l : length (drop 16 a.part.now) ≡ 8 = simp length-drop (omega arith) in
    put-end c.write_head.new.part (head_bytes m.result n.result i) (drop 16 a.part.now) c.copy_from_slice.new.self ks 16 8 c.write_head.ensures (length-head m.result n.result i) l (c.copy_from_slice.ensures.after ∙ c.field_bytes.ensures)
    ∙ ap₂ (λ (x k : ℕ). head_bytes x k i ++ ks) m.ensures n.ensures
