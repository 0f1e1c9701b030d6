-- `records::write_version` meets its contract.
use Prim.Native.Nat.{ℕ}
use mathlib.Core.Path.{◌≡◌, ap, ◌∙◌}
use lib.ListN.{length, drop, length-drop}
use native.Mathlib.Omega.{arith}
use borrow.Rule.Slice.PartMut.{mid_len}
use Rattle.model.specs.Limits.{record_size}
use Rattle.model.specs.Bytes.{bytes, head_bytes}
use Rattle.model.specs.Records.{version_record}
use Rattle.records.proofs.ByteLaws.{put-end, length-head}
use Rattle.records.proofs.write_version.Goals as goal

pub returns : goal.returns
unfolding version_record
returns c =
    let a = c.args in
    let w = c.write_head in
    let v = c.write_number in
    let k : length w.new.part ≡ record_size = w.auto.part ∙ c.requires in
    let l : length (drop 16 a.part.now) ≡ 8 = simp length-drop (omega arith) in
    put-end w.new.part (head_bytes a.key 0 a.id) (drop 16 a.part.now) v.new.part (bytes 8 a.value) 16 8 w.ensures (length-head a.key 0 a.id) l
    (v.ensures ∙ ap (λ (n : ℕ). bytes n a.value) (mid_len 16 24 w.new.part (omega arith)))
