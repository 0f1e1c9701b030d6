-- `records::write_head` meets its contract.
use mathlib.Core.Path.{sym, ap, ◌∙◌}
use lib.ListN.{length-set}
use native.Mathlib.Omega.{arith}
use borrow.Rule.Slice.PartMut.{put_mid, same_len_mid}
use Rattle.model.specs.Bytes.{bytes}
use Rattle.records.proofs.ByteLaws.{four, head-length, head-written}
use Rattle.records.proofs.write_head.Goals as goal

pub slice_bounds-write_number-end : goal.slice_bounds-write_number-end
slice_bounds-write_number-end c = simp length-set (omega arith)

pub slice_bounds-write_number-end-2 : goal.slice_bounds-write_number-end-2
slice_bounds-write_number-end-2 c =
    let a = c.args in
    let w = c.write_number in
    omega (arith, head-length a.part.now w.new.part a.part.now a.first a.second a.id c.requires (w.ensures ∙ ap (bytes _) c.from.ensures))

pub shape_of-part : goal.shape_of-part
shape_of-part c =
    let a = c.args in
    let w = c.write_number in
    let v = c.write_number-2 in
    same_len_mid 8 8 (put_mid 4 4 (four a.part.now a.first a.second) w.new.part) v.new.part v.auto.part
    ∙ head-length a.part.now w.new.part a.part.now a.first a.second a.id c.requires (w.ensures ∙ ap (bytes _) c.from.ensures)
    ∙ sym c.requires

pub returns : goal.returns
returns c =
    let a = c.args in
    let w = c.write_number in
    let v = c.write_number-2 in
    head-written a.part.now w.new.part v.new.part a.first a.second a.id c.requires (w.ensures ∙ ap (bytes _) c.from.ensures) v.ensures
