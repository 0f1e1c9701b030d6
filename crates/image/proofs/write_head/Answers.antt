-- `image::write_head` meets its contract.
use Rattle.image.proofs.Names.{refl, put_mid, same_len_mid, ◌∙◌, arith}
use Rattle.image.proofs.PartLaws.{number-written, put-none, put_next, put_last}
use Rattle.image.proofs.PlaceLaws.{head-written}
use Rattle.image.proofs.write_head.Goals as goal

pub returns : goal.returns
returns c =
    let a = c.args in
    let b = a.part.now in
    let m = c.phase_marks-m in
    let w = c.write_start in
    let v = c.write_number in
    put_last v.new.part 8 (put_next w.new.part 16 (put-none c.args.part.now c.requires) (omega arith) w.auto.part) refl v.auto.part
    ∙ head-written a.p a.txn a.reads a.keys m.result.mark m.result.slot m.result.stored m.result.clock m.ensures.0 m.ensures.1 m.ensures.2 m.ensures.3 w.new.part v.new.part w.ensures
    (number-written (put_mid 0 16 b w.new.part) v.new.part 16 8 a.keys (omega (arith, same_len_mid 0 16 b w.new.part w.auto.part)) v.ensures)
