-- `image::write_start` meets its contract.
use Rattle.image.proofs.Names.{length-set, put_mid, same_len_mid, read_size, ◌≡◌, sym, ◌∙◌, length, arith}
use Rattle.image.proofs.PartLaws.{number-written}
use Rattle.image.proofs.PlaceLaws.{start-written}
use Rattle.image.proofs.write_start.Goals.{After-slice_known-2-1, After-slice_known-3-1}
use Rattle.image.proofs.write_start.Goals as goal

-- the first number written, and both
long : (c : After-slice_known-2-1) → length (put_mid 4 4 c.args.part.now c.write_number.new.part) ≡ read_size
long c =
    let w = c.write_number in
    same_len_mid 4 4 c.args.part.now w.new.part w.auto.part ∙ c.requires

both_long : (c : After-slice_known-3-1) → length (put_mid 8 8 (put_mid 4 4 c.args.part.now c.write_number.new.part) c.write_number-2.new.part) ≡ read_size
both_long c =
    let v = c.write_number-2 in
    same_len_mid 8 8 (put_mid 4 4 c.args.part.now c.write_number.new.part) v.new.part v.auto.part ∙ (same_len_mid 4 4 c.args.part.now c.write_number.new.part c.write_number.auto.part ∙ c.requires)

pub returns : goal.returns
returns c =
    let k = (goal.at.returns c).After-slice_known-2-1 in
    let w = k.write_number in
    let v = c.write_number-2 in
    let i = k.args.id in
    start-written k.args.part.now w.new.part v.new.part k.args.a k.args.b k.args.c k.args.d i k.requires
    (number-written k.args.part.now w.new.part 4 4 i.txn (omega arith) (rw k.from.ensures at w.ensures))
    (number-written (put_mid 4 4 k.args.part.now w.new.part) v.new.part 8 8 i.clock (omega (arith, long k)) v.ensures)

pub bounds-part-1 : goal.bounds-part-1
bounds-part-1 c = simp length-set (omega (arith, both_long (goal.at.bounds-part-1 c).After-slice_known-3-1))

pub bounds-part-2 : goal.bounds-part-2
bounds-part-2 c = simp length-set (omega (arith, both_long (goal.at.bounds-part-2 c).After-slice_known-3-1))

pub bounds-part-3 : goal.bounds-part-3
bounds-part-3 c = simp length-set (omega (arith, both_long (goal.at.bounds-part-3 c).After-slice_known-3-1))

pub shape_of-part : goal.shape_of-part
shape_of-part c = simp length-set (both_long (goal.at.shape_of-part c).After-slice_known-3-1 ∙ sym c.requires)
