use Rattle.image.proofs.Names.{refl, put_mid, ◌≡◌, length, same_len_mid, entry_size, ◌∙◌, arith}
use Rattle.image.proofs.PartLaws.{number-written, put-none, put_next, put_last}
use Rattle.image.proofs.PlaceLaws.{entry-written}
use Rattle.image.proofs.EntryPart.write.Goals as goal

pub returns : goal.returns
returns c =
    let b = c.args.part.now in
    let e = c.args.self in
    let w = c.write_number in
    let v = c.write_number-2 in
    let u = c.write_number-3 in
    let m = put_mid 0 4 b w.new.part in
    let n = put_mid 4 8 m v.new.part in
    let lm : length m ≡ entry_size = same_len_mid 0 4 b w.new.part w.auto.part ∙ c.requires in
    let ln : length n ≡ entry_size = same_len_mid 4 8 m v.new.part v.auto.part ∙ lm in
    put_last u.new.part 8 (put_next v.new.part 8 (put_next w.new.part 4 (put-none b c.requires) (omega arith) w.auto.part) (omega arith) v.auto.part) refl u.auto.part
    ∙ entry-written e w.new.part v.new.part u.new.part
    (number-written b w.new.part 0 4 e.id.txn (omega arith) (rw c.from.ensures at w.ensures))
    (number-written m v.new.part 4 8 e.id.clock (omega arith) v.ensures)
    (number-written n u.new.part 12 8 e.keys (omega arith) u.ensures)
