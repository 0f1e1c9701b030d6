use Rattle.image.proofs.Names.{refl, ◌++◌, head_size, values_size, reads_size, place_bytes, ap₂, ◌∙◌, arith}
use Rattle.image.proofs.PartLaws.{put-none, put_next, put_last}
use Rattle.image.proofs.LivePart.write.Goals as goal

pub returns : goal.returns
unfolding place_bytes
returns c =
    let h = c.write_head in
    let v = c.write_parts in
    let r = c.write_parts-2 in
    put_last r.new.part reads_size (put_next v.new.part values_size (put_next h.new.part head_size (put-none c.args.part.now c.requires) (omega arith) h.auto.part) (omega arith) v.auto.part) refl r.auto.part
    ∙ ap₂ ◌++◌ h.ensures (ap₂ ◌++◌ v.ensures r.ensures)
