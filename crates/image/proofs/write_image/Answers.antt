-- `image::write_image` meets its contract.
use Rattle.image.proofs.Names.{refl, ◌+◌, ◌++◌, put_mid, kind_size, places_size, entries_size, station_bytes, ◌≡◌, ap₂, ◌∙◌, arith}
use Rattle.image.proofs.PartLaws.{put-none, put_next, put_last}
use Rattle.image.proofs.Round.{image-of}
use Rattle.model.proofs.ListedLaws.{station-back}
use Rattle.model.proofs.Handed.{station-handed}
use Rattle.image.proofs.write_image.Goals as goal

pub returns : goal.returns
unfolding station_bytes
returns c =
    let a = c.args in
    let k = c.write_kind in
    let p = c.write_parts in
    let e = c.write_parts-2 in
    let b = put_mid (kind_size + places_size) entries_size (put_mid kind_size places_size (put_mid 0 kind_size a.bytes.now k.new.part) p.new.part) e.new.part in
    let w : b ≡ station_bytes a.station = put_last e.new.part entries_size (put_next p.new.part places_size (put_next k.new.part kind_size (put-none a.bytes.now c.requires) (omega arith) k.auto.part) (omega arith) p.auto.part) refl e.auto.part ∙ ap₂ ◌++◌ k.ensures (ap₂ ◌++◌ p.ensures e.ensures) in
    let f = station-handed a.station _ c.well_formed.1.0 in
    record { bytes_after = w; bytes_after_2 = image-of a.station b f w; station_value = station-back a.station f }
