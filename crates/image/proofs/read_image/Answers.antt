-- `image::read_image` meets its contract.
use Rattle.image.proofs.Names.{map, live_places, entry_places, kind_size, place_size, places_size, entry_size, entry_from, place_from, station_in, ◌≡◌, sym, ap, ◌∙◌, ◌+◌, length, drop, length-drop, image_size, arith}
use Rattle.image.proofs.PartLaws.{parts-take}
use Rattle.image.proofs.Round.{image-length}
use Rattle.image.proofs.read_image.Goals as goal

pub returns : goal.returns
unfolding station_in
returns c =
    let b = c.args.bytes.now in
    let long : length b ≡ image_size = image-length b (sym c.is_image.ensures ∙ c.if-not-is_image.false) in
    let p = parts-take place_size live_places (drop kind_size b) (omega (arith, length-drop kind_size b)) in
    let q = parts-take entry_size entry_places (drop (kind_size + places_size) b) (omega (arith, length-drop (kind_size + places_size) b)) in (
      sym c.is_image.ensures ∙ c.if-not-is_image.false,
      λ z. record {
        live = (c.read_parts.ensures ∙ ap (map place_from) p) z;
        entries = (c.read_parts-2.ensures ∙ ap (map entry_from) q) z;
        kind = c.kind_in.ensures z;
      },
    )

pub kind_in-requires : goal.kind_in-requires
kind_in-requires c = grind (arith, image-length)

pub slice_bounds-read_parts-end : goal.slice_bounds-read_parts-end
slice_bounds-read_parts-end c = grind (arith, image-length)

pub slice_bounds-read_parts-end-3 : goal.slice_bounds-read_parts-end-3
slice_bounds-read_parts-end-3 c = omega (arith, image-length c.args.bytes.now (sym c.is_image.ensures ∙ c.if-not-is_image.false))
