use Rattle.image.proofs.Names.{get_or, map, Id, write_places, read_limit, head_size, value_size, values_size, read_size, value_from, read_from, place_from, keys_from, ◌+◌, ap, ◌∙◌, drop, length-drop, arith}
use Rattle.image.proofs.PartLaws.{parts-take}
use Rattle.image.proofs.LivePart.read.Goals as goal

pub phase_in-requires : goal.phase_in-requires
phase_in-requires c = record { head_size_in_bounds = omega arith; clock_value = ap (λ (i : Id). i.clock) c.id_in-id.ensures }

pub returns : goal.returns
unfolding place_from keys_from
returns c =
    let b = c.args.b.now in
    let v = parts-take value_size write_places (drop head_size b) (omega (arith, length-drop head_size b)) in
    let r = parts-take read_size read_limit (drop (head_size + values_size) b) (omega (arith, length-drop (head_size + values_size) b)) in
    λ z. record {
      txn = (c.id_in-id.ensures z).txn;
      phase = c.phase_in.ensures z;
      keys = c.number_in.ensures.0 z;
      values = (c.read_parts.ensures ∙ ap (map value_from) v) z;
      read_count = get_or b 3 0;
      reads = (c.read_parts-2.ensures ∙ ap (map read_from) r) z;
    }
