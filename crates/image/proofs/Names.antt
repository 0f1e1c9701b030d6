-- Names that the laws and the proofs of the functions cite, in one place.
pub use Prim.Native.Nat.{◌+◌, ◌*◌, ◌-◌, ◌≤◌, ℕ, zero, suc, ◌<◌, ◌^◌, suc-le-suc}
pub use mathlib.Core.Path.{◌≡◌, refl, sym, ap, ap₂, ◌∙◌, subst}
pub use mathlib.Core.Logic.{◌≢◌}
pub use mathlib.Core.Bool.{Bool, true, false, true≢false}
pub use mathlib.Core.List.{List, [], ◌∷◌, ◌++◌, map, append-nil, append_assoc}
pub use lib.ListN.{length, drop, length-drop, take, get_or, set, replicate, length-append, length-map, take-append-drop, drop_of_length-le, length-set}
pub use lib.Dec.{eqb, lit<}
pub use lib.Seq.{take_at, drop_at, drop-drop, length-take-le, drop-cons, take_all, get_or-take, take-suc-set, take-add, take-append-add}
pub use native.Mathlib.Omega.{arith}
pub use native.Mathlib.Nat.{mul-zero, mul-suc, add_comm, suc-ne-zero, zero-lt-suc, pow-succ', mul-le-mul_left}
pub use native.Mathlib.Numerals.{add-one}
pub use borrow.Author.Rules.{rules}
pub use borrow.Author.Tests.{not-true, not-false, eqb-true, eq-eqb, ne_eqb}
pub use borrow.Rule.Slice.PartMut.{put_mid, mid_of, mid_len, same_len_mid}
pub use Rattle.model.specs.declared.Id.{Id}
pub use Rattle.model.specs.declared.Live.{Live}
pub use Rattle.model.specs.declared.Entry.{Entry}
pub use Rattle.model.specs.declared.Phase.{Phase}
pub use Rattle.model.specs.declared.Phase.TheVariants.{Unused, Open, Closing}
pub use Rattle.model.specs.declared.Station.{Station}
pub use Rattle.model.specs.Limits.{write_places, read_limit, number_range, byte_range, live_places, entry_places}
pub use Rattle.model.specs.declared.Kind.{Kind}
pub use Rattle.model.specs.declared.Kind.TheVariants.{Narrow, Wide}
pub use Rattle.model.specs.Ranges.{IsByte, IdFits, ReadFits, PhaseFits, LiveFits, EntryFits, Every, StationFits}
unfoldable pub use Rattle.model.specs.Lists.{◌and◌, all, same}
unfoldable pub use Rattle.model.specs.Bytes.{bytes, number, id_in}
unfoldable pub use Rattle.model.specs.Listed.{kind_of, kind_named}
unfoldable pub use Rattle.model.specs.Lives.{closing_slot, closing_clock, records_stored}
pub use Rattle.model.proofs.Tests.{and_intro, and_left, and_right}
pub use Rattle.model.proofs.ListLaws.{every_append}
pub use Rattle.model.proofs.RecordLaws.{bytes-are}
pub use Rattle.model.proofs.RangesKept.{bytes-zeros}
pub use Rattle.model.proofs.RecordLaws.{Bytes, bytes_take, bytes_drop, length-bytes, number-bytes, same_refl, bytes-number, same_true}
pub use Rattle.image.specs.Layout.{Field, num, raw}
unfoldable pub use Rattle.image.specs.Layout.{kind_size, head_size, value_size, values_size, read_size, reads_size, place_size, field_bytes, row, flat, parts, kind_row, kind_bytes, kind_from, value_bytes, value_from, start_bytes, read_row, read_bytes, read_from, entry_row, entry_bytes, entry_from, phase_number, phase_of, phase_from, head_row, place_head, keys_from, byte, zeros, places_size, entry_size, entries_size, image_size}
unfoldable pub use Rattle.image.specs.Images.{is_alone, place_bytes, place_from, is_kind, is_head, is_place, station_bytes, station_in, is_image}
