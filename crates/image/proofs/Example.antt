-- Parts of an image, computed, and bytes that are none.
use Prim.Native.Nat.{ℕ}
use mathlib.Core.Path.{◌≡◌, refl}
use mathlib.Core.Bool.{true, false}
use mathlib.Core.List.{List, [], ◌∷◌, ◌++◌}
use lib.ListN.{replicate}
use Rattle.model.specs.Kinds.{narrow_kind, wide_kind}
use Rattle.model.specs.declared.Live.{Live}
use Rattle.model.specs.declared.Entry.{Entry}
use Rattle.model.specs.declared.Phase.TheVariants.{Closing}
use Rattle.model.specs.Lists.{◌and◌, same}
use Rattle.model.specs.Bytes.{bytes, number, id_in}
use Rattle.model.specs.Lives.{no_read, writes_of, closing_slot, closing_clock, records_stored}
use Rattle.model.specs.KeySets.{set_number}
use Rattle.model.specs.Listed.{kind_of, kind_named, numbered}
use Rattle.model.specs.Stations.{empty_station}
use Rattle.image.specs.Layout.{flat, parts, field_bytes, row, kind_bytes, kind_from, value_bytes, value_from, read_bytes, read_from, entry_bytes, entry_from, phase_number, phase_of, phase_from, place_head, keys_from, place_size, places_size, image_size}
use Rattle.image.specs.Images.{place_bytes, place_from, station_bytes, station_in, is_image}

-- a transaction that is closing: slot 5, clock 3, one record stored; writes of keys 7 and 9, values 300 and 6, and a read
abbrev pub place : Live
place = record {
  txn = 258;
  phase = Closing 5 3 1;
  keys = set_number (7 ∷ 9 ∷ []);
  values = 300 ∷ 6 ∷ replicate 14 0;
  read_count = 1;
  reads = record { key = 9; id = record { clock = 4; txn = 2 } } ∷ replicate 15 no_read;
}

abbrev pub bytes-of-place : List ℕ
bytes-of-place =
    (2 ∷ 5 ∷ 1 ∷ 1 ∷ 2 ∷ 1 ∷ 0 ∷ 0 ∷ 3 ∷ 0 ∷ 0 ∷ 0 ∷ 0 ∷ 0 ∷ 0 ∷ 0 ∷ 128 ∷ 2 ∷ replicate 6 0)
    ++ ((44 ∷ 1 ∷ replicate 6 0) ++ (6 ∷ replicate 7 0) ++ replicate 112 0)
    ++ ((9 ∷ 0 ∷ 0 ∷ 0 ∷ 2 ∷ 0 ∷ 0 ∷ 0 ∷ 4 ∷ replicate 7 0) ++ replicate 240 0)

pub place-written : place_bytes place ≡ bytes-of-place
unfolding place_bytes place_head row field_bytes phase_number closing_slot closing_clock records_stored flat value_bytes read_bytes bytes set_number
place-written = refl

pub place_read : place_from bytes-of-place ≡ place
unfolding place_from phase_from phase_of keys_from id_in number parts value_from read_from set_number
place_read = refl

-- an entry of keys 4 and 63, its bits 4 and 63
abbrev pub entry : Entry
entry = record { id = record { clock = 256; txn = 9 }; keys = set_number (4 ∷ 63 ∷ []) }

abbrev pub bytes-of-entry : List ℕ
bytes-of-entry = (9 ∷ 0 ∷ 0 ∷ 0 ∷ 0 ∷ 1 ∷ replicate 6 0) ++ (16 ∷ replicate 6 0 ++ (128 ∷ []))

pub entry-written : entry_bytes entry ≡ bytes-of-entry
unfolding entry_bytes row flat field_bytes bytes set_number
entry-written = refl

pub entry_read : entry_from bytes-of-entry ≡ entry
unfolding entry_from number set_number
entry_read = refl

pub sizes : (place_size ≡ 408) × (places_size ≡ 3264) × (image_size ≡ 4552)
sizes = (refl, refl, refl)

-- the empty station's image is its kind's mark, and else all zero: of the narrow kind, and of the wide
pub empty-written : same (station_bytes (numbered (empty_station narrow_kind))) (1 ∷ replicate 4551 0) ≡ true
unfolding station_bytes kind_of kind_named kind_bytes empty_station writes_of set_number place_bytes place_head row field_bytes phase_number closing_slot closing_clock records_stored flat value_bytes read_bytes entry_bytes bytes same
empty-written = refl

pub empty-wide-written : same (station_bytes (numbered (empty_station wide_kind))) (2 ∷ replicate 4551 0) ≡ true
unfolding station_bytes kind_of kind_named kind_bytes empty_station writes_of set_number place_bytes place_head row field_bytes phase_number closing_slot closing_clock records_stored flat value_bytes read_bytes entry_bytes bytes same
empty-wide-written = refl

pub wide_read : is_image (2 ∷ replicate 4551 0) ≡ true
unfolding is_image ◌and◌ station_bytes station_in kind_from kind_named kind_of kind_bytes place_bytes place_from place_head keys_from row field_bytes phase_number phase_from phase_of closing_slot closing_clock records_stored flat parts value_bytes value_from read_bytes read_from entry_bytes entry_from id_in number bytes same
wide_read = refl

-- no kind, twice; a kind's bytes that are not zero; a place's first byte that is no phase; bytes that are one too few
pub no_kind : is_image (replicate 4552 0) ≡ false
unfolding is_image ◌and◌ station_bytes station_in kind_from kind_named kind_of kind_bytes row field_bytes flat same
no_kind = refl

pub kind-three : is_image (3 ∷ replicate 4551 0) ≡ false
unfolding is_image ◌and◌ station_bytes station_in kind_from kind_named kind_of kind_bytes row field_bytes flat same
kind-three = refl

pub kind-not-alone : is_image (1 ∷ 0 ∷ 1 ∷ replicate 4549 0) ≡ false
unfolding is_image ◌and◌ station_bytes station_in kind_from kind_named kind_of kind_bytes row field_bytes flat same
kind-not-alone = refl

pub phase-three : is_image (1 ∷ replicate 7 0 ++ (3 ∷ replicate 4543 0)) ≡ false
unfolding is_image ◌and◌ station_bytes station_in kind_from kind_named kind_of kind_bytes place_bytes place_from place_head keys_from row field_bytes phase_number phase_from phase_of closing_slot closing_clock records_stored flat parts value_bytes value_from read_bytes read_from entry_bytes entry_from id_in number bytes same
phase-three = refl

pub one-short : is_image (1 ∷ replicate 4550 0) ≡ false
unfolding is_image ◌and◌
one-short = refl
