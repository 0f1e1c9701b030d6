-- The image of a station, and which bytes are one.
use Rattle.std.specs.Prelude.{ℕ, ◌+◌, ◌-◌, Bool, List, ◌++◌, map, eqb, length, take, drop, get_or}
use Rattle.model.specs.declared.Live.{Live}
use Rattle.model.specs.declared.Station.{Station}
use Rattle.model.specs.Lists.{◌and◌, same}
use Rattle.model.specs.Limits.{live_places, entry_places, write_places, read_limit}
use Rattle.model.specs.Bytes.{number, id_in}
use Rattle.model.specs.Listed.{kind_of}
use Rattle.image.specs.Layout.{kind_size, head_size, value_size, values_size, read_size, place_size, places_size, entry_size, image_size, flat, parts, kind_bytes, kind_from, value_bytes, value_from, read_bytes, read_from, entry_bytes, entry_from, place_head, phase_from, keys_from}

-- ── "then 16 values of 8 bytes; then 16 reads of 16 bytes" ──
unfoldable pub place_bytes : Live → List ℕ
place_bytes l = place_head l.phase l.txn l.read_count l.keys ++ (flat value_bytes l.values ++ flat read_bytes l.reads)

unfoldable pub place_from : List ℕ → Live
place_from b = record {
  txn = (id_in b).txn;
  phase = phase_from b;
  keys = keys_from b;
  values = map value_from (parts value_size write_places (drop head_size b));
  read_count = get_or b 3 0;
  reads = map read_from (parts read_size read_limit (drop (head_size + values_size) b));
}

-- ── "Head, 8 bytes", "live place .. eight of them", "entry .. 64 of them after the places" ──
unfoldable pub station_bytes : Station → List ℕ
station_bytes st = kind_bytes (kind_of st.kind).mark ++ (flat place_bytes st.live ++ flat entry_bytes st.entries)

unfoldable pub station_in : List ℕ → Station
station_in b = record {
  live = map place_from (parts place_size live_places (drop kind_size b));
  entries = map entry_from (parts entry_size entry_places (drop (kind_size + places_size) b));
  kind = kind_from b;
}

-- ── bytes are an image, or a part's, where they are the bytes of what is read off them: every zero, the mark and every phase is as it must be ──
unfoldable pub is_kind : List ℕ → Bool
is_kind b = same (kind_bytes (kind_of (kind_from b)).mark) b

unfoldable pub is_head : List ℕ → Bool
is_head b = same (place_head (phase_from b) (id_in b).txn (get_or b 3 0) (keys_from b)) (take head_size b)

unfoldable pub is_place : List ℕ → Bool
is_place b = same (place_bytes (place_from b)) b

unfoldable pub is_image : List ℕ → Bool
is_image b = eqb (length b) image_size and same (station_bytes (station_in b)) b

-- the first of n bytes stands alone in them, as in the head and the reads of an image: the others are zero
unfoldable pub is_alone : ℕ → List ℕ → Bool
is_alone n b = eqb (number (take (n - 1) (drop 1 b))) 0
