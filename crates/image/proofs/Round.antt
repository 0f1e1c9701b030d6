-- A station is written as bytes from which it is read back, and bytes are an image exactly where they are those of the station read.
use Rattle.image.proofs.Names.{ℕ, ◌+◌, ◌≤◌, ◌≡◌, sym, ap, ap₂, ◌∙◌, ◌≢◌, Bool, true, false, List, ◌++◌, map, length, take, drop, length-append, length-drop, drop_at, drop-drop, arith, eqb-true, eq-eqb, ne_eqb, Station, live_places, entry_places, entry_size, kind_of, kind_from, subst, ◌and◌, all, same, and_left, and_right, and_intro, Bytes, bytes_drop, same_refl, same_true, kind_size, place_size, places_size, entries_size, image_size, flat, parts, kind_bytes, entry_bytes, entry_from, place_bytes, place_from, is_kind, is_place, station_bytes, station_in, is_image, StationFits, Every, IsByte, every_append}
use Rattle.model.proofs.ListedLaws as lists
use Rattle.image.proofs.PartLaws.{parts-take}
use Rattle.image.proofs.RowLaws.{and-end, Begins, begins-part, begins-then, begins-at, begins-all, array_long, array_back, array-last, array-many, array-fits, array-begins, array-bytes}
use Rattle.image.proofs.PlaceLaws.{kind-long, kind-bytes, kind-part, kind-first, any_bytes, any-parts, entry-coded, place-coded}

-- ── bytes are an image ──
pub no-image : (b : List ℕ) → length b ≢ image_size → is_image b ≡ false
unfolding is_image ◌and◌
no-image b h = rw (ne_eqb (length b) image_size h)

pub image-length : (b : List ℕ) → is_image b ≡ true → length b ≡ image_size
unfolding is_image
image-length b h = eqb-true (length b) image_size (and_left _ _ h)

-- of the right length, where the kind is one, and every place: any entries' bytes are some entries'
module _ (b : List ℕ) (l : length b ≡ image_size) (y : Bytes b) where
  abbrev places_part : List ℕ
  places_part = drop kind_size b

  abbrev entries_part : List ℕ
  entries_part = drop (kind_size + places_size) b

  places-in : places_size ≤ length places_part
  places-in = omega (arith, length-drop kind_size b)

  entries-in : entries_size ≤ length entries_part
  entries-in = omega (arith, length-drop (kind_size + places_size) b)

  image-tested : is_image b ≡ (is_kind (take kind_size b) and (all is_place (parts place_size live_places places_part) and all any_bytes (parts entry_size entry_places entries_part)))
  unfolding is_image station_bytes station_in ◌and◌
  image-tested =
      let m = (kind_of (kind_from b)).mark in
      let k = subst (Begins (kind_bytes m) b kind_size) (kind-part b) (begins-part (kind_bytes m) b kind_size (kind-long m) (omega arith)) in
      let p = array-begins place-coded live_places places_part places-in (bytes_drop kind_size b y) in
      let e = array-begins entry-coded entry_places entries_part entries-in (bytes_drop (kind_size + places_size) b y) in
      let o : length b ≤ kind_size + (places_size + entries_size) = omega arith in
      ap (λ (t : Bool). t and same (station_bytes (station_in b)) b) (eq-eqb (length b) image_size l) ∙ begins-all (begins-then k (begins-then p (begins-at (drop-drop places_size kind_size b) e))) o

  pub image-is : is_image b ≡ (is_kind (take kind_size b) and all is_place (parts place_size live_places (take places_size places_part)))
  image-is =
      image-tested
      ∙ ap (λ (t : Bool). is_kind (take kind_size b) and t)
      (ap₂ ◌and◌ (ap (all is_place) (sym (parts-take place_size live_places places_part places-in))) (any-parts (parts entry_size entry_places entries_part))
      ∙ and-end (all is_place (parts place_size live_places (take places_size places_part))))

  -- what is read off bytes is in its ranges
  pub image-fits : StationFits (station_in b)
  unfolding station_in
  image-fits = record {
    live-places = array-many place-coded live_places places_part;
    live = array-fits place-coded live_places places_part places-in (bytes_drop kind_size b y);
    entry-places = array-many entry-coded entry_places entries_part;
    entries = array-fits entry-coded entry_places entries_part entries-in (bytes_drop (kind_size + places_size) b y);
  }

-- ── there and back ──
module _ (st : Station) (f : StationFits st) where
  abbrev kind_part : List ℕ
  kind_part = kind_bytes (kind_of st.kind).mark

  abbrev live_part : List ℕ
  live_part = flat place_bytes st.live

  abbrev entry_part : List ℕ
  entry_part = flat entry_bytes st.entries

  live-long : length live_part ≡ places_size
  live-long = array_long place-coded st.live live_places f.live-places f.live

  -- the image has 4,552 bytes
  pub image-long : length (station_bytes st) ≡ image_size
  unfolding station_bytes
  image-long = length-append kind_part (live_part ++ entry_part) ∙ ap₂ ◌+◌ (kind-long (kind_of st.kind).mark) (length-append live_part entry_part ∙ ap₂ ◌+◌ live-long (array_long entry-coded st.entries entry_places f.entry-places f.entries))

  -- the station is read off its image; its kind, off its mark
  pub station-back : station_in (station_bytes st) ≡ st
  unfolding station_bytes station_in
  station-back =
      let k : drop kind_size (kind_part ++ (live_part ++ entry_part)) ≡ live_part ++ entry_part = drop_at kind_part (live_part ++ entry_part) kind_size (kind-long (kind_of st.kind).mark) in
      let d : drop (kind_size + places_size) (kind_part ++ (live_part ++ entry_part)) ≡ entry_part = sym (drop-drop places_size kind_size (kind_part ++ (live_part ++ entry_part))) ∙ ap (drop places_size) k ∙ drop_at live_part entry_part places_size live-long in
      λ z. record {
        live = (ap (λ (b : List ℕ). map place_from (parts place_size live_places b)) k ∙ array_back place-coded st.live live_places f.live-places f.live entry_part) z;
        entries = (ap (λ (b : List ℕ). map entry_from (parts entry_size entry_places b)) d ∙ array-last entry-coded st.entries entry_places f.entry-places f.entries) z;
        kind = (kind-first (kind_of st.kind).mark (live_part ++ entry_part) ∙ ap (λ (x : Station). x.kind) (lists.station-back st f)) z;
      }

  pub image-round : (is_image (station_bytes st) ≡ true) × (station_in (station_bytes st) ≡ st)
  unfolding is_image
  image-round = (and_intro _ _ (eq-eqb (length (station_bytes st)) image_size image-long) (ap (λ (s : Station). same (station_bytes s) (station_bytes st)) station-back ∙ same_refl (station_bytes st)), station-back)

  -- every number of it is a byte
  pub image-bytes : Every IsByte (station_bytes st)
  unfolding station_bytes
  image-bytes = every_append IsByte kind_part (live_part ++ entry_part) (kind-bytes (kind_of st.kind).mark (lists.kind_fits st.kind).mark8) (every_append IsByte live_part entry_part (array-bytes place-coded st.live f.live) (array-bytes entry-coded st.entries f.entries))

-- bytes that are a station's image
pub image-of : (st : Station) (b : List ℕ) → StationFits st → b ≡ station_bytes st → (is_image b ≡ true) × (station_in b ≡ st)
image-of st b f e = (ap is_image e ∙ (image-round st f).0, ap station_in e ∙ (image-round st f).1)

pub image-only : (b : List ℕ) → is_image b ≡ true → station_bytes (station_in b) ≡ b
unfolding is_image
image-only b h = same_true (station_bytes (station_in b)) b (and_right _ _ h)

-- two images of one station are the same bytes
pub image-once : (b c : List ℕ) → is_image b ≡ true → is_image c ≡ true → station_in b ≡ station_in c → b ≡ c
image-once b c hb hc e = sym (image-only b hb) ∙ ap station_bytes e ∙ image-only c hc
