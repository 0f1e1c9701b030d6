-- Values within their types: numbers in their ranges, arrays of their lengths. Every station that a function is handed is (proofs/Handed).
use Rattle.std.specs.Prelude.{ℕ, max, ◌<◌, ◌≤◌, ◌≡◌, true, List, [], ◌∷◌, map, length, drop}
use Rattle.model.specs.declared.Id.{Id}
use Rattle.model.specs.declared.Read.{Read}
use Rattle.model.specs.declared.Entry.{Entry}
use Rattle.model.specs.declared.Station.{Station}
use Rattle.model.specs.declared.Live.{Live}
use Rattle.model.specs.Types as L
use Rattle.model.specs.declared.Phase.{Phase}
use Rattle.model.specs.Lists.{ascending}
use Rattle.model.specs.Limits.{keys, live_places, entry_places, write_places, read_limit, txn_range, number_range, byte_range}
use Rattle.model.specs.Kinds.{KindFits}
use Rattle.model.specs.Lives.{writes_of, reads_of, write_key, read_key, closing_slot, closing_clock, records_stored}

module _ {A : Type 0} where
  -- all elements have a property
  abbrev pub Every : (A → Type 0) → List A → Type 0
  Every P [] = Unit {0}
  Every P (x ∷ xs) = P x × Every P xs

abbrev pub IsByte : ℕ → Type 0
IsByte x = x < byte_range

pub record IdFits (i : Id) : Type 0 where
  pub clock64 : i.clock < number_range
  pub txn32 : i.txn < txn_range

pub record ReadFits (r : Read) : Type 0 where
  pub key8 : IsByte r.key
  pub id : IdFits r.id

pub record PhaseFits (p : Phase) : Type 0 where
  pub slot8 : IsByte (closing_slot p)
  pub clock64 : closing_clock p < number_range
  pub stored8 : IsByte (records_stored p)

pub record LiveFits (l : Live) : Type 0 where
  pub txn32 : l.txn < txn_range
  pub phase : PhaseFits l.phase
  pub keys64 : l.keys < number_range
  pub value-places : length l.values ≡ write_places
  pub values : Every (λ v. v < number_range) l.values
  pub reads8 : IsByte l.read_count
  pub read-places : length l.reads ≡ read_limit
  pub reads : Every ReadFits l.reads

pub record EntryFits (e : Entry) : Type 0 where
  pub id : IdFits e.id
  pub keys64 : e.keys < number_range

pub record StationFits (st : Station) : Type 0 where
  pub live-places : length st.live ≡ live_places
  pub live : Every LiveFits st.live
  pub entry-places : length st.entries ≡ entry_places
  pub entries : Every EntryFits st.entries

-- ── and the definitions' stations that are such a station's: write sets that are numbers of 64 bits ──
pub record ListFits (e : L.Entry) : Type 0 where
  pub id : IdFits e.id
  pub ascends : ascending 0 keys e.keys ≡ true

-- a read set within its limit, its keys ascending
abbrev pub ReadsFit : L.Live → Type 0
ReadsFit l = (l.read_count ≤ read_limit) × (ascending 0 keys (map read_key (reads_of l)) ≡ true)

-- a write set whose keys ascend, with room for 16; where it has no key there is no value's key, and past the room no value
pub record LiveListFits (l : L.Live) : Type 0 where
  pub txn32 : l.txn < txn_range
  pub phase : PhaseFits l.phase
  pub ascends : ascending 0 keys (map write_key (writes_of l)) ≡ true
  pub write-places : length l.writes ≡ max write_places l.write_count
  pub unkeyed : Every (λ (w : L.Write). w.key ≡ 0) (drop l.write_count l.writes)
  pub unvalued : Every (λ (w : L.Write). w.value ≡ 0) (drop write_places l.writes)
  pub values : Every (λ (w : L.Write). w.value < number_range) l.writes
  pub reads8 : IsByte l.read_count
  pub read-places : length l.reads ≡ read_limit
  pub reads : Every ReadFits l.reads

pub record ListsFit (st : L.Station) : Type 0 where
  pub kind : KindFits st.kind
  pub live-places : length st.live ≡ live_places
  pub live : Every LiveListFits st.live
  pub entry-places : length st.entries ≡ entry_places
  pub entries : Every ListFits st.entries
