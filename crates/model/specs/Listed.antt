-- 02 §5: "Prove the two equal in every answer, sound stations translated both ways.": the machine's station, whose write sets are numbers, as the
-- definitions', whose write sets are lists; and back. Each is the other's inverse (ListedLaws), so that a contract which says of what a call hands
-- back which lists it has says what it is.
use Rattle.std.specs.Prelude.{ℕ, zero, suc, List, [], ◌∷◌, map, length, take}
use Rattle.model.specs.declared as machine
use Rattle.model.specs.Types.{Entry, Write, Live, Station, Outcome}
use Rattle.model.specs.Limits.{write_places}
use Rattle.model.specs.KeySets.{key_set, set_number}
use Rattle.model.specs.declared.Kind.TheVariants.{Narrow, Wide}
use Rattle.model.specs.Kinds.{Kind, narrow_kind, wide_kind}
use Rattle.model.specs.Lives.{writes_of, write_key, write_value}

-- ── the machine's kinds ──
unfoldable pub kind_of : machine.Kind.Kind → Kind
kind_of Narrow = narrow_kind
kind_of Wide = wide_kind

-- by its mark
unfoldable pub kind_named : ℕ → machine.Kind.Kind
kind_named (suc (suc zero)) = Wide
kind_named zero = Narrow
kind_named (suc zero) = Narrow
kind_named (suc (suc (suc n))) = Narrow

-- ── numbers to lists ──
-- keys with their values; where there are more values than keys, these have key 0, and where there are more keys, these have value 0
unfoldable pub valued : List ℕ → List ℕ → List Write
valued [] [] = []
valued [] (v ∷ vs) = record { key = 0; value = v } ∷ valued [] vs
valued (k ∷ ks) [] = record { key = k; value = 0 } ∷ valued ks []
valued (k ∷ ks) (v ∷ vs) = record { key = k; value = v } ∷ valued ks vs

abbrev pub listed_live : machine.Live.Live → Live
listed_live l = record {
  txn = l.txn;
  phase = l.phase;
  write_count = length (key_set l.keys);
  writes = valued (key_set l.keys) l.values;
  read_count = l.read_count;
  reads = l.reads;
}

abbrev pub listed_lives : List machine.Live.Live → List Live
listed_lives ls = map listed_live ls

abbrev pub listed_entry : machine.Entry.Entry → Entry
listed_entry e = record { id = e.id; keys = key_set e.keys }

abbrev pub listed_entries : List machine.Entry.Entry → List Entry
listed_entries es = map listed_entry es

abbrev pub listed : machine.Station.Station → Station
listed st = record { kind = kind_of st.kind; live = listed_lives st.live; entries = listed_entries st.entries }

abbrev pub listed_outcome : machine.Outcome.Outcome → Outcome
listed_outcome o = record { answer = o.answer; station = listed o.station }

-- ── lists to numbers ──
abbrev pub numbered_live : Live → machine.Live.Live
numbered_live l = record {
  txn = l.txn;
  phase = l.phase;
  keys = set_number (map write_key (writes_of l));
  values = take write_places (map write_value l.writes);
  read_count = l.read_count;
  reads = l.reads;
}

abbrev pub numbered_entry : Entry → machine.Entry.Entry
numbered_entry e = record { id = e.id; keys = set_number e.keys }

abbrev pub numbered : Station → machine.Station.Station
numbered st = record { kind = kind_named st.kind.mark; live = map numbered_live st.live; entries = map numbered_entry st.entries }

abbrev pub numbered_outcome : Outcome → machine.Outcome.Outcome
numbered_outcome o = record { answer = o.answer; station = numbered o.station }
