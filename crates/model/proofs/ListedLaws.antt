-- The machine's station and the definitions' are each other's (specs/Listed), and what stands at a slot, is set there and is counted is the same of both.
use Prim.Native.Nat.{ℕ, ◌<◌}
use mathlib.Core.Path.{◌≡◌, refl, sym, ap, ap₂, subst, ◌∙◌}
use mathlib.Core.Bool.{Bool}
use mathlib.Core.List.{List, [], ◌∷◌, map, map-map}
use lib.Dec.{eqb, leb, lit<}
use lib.ListN.{length, take, drop, get_or, set, length-map, get_or-map}
use lib.Seq.{length-take-le}
use lib.Count.{ones}
use native.Mathlib.Omega.{arith}
use Rattle.model.specs.declared as machine
use Rattle.model.specs.declared.Id.{Id}
use Rattle.model.specs.declared.Kind.TheVariants.{Narrow, Wide}
use Rattle.model.specs.declared.Phase.TheVariants.{Unused}
use Rattle.model.specs.Types.{Entry, Write, Live, Station}
use Rattle.model.specs.Lists.{◌and◌, ◌or◌}
use Rattle.model.specs.Ids.{no_id, same_id}
use Rattle.model.specs.Limits.{keys, write_places, number_range}
use Rattle.model.specs.Kinds.{Kind, KindFits}
use Rattle.model.specs.KeySets.{key_set, set_number}
use Rattle.model.specs.Lives.{live_beyond, writes_of, write_count, write_key, write_value}
use Rattle.model.specs.Listed.{kind_of, kind_named, valued, listed_live, listed_lives, listed_entry, listed_entries, listed, numbered_live, numbered_entry, numbered}
use Rattle.model.specs.Entries.{no_entry, is_no_entry, entry_rules}
use Rattle.model.specs.Sound.{entry_right}
use Rattle.model.specs.Ranges.{Every, LiveFits, EntryFits, StationFits, LiveListFits, ListFits, ListsFit}
use Rattle.model.proofs.Tests.{and-true}
use Rattle.model.proofs.ListLaws.{every_map, every_take, map_at, map-set}
use Rattle.model.proofs.KindLaws.{narrow-fits, wide_fits}
use Rattle.model.proofs.ValuedLaws.{valued-length, valued-keys, valued-unkeyed, valued-values, valued-unvalued, valued-every, valued_back, valued-count}
use Rattle.model.proofs.KeySetLaws.{number-below, set-none, set-ascends, set-number, number-set, set-ones}

-- ── each is the other's inverse ──
pub entry-back : (e : machine.Entry.Entry) → EntryFits e → numbered_entry (listed_entry e) ≡ e
entry-back e f = λ z. record { id = e.id; keys = set-number e.keys f.keys64 z }

pub entry-there : (e : Entry) → ListFits e → listed_entry (numbered_entry e) ≡ e
entry-there e f = λ z. record { id = e.id; keys = number-set e.keys f.ascends z }

entries-back : (es : List machine.Entry.Entry) → Every EntryFits es → map numbered_entry (listed_entries es) ≡ es
entries-back [] f = refl
entries-back (e ∷ es) f = ap₂ (λ (x : machine.Entry.Entry) (xs : List machine.Entry.Entry). x ∷ xs) (entry-back e f.0) (entries-back es f.1)

entries-there : (es : List Entry) → Every ListFits es → listed_entries (map numbered_entry es) ≡ es
entries-there [] f = refl
entries-there (e ∷ es) f = ap₂ (λ (x : Entry) (xs : List Entry). x ∷ xs) (entry-there e f.0) (entries-there es f.1)

pub live_back : (l : machine.Live.Live) → LiveFits l → numbered_live (listed_live l) ≡ l
unfolding writes_of
live_back l f = λ z. record {
  txn = l.txn;
  phase = l.phase;
  keys = (ap set_number (valued-keys (key_set l.keys) l.values) ∙ set-number l.keys f.keys64) z;
  values = (ap (λ (n : ℕ). take n (map write_value (valued (key_set l.keys) l.values))) (sym f.value-places) ∙ valued-values (key_set l.keys) l.values) z;
  read_count = l.read_count;
  reads = l.reads;
}

pub live-there : (l : Live) → LiveListFits l → listed_live (numbered_live l) ≡ l
unfolding writes_of
live-there l f = λ z. record { txn = l.txn; phase = l.phase; write_count = counted z; writes = written z; read_count = l.read_count; reads = l.reads }
  where
    keyed : key_set (set_number (map write_key (take l.write_count l.writes))) ≡ map write_key (take l.write_count l.writes)
    keyed = number-set (map write_key (take l.write_count l.writes)) (unfold writes_of in f.ascends)

    counted : length (key_set (set_number (map write_key (take l.write_count l.writes)))) ≡ l.write_count
    counted = ap length keyed ∙ (length-map (take l.write_count l.writes) write_key ∙ length-take-le l.write_count l.writes (omega (arith, f.write-places)))

    written : valued (key_set (set_number (map write_key (take l.write_count l.writes)))) (take write_places (map write_value l.writes)) ≡ l.writes
    written = ap (λ (ks : List ℕ). valued ks (take write_places (map write_value l.writes))) keyed ∙ valued_back l.write_count write_places l.writes f.write-places f.unkeyed f.unvalued

lives-back : (ls : List machine.Live.Live) → Every LiveFits ls → map numbered_live (listed_lives ls) ≡ ls
lives-back [] f = refl
lives-back (l ∷ ls) f = ap₂ (λ (x : machine.Live.Live) (xs : List machine.Live.Live). x ∷ xs) (live_back l f.0) (lives-back ls f.1)

lives-there : (ls : List Live) → Every LiveListFits ls → listed_lives (map numbered_live ls) ≡ ls
lives-there [] f = refl
lives-there (l ∷ ls) f = ap₂ (λ (x : Live) (xs : List Live). x ∷ xs) (live-there l f.0) (lives-there ls f.1)

-- a kind
kind-back : (k : machine.Kind.Kind) → kind_named (kind_of k).mark ≡ k
unfolding kind_of kind_named
kind-back Narrow = refl
kind-back Wide = refl

pub kind_fits : (k : machine.Kind.Kind) → KindFits (kind_of k)
unfolding kind_of
kind_fits Narrow = narrow-fits
kind_fits Wide = wide_fits

-- every station of the machine, sound or not: so its lists say all of it
pub station-back : (st : machine.Station.Station) → StationFits st → numbered (listed st) ≡ st
station-back st f = λ z. record { kind = kind-back st.kind z; live = lives-back st.live f.live z; entries = entries-back st.entries f.entries z }

-- and every station of the two kinds whose lists fit
pub station-there : (k : machine.Kind.Kind) (st : Station) → st.kind ≡ kind_of k → ListsFit st → listed (numbered st) ≡ st
station-there k st e f = λ z. record { kind = (ap (λ (κ : Kind). kind_of (kind_named κ.mark)) e ∙ (ap kind_of (kind-back k) ∙ sym e)) z; live = lives-there st.live f.live z; entries = entries-there st.entries f.entries z }

-- ── what fits the one fits the other ──
live-fits-there : (l : machine.Live.Live) → LiveFits l → LiveListFits (listed_live l)
unfolding writes_of
live-fits-there l f = record {
  txn32 = f.txn32;
  phase = f.phase;
  ascends = rw (valued-keys (key_set l.keys) l.values) (set-ascends l.keys);
  write-places = omega (arith, valued-length (key_set l.keys) l.values, f.value-places);
  unkeyed = valued-unkeyed (key_set l.keys) l.values;
  unvalued = subst (λ (n : ℕ). Every (λ (w : Write). w.value ≡ 0) (drop n (valued (key_set l.keys) l.values))) f.value-places (valued-unvalued (key_set l.keys) l.values);
  values = valued-every (λ v. v < number_range) (lit< tt) (key_set l.keys) l.values f.values;
  reads8 = f.reads8;
  read-places = f.read-places;
  reads = f.reads;
}

live-fits-back : (l : Live) → LiveListFits l → LiveFits (numbered_live l)
live-fits-back l f = record {
  txn32 = f.txn32;
  phase = f.phase;
  keys64 = number-below keys (map write_key (writes_of l)) f.ascends;
  value-places = length-take-le write_places (map write_value l.writes) (omega (arith, f.write-places, length-map l.writes write_value));
  values = every_take (λ v. v < number_range) write_places (map write_value l.writes) (every_map (λ v. v < number_range) write_value (λ (w : Write). w.value < number_range) (λ w h. h) l.writes f.values);
  reads8 = f.reads8;
  read-places = f.read-places;
  reads = f.reads;
}

pub listed-fits : (st : machine.Station.Station) → StationFits st → ListsFit (listed st)
listed-fits st f = record {
  kind = kind_fits st.kind;
  live-places = length-map st.live listed_live ∙ f.live-places;
  live = every_map LiveListFits listed_live LiveFits live-fits-there st.live f.live;
  entry-places = length-map st.entries listed_entry ∙ f.entry-places;
  entries = every_map ListFits listed_entry EntryFits (λ e g. record { id = g.id; ascends = set-ascends e.keys }) st.entries f.entries;
}

pub numbered-fits : (st : Station) → ListsFit st → StationFits (numbered st)
numbered-fits st f = record {
  live-places = length-map st.live numbered_live ∙ f.live-places;
  live = every_map LiveFits numbered_live LiveListFits live-fits-back st.live f.live;
  entry-places = length-map st.entries numbered_entry ∙ f.entry-places;
  entries = every_map EntryFits numbered_entry ListFits (λ e g. record { id = g.id; keys64 = number-below keys e.keys g.ascends }) st.entries f.entries;
}

-- ── slots ──
-- the unused entry; the machine's, which stands past the last slot too
abbrev pub zero_entry : machine.Entry.Entry
zero_entry = record { id = no_id; keys = 0 }

pub zero-listed : listed_entry zero_entry ≡ no_entry
zero-listed = λ z. record { id = no_id; keys = set-none z }

pub listed-none : (e : machine.Entry.Entry) → e.id.clock ≡ 0 → e.id.txn ≡ 0 → e.keys ≡ 0 → listed_entry e ≡ no_entry
listed-none e c t k = λ z. record { id = record { clock = c z; txn = t z }; keys = (ap key_set k ∙ set-none) z }

module _ (es : List machine.Entry.Entry) (d : ℕ) where
  -- any slot
  pub listed-any : get_or (listed_entries es) d no_entry ≡ listed_entry (get_or es d zero_entry)
  listed-any = ap (get_or (listed_entries es) d) (sym zero-listed) ∙ get_or-map listed_entry es d zero_entry

  -- an entry, whatever stands past the last
  pub listed_at : d < length es → (y : Entry) (z : machine.Entry.Entry) → get_or (listed_entries es) d y ≡ listed_entry (get_or es d z)
  listed_at o y z = map_at listed_entry es d o y z

  -- an entry set
  pub listed-set : (e : machine.Entry.Entry) → listed_entries (set es d e) ≡ set (listed_entries es) d (listed_entry e)
  listed-set e = map-set listed_entry es d e

-- how many
pub listed-length : (es : List machine.Entry.Entry) → length (listed_entries es) ≡ length es
listed-length es = length-map es listed_entry

-- what depends on ids alone
pub listed-ids : {A : Type 0} (f : Id → A) (es : List machine.Entry.Entry) → map (λ (e : Entry). f e.id) (listed_entries es) ≡ map (λ (e : machine.Entry.Entry). f e.id) es
listed-ids f es = map-map (λ (e : Entry). f e.id) listed_entry es

-- ── places ──
-- what the machine has past the last place
abbrev pub zero_live : machine.Live.Live
zero_live = record { txn = 0; phase = Unused; keys = 0; values = []; read_count = 0; reads = [] }

-- how many keys it writes
pub written_count : (l : machine.Live.Live) → write_count (listed_live l) ≡ length (key_set l.keys)
unfolding writes_of
written_count l = valued-count (key_set l.keys) l.values

module _ (ls : List machine.Live.Live) (i : ℕ) where
  -- any place
  pub lives-any : get_or (listed_lives ls) i (listed_live zero_live) ≡ listed_live (get_or ls i zero_live)
  lives-any = get_or-map listed_live ls i zero_live

  -- a transaction, whatever stands past the last
  pub lives_at : i < length ls → (y : Live) (z : machine.Live.Live) → get_or (listed_lives ls) i y ≡ listed_live (get_or ls i z)
  lives_at o y z = map_at listed_live ls i o y z

  pub lives-found : i < length ls → get_or (listed_lives ls) i live_beyond ≡ listed_live (get_or ls i zero_live)
  lives-found o = lives_at o live_beyond zero_live

  -- a transaction set
  pub lives-set : (l : machine.Live.Live) → listed_lives (set ls i l) ≡ set (listed_lives ls) i (listed_live l)
  lives-set l = map-set listed_live ls i l

-- ── "(2 now reads: 1 to 8 ones for an entry.)" ──
pub right-by-ones : (κ : Kind) (e : machine.Entry.Entry) → EntryFits e
    → entry_right κ (listed_entry e)
    ≡ ((same_id e.id no_id and eqb (ones e.keys) 0) or (leb 1 (ones e.keys) and leb (ones e.keys) κ.write_limit and leb 1 e.id.txn and leb 1 e.id.clock))
unfolding entry_right is_no_entry entry_rules
right-by-ones κ e f =
    ap₂ (λ (n : ℕ) (b : Bool). unused n or (counted n and b)) (set-ones e.keys f.keys64) (set-ascends e.keys)
    ∙ ap (λ (b : Bool). unused (ones e.keys) or b) (and-true (counted (ones e.keys)))
  where
    unused : ℕ → Bool
    unused n = same_id e.id no_id and eqb n 0

    counted : ℕ → Bool
    counted n = leb 1 n and leb n κ.write_limit and leb 1 e.id.txn and leb 1 e.id.clock
