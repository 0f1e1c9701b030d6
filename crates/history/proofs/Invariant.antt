-- What holds of station, store and ledger between the calls of a history.
use Prim.Native.Nat.{ℕ, suc, ◌<◌, ◌≤◌}
use mathlib.Core.Path.{◌≡◌, sym, subst}
use mathlib.Core.Logic.{◌≢◌, ◌⊎◌}
use mathlib.Core.Bool.{Bool, true, false, cond}
use mathlib.Core.List.{List, [], ◌∷◌, Permᴰ, Memᴰ}
use lib.ListN.{length, take, get_or}
use native.Mathlib.Nat.{not-suc-le-zero}
use native.Mathlib.Omega.{arith}
use borrow.Author.Tests.{le-leb, lt-leb}
use mathlib.Core.Option.{Option, some}
use Rattle.model.specs.declared.Read.{Read}
use Rattle.model.specs.Types.{Entry, Write, Live, Station}
use Rattle.model.specs.declared.Phase.TheVariants.{Closing}
use Rattle.model.specs.declared.Answer.{Answer}
use Rattle.model.specs.declared.Answer.TheVariants as A
use Rattle.model.specs.Limits.{entry_places, txn_range, number_range}
use Rattle.model.specs.Kinds.{Kind, store_size, KindFits}
use Rattle.model.specs.Lives.{no_write, writes_of, reads_of, write_count, closing_clock}
use Rattle.model.specs.Entries.{entry_for}
use Rattle.model.specs.Stations.{live_at, entry_at}
use Rattle.model.specs.Records.{version_record, record_at, with_record}
use Rattle.model.specs.Slots.{free, committed, damaged, seen}
use Rattle.model.specs.Reading.{Atomic}
use Rattle.model.specs.Effects.{Effect, stored, says, says_storing, Row, ◌when◌, refusals}
use Rattle.model.specs.Scan.{slots_seen, entries_seen}
use Rattle.model.specs.Calls.{Call}
use Rattle.model.proofs.RefusalLaws.{guard, unguarded, cond-rule}
use Rattle.history.specs.Ledger.{Draft, Committed, Ledger, draft_of, feed}
use Rattle.history.specs.Histories.{Report, fed, given_after}
use Rattle.history.specs.CutRule.{committed_found, Wrote, Newer}
use Rattle.history.specs.Matches.{Correspond}

-- the transactions that stand in the store, by slot
unfoldable pub in_store : Kind → List ℕ → List Committed
in_store κ s = committed_found κ s 0 (entries_seen (slots_seen κ s))

abbrev pub nth : Live → ℕ → Write
nth l j = get_or l.writes j no_write

-- slot d of the store is as far as n steps of the closing transaction l bring it
pub record Prepared (κ : Kind) (s : List ℕ) (l : Live) (d c n : ℕ) : Type 0 where
  pub low : d < κ.slots
  pub versions : (j : ℕ) → j < n → j < write_count l → record_at κ s d (suc j) ≡ version_record (nth l j).key (record { clock = c; txn = l.txn }) (nth l j).value
  pub unmarked : n ≤ write_count l → seen κ s d ≡ free
  pub marked : write_count l < n → seen κ s d ≡ committed (entry_for l)

-- a past transaction stands, or on each key it wrote a standing one is newer
abbrev pub Dominated : List Committed → Committed → Type 0
Dominated standing j = Memᴰ j standing ⊎ ((k : ℕ) → Wrote j k → (i : Committed) × Memᴰ i standing × Wrote i k × Newer i.id j.id)

-- it has a clock and wrote a key
abbrev pub Recorded : Committed → Type 0
Recorded j = (j.id.clock < number_range) × (k : ℕ) × Wrote j k

-- ── what lasts: it holds of store and ledger, whichever station runs, or none ──
-- the store keeps the rules, and has the standing transactions: this alone makes every scan succeed
pub record Core (κ : Kind) (s : List ℕ) (standing past : List Committed) : Type 0 where
  pub fits : KindFits κ
  pub size : length s ≡ store_size κ
  pub undamaged : (d : ℕ) → d < κ.slots → seen κ s d ≡ damaged → ⊥
  pub single : (d d' : ℕ) (e e' : Entry) → d < κ.slots → d' < κ.slots → seen κ s d ≡ committed e → seen κ s d' ≡ committed e' → e.id.txn ≡ e'.id.txn → d ≡ d'
  pub found : Permᴰ (in_store κ s) standing
  pub kept : (j : Committed) → Memᴰ j standing → Memᴰ j past
  pub dominated : (j : Committed) → Memᴰ j past → Dominated standing j
  pub recorded : (j : Committed) → Memᴰ j past → Recorded j

-- a read of a draft names a standing transaction that wrote its key, and the draft's other reads are atomic with it
abbrev pub Sure : List Committed → Draft → Type 0
Sure standing p =
    (r : Read) → Memᴰ r p.reads
    → (j : Committed) × Memᴰ j standing × (j.id ≡ r.id) × Wrote j r.key × ((q : Read) → Memᴰ q p.reads → Wrote j q.key → Newer r.id q.id → ⊥)

pub record Lasting (κ : Kind) (s : List ℕ) (b : Ledger) : Type 0 where
  pub core : Core κ s b.standing b.past
  pub sure : (t : ℕ) (p : Draft) → draft_of t b.drafts ≡ some p → Sure b.standing p

-- ── what holds of a running station beside: four parts, of which a call proves only what it touches ──
-- 1. entries and closing transactions against slots
pub record Slots (κ : Kind) (st : Station) (s : List ℕ) : Type 0 where
  pub count : length st.entries ≡ entry_places
  pub entered : (d : ℕ) → (entry_at st d).id.txn ≢ 0 → seen κ s d ≡ committed (entry_at st d)
  pub closing : (i d c n : ℕ) → (live_at st i).phase ≡ Closing d c n → Prepared κ s (live_at st i) d c n
  pub unused : (d : ℕ) → d < κ.slots → (entry_at st d).id.txn ≡ 0 → ((i c n : ℕ) → (live_at st i).phase ≡ Closing d c n → ⊥) → seen κ s d ≡ free

-- 2. live transactions against drafts
abbrev pub draft_in : Ledger → ℕ → Option Draft
draft_in b t = draft_of t b.drafts

-- no transaction has two
abbrev pub OneDraft : List Draft → Type 0
OneDraft ps = (p : Draft) → Memᴰ p ps → draft_of p.txn ps ≡ some p

-- 3. read sets against entries
abbrev pub AtomicReads : Station → Type 0
AtomicReads st = (i : ℕ) → Atomic st.entries (reads_of (live_at st i))

-- 4. ranges
pub record Ranges (l : Live) : Type 0 where
  pub txn : l.txn < txn_range
  pub clock : closing_clock l.phase < number_range
  pub values : (w : Write) → Memᴰ w (writes_of l) → w.value < number_range

pub record Inv (st : Station) (s : List ℕ) (b : Ledger) : Type 0 where
  pub core : Core st.kind s b.standing b.past
  pub slots : Slots st.kind st s
  pub drafts : Correspond st (draft_in b)
  pub once : OneDraft b.drafts
  pub reads : AtomicReads st
  pub ranges : (i : ℕ) → Ranges (live_at st i)

-- ── what a call owes that reports with its last store: the invariant afterwards, and before that store, when the station is lost, what lasts ──
pub record Good (s : List ℕ) (b : Ledger) (c : Call) (e : Effect) : Type 0 where
  pub after : Inv e.station (stored e.stores s) (feed e.answer c b)
  pub before : (n : ℕ) → n < length e.stores → Lasting e.station.kind (stored (take n e.stores) s) b

-- what any call owes: the same after each prefix of its stores, with the ledger as far as it is fed
pub record Reported (s : List ℕ) (b : Ledger) (rs : List Report) (e : Effect) : Type 0 where
  pub after : Inv e.station (stored e.stores s) (fed rs b)
  pub before : (n : ℕ) → n < length e.stores → Lasting e.station.kind (stored (take n e.stores) s) (fed (given_after n rs) b)
  pub complete : (n : ℕ) → length e.stores ≤ n → given_after n rs ≡ rs

module _ (s : List ℕ) (b : Ledger) (c : Call) where
  abbrev alone : Effect → List Report
  alone e = record { call = c; answer = e.answer; stores = length e.stores } ∷ []

  pub good-reported : (e : Effect) → Good s b c e → Reported s b (alone e) e
  unfolding fed
  good-reported e g = record {
    after = g.after;
    before = λ n o. unfold given_after in (rw (lt-leb (length e.stores) n o) (g.before n o));
    complete = λ n o. unfold given_after in (rw (le-leb (length e.stores) n o));
  }

  -- an answer with nothing stored
  pub good-says : (a : Answer) (st : Station) → Inv st s (feed a c b) → Good s b c (says a st)
  unfolding says stored
  good-says a st inv = record { after = inv; before = λ n o. absurd (not-suc-le-zero o) }

  -- with one record stored: before it store and ledger are as they were
  pub good-stores : (κ : Kind) (a : Answer) (st : Station) → st.kind ≡ κ → (d n : ℕ) (r : List ℕ) → Lasting κ s b → Inv st (with_record κ s d n r) (feed a c b) → Good s b c (says_storing a st d n r)
  unfolding says_storing stored
  good-stores κ a st k d n r old inv = record {
    after = subst (λ (x : Kind). Inv st (with_record x s d n r) (feed a c b)) (sym k) inv;
    before = λ m o. let z : m ≡ 0 = omega arith in rw z (subst (λ (x : Kind). Lasting x s b) (sym k) old);
  }

  -- a refusal alters nothing, and where the row does not apply the rest counts
  pub row : (st : Station) (t : Bool) (n : ℕ) (rs : List Row) (e : Effect) → Inv st s b → (t ≡ false → Good s b c (refusals rs st e)) → Good s b c (refusals (n when t ∷ rs) st e)
  unfolding feed
  row st t n rs e inv f = guard (Good s b c) n t rs st e (good-says (A.Refused n 0) st inv) f

  pub unrefused : (st : Station) (e : Effect) → Good s b c e → Good s b c (refusals [] st e)
  unrefused st e g = unguarded (Good s b c) st e g

  pub choice : (t : Bool) (x y : Effect) → (t ≡ true → Good s b c x) → (t ≡ false → Good s b c y) → Good s b c (cond t x y)
  choice t x y f g = cond-rule (Good s b c) t x y f g
