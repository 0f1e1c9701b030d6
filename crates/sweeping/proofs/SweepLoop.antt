-- A sweep's loop: the last of the slots to collect is the oldest; with it collected, the others are left; and where nothing goes on, that was all.
use Prim.Native.Nat.{ℕ, suc, ◌+◌, ◌-◌, ◌<◌, ◌≤◌}
use mathlib.Core.Path.{◌≡◌, refl, sym, ap, subst, ◌∙◌}
use mathlib.Core.Logic.{◌≢◌, inl, inr}
use mathlib.Core.Bool.{Bool, true, false, true≢false}
use mathlib.Core.List.{List, [], ◌∷◌}
use mathlib.Core.Option.{some, none}
use lib.ListN.{length, get_or, set}
use native.Mathlib.Nat.{lt_irrefl}
use native.Mathlib.Decide.{ℕ_discrete}
use native.Mathlib.Omega.{arith}
use borrow.Author.Tests.{not-true, eqb-false}
use Rattle.model.specs.declared.Id.{Id}
use Rattle.model.specs.Types.{Entry, Station, Outcome}
use Rattle.model.specs.declared as machine
use Rattle.model.specs.declared.Answer.TheVariants as A
use Rattle.model.specs.Limits.{entry_places, sweep_limit}
use Rattle.model.specs.Kinds.{store_size}
use Rattle.model.specs.Ids.{older}
use Rattle.model.specs.Listed.{kind_of, listed_lives, listed_entry, listed_entries, listed}
use Rattle.model.specs.Entries.{no_entry, carries_entry}
use Rattle.model.specs.Stations.{entry_at, set_entry}
use Rattle.model.specs.Records.{zero_record, record_at, with_record}
use Rattle.model.specs.Sound.{sound}
use Rattle.model.specs.Orders.{newer}
use Rattle.model.specs.Supersedence.{superseded, is_read}
use Rattle.model.specs.Effects.{Effect, stored, outcome_of, says, says_storing}
use Rattle.model.specs.Collect.{collect}
use Rattle.model.specs.Answers.{refused_with}
use Rattle.model.specs.Sweep.{may_collect, oldest_to_collect, Collection, collections, station_after, records_of, sweep}
use Rattle.model.proofs.Tests.{and_left, and_right}
use Rattle.model.proofs.IdLaws.{older-irrefl}
use Rattle.model.proofs.ListedLaws.{listed-set}
use Rattle.model.proofs.OrderLaws.{oldest-eq, oldest-not}
use Rattle.model.proofs.StationLaws.{entry-get, entry_at-other, set_entry-length}
use Rattle.model.proofs.SoundFacts.{held_below, one-slot}
use Rattle.model.proofs.SoundKept.{Keeps, collect-keeps}
use Rattle.model.proofs.CollectionLaws.{Collected, collect-accepted, collected-station, collected-store, collect-length, ends, goes, stored-append}
use Rattle.model.proofs.SweepLaws.{collect-leaves-others, collect-empties, sweep-on}
use Rattle.stations.specs.Found.{station_of}
use Rattle.storing.proofs.CollectRows.{collect-17, collect-on}
use Rattle.sweeping.specs.Order.{AreToCollect}

-- ── an entry that may be collected ──
module _ (st : Station) (d : ℕ) (h : may_collect st (entry_at st d) ≡ true) where
  may-held : (entry_at st d).id.txn ≢ 0
  unfolding may_collect
  may-held = eqb-false _ 0 (not-true _ (and_left _ _ (and_left _ _ h)))

  may-old : superseded st.entries (entry_at st d) ≡ true
  unfolding may_collect
  may-old = and_right _ _ (and_left _ _ h)

  may-unread : is_read st (entry_at st d) ≡ false
  unfolding may_collect
  may-unread = not-true _ (and_right _ _ h)

-- ── the slots to collect ──
module _ (st : Station) (h : sound st ≡ true) (w : length st.entries ≡ entry_places) (n : ℕ) (xs : List ℕ) (a : AreToCollect st n xs) where
  there : (j : ℕ) → j < length st.entries → may_collect st (get_or st.entries j no_entry) ≡ true → may_collect st (entry_at st j) ≡ true
  there j u m = subst (λ (e : Entry). may_collect st e ≡ true) (entry-get st j u) m

  -- none is left
  pub none_left : n ≡ 0 → oldest_to_collect st ≡ none
  unfolding oldest_to_collect
  none_left z = oldest-not (may_collect st) st.entries each
    where
      each : (j : ℕ) → j < length st.entries → may_collect st (get_or st.entries j no_entry) ≡ false
      each j u = go (may_collect st (get_or st.entries j no_entry)) refl
        where
          go : (b : Bool) → may_collect st (get_or st.entries j no_entry) ≡ b → may_collect st (get_or st.entries j no_entry) ≡ false
          go false e = e
          go true e = let r = a.every j (omega arith) (there j u e) in absurd (lt_irrefl 0 (omega (arith, r.1)))

  -- the last is the oldest
  module _ (o : 0 < n) where
    abbrev pub last_of : ℕ
    last_of = get_or xs (n - 1) 0

    pub last-low : last_of < entry_places
    last-low = (a.may (n - 1) (omega arith)).0

    pub last-may : may_collect st (entry_at st last_of) ≡ true
    last-may = (a.may (n - 1) (omega arith)).1

    -- it is held, so it is a slot of the kind
    pub last-below : last_of < st.kind.slots
    last-below = held_below st h last_of (may-held st last_of last-may)

    inside : last_of < length st.entries
    inside = omega (arith, last-low)

    pub last-chosen : oldest_to_collect st ≡ some last_of
    unfolding oldest_to_collect newer
    last-chosen = oldest-eq (may_collect st) st.entries last_of
        (record { low = inside; passes = subst (λ (e : Entry). may_collect st e ≡ true) (sym (entry-get st last_of inside)) last-may; first = first })
        (λ j u m e. one-slot st h j last_of (sym (ap (λ (x : Entry). x.id.txn) (entry-get st j u)) ∙ (ap (λ (x : Id). x.txn) e ∙ ap (λ (x : Entry). x.id.txn) (entry-get st last_of inside))) (may-held st j (there j u m)))
      where
        first : (j : ℕ) → j < length st.entries → may_collect st (get_or st.entries j no_entry) ≡ true → older (get_or st.entries j no_entry).id (get_or st.entries last_of no_entry).id ≡ false
        first j u m = rw (entry-get st j u, entry-get st last_of inside) (go (a.every j (omega arith) (there j u m)))
          where
            go : (i : ℕ) × (i < n) × (get_or xs i 0 ≡ j) → older (entry_at st j).id (entry_at st last_of).id ≡ false
            go r = by (ℕ_discrete r.0 (n - 1))
              where
                by : Dec (r.0 ≡ n - 1) → older (entry_at st j).id (entry_at st last_of).id ≡ false
                by (yes e) = subst (λ (x : ℕ). older (entry_at st x).id (entry_at st last_of).id ≡ false) (ap (λ (i : ℕ). get_or xs i 0) (sym e) ∙ r.2) (older-irrefl (entry_at st last_of).id)
                by (no e) = subst (λ (x : ℕ). older (entry_at st x).id (entry_at st last_of).id ≡ false) r.2 (a.newest-first r.0 (n - 1) (omega (arith, r.1)) (omega arith))

    -- with it collected, the others are left
    pub others-left : AreToCollect (set_entry st last_of no_entry) (n - 1) xs
    others-left = record {
      fits = omega (arith, a.fits);
      may = λ i u. ((a.may i (omega arith)).0, collect-leaves-others st last_of inside (may-old st last_of last-may) (get_or xs i 0) (a.once i (n - 1) u (omega arith)) ∙ (a.may i (omega arith)).1);
      every = λ d u m. go d u m (ℕ_discrete d last_of);
      once = λ i j u v. a.once i j u (omega arith);
      newest-first = λ i j u v. rw (other i (omega arith), other j v) (a.newest-first i j u (omega arith));
    }
      where
        other : (i : ℕ) → i < n - 1 → entry_at (set_entry st last_of no_entry) (get_or xs i 0) ≡ entry_at st (get_or xs i 0)
        other i u = entry_at-other st last_of no_entry (get_or xs i 0) (a.once i (n - 1) u (omega arith))

        go : (d : ℕ) → d < entry_places → may_collect (set_entry st last_of no_entry) (entry_at (set_entry st last_of no_entry) d) ≡ true → Dec (d ≡ last_of) → (i : ℕ) × (i < n - 1) × (get_or xs i 0 ≡ d)
        go d u m (yes e) = absurd (true≢false (sym m ∙ (ap (λ (x : ℕ). may_collect (set_entry st last_of no_entry) (entry_at (set_entry st last_of no_entry) x)) e ∙ collect-empties st last_of inside (may-old st last_of last-may))))
        go d u m (no e) =
            let r = a.every d u (sym (collect-leaves-others st last_of inside (may-old st last_of last-may) d e) ∙ m) in
            let ne : r.0 ≢ n - 1 = (λ z. e (sym r.2 ∙ ap (λ (i : ℕ). get_or xs i 0) z)) in
            (r.0, omega (arith, r.1, ne), r.2)

-- ── one collect ──
module _ (st : Station) (s : List ℕ) (l : length s ≡ store_size st.kind) (h : sound st ≡ true) (d : ℕ) (m : may_collect st (entry_at st d) ≡ true) where
  o : d < st.kind.slots
  o = held_below st h d (may-held st d m)

  -- its record carries it
  pub taken : carries_entry st.kind (record_at st.kind s d 0) (entry_at st d) ≡ true → Collected st s d
  unfolding says_storing refused_with
  taken k = collect-accepted st s d (ap (λ (e : Effect). refused_with e.answer) (collect-on st s d l h o (may-held st d m) (may-old st d m) (may-unread st d m) no_entry refl k))

  -- it does not: 17
  pub stopped : carries_entry st.kind (record_at st.kind s d 0) (entry_at st d) ≡ false → refused_with (collect st s d).answer ≢ 0
  unfolding says refused_with
  stopped k z = lt_irrefl 0 (omega (arith, sym (ap (λ (e : Effect). refused_with e.answer) (collect-17 st s d l h o (may-held st d m) (may-old st d m) (may-unread st d m) k)) ∙ z))

-- ── the loop ──
plus_suc : (m n : ℕ) → m + suc n ≡ m + 1 + n
plus_suc m n = omega arith

plus-zero : (m : ℕ) → m + 0 ≡ m
plus-zero m = omega arith

-- after count collects of st₀ over s₀ with a limit: what is left gives the rest of what all come to
pub record Sweeping (limit : ℕ) (st₀ : Station) (s₀ : List ℕ) (st : Station) (s : List ℕ) (count n : ℕ) (xs : List ℕ) : Type 0 where
  pub right : sound st ≡ true
  pub long : length st.entries ≡ entry_places
  pub kind : st.kind ≡ st₀.kind
  pub size : length s ≡ store_size st.kind
  pub within : count ≤ limit
  pub slots-left : AreToCollect st n xs
  pub station : station_after (collections limit st₀ s₀) st₀ ≡ station_after (collections (limit - count) st s) st
  pub bytes : stored (records_of (collections limit st₀ s₀)) s₀ ≡ stored (records_of (collections (limit - count) st s)) s
  pub counts : length (collections limit st₀ s₀) ≡ count + length (collections (limit - count) st s)

pub sweeping-start : (limit : ℕ) (st : Station) (s : List ℕ) (n : ℕ) (xs : List ℕ) → sound st ≡ true → length st.entries ≡ entry_places → length s ≡ store_size st.kind → AreToCollect st n xs → Sweeping limit st s st s 0 n xs
sweeping-start limit st s n xs h w l a =
    let z : limit ≡ limit - 0 = omega arith in
    record {
      right = h;
      long = w;
      kind = refl;
      size = l;
      within = omega arith;
      slots-left = a;
      station = ap (λ (k : ℕ). station_after (collections k st s) st) z;
      bytes = ap (λ (k : ℕ). stored (records_of (collections k st s)) s) z;
      counts = ap (λ (k : ℕ). length (collections k st s)) z ∙ omega arith;
    }

module _ (limit : ℕ) (st₀ : Station) (s₀ : List ℕ) (st : Station) (s : List ℕ) (count n : ℕ) (xs : List ℕ) (p : Sweeping limit st₀ s₀ st s count n xs) where
  module _ (o : 0 < n) where
    abbrev d : ℕ
    d = get_or xs (n - 1) 0

    may : may_collect st (entry_at st (get_or xs (n - 1) 0)) ≡ true
    may = last-may st p.right p.long n xs p.slots-left o

    chosen : oldest_to_collect st ≡ some (get_or xs (n - 1) 0)
    chosen = last-chosen st p.right p.long n xs p.slots-left o

    -- one more
    pub sweeping-next : count < limit → carries_entry st.kind (record_at st.kind s d 0) (entry_at st d) ≡ true → Sweeping limit st₀ s₀ (set_entry st d no_entry) (with_record st.kind s d 0 zero_record) (count + 1) (n - 1) xs
    unfolding station_after records_of
    sweeping-next u k = record {
      right = subst (λ (x : Station). sound x ≡ true) one (unfold Keeps in collect-keeps st s d p.right);
      long = set_entry-length st d no_entry ∙ p.long;
      kind = unfold set_entry in p.kind;
      size = sym (ap length two) ∙ (collect-length st s d p.size c ∙ ap (λ (x : Station). store_size x.kind) one);
      within = omega arith;
      slots-left = others-left st p.right p.long n xs p.slots-left o;
      station = p.station ∙ (ap (λ (cs : List Collection). station_after cs st) more ∙ (λ i. station_after (collections (limit - (count + 1)) (one i) (two i)) (one i)));
      bytes = p.bytes ∙ (ap (λ (cs : List Collection). stored (records_of cs) s) more
          ∙ (stored-append (collect st s d).stores (records_of (collections (limit - (count + 1)) (collect st s d).station (stored (collect st s d).stores s))) s
          ∙ (λ i. stored (records_of (collections (limit - (count + 1)) (one i) (two i))) (two i))));
      counts = p.counts ∙ (ap (λ (cs : List Collection). count + length cs) more ∙ ((λ i. count + suc (length (collections (limit - (count + 1)) (one i) (two i)))) ∙ plus_suc count _));
    }
      where
        c : Collected st s (get_or xs (n - 1) 0)
        c = taken st s p.size p.right (get_or xs (n - 1) 0) may k

        one : (collect st s (get_or xs (n - 1) 0)).station ≡ set_entry st (get_or xs (n - 1) 0) no_entry
        one = collected-station st s (get_or xs (n - 1) 0) c

        two : stored (collect st s (get_or xs (n - 1) 0)).stores s ≡ with_record st.kind s (get_or xs (n - 1) 0) 0 zero_record
        two = collected-store st s (get_or xs (n - 1) 0) c

        more : collections (limit - count) st s ≡ record { slot = get_or xs (n - 1) 0; effect = collect st s (get_or xs (n - 1) 0) } ∷ collections (limit - (count + 1)) (collect st s (get_or xs (n - 1) 0)).station (stored (collect st s (get_or xs (n - 1) 0)).stores s)
        more =
            let e : limit - count ≡ suc (limit - (count + 1)) = omega arith in
            ap (λ (x : ℕ). collections x st s) e ∙ goes st s (record { slot = get_or xs (n - 1) 0; chosen = chosen; taken = c }) (limit - (count + 1))

    -- a record that is not its entry's ends it
    pub record-ends : carries_entry st.kind (record_at st.kind s d 0) (entry_at st d) ≡ false → collections (limit - count) st s ≡ []
    record-ends k = ends st s (inr (get_or xs (n - 1) 0, chosen, stopped st s p.size p.right (get_or xs (n - 1) 0) may k)) (limit - count)

  pub none-ends : n ≡ 0 → collections (limit - count) st s ≡ []
  none-ends z = ends st s (inl (none_left st p.right p.long n xs p.slots-left z)) (limit - count)

  pub limit-ends : limit ≤ count → collections (limit - count) st s ≡ []
  unfolding collections
  limit-ends u = let e : limit - count ≡ 0 = omega arith in ap (λ (x : ℕ). collections x st s) e

  -- where nothing goes on, that was the sweep
  pub swept : length s₀ ≡ store_size st₀.kind → sound st₀ ≡ true → 0 < limit → limit ≤ sweep_limit → collections (limit - count) st s ≡ []
      → (◌≡◌ {A = Outcome} (record { station = st; answer = A.Swept count }) (outcome_of (sweep st₀ s₀ limit))) × (s ≡ stored (sweep st₀ s₀ limit).stores s₀)
  unfolding outcome_of station_after records_of stored
  swept l h u v e = rw (sweep-on st₀ s₀ limit l h u v) (
    (λ i. record { station = sym (p.station ∙ ap (λ (cs : List Collection). station_after cs st) e) i; answer = A.Swept (sym (p.counts ∙ (ap (λ (cs : List Collection). count + length cs) e ∙ plus-zero count)) i) }),
    sym (p.bytes ∙ ap (λ (cs : List Collection). stored (records_of cs) s) e),
  )

-- the same, with the slot, the unused entry and the store as the code has them
pub sweeping-as : (limit : ℕ) (st₀ : Station) (s₀ : List ℕ) (st : machine.Station.Station) (s : List ℕ) (d count n : ℕ) (xs : List ℕ) → Sweeping limit st₀ s₀ (set_entry (listed st) d no_entry) (with_record (kind_of st.kind) s d 0 zero_record) count n xs
    → (w : ℕ) → w ≡ d → (x : machine.Entry.Entry) → listed_entry x ≡ no_entry → (y : List ℕ) → y ≡ with_record (kind_of st.kind) s w 0 zero_record
    → Sweeping limit st₀ s₀ (station_of (kind_of st.kind) (listed_lives st.live) (listed_entries (set st.entries w x))) y count n xs
unfolding set_entry
sweeping-as limit st₀ s₀ st s d count n xs p w q x e y f =
    subst (λ (z : List ℕ). Sweeping limit st₀ s₀ (station_of (kind_of st.kind) (listed_lives st.live) (listed_entries (set st.entries w x))) z count n xs) (sym (f ∙ ap (λ (c : ℕ). with_record (kind_of st.kind) s c 0 zero_record) q))
    (subst (λ (es : List Entry). Sweeping limit st₀ s₀ (station_of (kind_of st.kind) (listed_lives st.live) es) (with_record (kind_of st.kind) s d 0 zero_record) count n xs) (sym (listed-set st.entries w x ∙ (λ i. set (listed_entries st.entries) (q i) (e i)))) p)
