-- The single collects that a sweep is: where they end, where they go on, and what every collect keeps they keep.
use Prim.Native.Nat.{ℕ, zero, suc, ◌<◌}
use mathlib.Core.Path.{◌≡◌, refl, sym, ap, subst, ◌∙◌}
use mathlib.Core.Logic.{◌≢◌, ◌⊎◌, inl, inr}
use mathlib.Core.Bool.{true, false}
use mathlib.Core.List.{List, [], ◌∷◌, ◌++◌}
use mathlib.Core.Option.{Option, some, none, Option-elim}
use lib.ListN.{length, get_or}
use native.Mathlib.Decide.{ℕ_discrete}
use borrow.Author.Tests.{not-false, eq-eqb, ne_eqb, leb-false}
use Rattle.model.specs.Types.{Entry, Station}
use Rattle.model.specs.declared.Answer.TheVariants as A
use Rattle.model.specs.Lists.{◌and◌, all}
use Rattle.model.specs.Kinds.{store_size}
use Rattle.model.specs.Entries.{no_entry, keys_of, wrote, carries_entry}
use Rattle.model.specs.Ids.{older}
use Rattle.model.specs.Stations.{entry_at, set_entry, holds}
use Rattle.model.specs.Records.{zero_record, record_at, with_record}
use Rattle.model.specs.Supersedence.{newer_on, superseded, is_read}
use Rattle.model.specs.Effects.{RecordWrite, Effect, stored, says_storing}
use Rattle.model.specs.Collect.{collect}
use Rattle.model.specs.Answers.{refused_with}
use Rattle.model.specs.Sweep.{oldest_to_collect, Collection, collections, station_after, records_of}
use Rattle.model.proofs.Tests.{and_left, and_right, or_left, or_right}
use Rattle.model.proofs.ListLaws.{all-at, any-finds, member-finds}
use Rattle.model.proofs.RefusalLaws.{accepted, row-off}
use Rattle.model.proofs.RecordLaws.{length-zero, with-length}
use native.Mathlib.Omega.{arith}

-- ── what supersedence says: for each key that it wrote a newer entry that wrote it ──
pub newer-writer : (es : List Entry) (e : Entry) → superseded es e ≡ true → (k : ℕ) → wrote e k ≡ true
    → (c : ℕ) × (c < length es) × (wrote (get_or es c no_entry) k ≡ true) × (older e.id (get_or es c no_entry).id ≡ true)
unfolding superseded newer_on wrote
newer-writer es e h k w =
    let f = member-finds k (keys_of e) w in
    let a = subst (λ (x : ℕ). newer_on es e x ≡ true) f.1 (all-at (newer_on es e) (keys_of e) 0 h _ f.0) in
    let r = any-finds (λ x. wrote x k and older e.id x.id) es no_entry a in
    (r.0, r.1, and_left _ _ r.2, and_right _ _ r.2)

-- ── a collect that is not refused ──
pub record Collected (st : Station) (s : List ℕ) (d : ℕ) : Type 0 where
  pub low : d < st.kind.slots
  pub held : holds st d ≡ true
  pub old : superseded st.entries (entry_at st d) ≡ true
  pub unread : is_read st (entry_at st d) ≡ false
  pub carried : carries_entry st.kind (record_at st.kind s d 0) (entry_at st d) ≡ true
  pub comes-to : collect st s d ≡ says_storing (A.Collected (entry_at st d).id) (set_entry st d no_entry) d 0 zero_record

pub collect-accepted : (st : Station) (s : List ℕ) (d : ℕ) → refused_with (collect st s d).answer ≡ 0 → Collected st s d
unfolding collect all
collect-accepted st s d h =
    let a = accepted _ st _ refl h in
    let r14 = row-off 14 _ _ (row-off 2 _ _ (row-off 1 _ _ a.0).1).1 in
    let r15 = row-off 15 _ _ r14.1 in
    let r16 = row-off 16 _ _ r15.1 in
    let r17 = row-off 17 _ _ r16.1 in
    record {
      low = leb-false st.kind.slots d (or_left _ _ r14.0);
      held = not-false _ (or_right _ _ r14.0);
      old = not-false _ r15.0;
      unread = r16.0;
      carried = not-false _ r17.0;
      comes-to = a.1;
    }

-- the station and the store afterwards
pub collected-station : (st : Station) (s : List ℕ) (d : ℕ) → Collected st s d → (collect st s d).station ≡ set_entry st d no_entry
unfolding says_storing
collected-station st s d c = ap (λ (e : Effect). e.station) c.comes-to

pub collected-store : (st : Station) (s : List ℕ) (d : ℕ) → Collected st s d → stored (collect st s d).stores s ≡ with_record st.kind s d 0 zero_record
unfolding says_storing stored set_entry
collected-store st s d c = ap (λ (e : Effect). stored e.stores s) c.comes-to

-- ── records stored one list after the other ──
pub stored-append : (ws us : List RecordWrite) (s : List ℕ) → stored (ws ++ us) s ≡ stored us (stored ws s)
unfolding stored
stored-append [] us s = refl
stored-append (w ∷ ws) us s = stored-append ws us (with_record w.kind s w.slot w.index w.content)

-- ── where they end, and where they go on ──
abbrev pub Ends : Station → List ℕ → Type 0
Ends st s = (oldest_to_collect st ≡ none) ⊎ ((d : ℕ) × (oldest_to_collect st ≡ some d) × (refused_with (collect st s d).answer ≢ 0))

pub record Goes (st : Station) (s : List ℕ) : Type 0 where
  pub slot : ℕ
  pub chosen : oldest_to_collect st ≡ some slot
  pub taken : Collected st s slot

module _ (st : Station) (s : List ℕ) where
  pub ends-or-goes : Ends st s ⊎ Goes st s
  ends-or-goes = go (oldest_to_collect st) refl
    where
      decided : (d : ℕ) → oldest_to_collect st ≡ some d → Dec (refused_with (collect st s d).answer ≡ 0) → Ends st s ⊎ Goes st s
      decided d e (yes z) = inr (record { slot = d; chosen = e; taken = collect-accepted st s d z })
      decided d e (no z) = inl (inr (d, e, z))

      go : (x : Option ℕ) → oldest_to_collect st ≡ x → Ends st s ⊎ Goes st s
      go none e = inl (inl e)
      go (some d) e = decided d e (ℕ_discrete (refused_with (collect st s d).answer) 0)

  pub ends : Ends st s → (n : ℕ) → collections n st s ≡ []
  unfolding collections Option-elim
  ends x zero = refl
  ends (inl e) (suc n) = rw e
  ends (inr x) (suc n) = rw (x.1, ne_eqb (refused_with (collect st s x.0).answer) 0 x.2)

  -- the station and the store after the first of them
  module _ (g : Goes st s) where
    abbrev pub next_station : Station
    next_station = (collect st s g.slot).station

    abbrev pub next_store : List ℕ
    next_store = stored (collect st s g.slot).stores s

    pub goes : (n : ℕ) → collections (suc n) st s ≡ record { slot = g.slot; effect = collect st s g.slot } ∷ collections n next_station next_store
    unfolding collections Option-elim
    goes n = rw (g.chosen, eq-eqb (refused_with (collect st s g.slot).answer) 0 (ap (λ (e : Effect). refused_with e.answer) g.taken.comes-to ∙ (unfold says_storing in unfold refused_with in refl)))

-- ── what every collect keeps ──
pub collections-keep : (P : Station → List ℕ → Type 0) → ((st : Station) (s : List ℕ) (d : ℕ) → P st s → Collected st s d → P (collect st s d).station (stored (collect st s d).stores s))
    → (n : ℕ) (st : Station) (s : List ℕ) → P st s → P (station_after (collections n st s) st) (stored (records_of (collections n st s)) s)
unfolding station_after records_of stored
collections-keep P f zero st s h = unfold collections in h
collections-keep P f (suc n) st s h = go (ends-or-goes st s) (λ st₁ s₁ h₁. collections-keep P f n st₁ s₁ h₁)
  where
    go : Ends st s ⊎ Goes st s → ((st₁ : Station) (s₁ : List ℕ) → P st₁ s₁ → P (station_after (collections n st₁ s₁) st₁) (stored (records_of (collections n st₁ s₁)) s₁))
        → P (station_after (collections (suc n) st s) st) (stored (records_of (collections (suc n) st s)) s)
    go (inl e) ih = rw (ends st s e (suc n)) h
    go (inr g) ih = rw (goes st s g n, stored-append (collect st s g.slot).stores (records_of (collections n (next_station st s g) (next_store st s g))) s)
        (ih (next_station st s g) (next_store st s g) (f st s g.slot h g.taken))

-- the kind, and the store's length
pub collected-kind : (st : Station) (s : List ℕ) (d : ℕ) → Collected st s d → (collect st s d).station.kind ≡ st.kind
unfolding set_entry
collected-kind st s d c = ap (λ (x : Station). x.kind) (collected-station st s d c)

pub collections-kind : (n : ℕ) (st : Station) (s : List ℕ) → (station_after (collections n st s) st).kind ≡ st.kind
collections-kind n st s = collections-keep (λ x _. x.kind ≡ st.kind) (λ x z d h c. collected-kind x z d c ∙ h) n st s refl

pub collect-length : (st : Station) (s : List ℕ) (d : ℕ) → length s ≡ store_size st.kind → Collected st s d → length (stored (collect st s d).stores s) ≡ store_size (collect st s d).station.kind
collect-length st s d l c =
    ap length (collected-store st s d c) ∙ (with-length st.kind s d 0 zero_record l c.low (omega arith) length-zero ∙ (l ∙ ap store_size (sym (collected-kind st s d c))))

-- as many as there are, are all
pub collections-count : (n : ℕ) (st : Station) (s : List ℕ) → collections (length (collections n st s)) st s ≡ collections n st s
collections-count zero st s = unfold collections in refl
collections-count (suc n) st s = go (ends-or-goes st s) (λ st₁ s₁. collections-count n st₁ s₁)
  where
    go : Ends st s ⊎ Goes st s → ((st₁ : Station) (s₁ : List ℕ) → collections (length (collections n st₁ s₁)) st₁ s₁ ≡ collections n st₁ s₁)
        → collections (length (collections (suc n) st s)) st s ≡ collections (suc n) st s
    go (inl e) ih = rw (ends st s e (suc n)) (unfold collections in refl)
    go (inr g) ih = rw (goes st s g n, goes st s g (length (collections n (next_station st s g) (next_store st s g))))
        (ap (λ (x : List Collection). record { slot = g.slot; effect = collect st s g.slot } ∷ x) (ih (next_station st s g) (next_store st s g)))
