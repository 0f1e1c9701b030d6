-- What a sweep is: so many single collects of the oldest id that may be collected; that sweeps add; that a collect changes no other entry's 15 or 16.
use Prim.Native.Nat.{ℕ, zero, suc, ◌+◌, ◌<◌, ◌≤◌}
use mathlib.Core.Path.{◌≡◌, refl, sym, ap, subst, ◌∙◌}
use mathlib.Core.Logic.{◌≢◌, ◌⊎◌, inl, inr, ⊎_elim}
use mathlib.Core.Bool.{Bool, true, false, not, true≢false}
use mathlib.Core.List.{List, [], ◌∷◌, ◌++◌, append_assoc}
use lib.Dec.{eqb, leb}
use lib.ListN.{length, get_or, set, length-set, length-append}
use lib.Seq.{get_or-set_same, get_or-set_other}
use native.Mathlib.Nat.{lt_irrefl}
use native.Mathlib.Decide.{ℕ_discrete}
use native.Mathlib.Omega.{arith}
use borrow.Author.Tests.{not-true, eqb-false, eq-eqb, ne_eqb, le-ltb, lt-ltb, lt-leb}
use Rattle.model.specs.Types.{Entry, Station}
use Rattle.model.specs.declared.Answer.TheVariants as A
use Rattle.model.specs.Lists.{◌and◌, ◌or◌, all}
use Rattle.model.specs.Limits.{sweep_limit}
use Rattle.model.specs.Kinds.{store_size}
use Rattle.model.specs.Ids.{older}
use Rattle.model.specs.Entries.{no_entry, keys_of, wrote, carries_entry}
use Rattle.model.specs.Stations.{entry_at, set_entry, holds}
use Rattle.model.specs.Records.{zero_record, record_at}
use Rattle.model.specs.Sound.{sound}
use Rattle.model.specs.Supersedence.{newer_on, superseded, is_read}
use Rattle.model.specs.Effects.{RecordWrite, Effect, stored, says, says_storing, says_storing_all, ◌when◌, refusals, wrong_length, unsound}
use Rattle.model.specs.Collect.{collect}
use Rattle.model.specs.Answers.{refused_with}
use Rattle.model.specs.Sweep.{may_collect, oldest_to_collect, Collection, collections, station_after, records_of, sweep}
use Rattle.model.proofs.Tests.{and_left, and_right, and_intro, or-none, or-intro-left, or-intro-right, not-of-true, not_of_false, bool_cases}
use Rattle.model.proofs.ListLaws.{any-finds, any_at, any-none-of}
use Rattle.model.proofs.IdLaws.{older-irrefl, older-trans}
use Rattle.model.proofs.InsideLaws.{no_entry-wrote}
use Rattle.model.proofs.OrderLaws.{IsOldest, oldest-is, oldest-none}
use Rattle.model.proofs.RefusalLaws.{refusals-none, skipped, hit}
use Rattle.model.proofs.StationLaws.{entry-get, entry_at-same, entry_at-other}
use Rattle.model.proofs.SoundFacts.{held_below}
use Rattle.model.proofs.SoundKept.{collect-keeps, Keeps}
use Rattle.model.proofs.CollectionLaws.{newer-writer, stored-append, Ends, Goes, ends-or-goes, ends, next_station, next_store, goes, collections-keep, collect-length}

-- ── collecting an entry that is superseded changes no other entry's 15 or 16 ──
module _ (es : List Entry) (d : ℕ) (sup : superseded es (get_or es d no_entry) ≡ true) where
  -- on a key that it wrote, another entry is newer than it
  over : (k : ℕ) → wrote (get_or es d no_entry) k ≡ true → (c : ℕ) × (c < length es) × (c ≢ d) × (wrote (get_or es c no_entry) k ≡ true) × (older (get_or es d no_entry).id (get_or es c no_entry).id ≡ true)
  over k w =
      let r = newer-writer es (get_or es d no_entry) sup k w in
      (r.0, r.1, λ z. true≢false (sym r.3 ∙ (ap (λ (j : ℕ). older (get_or es d no_entry).id (get_or es j no_entry).id) z ∙ older-irrefl (get_or es d no_entry).id)), r.2, r.3)

  -- wrote the key, and is newer than e
  abbrev newer_writer : Entry → ℕ → Entry → Bool
  newer_writer e k x = wrote x k and older e.id x.id

  newer-same : (e : Entry) (k : ℕ) → newer_on (set es d no_entry) e k ≡ newer_on es e k
  unfolding newer_on
  newer-same e k = ⊎_elim (λ y. there y ∙ sym y) (λ n. none-there n ∙ sym n) (bool_cases (newer_on es e k))
    where
      at : (c : ℕ) → c < length es → c ≢ d → newer_writer e k (get_or es c no_entry) ≡ true → newer_on (set es d no_entry) e k ≡ true
      at c o n h = any_at (newer_writer e k) (set es d no_entry) no_entry c (rw (length-set es d no_entry) o) (rw (get_or-set_other es d c no_entry no_entry n) h)

      there : newer_on es e k ≡ true → newer_on (set es d no_entry) e k ≡ true
      there y = go (ℕ_discrete r.0 d)
        where
          r : (c : ℕ) × (c < length es) × (newer_writer e k (get_or es c no_entry) ≡ true)
          r = any-finds (newer_writer e k) es no_entry y

          go : Dec (r.0 ≡ d) → newer_on (set es d no_entry) e k ≡ true
          go (no n) = at r.0 r.1 n r.2
          go (yes z) =
              let h = subst (λ (c : ℕ). newer_writer e k (get_or es c no_entry) ≡ true) z r.2 in
              let t = over k (and_left _ _ h) in
              at t.0 t.1 t.2 (and_intro _ _ t.3 (older-trans _ _ _ (and_right _ _ h) t.4))

      none-there : newer_on es e k ≡ false → newer_on (set es d no_entry) e k ≡ false
      none-there n = any-none-of (newer_writer e k) (set es d no_entry) no_entry (λ j o. each j (rw (length-set es d no_entry) at o) (ℕ_discrete j d))
        where
          each : (j : ℕ) → j < length es → Dec (j ≡ d) → newer_writer e k (get_or (set es d no_entry) j no_entry) ≡ false
          each j o (no m) = rw (get_or-set_other es d j no_entry no_entry m) (⊎_elim (λ y. absurd (true≢false (sym (any_at (newer_writer e k) es no_entry j o y) ∙ n))) (λ y. y) (bool_cases (newer_writer e k (get_or es j no_entry))))
          each j o (yes z) = rw (z, get_or-set_same es d no_entry no_entry (subst (λ (x : ℕ). x < length es) z o)) (unfold ◌and◌ in rw (no_entry-wrote k))

  pub superseded-same : (e : Entry) → superseded (set es d no_entry) e ≡ superseded es e
  unfolding superseded
  superseded-same e = λ i. all (λ k. newer-same e k i) (keys_of e)

module _ (st : Station) (d : ℕ) (o : d < length st.entries) (sup : superseded st.entries (entry_at st d) ≡ true) where
  abbrev end : Station
  end = set_entry st d no_entry

  -- 15, of any entry
  pub collect-leaves-15 : (e : Entry) → superseded end.entries e ≡ superseded st.entries e
  unfolding set_entry
  collect-leaves-15 e = superseded-same st.entries d (subst (λ (x : Entry). superseded st.entries x ≡ true) (sym (entry-get st d o)) sup) e

  -- 16
  pub collect-leaves-16 : (e : Entry) → is_read end e ≡ is_read st e
  unfolding set_entry is_read
  collect-leaves-16 e = refl

  -- so whether any may be collected
  pub collect-leaves : (e : Entry) → may_collect end e ≡ may_collect st e
  unfolding may_collect
  collect-leaves e = λ i. not (eqb e.id.txn 0) and collect-leaves-15 e i and not (collect-leaves-16 e i)

  pub collect-leaves-others : (c : ℕ) → c ≢ d → may_collect end (entry_at end c) ≡ may_collect st (entry_at st c)
  collect-leaves-others c n = ap (may_collect end) (entry_at-other st d no_entry c n) ∙ collect-leaves (entry_at st c)

  -- its own slot is empty
  pub collect-empties : may_collect end (entry_at end d) ≡ false
  unfolding may_collect ◌and◌
  collect-empties = ap (may_collect end) (entry_at-same st d no_entry o)

-- ── a sweep is so many collects ──
-- collects of these slots one after the other, each of the oldest id that may be collected at its time and answered collected
pub Collects : List ℕ → Station → List ℕ → Station → List ℕ → Type 0
Collects [] st s st' s' = (st ≡ st') × (s ≡ s')
Collects (d ∷ ds) st s st' s' =
    IsOldest (may_collect st) st.entries d × ((collect st s d).answer ≡ A.Collected (entry_at st d).id)
    × Collects ds (collect st s d).station (stored (collect st s d).stores s) st' s'

-- no entry may be collected
abbrev pub NoneLeft : Station → Type 0
NoneLeft st = (d : ℕ) → d < length st.entries → may_collect st (get_or st.entries d no_entry) ≡ false

-- the oldest that may be is one whose record 17 names
abbrev pub StoppedBy17 : Station → List ℕ → Type 0
StoppedBy17 st s = (d : ℕ) × IsOldest (may_collect st) st.entries d × ((collect st s d).answer ≡ A.Refused 17 0)

pub record IsSweep (st : Station) (s : List ℕ) (n : ℕ) (e : Effect) : Type 0 where
  pub slots : List ℕ
  pub collects : Collects slots st s e.station (stored e.stores s)
  pub count : e.answer ≡ A.Swept (length slots)
  pub ended : (length slots ≡ n) ⊎ (NoneLeft e.station ⊎ StoppedBy17 e.station (stored e.stores s))

module _ (st : Station) (s : List ℕ) (l : length s ≡ store_size st.kind) (h : sound st ≡ true) where
  length-right : wrong_length st.kind s ≡ false
  unfolding wrong_length
  length-right = not-of-true _ (eq-eqb (length s) (store_size st.kind) l)

  is-sound : unsound st ≡ false
  unfolding unsound
  is-sound = not-of-true _ h

  -- a collect of the oldest that may be is refused with 17, or not at all
  only-17 : (d : ℕ) → IsOldest (may_collect st) st.entries d → refused_with (collect st s d).answer ≢ 0 → (collect st s d).answer ≡ A.Refused 17 0
  unfolding collect may_collect
  only-17 d is n = go (carries_entry st.kind (record_at st.kind s d 0) (entry_at st d)) refl
    where
      may : may_collect st (entry_at st d) ≡ true
      may = subst (λ (x : Entry). may_collect st x ≡ true) (entry-get st d is.low) is.passes

      held : not (eqb (entry_at st d).id.txn 0) ≡ true
      held = and_left _ _ (and_left _ _ may)

      r14 : (leb st.kind.slots d or not (holds st d)) ≡ false
      r14 = unfold holds in or-none _ _ (lt-leb st.kind.slots d (held_below st h d (eqb-false _ 0 (not-true _ held)))) (not-of-true _ held)

      upto : collect st s d ≡ refusals (17 when not (carries_entry st.kind (record_at st.kind s d 0) (entry_at st d)) ∷ []) st (says_storing (A.Collected (entry_at st d).id) (set_entry st d no_entry) d 0 zero_record)
      upto = skipped 1 _ _ st _ length-right ∙ (skipped 2 _ _ st _ is-sound ∙ (skipped 14 _ _ st _ r14 ∙ (skipped 15 _ _ st _ (not-of-true _ (and_right _ _ (and_left _ _ may))) ∙ skipped 16 _ _ st _ (not-true _ (and_right _ _ may)))))

      go : (b : Bool) → carries_entry st.kind (record_at st.kind s d 0) (entry_at st d) ≡ b → (collect st s d).answer ≡ A.Refused 17 0
      go true e = absurd (n (ap (λ (x : Effect). refused_with x.answer) (upto ∙ (skipped 17 _ _ st _ (not-of-true _ e) ∙ refusals-none st _)) ∙ (unfold says_storing in unfold refused_with in refl)))
      go false e = ap (λ (x : Effect). x.answer) (upto ∙ hit 17 _ _ st _ (not_of_false _ e)) ∙ (unfold says in refl)

-- the collects from any number on: their slots, their effects, and why there are no more
pub record AreCollects (st : Station) (s : List ℕ) (n : ℕ) (cs : List Collection) : Type 0 where
  pub slots : List ℕ
  pub long : length slots ≡ length cs
  pub collects : Collects slots st s (station_after cs st) (stored (records_of cs) s)
  pub ended : (length slots ≡ n) ⊎ (NoneLeft (station_after cs st) ⊎ StoppedBy17 (station_after cs st) (stored (records_of cs) s))

are-collects : (n : ℕ) (st : Station) (s : List ℕ) → length s ≡ store_size st.kind → sound st ≡ true → AreCollects st s n (collections n st s)
unfolding Collects station_after records_of stored
are-collects zero st s l h = unfold collections in record { slots = []; long = refl; collects = (refl, refl); ended = inl refl }
are-collects (suc n) st s l h = go (ends-or-goes st s) (λ st₁ s₁ l₁ h₁. are-collects n st₁ s₁ l₁ h₁)
  where
    stop : Ends st s → NoneLeft st ⊎ StoppedBy17 st s
    stop (inl e) = inl (unfold oldest_to_collect in oldest-none (may_collect st) st.entries e)
    stop (inr x) = let is = oldest-is (may_collect st) st.entries x.0 (unfold oldest_to_collect in x.1) in inr (x.0, is, only-17 st s l h x.0 is x.2)

    go : Ends st s ⊎ Goes st s
        → ((st₁ : Station) (s₁ : List ℕ) → length s₁ ≡ store_size st₁.kind → sound st₁ ≡ true → AreCollects st₁ s₁ n (collections n st₁ s₁))
        → AreCollects st s (suc n) (collections (suc n) st s)
    go (inl e) ih = rw (ends st s e (suc n)) (record { slots = []; long = refl; collects = (refl, refl); ended = inr (stop e) })
    go (inr g) ih =
        let d = g.slot in
        let r = ih (next_station st s g) (next_store st s g) (collect-length st s d l g.taken) (unfold Keeps in collect-keeps st s d h) in
        let a : (collect st s d).answer ≡ A.Collected (entry_at st d).id = ap (λ (x : Effect). x.answer) g.taken.comes-to ∙ (unfold says_storing in refl) in
        let q = sym (stored-append (collect st s d).stores (records_of (collections n (next_station st s g) (next_store st s g))) s) in
        let k = collections n (next_station st s g) (next_store st s g) in
        rw (goes st s g n) (record {
          slots = d ∷ r.slots;
          long = ap suc r.long;
          collects = (
            oldest-is (may_collect st) st.entries d (unfold oldest_to_collect in g.chosen),
            a,
            subst (λ (y : List ℕ). Collects r.slots (next_station st s g) (next_store st s g) (station_after k (next_station st s g)) y) q r.collects,
          );
          ended = ⊎_elim (λ e. inl (ap suc e)) (λ x. inr (subst (λ (y : List ℕ). NoneLeft (station_after k (next_station st s g)) ⊎ StoppedBy17 (station_after k (next_station st s g)) y) q x)) r.ended;
        })

-- ── sweep, its rows passed ──
pub sweep-on : (st : Station) (s : List ℕ) (n : ℕ) → length s ≡ store_size st.kind → sound st ≡ true → 1 ≤ n → n ≤ sweep_limit
    → sweep st s n ≡ says_storing_all (A.Swept (length (collections n st s))) (station_after (collections n st s) st) (records_of (collections n st s))
unfolding sweep wrong_length unsound
sweep-on st s n l h o m =
    skipped 1 _ _ st _ (not-of-true _ (eq-eqb (length s) (store_size st.kind) l))
    ∙ (skipped 2 _ _ st _ (not-of-true _ h)
    ∙ (skipped 20 _ _ st _ (or-none _ _ (ne_eqb n 0 (λ z. lt_irrefl 0 (omega arith))) (le-ltb sweep_limit n m))
    ∙ refusals-none st _))

-- (a) a sweep is c collects, c its answer, each answered collected, each of the least id that may be collected at its time; and c is the limit, or
-- none may be collected then, or the least that may is one whose record 17 names
pub sweep-is-collects : (st : Station) (s : List ℕ) (n : ℕ) → length s ≡ store_size st.kind → sound st ≡ true → 1 ≤ n → n ≤ sweep_limit → IsSweep st s n (sweep st s n)
sweep-is-collects st s n l h o m =
    let r = are-collects n st s l h in
    rw (sweep-on st s n l h o m) (record { slots = r.slots; collects = r.collects; count = ap A.Swept (sym r.long); ended = r.ended })

-- ── sweeps add ──
zero-add : (n : ℕ) → 0 + n ≡ n
zero-add n = omega arith

suc-add : (m n : ℕ) → suc m + n ≡ suc (m + n)
suc-add m n = omega arith

pub collections-split : (m n : ℕ) (st : Station) (s : List ℕ)
    → collections (m + n) st s ≡ collections m st s ++ collections n (station_after (collections m st s) st) (stored (records_of (collections m st s)) s)
unfolding station_after records_of stored
collections-split zero n st s = unfold collections in ap (λ (x : ℕ). collections x st s) (zero-add n)
collections-split (suc m) n st s = go (ends-or-goes st s) (λ st₁ s₁. collections-split m n st₁ s₁)
  where
    go : Ends st s ⊎ Goes st s
        → ((st₁ : Station) (s₁ : List ℕ) → collections (m + n) st₁ s₁ ≡ collections m st₁ s₁ ++ collections n (station_after (collections m st₁ s₁) st₁) (stored (records_of (collections m st₁ s₁)) s₁))
        → collections (suc m + n) st s ≡ collections (suc m) st s ++ collections n (station_after (collections (suc m) st s) st) (stored (records_of (collections (suc m) st s)) s)
    go (inl e) ih = rw (ends st s e (suc m + n), ends st s e (suc m), ends st s e n)
    go (inr g) ih = rw (suc-add m n, goes st s g (m + n), goes st s g m, stored-append (collect st s g.slot).stores (records_of (collections m (next_station st s g) (next_store st s g))) s)
        (ap (λ (x : List Collection). record { slot = g.slot; effect = collect st s g.slot } ∷ x) (ih (next_station st s g) (next_store st s g)))

station-append : (cs us : List Collection) (st : Station) → station_after (cs ++ us) st ≡ station_after us (station_after cs st)
unfolding station_after
station-append [] us st = refl
station-append (c ∷ cs) us st = station-append cs us c.effect.station

records-append : (cs us : List Collection) → records_of (cs ++ us) ≡ records_of cs ++ records_of us
unfolding records_of
records-append [] us = refl
records-append (c ∷ cs) us = ap (λ (ws : List RecordWrite). c.effect.stores ++ ws) (records-append cs us) ∙ sym (append_assoc c.effect.stores (records_of cs) (records_of us))

-- (b) "A call with limit m and then one with n leave what one with m + n leaves, m + n at most 64.", and the counts add
pub record Adds (st : Station) (s : List ℕ) (one two both : Effect) : Type 0 where
  pub station : two.station ≡ both.station
  pub bytes : stored two.stores (stored one.stores s) ≡ stored both.stores s
  pub counts : (a b : ℕ) → one.answer ≡ A.Swept a → two.answer ≡ A.Swept b → both.answer ≡ A.Swept (a + b)

module _ (st : Station) (s : List ℕ) where
  pub sweep-1 : length s ≢ store_size st.kind → (n : ℕ) → sweep st s n ≡ says (A.Refused 1 0) st
  unfolding sweep wrong_length
  sweep-1 l n = hit 1 _ _ st _ (not_of_false _ (ne_eqb _ _ l))

  pub sweep-2 : length s ≡ store_size st.kind → sound st ≡ false → (n : ℕ) → sweep st s n ≡ says (A.Refused 2 0) st
  unfolding sweep wrong_length unsound
  sweep-2 l h n = skipped 1 _ _ st _ (not-of-true _ (eq-eqb (length s) (store_size st.kind) l)) ∙ hit 2 _ _ st _ (not_of_false _ h)

  pub sweep-20 : length s ≡ store_size st.kind → sound st ≡ true → (n : ℕ) → (n ≡ 0) ⊎ (sweep_limit < n) → sweep st s n ≡ says (A.Refused 20 0) st
  unfolding sweep wrong_length unsound
  sweep-20 l h n x =
      skipped 1 _ _ st _ (not-of-true _ (eq-eqb (length s) (store_size st.kind) l)) ∙ (skipped 2 _ _ st _ (not-of-true _ h)
      ∙ hit 20 _ _ st _ (⊎_elim (λ z. or-intro-left _ _ (eq-eqb n 0 z)) (λ z. or-intro-right _ _ (lt-ltb sweep_limit n z)) x))

  module _ (m n : ℕ) (om : 1 ≤ m) (on : 1 ≤ n) (o : m + n ≤ sweep_limit) where
    -- both are refused alike
    refused-add : (x : ℕ) → ((k : ℕ) → sweep st s k ≡ says (A.Refused x 0) st) → Adds st s (sweep st s m) (sweep (sweep st s m).station (stored (sweep st s m).stores s) n) (sweep st s (m + n))
    unfolding says stored
    refused-add x p = rw (p m, p n, p (m + n)) (record { station = refl; bytes = refl; counts = λ a b e f. let z : ◌≡◌ {A = ℕ} 0 1 = cc in absurd (omega arith) })

    collects-add : length s ≡ store_size st.kind → sound st ≡ true → Adds st s (sweep st s m) (sweep (sweep st s m).station (stored (sweep st s m).stores s) n) (sweep st s (m + n))
    collects-add l h =
        rw (sweep-on st s m l h om (omega arith), sweep-on st₁ s₁ n l₁ h₁ on (omega arith), sweep-on st s (m + n) l h (omega arith) o) (record {
          station = sym (ap (λ (cs : List Collection). station_after cs st) split ∙ station-append (collections m st s) (collections n st₁ s₁) st);
          bytes = sym (ap (λ (cs : List Collection). stored (records_of cs) s) split ∙ (ap (λ (ws : List RecordWrite). stored ws s) (records-append (collections m st s) (collections n st₁ s₁)) ∙ stored-append (records_of (collections m st s)) (records_of (collections n st₁ s₁)) s));
          counts = λ a b e f. let ea : length (collections m st s) ≡ a = cc in let eb : length (collections n st₁ s₁) ≡ b = cc in
              ap A.Swept (ap length split ∙ (length-append (collections m st s) (collections n st₁ s₁) ∙ (λ i. ea i + eb i)));
        })
      where
        st₁ : Station
        st₁ = station_after (collections m st s) st

        s₁ : List ℕ
        s₁ = stored (records_of (collections m st s)) s

        l₁ : length (stored (records_of (collections m st s)) s) ≡ store_size (station_after (collections m st s) st).kind
        l₁ = collections-keep (λ y x. length x ≡ store_size y.kind) (λ x z d k c. collect-length x z d k c) m st s l

        h₁ : sound (station_after (collections m st s) st) ≡ true
        h₁ = collections-keep (λ x _. sound x ≡ true) (λ x z d k c. unfold Keeps in collect-keeps x z d k) m st s h

        split : collections (m + n) st s ≡ collections m st s ++ collections n (station_after (collections m st s) st) (stored (records_of (collections m st s)) s)
        split = collections-split m n st s

    pub sweep-adds : Adds st s (sweep st s m) (sweep (sweep st s m).station (stored (sweep st s m).stores s) n) (sweep st s (m + n))
    sweep-adds = by_length (ℕ_discrete (length s) (store_size st.kind))
      where
        by_length : Dec (length s ≡ store_size st.kind) → Adds st s (sweep st s m) (sweep (sweep st s m).station (stored (sweep st s m).stores s) n) (sweep st s (m + n))
        by_length (no l) = refused-add 1 (sweep-1 l)
        by_length (yes l) = ⊎_elim (λ h. collects-add l h) (λ h. refused-add 2 (sweep-2 l h)) (bool_cases (sound st))
