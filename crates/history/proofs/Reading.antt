-- get keeps the invariant.
use Prim.Native.Nat.{ℕ}
use mathlib.Core.Path.{◌≡◌, refl, sym, ap, subst, ◌∙◌}
use mathlib.Core.Logic.{◌↔◌, ◌≢◌, ⊎_elim}
use mathlib.Core.Bool.{true, false}
use mathlib.Core.List.Memᴰ
use mathlib.Core.List.{List, ◌∷◌, Memᴰ}
use lib.ListN.{get_or}
use native.Mathlib.Decide.{ℕ_discrete}
use borrow.Author.Tests.{eqb-false, not-false}
use Rattle.model.specs.declared.Id.{Id}
use Rattle.model.specs.declared.Read.{Read}
use Rattle.model.specs.Types.{Entry, Live, Station}
use Rattle.model.specs.declared.Answer.TheVariants as A
use Rattle.model.specs.Lists.{insert}
use Rattle.model.specs.Lives.{writes_of, reads_of, read_key, is_closing, with_reads}
use Rattle.model.specs.Entries.{no_entry, wrote, wrote_as}
use Rattle.model.specs.Stations.{live_at, entry_at, set_live, is_live, place_of}
use Rattle.model.specs.Sound.{names, sound}
use Rattle.model.specs.Reading.{passes, Choice, own, absent, nofit, version, choose, Atomic}
use Rattle.model.specs.Get.{choice_of, with_read, answered, get}
use Rattle.model.specs.Calls.{Get, txn_of, key_of}
use Rattle.model.proofs.ListLaws.{all-mem}
use Rattle.model.proofs.InsertLaws.{insert-has, insert-mem, insert-keeps}
use Rattle.model.proofs.OrderLaws.{IsNewest}
use Rattle.model.proofs.ReadingLaws.{version-is, IdsDiffer, theorem-1, corollary-1-1}
use Rattle.model.proofs.StationLaws.{place-hit, entry-get, not-closing}
use Rattle.model.proofs.GetLaws.{choice-version}
use Rattle.model.proofs.SoundLaws.{reads_of-with_reads}
use Rattle.model.proofs.SoundFacts.{one-slot, wrote-held, live_facts, unused-reads}
use Rattle.history.specs.Ledger.{Draft, Ledger, revised, with_drafts, reading, feed}
use Rattle.history.specs.Matches.{Matches}
use Rattle.history.proofs.Invariant.{draft_in, Ranges, Inv, Good, good-says, row, unrefused}
use Rattle.history.proofs.DraftLaws.{draft-revised, once-revised, drafts-as, drafts-revised}
use Rattle.history.proofs.LiveLaws.{slots_set, reads-set, ranges-set}

-- ── the entries of a sound station ──
pub ids-differ : (st : Station) → sound st ≡ true → IdsDiffer st.entries
ids-differ st h a b j k oa ob wa wb e =
    one-slot st h a b (sym (ap (λ (x : Entry). x.id.txn) (entry-get st a oa)) ∙ (ap (λ (x : Id). x.txn) e ∙ ap (λ (x : Entry). x.id.txn) (entry-get st b ob)))
    (wrote-held st h a j (subst (λ (x : Entry). wrote x j ≡ true) (entry-get st a oa) wa))

-- a read of a live transaction names an entry that wrote its key
pub read_named : (st : Station) → sound st ≡ true → (i : ℕ) (r : Read) → Memᴰ r (reads_of (live_at st i)) → wrote_as st.entries r.id r.key ≡ true
read_named st h i r m = go (ℕ_discrete (live_at st i).txn 0)
  where
    go : Dec ((live_at st i).txn ≡ 0) → wrote_as st.entries r.id r.key ≡ true
    go (yes z) = absurd (Memᴰ.not-nil (subst (Memᴰ r) (unused-reads st h i z) m))
    go (no n) = unfold names in all-mem (names st.entries) (reads_of (live_at st i)) (live_facts st h i n).named r m

-- ── a version read ──
module _ (st : Station) (s : List ℕ) (b : Ledger) (inv : Inv st s b) (h : sound st ≡ true) (t k d : ℕ) (n : t ≢ 0) (z : is_live t st ≡ true)
    (nc : is_closing (live_at st (place_of t st)).phase ≡ false) (ch : choose st.entries (reads_of (live_at st (place_of t st))) k ≡ version d) where
  abbrev i : ℕ
  i = place_of t st

  abbrev rs : List Read
  rs = reads_of (live_at st (place_of t st))

  abbrev new : Read
  new = record { key = k; id = (entry_at st d).id }

  is : IsNewest (passes st.entries rs k) st.entries d
  is = version-is st.entries rs k d ch

  same_new : ◌≡◌ {A = Read} (record { key = k; id = (get_or st.entries d no_entry).id }) new
  same_new = ap (λ (e : Entry). record { key = k; id = e.id }) (entry-get st d is.low)

  atomic : Atomic st.entries (new ∷ rs)
  atomic = subst (λ (r : Read). Atomic st.entries (r ∷ rs)) same_new (theorem-1 st.entries rs k d ch (ids-differ st h) (inv.reads (place_of t st)))

  -- a read of the key was of the same version
  again : (q : Read) → Memᴰ q rs → q.key ≡ k → q ≡ new
  again q m e =
      let w : wrote_as st.entries q.id k ≡ true = subst (λ (x : ℕ). wrote_as st.entries q.id x ≡ true) e (read_named st h (place_of t st) q m) in
      let p : q.id ≡ (entry_at st d).id = corollary-1-1 st.entries rs k d ch q m e w ∙ ap (λ (x : Entry). x.id) (entry-get st d is.low) in
      λ y. record { key = e y; id = p y }

  -- the read set with the new read: the old reads and it
  joined : (r : Read) → Memᴰ r (insert read_key new rs) ↔ Memᴰ r (new ∷ rs)
  joined r = (
    (λ m. ⊎_elim (λ e. Memᴰ.head e) (λ x. Memᴰ.tail x) (insert-mem read_key new rs r m)),
    (λ m. ⊎_elim (λ e. rw e (insert-has read_key new rs)) old (Memᴰ.cases_cons m)),
  )
    where
      old : Memᴰ r rs → Memᴰ r (insert read_key new rs)
      old m = go (ℕ_discrete r.key k)
        where
          go : Dec (r.key ≡ k) → Memᴰ r (insert read_key new rs)
          go (yes e) = rw (again r m e) (insert-has read_key new rs)
          go (no e) = insert-keeps read_key new rs r m e

  l : Live
  l = with_read k (entry_at st d).id (live_at st (place_of t st))

  l-reads : reads_of l ≡ insert read_key new rs
  unfolding l with_read
  l-reads = reads_of-with_reads (insert read_key new rs) (live_at st (place_of t st))

  l-open : is_closing l.phase ≡ false
  unfolding l with_read with_reads
  l-open = nc

  l-matches : (p : Draft) → Matches p (live_at st (place_of t st)) → Matches (reading k (entry_at st d).id p) l
  l-matches p m = record {
    values = unfold l with_read with_reads writes_of in m.values;
    clock = unfold l with_read with_reads in m.clock;
    reads = λ r. rw l-reads (
      (λ x. (joined r).1 (⊎_elim (λ e. Memᴰ.head e) (λ y. Memᴰ.tail ((m.reads r).0 y)) (Memᴰ.cases_cons x))),
      (λ x. ⊎_elim (λ e. Memᴰ.head e) (λ y. Memᴰ.tail ((m.reads r).1 y)) (Memᴰ.cases_cons ((joined r).0 x))),
    );
  }

  l-ranges : Ranges l
  unfolding l with_read with_reads writes_of
  l-ranges = let rg = inv.ranges (place_of t st) in record { txn = rg.txn; clock = rg.clock; values = rg.values }

  pub version-read : Inv (set_live st (place_of t st) (with_read k (entry_at st d).id (live_at st (place_of t st)))) s
      (with_drafts (revised t (reading k (entry_at st d).id) b.drafts) b)
  unfolding l with_drafts
  version-read = record {
    core = unfold set_live in inv.core;
    slots = unfold set_live in slots_set st.kind st s i l inv.slots (place-hit st t z).0 nc (λ d c m e. absurd (not-closing l.phase d c m l-open e));
    drafts = drafts-as _ _ _ (draft-revised t (reading k (entry_at st d).id) (λ p. refl) b.drafts) (drafts-revised st (draft_in b) inv.drafts h t n z l (unfold with_read with_reads in (place-hit st t z).1) (reading k (entry_at st d).id) l-matches);
    once = once-revised t (reading k (entry_at st d).id) (λ p. refl) b.drafts inv.once;
    reads = reads-set st i l (place-hit st t z).0 inv.reads (rw l-reads (λ r q mr mq. atomic r q ((joined r).0 mr) ((joined q).0 mq)));
    ranges = ranges-set st i l (place-hit st t z).0 inv.ranges l-ranges;
  }

pub get_keeps : (st : Station) (s : List ℕ) (b : Ledger) (t k : ℕ) → Inv st s b → sound st ≡ true → Good s b (Get t k) (get st s t k)
unfolding get
get_keeps st s b t k inv h =
    row s b (Get t k) st _ 1 _ _ inv λ h1.
    row s b (Get t k) st _ 2 _ _ inv λ h2.
    row s b (Get t k) st _ 3 _ _ inv λ h3.
    row s b (Get t k) st _ 4 _ _ inv λ h4.
    row s b (Get t k) st _ 8 _ _ inv λ h8.
    row s b (Get t k) st _ 9 _ _ inv λ h9.
    row s b (Get t k) st _ 12 _ _ inv λ h12.
    row s b (Get t k) st _ 17 _ _ inv λ h17.
    unrefused s b (Get t k) st _ (by-choice (eqb-false t 0 h3) (not-false _ h8) h9 (choice_of st (live_at st (place_of t st)) k) refl)
  where
    by-choice : t ≢ 0 → is_live t st ≡ true → is_closing (live_at st (place_of t st)).phase ≡ false
        → (x : Choice) → choice_of st (live_at st (place_of t st)) k ≡ x → Good s b (Get t k) (answered st s (place_of t st) k x)
    by-choice n z nc (own v) e = unfold answered in good-says s b (Get t k) (A.Own v) st (unfold feed in inv)
    by-choice n z nc absent e = unfold answered in good-says s b (Get t k) A.None st (unfold feed in inv)
    by-choice n z nc (nofit x) e = unfold answered in good-says s b (Get t k) (A.Nofit x) st (unfold feed in inv)
    by-choice n z nc (version d) e = unfold answered in good-says s b (Get t k) _ _
        (unfold feed txn_of key_of in version-read st s b inv h t k d n z nc (choice-version st (live_at st (place_of t st)) k d e))
