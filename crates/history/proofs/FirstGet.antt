-- In a history: a get by a transaction that is open, has read nothing and has not written the key, where J or a newer transaction that wrote the key has been
-- acknowledged.
use Prim.Native.Nat.{ℕ, ◌<◌}
use mathlib.Core.Path.{◌≡◌, refl, sym, ap, subst, ◌∙◌}
use mathlib.Core.Logic.{◌≢◌, ◌⊎◌, inl, inr, ⊎_elim}
use mathlib.Core.Bool.{Bool, true, false, cond}
use mathlib.Core.List.{List, [], ◌∷◌, Memᴰ}
use mathlib.Core.Option.{Option, some, none, none-ne-some}
use lib.ListN.{length, get_or}
use lib.Seq.{length-take-le}
use native.Mathlib.Nat.{lt_irrefl}
use native.Mathlib.Omega.{arith}
use borrow.Author.Tests.{ne_eqb, lt-leb}
use Rattle.model.specs.declared.Id.{Id}
use Rattle.model.specs.declared.Read.{Read}
use Rattle.model.specs.Types.{Entry, Live, Station}
use Rattle.model.specs.declared.Answer.TheVariants as A
use Rattle.model.specs.Limits.{keys, read_limit}
use Rattle.model.specs.Ids.{older}
use Rattle.model.specs.Lives.{reads_of, has_written, is_closing}
use Rattle.model.specs.Entries.{no_entry, keys_of, wrote}
use Rattle.model.specs.Stations.{live_at, entry_at, is_live, place_of}
use Rattle.model.specs.Ranges.{LiveListFits, ListsFit}
use Rattle.model.specs.Records.{value_in}
use Rattle.model.specs.Sound.{sound}
use Rattle.model.specs.Reading.{version}
use Rattle.model.specs.Effects.{Effect, says}
use Rattle.model.specs.Get.{choice_of, version_at, no_room, answered, get}
use Rattle.model.proofs.Tests.{bool_cases, and-none-right, not-of-true}
use Rattle.model.proofs.ListLaws.{every-at}
use Rattle.model.proofs.InsertLaws.{ascending-member}
use Rattle.model.proofs.InsideLaws.{right-ascending}
use Rattle.model.proofs.IdLaws.{older-total, older-trans}
use Rattle.model.proofs.RefusalLaws.{skipped, refusals-none}
use Rattle.model.proofs.FirstRead.{first_read}
use Rattle.model.proofs.StationLaws.{place-hit, is_live_lem, entry_in, entry-get, closing-is}
use Rattle.model.proofs.SoundLaws.{sound-at, read-limit}
use Rattle.model.proofs.SoundFacts.{one-slot, live_facts, closing-facts}
use Rattle.history.specs.Ledger.{Draft, Committed, Ledger, draft_of}
use Rattle.history.specs.Matches.{Matches}
use Rattle.history.specs.CutRule.{committed_in, Wrote, Newer}
use Rattle.history.proofs.Invariant.{Inv, draft_in}
use Rattle.history.proofs.DraftLaws.{matches-at}
use Rattle.history.proofs.CommittedLaws.{committed-wrote, wrote-committed, committed-id}
use Rattle.history.proofs.Storing.{lookup_first}
use Rattle.history.proofs.NeverRefused.{off1, off2, off17}
use Rattle.history.proofs.Acknowledged.{entered-one, Shown}

nil-of : (xs : List Read) → ((r : Read) → Memᴰ r xs → ⊥) → xs ≡ []
nil-of [] f = refl
nil-of (x ∷ xs) f = absurd (f x (Memᴰ.head refl))

not_some : {A : Type 0} (c : Bool) (x : A) → ◌≡◌ {A = Option A} none (cond c (some x) none) → c ≡ false
not_some true x e = absurd (none-ne-some x e)
not_some false x e = refl

module _ (st : Station) (s : List ℕ) (b : Ledger) (inv : Inv st s b) (h : sound st ≡ true) (fits : ListsFit st) where
  -- ── the transaction that asks ──
  module _ (u k : ℕ) (q : Draft) (live : draft_of u b.drafts ≡ some q) (open-still : q.clock ≡ 0) (unread : (r : Read) → Memᴰ r q.reads → ⊥) (unwritten : q.values k ≡ none) where
    abbrev l : Live
    l = live_at st (place_of u st)

    is-numbered : u ≢ 0
    is-numbered = (inv.drafts.live u q live).0

    lives : is_live u st ≡ true
    lives = let r = inv.drafts.live u q live in subst (λ (n : ℕ). is_live n st ≡ true) r.2 (is_live_lem st r.1 (λ y. r.0 (sym r.2 ∙ y)))

    same : Matches q l
    same = matches-at st (draft_in b) h inv.drafts u lives q live

    no_reads : reads_of l ≡ []
    no_reads = nil-of (reads_of l) (λ r x. unread r ((same.reads r).1 x))

    no_write : has_written k l ≡ false
    unfolding has_written
    no_write = not_some _ _ (sym unwritten ∙ (same.values k ∙ lookup_first _ k))

    is_open : is_closing l.phase ≡ false
    is_open = ⊎_elim (λ y. absurd (lt_irrefl 0 (omega (arith, open-still, same.clock, (closing-facts st h (place_of u st) _ _ _ (closing-is l.phase y)).clocked)))) (λ y. y) (bool_cases (is_closing l.phase))

    none_read : l.read_count ≡ 0
    unfolding reads_of
    none_read =
        let f : length l.reads ≡ read_limit = unfold live_at in (every-at LiveListFits st.live fits.live (place_of u st) _ (place-hit st u lives).0).read-places in
        let o = read-limit st.kind l (live_facts st h (place_of u st) (λ y. is-numbered (sym (place-hit st u lives).1 ∙ y))).sets in
        sym (length-take-le l.read_count l.reads (omega (arith, f, o))) ∙ ap length no_reads

    room : (d : ℕ) → no_room l k (version d) ≡ false
    unfolding no_room
    room d = and-none-right _ _ (lt-leb read_limit l.read_count (omega (arith, none_read)))

    -- ── it is answered the newest entry that wrote the key ──
    module _ (d : ℕ) (held : (entry_at st d).id.txn ≢ 0) (w : wrote (entry_at st d) k ≡ true) where
      low : k < keys
      unfolding wrote
      low = (ascending-member 0 keys k (keys_of (entry_at st d)) (right-ascending st.kind (entry_at st d) ((sound-at st h).entry d)) w).1

      chosen-one : (c : ℕ) × (choice_of st l k ≡ version c) × (older (entry_at st c).id (entry_at st d).id ≡ false)
      unfolding choice_of
      chosen-one =
          let r = first_read st.entries k d (entry_in st d held) (subst (λ (e : Entry). wrote e k ≡ true) (sym (entry-get st d (entry_in st d held))) w) in
          (r.0, rw (no_write, no_reads) r.1, subst (λ (e : Entry). older (entry_at st r.0).id e.id ≡ false) (entry-get st d (entry_in st d held)) (subst (λ (e : Entry). older e.id (get_or st.entries d no_entry).id ≡ false) (entry-get st r.0 r.2) r.3))

      abbrev c : ℕ
      c = chosen-one.0

      first-get : (get st s u k).answer ≡ A.Version (value_in (version_at st s k c)) (entry_at st c).id
      unfolding get
      first-get = ap (λ (e : Effect). e.answer)
          (skipped 1 _ _ st _ (off1 st s b h inv)
          ∙ (skipped 2 _ _ st _ (off2 st s b h inv)
          ∙ (skipped 3 _ _ st _ (ne_eqb u 0 is-numbered)
          ∙ (skipped 4 _ _ st _ (lt-leb keys k low)
          ∙ (skipped 8 _ _ st _ (not-of-true _ lives)
          ∙ (skipped 9 _ _ st _ is_open
          ∙ (skipped 12 _ _ st _ (ap (no_room l k) chosen-one.1 ∙ room c)
          ∙ (skipped 17 _ _ st _ (off17 st s b h inv (place_of u st) k _ refl)
          ∙ (refusals-none st _ ∙ ap (answered st s (place_of u st) k) chosen-one.1))))))))) ∙ (unfold answered says in refl)

    -- ── J's version, or a newer one ──
    pub first-get-answers : (J : Committed) → Wrote J k → Shown J k b
        → (v : ℕ) × (j : Id) × ((get st s u k).answer ≡ A.Version v j) × (((j ≡ J.id) × (J.values k ≡ some v)) ⊎ Newer j J.id)
    first-get-answers J wk sh = (value_in (version_at st s k c), (entry_at st c).id, first-get d x.1 wd, compared (bool_cases (older (entry_at st d).id (entry_at st c).id)) sh.newest)
      where
        x : (n : ℕ) × ((entry_at st n).id.txn ≢ 0) × (sh.by ≡ committed_in st.kind s n (entry_at st n))
        x = entered-one st s b inv h sh.by sh.stands sh.ended

        d : ℕ
        d = x.0

        wd : wrote (entry_at st d) k ≡ true
        wd = committed-wrote st.kind s d (entry_at st d) k (subst (λ (j : Committed). Wrote j k) x.2 (⊎_elim (λ y. subst (λ (j : Committed). Wrote j k) (sym y) wk) (λ y. y.0) sh.newest))

        r : (n : ℕ) × (choice_of st l k ≡ version n) × (older (entry_at st n).id (entry_at st d).id ≡ false)
        r = chosen-one d x.1 wd

        c : ℕ
        c = r.0

        by-id : sh.by.id ≡ (entry_at st d).id
        by-id = ap (λ (j : Committed). j.id) x.2 ∙ committed-id st.kind s d (entry_at st d)

        -- the same entry
        here : older (entry_at st d).id (entry_at st c).id ≡ false → (entry_at st d).id ≡ (entry_at st c).id
        here o = older-total (entry_at st d).id (entry_at st c).id o r.2

        compared : (older (entry_at st d).id (entry_at st c).id ≡ true) ⊎ (older (entry_at st d).id (entry_at st c).id ≡ false) → (sh.by ≡ J) ⊎ (Wrote sh.by k × Newer sh.by.id J.id)
            → (((entry_at st c).id ≡ J.id) × (J.values k ≡ some (value_in (version_at st s k c)))) ⊎ Newer (entry_at st c).id J.id
        compared (inl o) (inl y) = inr (subst (λ (i : Id). Newer (entry_at st c).id i) (sym by-id ∙ ap (λ (j : Committed). j.id) y) o)
        compared (inl o) (inr y) = inr (older-trans J.id (entry_at st d).id (entry_at st c).id (subst (λ (i : Id). older J.id i ≡ true) by-id y.1) o)
        compared (inr o) (inr y) = inr (subst (λ (i : Id). older J.id i ≡ true) (by-id ∙ here o) y.1)
        compared (inr o) (inl y) = inl (sym (here o) ∙ (sym by-id ∙ ap (λ (j : Committed). j.id) y), ap (λ (j : Committed). j.values k) (sym y ∙ (x.2 ∙ ap (λ (n : ℕ). committed_in st.kind s n (entry_at st n)) dc)) ∙ value)
          where
            dc : d ≡ c
            dc = one-slot st h d c (ap (λ (i : Id). i.txn) (here o)) x.1

            value : (committed_in st.kind s c (entry_at st c)).values k ≡ some (value_in (version_at st s k c))
            value = unfold version_at in wrote-committed st.kind s c (entry_at st c) k (subst (λ (n : ℕ). wrote (entry_at st n) k ≡ true) dc wd)
