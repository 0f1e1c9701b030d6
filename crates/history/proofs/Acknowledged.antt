-- An acknowledged transaction, or on a key that it wrote a newer one, is an entry of every station that runs later.
use Prim.Native.Nat.{ℕ, ◌<◌}
use mathlib.Core.Path.{◌≡◌, refl, sym, ap, subst, ◌∙◌}
use mathlib.Core.Logic.{◌≢◌, ◌⊎◌, inr, ⊎_elim}
use mathlib.Core.Bool.{true, false, true≢false}
use mathlib.Core.List.Memᴰ
use mathlib.Core.List.{List, [], ◌∷◌, ◌++◌, Memᴰ}
use mathlib.Core.Option.{Option, some, none, none-ne-some}
use lib.ListN.{length}
use native.Mathlib.Decide.{ℕ_discrete}
use Rattle.model.specs.declared.Id.{Id}
use Rattle.model.specs.Types.{Entry, Station}
use Rattle.model.specs.Ids.{older}
use Rattle.model.specs.Entries.{wrote}
use Rattle.model.specs.Stations.{live_at, entry_at, is_held}
use Rattle.model.specs.Sound.{sound}
use Rattle.model.specs.Supersedence.{superseded}
use Rattle.model.proofs.IdLaws.{older-irrefl, older-trans}
use Rattle.model.proofs.StationLaws.{is-held}
use Rattle.model.proofs.SoundFacts.{live-not-held, wrote-held, one-slot, closing-facts}
use Rattle.model.proofs.InsideLaws.{entry_for-txn}
use Rattle.history.specs.Ledger.{Draft, Committed, Ledger, draft_of, without, revised, with_drafts, at, blank_draft, strike}
use Rattle.history.specs.Histories.{Event, World, run, AllInRange}
use Rattle.history.specs.CutRule.{committed_in, Wrote, Newer}
use Rattle.history.proofs.Invariant.{Inv}
use Rattle.history.proofs.DraftLaws.{at_same, at_other, mapped, draft-without, draft-new, draft-revised}
use Rattle.history.proofs.CommittedLaws.{stands-in, committed-wrote, wrote-committed, committed-id, strike-keeps}
use Rattle.history.proofs.SlotOwners.{Owner, by-entry, by-live, owner}
use Rattle.history.proofs.Reckoning.{entry-stands}
use Rattle.history.proofs.Collecting.{newer-entry}
use Rattle.history.proofs.Feeding.{any-event, RowsKeep, run-feeds}
use Rattle.history.proofs.Theorem.{State}

-- ── a standing transaction with no draft is an entry, and an entry's has none ──
module _ (st : Station) (s : List ℕ) (b : Ledger) (inv : Inv st s b) (h : sound st ≡ true) where
  pub entered-one : (j : Committed) → Memᴰ j b.standing → draft_of j.id.txn b.drafts ≡ none
      → (d : ℕ) × ((entry_at st d).id.txn ≢ 0) × (j ≡ committed_in st.kind s d (entry_at st d))
  entered-one j m e =
      let r = stands-in st.kind s b.standing inv.core.found j m in
      go r.0 r.2 r.4 (owner st s inv.slots r.0 r.2 r.1 r.3)
    where
      go : (d : ℕ) (x : Entry) → j ≡ committed_in st.kind s d x → Owner st d x → (c : ℕ) × ((entry_at st c).id.txn ≢ 0) × (j ≡ committed_in st.kind s c (entry_at st c))
      go d x q (by-entry n y) = (d, n, q ∙ ap (committed_in st.kind s d) y)
      go d x q (by-live i c n y o w) =
          let same : j.id.txn ≡ (live_at st i).txn = ap (λ (u : Committed). u.id.txn) q ∙ (ap (λ (u : Id). u.txn) (committed-id st.kind s d x) ∙ (ap (λ (u : Entry). u.id.txn) w ∙ entry_for-txn (live_at st i))) in
          let p = inv.drafts.drafted i (closing-facts st h i d c n y).used.numbered in
          absurd (none-ne-some p.0 (sym e ∙ (ap (λ (u : ℕ). draft_of u b.drafts) same ∙ p.1)))

  pub undrafted : (d : ℕ) → (entry_at st d).id.txn ≢ 0 → draft_of (entry_at st d).id.txn b.drafts ≡ none
  undrafted d n = go (draft_of (entry_at st d).id.txn b.drafts) refl
    where
      go : (x : Option Draft) → draft_of (entry_at st d).id.txn b.drafts ≡ x → x ≡ none
      go none e = refl
      go (some p) e = let q = inv.drafts.live (entry_at st d).id.txn p e in absurd (live-not-held st h q.1 d q.2 (λ y. q.0 (sym q.2 ∙ y)))

-- ── drafts that are not there ──
none-without : (t u : ℕ) (ps : List Draft) → draft_of u ps ≡ none → draft_of u (without t ps) ≡ none
none-without t u ps e = draft-without t ps u ∙ go (ℕ_discrete u t)
  where
    go : Dec (u ≡ t) → at t none (λ x. draft_of x ps) u ≡ none
    go (yes q) = ap (at t none (λ x. draft_of x ps)) q ∙ at_same t none (λ x. draft_of x ps)
    go (no q) = at_other t none (λ x. draft_of x ps) u q ∙ e

none-revised : (t u : ℕ) (g : Draft → Draft) → ((p : Draft) → (g p).txn ≡ p.txn) → (ps : List Draft) → draft_of u ps ≡ none → draft_of u (revised t g ps) ≡ none
unfolding mapped
none-revised t u g k ps e = draft-revised t g k ps u ∙ go (ℕ_discrete u t)
  where
    go : Dec (u ≡ t) → at t (mapped g (draft_of t ps)) (λ x. draft_of x ps) u ≡ none
    go (yes q) = ap (at t (mapped g (draft_of t ps)) (λ x. draft_of x ps)) q ∙ (at_same t _ (λ x. draft_of x ps) ∙ ap (mapped g) (ap (λ (x : ℕ). draft_of x ps) (sym q) ∙ e))
    go (no q) = at_other t _ (λ x. draft_of x ps) u q ∙ e

-- ── the transaction J, or a newer one that wrote k, stands and has ended ──
pub record Shown (J : Committed) (k : ℕ) (b : Ledger) : Type 0 where
  pub by : Committed
  pub stands : Memᴰ by b.standing
  pub ended : draft_of by.id.txn b.drafts ≡ none
  pub newest : (by ≡ J) ⊎ (Wrote by k × Newer by.id J.id)

module _ (J : Committed) (k : ℕ) (wrote-k : Wrote J k) where
  with-drafts : (b : Ledger) (ps : List Draft) (sh : Shown J k b) → draft_of sh.by.id.txn ps ≡ none → Shown J k (with_drafts ps b)
  unfolding with_drafts
  with-drafts b ps sh e = record { by = sh.by; stands = sh.stands; ended = e; newest = sh.newest }

  module _ (b : Ledger) (sh : Shown J k b) where
    -- a draft torn out, a draft revised, more transactions
    torn : (t : ℕ) → Shown J k (with_drafts (without t b.drafts) b)
    torn t = with-drafts b _ sh (none-without t _ b.drafts sh.ended)

    changed : (t : ℕ) (g : Draft → Draft) → ((p : Draft) → (g p).txn ≡ p.txn) → Shown J k (with_drafts (revised t g b.drafts) b)
    changed t g q = with-drafts b _ sh (none-revised t _ g q b.drafts sh.ended)

    more : (js : List Committed) → Shown J k (record { drafts = b.drafts; standing = js ++ b.standing; past = js ++ b.past })
    more js = record { by = sh.by; stands = Memᴰ.append_right js sh.stands; ended = sh.ended; newest = sh.newest }

    unlive : Shown J k (with_drafts [] b)
    unfolding draft_of
    unlive = with-drafts b [] sh refl

  -- ── each call ──
  module _ (st : Station) (s : List ℕ) (b : Ledger) (inv : Inv st s b) (h : sound st ≡ true) (sh : Shown J k b) where
    -- it is an entry
    here : (d : ℕ) × ((entry_at st d).id.txn ≢ 0) × (sh.by ≡ committed_in st.kind s d (entry_at st d))
    here = entered-one st s b inv h sh.by sh.stands sh.ended

    by-txn : sh.by.id.txn ≡ (entry_at st here.0).id.txn
    by-txn = ap (λ (j : Committed). j.id.txn) here.2 ∙ ap (λ (i : Id). i.txn) (committed-id st.kind s here.0 (entry_at st here.0))

    -- a transaction that is started is none that is held
    started : (t : ℕ) → is_held t st ≡ false → Shown J k (with_drafts (blank_draft t ∷ without t b.drafts) b)
    started t nh = with-drafts b _ sh (draft-new (blank_draft t) b.drafts sh.by.id.txn ∙ (at_other t _ _ sh.by.id.txn other ∙ sh.ended))
      where
        other : sh.by.id.txn ≢ t
        other e = true≢false (sym (is-held st here.0 here.1) ∙ (ap (λ (u : ℕ). is_held u st) (sym by-txn ∙ e) ∙ nh))

    -- where it is collected, a newer entry takes its place
    struck : (d : ℕ) → (entry_at st d).id.txn ≢ 0 → superseded st.entries (entry_at st d) ≡ true
        → Shown J k (record { drafts = b.drafts; standing = strike (entry_at st d).id.txn b.standing; past = b.past })
    struck d nz sup = go (ℕ_discrete sh.by.id.txn (entry_at st d).id.txn)
      where
        go : Dec (sh.by.id.txn ≡ (entry_at st d).id.txn) → Shown J k (record { drafts = b.drafts; standing = strike (entry_at st d).id.txn b.standing; past = b.past })
        go (no n) = record { by = sh.by; stands = strike-keeps _ b.standing sh.by sh.stands n; ended = sh.ended; newest = sh.newest }
        go (yes e) = record {
          by = committed_in st.kind s c (entry_at st c);
          stands = strike-keeps _ b.standing _ (entry-stands st s b inv h c held) (λ y. other (sym (ap (λ (i : Id). i.txn) (committed-id st.kind s c (entry_at st c))) ∙ y));
          ended = ap (λ (i : Id). draft_of i.txn b.drafts) (committed-id st.kind s c (entry_at st c)) ∙ undrafted st s b inv h c held;
          newest = inr ((_, wrote-committed st.kind s c (entry_at st c) k w.2), rw (committed-id st.kind s c (entry_at st c)) above);
        }
          where
            at-d : sh.by ≡ committed_in st.kind s d (entry_at st d)
            at-d = here.2 ∙ ap (λ (x : ℕ). committed_in st.kind s x (entry_at st x)) (one-slot st h here.0 d (sym by-txn ∙ e) here.1)

            at-id : sh.by.id ≡ (entry_at st d).id
            at-id = ap (λ (j : Committed). j.id) at-d ∙ committed-id st.kind s d (entry_at st d)

            wrote-d : wrote (entry_at st d) k ≡ true
            wrote-d = committed-wrote st.kind s d (entry_at st d) k (subst (λ (j : Committed). Wrote j k) at-d (⊎_elim (λ y. subst (λ (j : Committed). Wrote j k) (sym y) wrote-k) (λ y. y.0) sh.newest))

            w : (c : ℕ) × (c < length st.entries) × (wrote (entry_at st c) k ≡ true) × (older (entry_at st d).id (entry_at st c).id ≡ true)
            w = newer-entry st (entry_at st d) sup k wrote-d

            c : ℕ
            c = w.0

            held : (entry_at st c).id.txn ≢ 0
            held = wrote-held st h c k w.2

            other : (entry_at st c).id.txn ≢ (entry_at st d).id.txn
            other y = true≢false (sym w.3 ∙ (ap (λ (x : ℕ). older (entry_at st d).id (entry_at st x).id) (one-slot st h c d y held) ∙ older-irrefl (entry_at st d).id))

            above : Newer (entry_at st c).id J.id
            above = ⊎_elim (λ y. subst (λ (i : Id). Newer (entry_at st c).id i) (sym at-id ∙ ap (λ (j : Committed). j.id) y) w.3)
                (λ y. older-trans J.id (entry_at st d).id (entry_at st c).id (subst (λ (i : Id). older J.id i ≡ true) at-id y.1) w.3) sh.newest

    each : RowsKeep (Shown J k) (λ c. Unit {0}) st b
    each = record {
      started = λ t a. started t;
      kept = λ t x v. changed b sh t _ (λ p. refl);
      read = λ t x i. changed b sh t _ (λ p. refl);
      closing = λ t c z nc. changed b sh t _ (λ p. refl);
      slipped = more b sh;
      torn = torn b sh;
      collected = struck;
    }

  -- whatever comes later, cuts included
  pub run-shows : (vs : List Event) (w : World) → AllInRange vs → State w → Shown J k w.ledger → Shown J k (run vs w).ledger
  run-shows vs w f sw sh = run-feeds (Shown J k) (λ c. Unit {0}) (λ b x. unlive b x) (λ d. tt) (λ st s b inv h x. each st s b inv h x) vs w (any-event vs) f sw sh
