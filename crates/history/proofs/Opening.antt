-- start, put and abort keep the invariant.
use Prim.Native.Nat.{ℕ, ◌<◌}
use mathlib.Core.Path.{◌≡◌, refl, sym, ap, subst, ◌∙◌}
use mathlib.Core.Logic.{◌≢◌, ⊎_elim}
use mathlib.Core.Bool.{Bool, true, false, cond, true≢false}
use mathlib.Core.List.Memᴰ
use mathlib.Core.List.{List, [], ◌∷◌}
use mathlib.Core.Option.{some}
use lib.Dec.{eqb, ltb, lit<}
use lib.ListN.{length}
use native.Mathlib.Omega.{arith}
use borrow.Author.Tests.{ltb-true, eqb-true, eqb-false, not-false}
use Rattle.model.specs.Types.{Entry, Write, Live, Station}
use Rattle.model.specs.declared.Answer.TheVariants as A
use Rattle.model.specs.Lists.{◌and◌, insert}
use Rattle.model.specs.Limits.{txn_range, number_range}
use Rattle.model.specs.Lives.{writes_of, reads_of, write_key, is_closing, closing_clock, with_writes}
use Rattle.model.specs.Stations.{live_at, set_live, is_live, place_of}
use Rattle.model.specs.Sound.{sound}
use Rattle.model.specs.Reading.{Atomic}
use Rattle.model.specs.Start.{opened, start}
use Rattle.model.specs.Put.{with_write, put}
use Rattle.model.specs.Abort.{abort}
use Rattle.model.specs.Calls.{Start, Put, Abort, txn_of, key_of, number_of}
use Rattle.model.proofs.Tests.{or_left}
use Rattle.model.proofs.InsertLaws.{insert-mem}
use Rattle.model.proofs.StationLaws.{place-hit, is_live_lem, not-closing}
use Rattle.model.proofs.SoundLaws.{writes_of-with_writes}
use Rattle.model.proofs.SoundFacts.{unused-open}
use Rattle.history.specs.Ledger.{Draft, Ledger, without, revised, with_drafts, at, blank_draft, keeping, feed}
use Rattle.history.specs.Matches.{lookup, Matches}
use Rattle.history.proofs.Invariant.{draft_in, Ranges, Inv, Good, good-says, row, unrefused}
use Rattle.history.proofs.DraftLaws.{some_inj, cond-swap, cond-twice, draft-new, draft-revised, once-new, once-revised, drafts-as, drafts-set, drafts-revised}
use Rattle.history.proofs.LiveLaws.{slots_set, reads-set, ranges-set, cleared}

-- ── start ──
opened-open : (t : ℕ) → is_closing (opened t).phase ≡ false
unfolding opened is_closing
opened-open t = refl

opened-ranges : (t : ℕ) → t < txn_range → Ranges (opened t)
unfolding opened writes_of
opened-ranges t o = record {
  txn = o;
  clock = unfold closing_clock in lit< tt;
  values = λ w m. absurd (Memᴰ.not-nil m);
}

opened-reads : (es : List Entry) (t : ℕ) → Atomic es (reads_of (opened t))
unfolding reads_of opened
opened-reads es t r q m = absurd (Memᴰ.not-nil m)

opened-matches : (t : ℕ) → Matches (blank_draft t) (opened t)
unfolding opened reads_of writes_of lookup
opened-matches t = record {
  values = λ k. refl;
  clock = unfold closing_clock in refl;
  reads = λ r. (λ m. m, λ m. m);
}

started : (st : Station) (s : List ℕ) (b : Ledger) (t : ℕ) → Inv st s b → sound st ≡ true → t < txn_range → t ≢ 0 → is_live t st ≡ false → is_live 0 st ≡ true
    → Inv (set_live st (place_of 0 st) (opened t)) s (with_drafts (blank_draft t ∷ without t b.drafts) b)
unfolding with_drafts
started st s b t inv h o n nl z = record {
  core = unfold set_live in inv.core;
  slots = unfold set_live in slots_set st.kind st s (place_of 0 st) (opened t) inv.slots at-0 (unused-open st h (place_of 0 st) is-0) (λ d c m e. absurd (not-closing (opened t).phase d c m (opened-open t) e));
  drafts = drafts-as _ _ _ (draft-new (blank_draft t) b.drafts) (drafts-set st (draft_in b) inv.drafts t (place_of 0 st) (opened t) _ at-0 (λ y. absurd (y is-0))
      (λ j nj e y. true≢false (sym (subst (λ (u : ℕ). is_live u st ≡ true) e (is_live_lem st j y)) ∙ nl))
      (λ p e. (n, unfold opened in refl, subst (λ (y : Draft). Matches y (opened t)) (some_inj e) (opened-matches t)))
      (λ y. (unfold opened in refl, _, refl)));
  once = once-new (blank_draft t) b.drafts inv.once;
  reads = reads-set st (place_of 0 st) (opened t) at-0 inv.reads (opened-reads st.entries t);
  ranges = ranges-set st (place_of 0 st) (opened t) at-0 inv.ranges (opened-ranges t o);
}
  where
    at-0 : place_of 0 st < length st.live
    at-0 = (place-hit st 0 z).0

    is-0 : (live_at st (place_of 0 st)).txn ≡ 0
    is-0 = (place-hit st 0 z).1

pub start-keeps : (st : Station) (s : List ℕ) (b : Ledger) (t : ℕ) → Inv st s b → sound st ≡ true → t < txn_range → Good s b (Start t) (start st t)
unfolding start feed txn_of
start-keeps st s b t inv h o =
    row s b (Start t) st _ 2 _ _ inv λ h2.
    row s b (Start t) st _ 3 _ _ inv λ h3.
    row s b (Start t) st _ 6 _ _ inv λ h6.
    row s b (Start t) st _ 7 _ _ inv λ h7.
    unrefused s b (Start t) st _ (good-says s b (Start t) A.Started _
    (started st s b t inv h o (eqb-false t 0 h3) (or_left _ _ h6) (not-false _ h7)))

-- ── abort ──
pub abort-keeps : (st : Station) (s : List ℕ) (b : Ledger) (t : ℕ) → Inv st s b → sound st ≡ true → Good s b (Abort t) (abort st t)
unfolding abort feed txn_of
abort-keeps st s b t inv h =
    row s b (Abort t) st _ 2 _ _ inv λ h2.
    row s b (Abort t) st _ 3 _ _ inv λ h3.
    row s b (Abort t) st _ 8 _ _ inv λ h8.
    row s b (Abort t) st _ 9 _ _ inv λ h9.
    unrefused s b (Abort t) st _ (good-says s b (Abort t) A.Dropped _ (cleared st s b inv h t (not-false _ h8) h9))

-- ── put ──
-- the values by key after an insertion
lookup-insert : (k v : ℕ) (ws : List Write) (u : ℕ) → lookup u (insert write_key (record { key = k; value = v }) ws) ≡ at k (some v) (λ x. lookup x ws) u
unfolding insert at lookup
lookup-insert k v [] u = refl
lookup-insert k v (w ∷ ws) u = go (ltb w.key k) (eqb k w.key) refl refl (lookup-insert k v ws u)
  where
    go : (x y : Bool) → ltb w.key k ≡ x → eqb k w.key ≡ y → lookup u (insert write_key (record { key = k; value = v }) ws) ≡ at k (some v) (λ z. lookup z ws) u
        → lookup u (insert write_key (record { key = k; value = v }) (w ∷ ws)) ≡ at k (some v) (λ z. lookup z (w ∷ ws)) u
    go true y ex ey ih = rw (ex, insert) (rw ih (cond-swap (eqb u w.key) (eqb u k) (some w.value) (some v) (lookup u ws)
        (λ a b. omega (arith, eqb-true u w.key a, eqb-true u k b, ltb-true w.key k ex))))
    go false true ex ey ih = rw (ex, ey, insert) (sym (cond-twice (eqb u k) (eqb u w.key) (some v) (some w.value) (lookup u ws) (ap (eqb u) (eqb-true k w.key ey))))
    go false false ex ey ih = rw (ex, ey, insert)

-- the write of a put
abbrev written : ℕ → ℕ → Write
written k v = record { key = k; value = v }

put-matches : (k v : ℕ) (p : Draft) (l : Live) → is_closing l.phase ≡ false → Matches p l
    → Matches (keeping k v p) (with_write k v l)
unfolding with_write with_writes reads_of at
put-matches k v p l nc m = record {
  values = λ u. rw (writes_of-with_writes (insert write_key (written k v) (writes_of l)) l) (rw lookup-insert (ap (cond (eqb u k) (some v)) (m.values u)));
  clock = m.clock;
  reads = m.reads;
}

put-ranges : (k v : ℕ) (l : Live) → v < number_range → Ranges l → Ranges (with_write k v l)
unfolding with_write
put-ranges k v l o rg = record {
  txn = unfold with_writes in rg.txn;
  clock = unfold with_writes in rg.clock;
  values = λ w m. ⊎_elim (λ e. rw e o) (λ x. rg.values w x) (insert-mem write_key (written k v) (writes_of l) w (rw writes_of-with_writes at m));
}

kept : (st : Station) (s : List ℕ) (b : Ledger) (t k v : ℕ) → Inv st s b → sound st ≡ true → v < number_range → t ≢ 0 → is_live t st ≡ true
    → is_closing (live_at st (place_of t st)).phase ≡ false
    → Inv (set_live st (place_of t st) (with_write k v (live_at st (place_of t st)))) s
    (with_drafts (revised t (keeping k v) b.drafts) b)
unfolding with_drafts
kept st s b t k v inv h o n z nc = record {
  core = unfold set_live in inv.core;
  slots = unfold set_live in slots_set st.kind st s i l inv.slots (place-hit st t z).0 nc (λ d c m e. absurd (not-closing l.phase d c m open-still e));
  drafts = drafts-as _ _ _ (draft-revised t (keeping k v) (λ p. refl) b.drafts) (drafts-revised st (draft_in b) inv.drafts h t n z l same-txn (keeping k v) (λ p m. put-matches k v p (live_at st i) nc m));
  once = once-revised t (keeping k v) (λ p. refl) b.drafts inv.once;
  reads = reads-set st i l (place-hit st t z).0 inv.reads same_reads;
  ranges = ranges-set st i l (place-hit st t z).0 inv.ranges (put-ranges k v (live_at st i) o (inv.ranges i));
}
  where
    i : ℕ
    i = place_of t st

    l : Live
    l = with_write k v (live_at st i)

    open-still : is_closing l.phase ≡ false
    open-still = unfold with_write with_writes in nc

    same-txn : l.txn ≡ t
    same-txn = unfold with_write with_writes in (place-hit st t z).1

    same_reads : Atomic st.entries (reads_of l)
    same_reads = unfold with_write with_writes reads_of in inv.reads i

pub put_keeps : (st : Station) (s : List ℕ) (b : Ledger) (t k v : ℕ) → Inv st s b → sound st ≡ true → v < number_range → Good s b (Put t k v) (put st t k v)
unfolding put feed txn_of key_of number_of
put_keeps st s b t k v inv h o =
    row s b (Put t k v) st _ 2 _ _ inv λ h2.
    row s b (Put t k v) st _ 3 _ _ inv λ h3.
    row s b (Put t k v) st _ 4 _ _ inv λ h4.
    row s b (Put t k v) st _ 8 _ _ inv λ h8.
    row s b (Put t k v) st _ 9 _ _ inv λ h9.
    row s b (Put t k v) st _ 11 _ _ inv λ h11.
    unrefused s b (Put t k v) st _ (good-says s b (Put t k v) A.Kept _ (kept st s b t k v inv h o (eqb-false t 0 h3) (not-false _ h8) h9))
