-- Each row of the ledger keeps it agreed with the lines.
use Prim.Native.Nat.{ℕ, suc, suc-le-suc}
use mathlib.Core.Path.{◌≡◌, refl, sym, ap, subst, ◌∙◌}
use mathlib.Core.Logic.{◌↔◌, ◌≢◌, ◌⊎◌, inl, inr, ⊎_elim}
use mathlib.Core.Bool.{false}
use mathlib.Core.List.Memᴰ
use mathlib.Core.List.{List, [], ◌∷◌, Memᴰ}
use mathlib.Core.Option.{some, none, none-ne-some}
use native.Mathlib.Nat.{zero-lt-suc}
use native.Mathlib.Decide.{ℕ_discrete}
use native.Mathlib.Omega.{arith}
use Rattle.model.specs.declared.Id.{Id}
use Rattle.model.specs.declared.Read.{Read}
use Rattle.model.proofs.ListLaws.{mem-get_or}
use Rattle.model.proofs.DistinctLaws.{distinct_tail, distinct-at}
use Rattle.history.specs.Ledger.{Draft, Ledger, draft_of, without, revised, with_drafts, at, blank_draft, keeping, reading, closing_at, committed_of, strike}
use Rattle.history.specs.CutRule.{Wrote}
use Rattle.history.proofs.DraftLaws.{some_inj, at_same, at_other, mapped, draft-txn, draft-without, draft-new, draft-revised}
use Rattle.history.proofs.CommittedLaws.{strike-keeps}
use Rattle.shoplog.specs.Lines.{Line, write, commit, read}
use Rattle.shoplog.specs.Verdicts.{is_bad}
use Rattle.shoplog.specs.Written.{LineFits}
use Rattle.ourlog.proofs.Lines.{ticket_of, same-all, stands-above}
use Rattle.ourlog.proofs.Agrees.{Uncommitted, Noted, Logged, Agrees, noted-same, line-more}

-- lines of different kinds differ
write≢commit : {t k u c : ℕ} → write t k ≢ commit u c
write≢commit e = absurd (let z : ◌≡◌ {A = ℕ} 0 1 = cc in omega arith)

write≢read : {t k u x : ℕ} {i : Id} → write t k ≢ read u x i
write≢read e = absurd (let z : ◌≡◌ {A = ℕ} 0 1 = cc in omega arith)

commit≢read : {t c u x : ℕ} {i : Id} → commit t c ≢ read u x i
commit≢read e = absurd (let z : ◌≡◌ {A = ℕ} 0 1 = cc in omega arith)

-- ── no line: other drafts, some transactions struck ──
module _ (b : Ledger) (ls : List Line) (ns : List ℕ) (ag : Agrees b ls ns) where
  -- drafts that were there
  fewer : (ps : List Draft) → ((u : ℕ) → (draft_of u ps ≡ none) ⊎ (draft_of u ps ≡ draft_of u b.drafts)) → Agrees (with_drafts ps b) ls ns
  unfolding with_drafts
  fewer ps f = record {
    drafts = λ u p e. ⊎_elim (λ z. absurd (none-ne-some p (sym z ∙ e))) (λ z. ag.drafts u p (sym z ∙ e)) (f u);
    past = ag.past;
    unstarted = λ u nz m. let r = ag.unstarted u nz m in (r.0, ⊎_elim (λ z. z) (λ z. z ∙ r.1) (f u));
    once = ag.once;
    good = ag.good;
    fits = ag.fits;
  }

  pub agrees-torn : (t : ℕ) → Agrees (with_drafts (without t b.drafts) b) ls ns
  agrees-torn t = fewer (without t b.drafts) (λ u. go u (ℕ_discrete u t))
    where
      go : (u : ℕ) → Dec (u ≡ t) → (draft_of u (without t b.drafts) ≡ none) ⊎ (draft_of u (without t b.drafts) ≡ draft_of u b.drafts)
      go u (yes e) = inl (draft-without t b.drafts u ∙ (ap (at t none (λ x. draft_of x b.drafts)) e ∙ at_same t none (λ x. draft_of x b.drafts)))
      go u (no e) = inr (draft-without t b.drafts u ∙ at_other t none (λ x. draft_of x b.drafts) u e)

  pub agrees-cleared : Agrees (with_drafts [] b) ls ns
  unfolding draft_of
  agrees-cleared = fewer [] (λ u. inl refl)

  -- one with no draft
  pub agrees-struck : (t : ℕ) → draft_of t b.drafts ≡ none → Agrees (record { drafts = b.drafts; standing = strike t b.standing; past = b.past }) ls ns
  agrees-struck t un = record {
    drafts = λ u p e. noted-same b.standing (strike t b.standing) ls ls u p (same-all u ls)
        (λ j m q. strike-keeps t b.standing j m (λ z. none-ne-some p (sym un ∙ (ap (λ (x : ℕ). draft_of x b.drafts) (sym z ∙ q) ∙ e)))) (ag.drafts u p e);
    past = ag.past;
    unstarted = ag.unstarted;
    once = ag.once;
    good = ag.good;
    fits = ag.fits;
  }

  -- ── a draft revised ──
  module _ (t : ℕ) (g : Draft → Draft) (k : (p : Draft) → (g p).txn ≡ p.txn) (p : Draft) (live : draft_of t b.drafts ≡ some p) where
    revised-own : (q : Draft) → draft_of t (revised t g b.drafts) ≡ some q → g p ≡ q
    unfolding mapped
    revised-own q e = some_inj (sym (draft-revised t g k b.drafts t ∙ (at_same t _ (λ x. draft_of x b.drafts) ∙ ap (mapped g) live)) ∙ e)

    revised-other : (u : ℕ) → u ≢ t → draft_of u (revised t g b.drafts) ≡ draft_of u b.drafts
    revised-other u n = draft-revised t g k b.drafts u ∙ at_other t _ (λ x. draft_of x b.drafts) u n

    -- with a line of its transaction
    revised-line : (l : Line) → ticket_of l ≡ t → Uncommitted ls t → Noted b.standing (l ∷ ls) t (g p) → is_bad ls l ≡ false → LineFits l
        → Agrees (with_drafts (revised t g b.drafts) b) (l ∷ ls) ns
    unfolding with_drafts
    revised-line l own un n bad fit = line-more b (with_drafts (revised t g b.drafts) b) ls ns l t own p live un revised-other (λ j m. m) ag
        (λ q e. subst (Noted b.standing (l ∷ ls) t) (revised-own q e) n) (λ j m. inl m) bad fit

  module _ (t : ℕ) (p : Draft) (live : draft_of t b.drafts ≡ some p) (un : Uncommitted ls t) where
    note : Noted b.standing ls t p
    note = ag.drafts t p live

    -- "kept": a write
    pub agrees-kept : (k v : ℕ) → is_bad ls (write t k) ≡ false → LineFits (write t k) → Agrees (with_drafts (revised t (keeping k v) b.drafts) b) (write t k ∷ ls) ns
    unfolding ticket_of
    agrees-kept k v bad fit = revised-line t (keeping k v) (λ q. refl) p live (write t k) refl un (record {
      wrote = λ x. (λ w. there x w (ℕ_discrete x k), λ m. value x m (ℕ_discrete x k));
      reads = λ r. (λ m. Memᴰ.tail ((note.reads r).0 m), λ m. (note.reads r).1 (stands-above (write t k) ls _ (λ e. write≢read (sym e)) m));
      open-still = λ z c m. un c (stands-above (write t k) ls _ (λ e. write≢commit (sym e)) m);
      stands = λ c m. absurd (un c (stands-above (write t k) ls _ (λ e. write≢commit (sym e)) m));
    }) bad fit
      where
        there : (x : ℕ) → Wrote (committed_of (keeping k v p)) x → Dec (x ≡ k) → Memᴰ (write t x) (write t k ∷ ls)
        there x w (yes e) = Memᴰ.head (ap (write t) e)
        there x w (no e) = Memᴰ.tail ((note.wrote x).0 (w.0, sym (at_other k (some v) p.values x e) ∙ w.1))

        value : (x : ℕ) → Memᴰ (write t x) (write t k ∷ ls) → Dec (x ≡ k) → Wrote (committed_of (keeping k v p)) x
        value x m (yes e) = (v, ap (at k (some v) p.values) e ∙ at_same k (some v) p.values)
        value x m (no e) = let w = (note.wrote x).1 (stands-above (write t k) ls _ (λ q. e (cc)) m) in (w.0, at_other k (some v) p.values x e ∙ w.1)

    -- "version": a read
    pub agrees-read : (k : ℕ) (i : Id) → is_bad ls (read t k i) ≡ false → LineFits (read t k i) → Agrees (with_drafts (revised t (reading k i) b.drafts) b) (read t k i ∷ ls) ns
    unfolding ticket_of
    agrees-read k i bad fit = revised-line t (reading k i) (λ q. refl) p live (read t k i) refl un (record {
      wrote = λ x. (λ w. Memᴰ.tail ((note.wrote x).0 w), λ m. (note.wrote x).1 (stands-above (read t k i) ls _ write≢read m));
      reads = λ r. (
        (λ m. ⊎_elim (λ e. Memᴰ.head (ap (λ (x : Read). read t x.key x.id) e)) (λ x. Memᴰ.tail ((note.reads r).0 x)) (Memᴰ.cases_cons m)),
        (λ m. ⊎_elim (λ e. Memᴰ.head (same_read r e)) (λ x. Memᴰ.tail ((note.reads r).1 x)) (Memᴰ.cases_cons m)),
      );
      open-still = λ z c m. un c (stands-above (read t k i) ls _ commit≢read m);
      stands = λ c m. absurd (un c (stands-above (read t k i) ls _ commit≢read m));
    }) bad fit
      where
        same_read : (r : Read) → read t r.key r.id ≡ read t k i → r ≡ record { key = k; id = i }
        same_read r e = let a : r.key ≡ k = cc in let c : r.id ≡ i = cc in λ z. record { key = a z; id = c z }

    -- "closing": no line
    pub agrees-closing : (c : ℕ) → Agrees (with_drafts (revised t (closing_at c) b.drafts) b) ls ns
    unfolding with_drafts
    agrees-closing c = record {
      drafts = λ u q e. go u q e (ℕ_discrete u t);
      past = ag.past;
      unstarted = λ u nz m. let r = ag.unstarted u nz m in
          (r.0, revised-other t (closing_at c) (λ q. refl) p live u (λ e. none-ne-some p (sym r.1 ∙ (ap (λ (x : ℕ). draft_of x b.drafts) e ∙ live))) ∙ r.1);
      once = ag.once;
      good = ag.good;
      fits = ag.fits;
    }
      where
        closed : Noted b.standing ls t (closing_at c p)
        closed = record { wrote = note.wrote; reads = note.reads; open-still = λ z. un; stands = note.stands }

        go : (u : ℕ) (q : Draft) → draft_of u (revised t (closing_at c) b.drafts) ≡ some q → Dec (u ≡ t) → Noted b.standing ls u q
        go u q e (yes z) = subst (λ (x : ℕ). Noted b.standing ls x q) (sym z)
            (subst (Noted b.standing ls t) (revised-own t (closing_at c) (λ y. refl) p live q (ap (λ (x : ℕ). draft_of x (revised t (closing_at c) b.drafts)) (sym z) ∙ e)) closed)
        go u q e (no z) = ag.drafts u q (sym (revised-other t (closing_at c) (λ y. refl) p live u z) ∙ e)

    -- "slipped": the commit
    pub agrees-slipped : p.clock ≢ 0 → is_bad ls (commit t p.clock) ≡ false → LineFits (commit t p.clock)
        → Agrees (record { drafts = b.drafts; standing = committed_of p ∷ b.standing; past = committed_of p ∷ b.past }) (commit t p.clock ∷ ls) ns
    unfolding ticket_of
    agrees-slipped nz bad fit = line-more b (record { drafts = b.drafts; standing = committed_of p ∷ b.standing; past = committed_of p ∷ b.past }) ls ns (commit t p.clock) t refl p live un
        (λ u n. refl) (λ j m. Memᴰ.tail m) ag
        (λ q e. subst (Noted (committed_of p ∷ b.standing) (commit t p.clock ∷ ls) t) (some_inj (sym live ∙ e)) now)
        (λ j m. ⊎_elim (λ e. inr (subst (Logged (commit t p.clock ∷ ls)) (sym e) new)) (λ x. inl x) (Memᴰ.cases_cons m)) bad fit
      where
        own : p.txn ≡ t
        own = draft-txn t b.drafts p live

        wrote-still : (k : ℕ) → Wrote (committed_of p) k ↔ Memᴰ (write t k) (commit t p.clock ∷ ls)
        wrote-still k = (λ w. Memᴰ.tail ((note.wrote k).0 w), λ m. (note.wrote k).1 (stands-above (commit t p.clock) ls _ write≢commit m))

        now : Noted (committed_of p ∷ b.standing) (commit t p.clock ∷ ls) t p
        now = record {
          wrote = wrote-still;
          reads = λ r. (λ m. Memᴰ.tail ((note.reads r).0 m), λ m. (note.reads r).1 (stands-above (commit t p.clock) ls _ (λ e. commit≢read (sym e)) m));
          open-still = λ z. absurd (nz z);
          stands = λ c m. (committed_of p, Memᴰ.head refl, own);
        }

        new : Logged (commit t p.clock ∷ ls) (committed_of p)
        new = record {
          committed = Memᴰ.head (ap (λ (x : ℕ). commit x p.clock) own);
          wrote = λ k. subst (λ (x : ℕ). Wrote (committed_of p) k ↔ Memᴰ (write x k) (commit t p.clock ∷ ls)) (sym own) (wrote-still k);
        }

-- "started": a blank draft, of a number that has no line
pub agrees-started : (b : Ledger) (ls : List Line) (ns : List ℕ) (t : ℕ) → t ≢ 0 → Agrees b ls (t ∷ ns) → Agrees (with_drafts (blank_draft t ∷ without t b.drafts) b) ls ns
unfolding with_drafts ticket_of
agrees-started b ls ns t nz ag = record {
  drafts = λ u p e. go u p e (ℕ_discrete u t);
  past = ag.past;
  unstarted = λ u nu m. let r = ag.unstarted u nu (Memᴰ.tail m) in
      (r.0, draft-new (blank_draft t) b.drafts u ∙ (at_other t _ (λ x. draft_of x b.drafts) u (λ e. not-again (subst (λ (x : ℕ). Memᴰ x ns) e m)) ∙ r.1));
  once = distinct_tail t ns ag.once;
  good = ag.good;
  fits = ag.fits;
}
  where
    silent : (x : Line) → Memᴰ x ls → ticket_of x ≢ t
    silent = (ag.unstarted t nz (Memᴰ.head refl)).0

    not-again : Memᴰ t ns → ⊥
    not-again m =
        let r = mem-get_or ns t 0 m in
        let z : 0 ≡ suc r.0 = distinct-at (t ∷ ns) ag.once 0 (suc r.0) (zero-lt-suc _) (suc-le-suc r.1) (sym r.2) nz in
        absurd (omega arith)

    blank : Noted b.standing ls t (blank_draft t)
    blank = record {
      wrote = λ k. (λ w. absurd (none-ne-some w.0 w.1), λ m. absurd (silent _ m refl));
      reads = λ r. (λ m. absurd (Memᴰ.not-nil m), λ m. absurd (silent _ m refl));
      open-still = λ z c m. silent _ m refl;
      stands = λ c m. absurd (silent _ m refl);
    }

    go : (u : ℕ) (p : Draft) → draft_of u (blank_draft t ∷ without t b.drafts) ≡ some p → Dec (u ≡ t) → Noted b.standing ls u p
    go u p e (yes z) = subst (λ (x : ℕ). Noted b.standing ls x p) (sym z)
        (subst (Noted b.standing ls t) (some_inj (sym (draft-new (blank_draft t) b.drafts u ∙ (ap (at t (some (blank_draft t)) (λ x. draft_of x b.drafts)) z ∙ at_same t _ (λ x. draft_of x b.drafts))) ∙ e)) blank)
    go u p e (no z) = ag.drafts u p (sym (draft-new (blank_draft t) b.drafts u ∙ at_other t _ (λ x. draft_of x b.drafts) u z) ∙ e)
