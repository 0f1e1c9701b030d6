-- What a ledger and the lines of its history so far say of one another.
use Prim.Native.Nat.{ℕ}
use mathlib.Core.Path.{◌≡◌, refl, sym, ap, subst, ◌∙◌}
use mathlib.Core.Logic.{◌↔◌, ◌≢◌, ◌⊎◌, ⊎_elim}
use mathlib.Core.Bool.{true, false}
use mathlib.Core.List.Memᴰ
use mathlib.Core.List.{List, [], ◌∷◌, Memᴰ}
use mathlib.Core.Option.{some, none, none-ne-some}
use native.Mathlib.Decide.{ℕ_discrete}
use Rattle.model.specs.declared.Read.{Read}
use Rattle.model.specs.Lists.{distinct}
use Rattle.model.specs.Ranges.{Every}
use Rattle.history.specs.Ledger.{Draft, Committed, Ledger, empty_ledger, draft_of, committed_of}
use Rattle.history.specs.CutRule.{Wrote}
use Rattle.shoplog.specs.Lines.{Line, write, commit, read}
use Rattle.shoplog.specs.Verdicts.{is_bad}
use Rattle.shoplog.specs.Written.{LineFits}
use Rattle.ourlog.specs.OurLog.{commit_line}
use Rattle.ourlog.proofs.Lines.{ticket_of, NoneBad, SameOf, same-others}

-- it has no commit line
abbrev pub Uncommitted : List Line → ℕ → Type 0
Uncommitted ls t = (c : ℕ) → Memᴰ (commit t c) ls → ⊥

-- the draft of transaction t has the writes and reads of t's lines
pub record Noted (standing : List Committed) (ls : List Line) (t : ℕ) (p : Draft) : Type 0 where
  pub wrote : (k : ℕ) → Wrote (committed_of p) k ↔ Memᴰ (write t k) ls
  pub reads : (r : Read) → Memᴰ r p.reads ↔ Memᴰ (read t r.key r.id) ls
  -- one that is open has no commit line; where there is one, t stands: none is collected while it has a draft
  pub open-still : p.clock ≡ 0 → Uncommitted ls t
  pub stands : (c : ℕ) → Memᴰ (commit t c) ls → (j : Committed) × Memᴰ j standing × (j.id.txn ≡ t)

-- a past transaction has its commit line, and the writes of its lines
pub record Logged (ls : List Line) (j : Committed) : Type 0 where
  pub committed : Memᴰ (commit_line j) ls
  pub wrote : (k : ℕ) → Wrote j k ↔ Memᴰ (write j.id.txn k) ls

-- no line is t's
abbrev pub Silent : List Line → ℕ → Type 0
Silent ls t = (x : Line) → Memᴰ x ls → ticket_of x ≢ t

-- ns are the numbers that are started later: none has a line or a draft yet
pub record Agrees (b : Ledger) (ls : List Line) (ns : List ℕ) : Type 0 where
  pub drafts : (t : ℕ) (p : Draft) → draft_of t b.drafts ≡ some p → Noted b.standing ls t p
  pub past : (j : Committed) → Memᴰ j b.past → Logged ls j
  pub unstarted : (t : ℕ) → t ≢ 0 → Memᴰ t ns → Silent ls t × (draft_of t b.drafts ≡ none)
  pub once : distinct ns ≡ true
  pub good : NoneBad ls
  pub fits : Every LineFits ls

-- at first
pub agrees-empty : (ns : List ℕ) → distinct ns ≡ true → Agrees empty_ledger [] ns
unfolding empty_ledger draft_of NoneBad
agrees-empty ns d = record {
  drafts = λ t p e. absurd (none-ne-some p e);
  past = λ j m. absurd (Memᴰ.not-nil m);
  unstarted = λ t nz m. (λ x y. absurd (Memᴰ.not-nil y), refl);
  once = d;
  good = tt;
  fits = tt;
}

-- ── lines that are the same of a ticket ──
pub noted-same : (standing standing' : List Committed) (ls ms : List Line) (t : ℕ) (p : Draft) → SameOf t ls ms
    → ((j : Committed) → Memᴰ j standing → j.id.txn ≡ t → Memᴰ j standing') → Noted standing ls t p → Noted standing' ms t p
unfolding ticket_of
noted-same standing standing' ls ms t p same more n = record {
  wrote = λ k. (λ w. (same (write t k) refl).0 ((n.wrote k).0 w), λ m. (n.wrote k).1 ((same (write t k) refl).1 m));
  reads = λ r. (λ w. (same (read t r.key r.id) refl).0 ((n.reads r).0 w), λ m. (n.reads r).1 ((same (read t r.key r.id) refl).1 m));
  open-still = λ z c m. n.open-still z c ((same (commit t c) refl).1 m);
  stands = λ c m. let r = n.stands c ((same (commit t c) refl).1 m) in (r.0, more r.0 r.1 r.2, r.2);
}

logged-same : (ls ms : List Line) (j : Committed) → SameOf j.id.txn ls ms → Logged ls j → Logged ms j
unfolding ticket_of
logged-same ls ms j same g = record {
  committed = (same (commit_line j) refl).0 g.committed;
  wrote = λ k. (λ w. (same (write j.id.txn k) refl).0 ((g.wrote k).0 w), λ m. (g.wrote k).1 ((same (write j.id.txn k) refl).1 m));
}

-- ── one line more: of a transaction that has a draft and no commit line yet ──
module _ (b b' : Ledger) (ls : List Line) (ns : List ℕ) (l : Line) (t : ℕ) (own : ticket_of l ≡ t) (p : Draft) (live : draft_of t b.drafts ≡ some p) (un : Uncommitted ls t)
    (others : (u : ℕ) → u ≢ t → draft_of u b'.drafts ≡ draft_of u b.drafts) (stays : (j : Committed) → Memᴰ j b.standing → Memᴰ j b'.standing)
    (ag : Agrees b ls ns) where
  other-line : (u : ℕ) → u ≢ t → SameOf u ls (l ∷ ls)
  other-line u n = same-others u l ls (λ e. n (sym e ∙ own))

  pub line-more : ((q : Draft) → draft_of t b'.drafts ≡ some q → Noted b'.standing (l ∷ ls) t q)
      → ((j : Committed) → Memᴰ j b'.past → Memᴰ j b.past ⊎ Logged (l ∷ ls) j)
      → is_bad ls l ≡ false → LineFits l → Agrees b' (l ∷ ls) ns
  unfolding NoneBad
  line-more mine new bad fit = record {
    drafts = λ u q e. go u q e (ℕ_discrete u t);
    past = λ j m. ⊎_elim (λ x. kept j (ag.past j x)) (λ x. x) (new j m);
    unstarted = λ u nz m. let r = ag.unstarted u nz m in
        let n : u ≢ t = (λ e. none-ne-some p (sym r.1 ∙ (ap (λ (x : ℕ). draft_of x b.drafts) e ∙ live))) in
        (λ x y e. r.0 x ((other-line u n x e).1 y) e, others u n ∙ r.1);
    once = ag.once;
    good = (bad, ag.good);
    fits = (fit, ag.fits);
  }
    where
      go : (u : ℕ) (q : Draft) → draft_of u b'.drafts ≡ some q → Dec (u ≡ t) → Noted b'.standing (l ∷ ls) u q
      go u q e (yes z) = subst (λ (x : ℕ). Noted b'.standing (l ∷ ls) x q) (sym z) (mine q (ap (λ (x : ℕ). draft_of x b'.drafts) (sym z) ∙ e))
      go u q e (no z) = noted-same b.standing b'.standing ls (l ∷ ls) u q (other-line u z) (λ j m y. stays j m) (ag.drafts u q (sym (others u z) ∙ e))

      -- t is no past transaction
      kept : (j : Committed) → Logged ls j → Logged (l ∷ ls) j
      kept j g = logged-same ls (l ∷ ls) j (other-line j.id.txn (λ e. un j.id.clock (subst (λ (x : ℕ). Memᴰ (commit x j.id.clock) ls) e g.committed))) g
