-- While its number is not started again, a transaction that has closed keeps the clock that it took.
use Prim.Native.Nat.{ℕ}
use mathlib.Core.Path.{◌≡◌, refl, sym, ap, subst, ◌∙◌}
use mathlib.Core.Logic.{◌≢◌}
use mathlib.Core.Bool.{true, false}
use mathlib.Core.List.{List, []}
use mathlib.Core.Option.{Option, some, none, none-ne-some}
use native.Mathlib.Decide.{ℕ_discrete}
use native.Mathlib.Omega.{arith}
use Rattle.model.specs.Types.{Station}
use Rattle.model.specs.Lives.{is_closing}
use Rattle.model.specs.Stations.{live_at, is_live, place_of}
use Rattle.model.specs.Ranges.{Every}
use Rattle.model.specs.Sound.{sound}
use Rattle.model.specs.Calls.{Start, Collect}
use Rattle.model.proofs.StationLaws.{open-clock}
use Rattle.history.specs.Ledger.{Draft, Ledger, draft_of, revised, with_drafts, at, blank_draft, closing_at}
use Rattle.history.specs.Histories.{Event, World, run, call_in, AllInRange}
use Rattle.history.specs.Booking.{IsNoStart}
use Rattle.history.proofs.Invariant.{draft_in, Inv}
use Rattle.history.proofs.DraftLaws.{at_same, at_other, mapped, was-draft, draft-without, draft-new, draft-revised, matches-at}
use Rattle.history.proofs.Feeding.{RowsKeep, run-feeds}
use Rattle.history.proofs.Theorem.{State}

module _ (t c : ℕ) where
  -- of t's draft, if there is one
  pub Clocked : Option Draft → Type 0
  Clocked x = (p : Draft) → x ≡ some p → p.clock ≡ c

  abbrev pub KeepsClock : Ledger → Type 0
  KeepsClock b = Clocked (draft_of t b.drafts)

  pub clocked-is : (b : Ledger) (p : Draft) → KeepsClock b → draft_of t b.drafts ≡ some p → p.clock ≡ c
  unfolding Clocked
  clocked-is b p k e = k p e

  -- as it closes
  pub closing-clocked : (b : Ledger) → KeepsClock (with_drafts (revised t (closing_at c) b.drafts) b)
  unfolding Clocked with_drafts
  closing-clocked b p e =
      let r = was-draft (closing_at c) (draft_of t b.drafts) p (sym (draft-revised t (closing_at c) (λ q. refl) b.drafts t ∙ at_same t _ (draft_in b)) ∙ e) in
      ap (λ (y : Draft). y.clock) r.2

  -- another transaction's draft is set, or its own with its clock kept
  clocked-at : (u : ℕ) (x : Option Draft) (f : ℕ → Option Draft) → Clocked (f t) → (u ≡ t → Clocked x) → Clocked (at u x f t)
  unfolding Clocked
  clocked-at u x f k own = go (ℕ_discrete t u)
    where
      go : Dec (t ≡ u) → Clocked (at u x f t)
      go (yes q) p e = own (sym q) p (sym (ap (at u x f) q ∙ at_same u x f) ∙ e)
      go (no q) p e = k p (sym (at_other u x f t q) ∙ e)

  clocked-by : (x : Option Draft) (g : Draft → Draft) → ((p : Draft) → (g p).clock ≡ p.clock) → Clocked x → Clocked (mapped g x)
  unfolding Clocked
  clocked-by x g e k p q = let r = was-draft g x p q in ap (λ (y : Draft). y.clock) r.2 ∙ (e r.0 ∙ k r.0 r.1)

  unclocked : Clocked none
  unfolding Clocked
  unclocked p e = absurd (none-ne-some p e)

  module _ (real : c ≢ 0) (st : Station) (s : List ℕ) (b : Ledger) (inv : Inv st s b) (h : sound st ≡ true) (k : KeepsClock b) where
    revised-keeps : (u : ℕ) (g : Draft → Draft) → ((p : Draft) → (g p).txn ≡ p.txn) → (u ≡ t → Clocked (mapped g (draft_of u b.drafts))) → Clocked (draft_of t (revised u g b.drafts))
    revised-keeps u g same own = rw (draft-revised u g same b.drafts t) (clocked-at u _ (draft_in b) k own)

    -- the draft of an open transaction has no clock
    open_none : (u : ℕ) → is_live u st ≡ true → is_closing (live_at st (place_of u st)).phase ≡ false → u ≡ t → (x : ℕ) → Clocked (mapped (closing_at x) (draft_of u b.drafts))
    unfolding Clocked
    open_none u z nc e x p q =
        let r = was-draft (closing_at x) (draft_of u b.drafts) p q in
        let m = matches-at st (draft_in b) h inv.drafts u z r.0 r.1 in
        absurd (real (sym (k r.0 (ap (draft_in b) (sym e) ∙ r.1)) ∙ (m.clock ∙ open-clock _ nc)))

    each : RowsKeep KeepsClock (IsNoStart t) st b
    unfolding with_drafts
    each = record {
      started = λ u a nh. rw (draft-new (blank_draft u) b.drafts t) (clocked-at u _ (draft_in b) k (λ e. absurd (a (ap Start e))));
      kept = λ u x v. revised-keeps u _ (λ p. refl) (λ e. clocked-by _ _ (λ p. refl) (subst (λ (n : ℕ). Clocked (draft_of n b.drafts)) (sym e) k));
      read = λ u x i. revised-keeps u _ (λ p. refl) (λ e. clocked-by _ _ (λ p. refl) (subst (λ (n : ℕ). Clocked (draft_of n b.drafts)) (sym e) k));
      closing = λ u x z nc. revised-keeps u _ (λ p. refl) (λ e. open_none u z nc e x);
      slipped = λ js. k;
      torn = λ u. rw (draft-without u b.drafts t) (clocked-at u none (draft_in b) k (λ e. unclocked));
      collected = λ d nz sup. k;
    }

  cleared : (b : Ledger) → KeepsClock b → KeepsClock (with_drafts [] b)
  unfolding with_drafts draft_of
  cleared b k = unclocked

  no-collect : (d : ℕ) → IsNoStart t (Collect d)
  no-collect d e = let z : ◌≡◌ {A = ℕ} 0 1 = cc in absurd (omega arith)

  pub run-keeps-clock : c ≢ 0 → (vs : List Event) (w : World) → Every (λ (v : Event). IsNoStart t (call_in v)) vs → AllInRange vs → State w → KeepsClock w.ledger → KeepsClock (run vs w).ledger
  run-keeps-clock real vs w a f sw k = run-feeds KeepsClock (IsNoStart t) cleared no-collect (λ st s b inv h x. each real st s b inv h x) vs w a f sw k
