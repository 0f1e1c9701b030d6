-- 02 §3, of histories: the station and the ledger reckon the same clock, what closes is newest, and the booking just made is the one read.
use Prim.Native.Nat.{ℕ, ◌<◌, ◌≤◌}
use mathlib.Core.Path.{◌≡◌, refl, sym, ap, subst, ◌∙◌}
use mathlib.Core.Logic.{◌≢◌, ◌⊎◌, inl, inr, ⊎_elim}
use mathlib.Core.Bool.{true, false}
use mathlib.Core.List.{List, ◌∷◌, Memᴰ}
use mathlib.Core.Option.{some, none}
use native.Mathlib.Nat.{lt_irrefl}
use native.Mathlib.Omega.{arith}
use Rattle.model.specs.declared.Id.{Id}
use Rattle.model.specs.Types.{Station}
use Rattle.model.specs.Kinds.{Kind, KindFits}
use Rattle.model.specs.declared.Answer.{Answer}
use Rattle.model.specs.declared.Answer.TheVariants as A
use Rattle.model.specs.Limits.{number_range}
use Rattle.model.specs.Ids.{older}
use Rattle.model.specs.Ranges.{ListsFit}
use Rattle.model.specs.Clocks.{clocks, clock_above}
use Rattle.model.specs.Sound.{sound}
use Rattle.model.specs.Get.{get}
use Rattle.model.specs.Step.{step}
use Rattle.model.specs.Calls.{Call, Get, Commit, Step, does, is_sweep, txn_of, number_of}
use Rattle.model.proofs.ClockLaws.{clock-least, clock-real, clock-above, clock-below}
use Rattle.model.proofs.IdLaws.{older-is}
use Rattle.model.proofs.ListLaws.{every_first, every-last}
use Rattle.model.proofs.StationLaws.{place-hit}
use Rattle.model.proofs.CommitLaws.{commit-closes}
use Rattle.history.specs.Ledger.{Draft, Committed, Ledger, draft_of, without, revised, with_drafts, at, closing_at, clocks_in, feed}
use Rattle.history.specs.Histories.{Event, called, running, World, begin, handed, reports, fed, after_call, next, run, call_in, AllInRange}
use Rattle.history.specs.CutRule.{Newer}
use Rattle.history.specs.Booking.{Answers, HasClosed, until_acknowledged, until_asked, Booking}
use Rattle.history.specs.CallContracts.{AllTyped}
use Rattle.history.proofs.Invariant.{Inv, Core, draft_in}
use Rattle.history.proofs.DraftLaws.{some_inj, at_same, draft-without, matches-at}
use Rattle.history.proofs.Reckoning.{standing-clock, draft-clock, reckons, clocks-low}
use Rattle.history.proofs.Acknowledged.{Shown, run-shows}
use Rattle.history.proofs.Corollaries.{run-after, step-done}
use Rattle.history.proofs.Carried.{TypedNode, typed-begin, typed-run, all-in-range}
use Rattle.history.proofs.FirstGet.{first-get-answers}
use Rattle.history.proofs.ClosingClock.{KeepsClock, clocked-is, closing-clocked, run-keeps-clock}
use Rattle.history.proofs.Theorem.{next-keeps, history-keeps, running-keeps}

-- ── "The book reckons the same" ──
pub reckons-the-same : (κ : Kind) → KindFits κ → (vs : List Event) → AllInRange vs → (st : Station) → (run vs (begin κ)).node ≡ running st → (c : ℕ) → clock_above c (clocks st) ≡ clock_above c (clocks_in (run vs (begin κ)).ledger)
reckons-the-same κ φ vs f st up c = let r = running-keeps κ φ vs f st up in reckons st _ _ r.1 r.0 c

-- ── what closes is newest ──
older-clock : (i j : Id) → older i j ≡ true → i.clock ≤ j.clock
older-clock i j h = ⊎_elim (λ y. omega (arith, y)) (λ y. omega (arith, y.0)) (older-is i j h)

-- the clock that a commit takes in a history: at least the one given, above that of every transaction that has closed, and below 2^64
pub record TakenIn (b : Ledger) (given c : ℕ) : Type 0 where
  pub least : given ≤ c
  pub above : (i : Id) → HasClosed b i → i.clock < c
  pub low : c < number_range

past-clock : (κ : Kind) (s : List ℕ) (b : Ledger) → Core κ s b.standing b.past → (c : ℕ) (j : Committed) → Memᴰ j b.past → j.id.clock < clock_above c (clocks_in b)
past-clock κ s b core c j m = ⊎_elim
    (λ x. clock-above c (clocks_in b) _ (standing-clock b j x))
    (λ f. let w = core.recorded j m in let r = f w.1 w.2 in omega (arith, older-clock j.id r.0.id r.3, clock-above c (clocks_in b) _ (standing-clock b r.0 r.1))) (core.dominated j m)

pub closing-is-newest : (κ : Kind) → KindFits κ → (vs : List Event) → AllInRange vs → (t c d : ℕ) → c < number_range → Answers (run vs (begin κ)) (Commit t c) (A.Closing d) → TakenIn (run vs (begin κ)).ledger c (clock_above c (clocks_in (run vs (begin κ)).ledger))
closing-is-newest κ φ vs f t c d o a =
    let r = running-keeps κ φ vs f a.0 a.1 in
    let b = (run vs (begin κ)).ledger in
    record {
      least = clock-least c (clocks_in b);
      above = λ i x. ⊎_elim
          (λ y. subst (λ (u : Id). u.clock < clock_above c (clocks_in b)) y.2 (past-clock _ _ b r.1.core c y.0 y.1))
          (λ y. subst (λ (u : Id). u.clock < clock_above c (clocks_in b)) y.2 (clock-above c (clocks_in b) _ (draft-clock b y.0 y.1))) x;
      low = subst (λ (n : ℕ). n < number_range) (reckons _ _ _ r.1 r.0 c) (clock-below c (clocks a.0) o (clocks-low _ _ _ r.1 r.0) (commit-closes a.0 t c d (unfold does in a.2)).next);
    }

-- ── the acknowledgement ──
-- what a call leaves of the ledger, if it is no sweep
after-answer : (w : World) (st : Station) → w.node ≡ running st → (c : Call) → is_sweep c ≡ false → (next (called c) w).ledger ≡ feed (does c st w.store).answer c w.ledger
unfolding next handed after_call reports fed
after-answer w st e c n = rw (e, n)

module _ (st : Station) (s : List ℕ) (b : Ledger) (inv : Inv st s b) (h : sound st ≡ true) where
  acknowledged-shown : (t k v : ℕ) (i : Id) (p : Draft) → (step st s t).answer ≡ A.Done i → draft_of t b.drafts ≡ some p → p.values k ≡ some v
      → (J : Committed) × (J.id ≡ i) × (J.values k ≡ some v) × Shown J k (with_drafts (without t b.drafts) b) × (i.clock ≡ p.clock)
  unfolding with_drafts
  acknowledged-shown t k v i p a e x =
      let r = step-done st s b inv t i a in
      let d = r.4 p (matches-at st (draft_in b) h inv.drafts t r.0 p e) in (
        r.1,
        r.3,
        ap (λ (j : Committed). j.values k) d ∙ x,
        record { by = r.1; stands = r.2; ended = gone r.1.id.txn (ap (λ (j : Committed). j.id.txn) d ∙ (place-hit st t r.0).1); newest = inl refl },
        ap (λ (y : Id). y.clock) (sym r.3) ∙ ap (λ (j : Committed). j.id.clock) d,
      )
    where
      gone : (n : ℕ) → n ≡ t → draft_of n (without t b.drafts) ≡ none
      gone n q = draft-without t b.drafts n ∙ (ap (at t none (draft_in b)) q ∙ at_same t none (draft_in b))

-- ── the booking just made ──
-- It is answered that version with its value, or one that is newer and closed later; in particular none that had closed before it.
pub booking-just-made : (κ : Kind) → KindFits κ → (vs₀ vs₁ vs₂ : List Event) (t c u k v : ℕ) (i : Id) → AllTyped (until_asked vs₀ t c vs₁ vs₂) → Booking κ vs₀ vs₁ vs₂ t c u k v i
    → (x : ℕ) × (j : Id) × Answers (run (until_asked vs₀ t c vs₁ vs₂) (begin κ)) (Get u k) (A.Version x j)
    × (((j ≡ i) × (x ≡ v)) ⊎ (Newer j i × (HasClosed (run vs₀ (begin κ)).ledger j → ⊥)))
booking-just-made κ φ vs₀ vs₁ vs₂ t c u k v i f bk = (g.0, g.1, (st, bk.runs.1, unfold does in g.2), told g.3)
  where
    h₁ : List Event
    h₁ = until_acknowledged vs₀ t c vs₁

    h₂ : List Event
    h₂ = until_asked vs₀ t c vs₁ vs₂

    f₁ : AllTyped h₁
    f₁ = unfold AllTyped in every_first _ h₁ _ f

    f₀ : AllTyped vs₀
    f₀ = unfold AllTyped in every_first _ vs₀ _ f₁

    middle : AllTyped (called (Commit t c) ∷ vs₁)
    middle = unfold AllTyped in every-last _ vs₀ (called (Commit t c) ∷ vs₁) f₁

    -- as it closes, and from there on
    x₀ : ℕ
    x₀ = clock_above c (clocks_in (run vs₀ (begin κ)).ledger)

    real : x₀ ≢ 0
    real = clock-real c (clocks_in (run vs₀ (begin κ)).ledger)

    drafted : (next (called (Commit t c)) (run vs₀ (begin κ))).ledger ≡ with_drafts (revised t (closing_at x₀) (run vs₀ (begin κ)).ledger.drafts) (run vs₀ (begin κ)).ledger
    drafted = after-answer (run vs₀ (begin κ)) _ bk.closes.1 (Commit t c) (unfold is_sweep in refl)
        ∙ (unfold feed txn_of number_of in ap (λ (a : Answer). feed a (Commit t c) (run vs₀ (begin κ)).ledger) bk.closes.2)

    closed : KeepsClock t x₀ (next (called (Commit t c)) (run vs₀ (begin κ))).ledger
    closed = subst (KeepsClock t x₀) (sym drafted) (closing-clocked t x₀ (run vs₀ (begin κ)).ledger)

    from-closing : run h₁ (begin κ) ≡ run vs₁ (next (called (Commit t c)) (run vs₀ (begin κ)))
    from-closing = unfold run in run-after vs₀ (called (Commit t c) ∷ vs₁) (begin κ)

    -- as it is acknowledged
    w₁ : World
    w₁ = run h₁ (begin κ)

    k₁ : (sound bk.acknowledged.0 ≡ true) × Inv bk.acknowledged.0 w₁.store w₁.ledger
    k₁ = running-keeps κ φ h₁ (all-in-range h₁ f₁) _ bk.acknowledged.1

    ack : (J : Committed) × (J.id ≡ i) × (J.values k ≡ some v) × Shown J k (with_drafts (without t w₁.ledger.drafts) w₁.ledger) × (i.clock ≡ bk.wrote.0.clock)
    ack = acknowledged-shown _ _ _ k₁.1 k₁.0 t k v i bk.wrote.0 (unfold does in bk.acknowledged.2) bk.wrote.1 bk.wrote.2

    kept : bk.wrote.0.clock ≡ x₀
    kept = clocked-is t x₀ w₁.ledger bk.wrote.0 (subst (λ (w : World). KeepsClock t x₀ w.ledger) (sym from-closing)
        (run-keeps-clock t x₀ real vs₁ (next (called (Commit t c)) (run vs₀ (begin κ))) bk.same (all-in-range vs₁ (unfold AllTyped in middle.1))
        (next-keeps (called (Commit t c)) (run vs₀ (begin κ)) (unfold AllTyped in middle.0.0) (history-keeps κ φ vs₀ (all-in-range vs₀ f₀))) closed)) bk.wrote.1

    torn : (next (called (Step t)) w₁).ledger ≡ with_drafts (without t w₁.ledger.drafts) w₁.ledger
    torn = after-answer w₁ _ bk.acknowledged.1 (Step t) (unfold is_sweep in refl) ∙ (unfold feed txn_of in ap (λ (a : Answer). feed a (Step t) w₁.ledger) bk.acknowledged.2)

    last : AllTyped (called (Step t) ∷ vs₂)
    last = unfold AllTyped in every-last _ h₁ (called (Step t) ∷ vs₂) f

    both : run h₂ (begin κ) ≡ run vs₂ (next (called (Step t)) w₁)
    both = unfold run in run-after h₁ (called (Step t) ∷ vs₂) (begin κ)

    -- as u asks
    shown : Shown ack.0 k (run h₂ (begin κ)).ledger
    shown = subst (λ (w : World). Shown ack.0 k w.ledger) (sym both)
        (run-shows ack.0 k (v, ack.2) vs₂ (next (called (Step t)) w₁) (all-in-range vs₂ (unfold AllTyped in last.1))
        (next-keeps (called (Step t)) w₁ (unfold AllTyped in last.0.0) (history-keeps κ φ h₁ (all-in-range h₁ f₁))) (subst (Shown ack.0 k) (sym torn) ack.3))

    st : Station
    st = bk.runs.0

    k₂ : (sound st ≡ true) × Inv st (run h₂ (begin κ)).store (run h₂ (begin κ)).ledger
    k₂ = running-keeps κ φ h₂ (all-in-range h₂ f) st bk.runs.1

    fits : ListsFit st
    fits = subst TypedNode bk.runs.1 (typed-run h₂ (begin κ) f (typed-begin κ φ)).node

    g : (x : ℕ) × (j : Id) × ((get st (run h₂ (begin κ)).store u k).answer ≡ A.Version x j) × (((j ≡ ack.0.id) × (ack.0.values k ≡ some x)) ⊎ Newer j ack.0.id)
    g = first-get-answers st _ _ k₂.1 k₂.0 fits u k bk.asks.draft bk.asks.live bk.asks.open-still bk.asks.unread bk.asks.unwritten ack.0 (v, ack.2) shown

    later : {j : Id} → Newer j i → HasClosed (run vs₀ (begin κ)).ledger j → ⊥
    later {j} n x =
        let o : c < number_range = unfold AllTyped call_in number_of in middle.0.0.1 in
        let z = (closing-is-newest κ φ vs₀ (all-in-range vs₀ f₀) t c bk.slot o bk.closes).above j x in
        lt_irrefl i.clock (omega (arith, z, ack.4, kept, older-clock i j n))

    told : {x : ℕ} {j : Id} → ((j ≡ ack.0.id) × (ack.0.values k ≡ some x)) ⊎ Newer j ack.0.id → ((j ≡ i) × (x ≡ v)) ⊎ (Newer j i × (HasClosed (run vs₀ (begin κ)).ledger j → ⊥))
    told (inl y) = inl (y.0 ∙ ack.1, some_inj (sym y.1 ∙ ack.2))
    told {j = j} (inr y) = let n : Newer j i = subst (λ (a : Id). Newer j a) ack.1 y in inr (n, later n)
