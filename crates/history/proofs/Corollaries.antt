-- What the cut rule comes to, in the paper's words.
use Prim.Native.Nat.{ℕ, ◌<◌, ◌≤◌}
use mathlib.Core.Path.{◌≡◌, refl, sym, ap, subst, ◌∙◌}
use mathlib.Core.Logic.{◌≢◌, ◌⊎◌, inl, inr, ⊎_elim}
use mathlib.Core.Bool.{Bool, true, false, cond, true≢false, false≢true}
use mathlib.Core.List.{List, [], ◌∷◌, ◌++◌, Memᴰ}
use mathlib.Core.Option.{some}
use lib.Dec.{eqb, ltb}
use lib.ListN.{length}
use native.Mathlib.Nat.{lt_irrefl}
use native.Mathlib.Omega.{arith}
use borrow.Author.Tests.{ltb-false, eqb-false, not-false}
use Rattle.model.specs.declared.Id.{Id}
use Rattle.model.specs.declared.Read.{Read}
use Rattle.model.specs.Types.{Live, Station}
use Rattle.model.specs.Kinds.{Kind, KindFits}
use Rattle.model.specs.declared.Phase.{Phase}
use Rattle.model.specs.declared.Phase.TheVariants.{Unused, Open, Closing}
use Rattle.model.specs.declared.Answer.{Answer}
use Rattle.model.specs.declared.Answer.TheVariants as A
use Rattle.model.specs.Lists.{all, any, member}
use Rattle.model.specs.Limits.{sweep_limit}
use Rattle.model.specs.Ids.{older}
use Rattle.model.specs.Lives.{write_count, is_closing, closing_slot, records_stored}
use Rattle.model.specs.Entries.{entry_for}
use Rattle.model.specs.Stations.{live_at, entry_at, is_live, is_held, place_of, slot_of}
use Rattle.model.specs.Sound.{sound}
use Rattle.model.specs.Effects.{Effect, stored, says, says_storing}
use Rattle.model.specs.Get.{version_at}
use Rattle.model.specs.Commit.{commit}
use Rattle.model.specs.Step.{stepped, step}
use Rattle.model.specs.Sweep.{sweep}
use Rattle.model.specs.Calls.{Get, Commit, Step, Collect, Sweep, does, txn_of, number_of}
use Rattle.model.specs.Answers.{refused_with}
use Rattle.model.proofs.Tests.{bool_cases}
use Rattle.model.proofs.ListLaws.{every_first, every-last}
use Rattle.model.proofs.RefusalLaws.{accepted, row-off}
use Rattle.model.proofs.StationLaws.{slot-hit}
use Rattle.model.proofs.GetLaws.{version-entry, get-version}
use Rattle.model.proofs.SoundFacts.{held_below, wrote-held}
use Rattle.model.proofs.SoundKept.{sound-kept}
use Rattle.model.proofs.SweepLaws.{NoneLeft, StoppedBy17, IsSweep, sweep-is-collects}
use Rattle.history.specs.Ledger.{Draft, Committed, Ledger, draft_of, with_drafts}
use Rattle.history.specs.Histories.{Event, cut, running, World, begin, reports, next, run, AllInRange}
use Rattle.history.specs.CutRule.{committed_in, Wrote}
use Rattle.history.specs.Matches.{Matches}
use Rattle.history.proofs.Invariant.{Prepared, Inv, Reported}
use Rattle.history.proofs.CommittedLaws.{stands, wrote-committed, committed-id, stands-once}
use Rattle.history.proofs.Storing.{committed-of-draft}
use Rattle.history.proofs.Theorem.{call-keeps, State, history-keeps, running-keeps, cut-rule}
use Rattle.history.proofs.Feeding.{any-event, RowsKeep, run-feeds}
use Rattle.history.proofs.NeverRefused.{faults, Calm, calm}

-- ── no dirty read: a version that a get answers is a committed transaction's, which stands, under that key with that value ──
pub no-dirty-read : (κ : Kind) → KindFits κ → (vs : List Event) → AllInRange vs → (st : Station) → (run vs (begin κ)).node ≡ running st → (t k v : ℕ) (i : Id)
    → (does (Get t k) st (run vs (begin κ)).store).answer ≡ A.Version v i
    → (j : Committed) × Memᴰ j (run vs (begin κ)).ledger.standing × (j.id ≡ i) × (j.values k ≡ some v)
unfolding does version_at
no-dirty-read κ φ vs f st up t k v i h =
    let w = running-keeps κ φ vs f st up in
    let s = (run vs (begin κ)).store in
    let g = get-version st s t k v i h in
    let r = version-entry st (live_at st (place_of t st)) k g.0 g.1 in
    let e = entry_at st g.0 in (
      committed_in st.kind s g.0 e,
      stands st.kind s _ w.1.core.found g.0 e (held_below st w.0 g.0 (wrote-held st w.0 g.0 k r.1)) (w.1.slots.entered g.0 (wrote-held st w.0 g.0 k r.1)),
      committed-id st.kind s g.0 e ∙ sym g.3,
      wrote-committed st.kind s g.0 e k r.1 ∙ ap some (sym g.2),
    )

-- ── no fractured read: of a transaction's two reads, one of a version whose transaction also wrote the other's key, the other is not older ──
pub no-fractured-read : (κ : Kind) → KindFits κ → (vs : List Event) → AllInRange vs → (t : ℕ) (p : Draft) → draft_of t (run vs (begin κ)).ledger.drafts ≡ some p
    → (r q : Read) → Memᴰ r p.reads → Memᴰ q p.reads
    → (j : Committed) → Memᴰ j (run vs (begin κ)).ledger.standing → j.id ≡ r.id → Wrote j q.key → older q.id r.id ≡ false
no-fractured-read κ φ vs f t p e r q mr mq j mj ej w =
    ⊎_elim (λ y. absurd ((cut-rule κ φ vs f).atomic t p r q j e mr mq mj ej w y)) (λ y. y) (bool_cases (older q.id r.id))

-- ── acknowledged means durable ──
-- a transaction that is past stays past
past-kept : (j : Committed) (st : Station) (b : Ledger) → Memᴰ j b.past → RowsKeep (λ (x : Ledger). Memᴰ j x.past) (λ c. Unit {0}) st b
unfolding with_drafts
past-kept j st b m = record {
  started = λ t a nh. m;
  kept = λ t x v. m;
  read = λ t x i. m;
  closing = λ t c z nc. m;
  slipped = λ js. mathlib.Core.List.Memᴰ.append_right js m;
  torn = λ t. m;
  collected = λ d nz sup. m;
}

past-run : (us : List Event) (w : World) → AllInRange us → State w → (j : Committed) → Memᴰ j w.ledger.past → Memᴰ j (run us w).ledger.past
unfolding with_drafts
past-run us w f sw j m = run-feeds (λ (x : Ledger). Memᴰ j x.past) (λ c. Unit {0}) (λ b x. x) (λ d. tt) (λ st s b inv h x. past-kept j st b x) us w (any-event us) f sw m

pub run-after : (vs us : List Event) (w : World) → run (vs ++ us) w ≡ run us (run vs w)
unfolding run
run-after [] us w = refl
run-after (v ∷ vs) us w = run-after vs us (next v w)

-- whatever comes later, cuts included: on each key of a past transaction a standing one that is not older is found
pub durable : (κ : Kind) → KindFits κ → (vs us : List Event) → AllInRange (vs ++ us) → (j : Committed) → Memᴰ j (run vs (begin κ)).ledger.past → (k : ℕ) → Wrote j k
    → (i : Committed) × Memᴰ i (run (vs ++ us) (begin κ)).ledger.standing × Wrote i k × (older i.id j.id ≡ false)
durable κ φ vs us f j m k w =
    let m' : Memᴰ j (run (vs ++ us) (begin κ)).ledger.past = subst (λ (x : World). Memᴰ j x.ledger.past) (sym (run-after vs us (begin κ))) (past-run us (run vs (begin κ)) (unfold AllInRange in every-last _ vs us f) (history-keeps κ φ vs (unfold AllInRange in every_first _ vs us f)) j m) in
    let r = (cut-rule κ φ (vs ++ us) f).newest k j m' w in
    (r.0, r.1, r.2, ⊎_elim (λ y. absurd (r.3 j m' w y)) (λ y. y) (bool_cases (older r.0.id j.id)))

-- of a step's three answers done is the third
last : (x y : Bool) (k d : ℕ) (one two three : Effect) (a i : Id) → one.answer ≡ A.Stored k → two.answer ≡ A.Slipped d → three.answer ≡ A.Done a
    → (cond x one (cond y two three)).answer ≡ A.Done i → (x ≡ false) × (y ≡ false) × (a ≡ i)
last true y k d one two three a i e₁ e₂ e₃ h = let z : ◌≡◌ {A = ℕ} 0 1 = cc in absurd (omega arith)
last false true k d one two three a i e₁ e₂ e₃ h = let z : ◌≡◌ {A = ℕ} 0 1 = cc in absurd (omega arith)
last false false k d one two three a i e₁ e₂ e₃ h = (refl, refl, cc)

-- an acknowledging step answers done: its transaction stands in the store, as its draft has it
done-stands : (st : Station) (s : List ℕ) (b : Ledger) → Inv st s b → (t : ℕ) (i : Id) (p : Phase) → (live_at st (place_of t st)).phase ≡ p → is_closing p ≡ true
    → (stepped st (place_of t st) (live_at st (place_of t st)) p).answer ≡ A.Done i
    → (j : Committed) × Memᴰ j b.standing × (j.id ≡ i)
    × ((x : Draft) → Matches x (live_at st (place_of t st)) → j ≡ record { id = record { clock = x.clock; txn = (live_at st (place_of t st)).txn }; values = x.values })
unfolding stepped is_closing records_stored closing_slot says_storing says
done-stands st s b inv t i Unused q c h = absurd (false≢true c)
done-stands st s b inv t i Open q c h = absurd (false≢true c)
done-stands st s b inv t i (Closing d c n) q _ h =
    let r = last (ltb n (write_count l)) (eqb n (write_count l)) _ d _ _ _ (entry_for l).id i refl refl refl h in
    let full : write_count l < n = omega (arith, ltb-false n (write_count l) r.0, eqb-false n (write_count l) r.1) in (
      committed_in st.kind s d (entry_for l),
      stands st.kind s b.standing inv.core.found d (entry_for l) pr.low (pr.marked full),
      committed-id st.kind s d (entry_for l) ∙ r.2,
      λ x m. committed-of-draft st.kind s d c n l x q (inv.ranges (place_of t st)) m (λ j o. pr.versions j (omega (arith, full)) o),
    )
  where
    l : Live
    l = live_at st (place_of t st)

    pr : Prepared st.kind s (live_at st (place_of t st)) d c n
    pr = inv.slots.closing (place_of t st) d c n q

-- the same of the call
pub step-done : (st : Station) (s : List ℕ) (b : Ledger) → Inv st s b → (t : ℕ) (i : Id) → (step st s t).answer ≡ A.Done i
    → (is_live t st ≡ true) × (j : Committed) × Memᴰ j b.standing × (j.id ≡ i)
    × ((x : Draft) → Matches x (live_at st (place_of t st)) → j ≡ record { id = record { clock = x.clock; txn = (live_at st (place_of t st)).txn }; values = x.values })
unfolding step all
step-done st s b inv t i h =
    let a = accepted _ st _ refl (ap refused_with h ∙ (unfold refused_with in refl)) in
    let r8 = row-off 8 _ _ (row-off 3 _ _ (row-off 2 _ _ (row-off 1 _ _ a.0).1).1).1 in
    let r = done-stands st s b inv t i _ refl (not-false _ (row-off 10 _ _ r8.1).0) (sym (ap (λ (e : Effect). e.answer) a.1) ∙ h) in
    (not-false _ r8.0, r.0, r.1, r.2, r.3)

pub acknowledged-stands : (κ : Kind) → KindFits κ → (vs : List Event) → AllInRange vs → (st : Station) → (run vs (begin κ)).node ≡ running st → (t : ℕ) (i : Id)
    → (does (Step t) st (run vs (begin κ)).store).answer ≡ A.Done i
    → (j : Committed) × Memᴰ j (run vs (begin κ)).ledger.standing × Memᴰ j (run vs (begin κ)).ledger.past × (j.id ≡ i)
unfolding does
acknowledged-stands κ φ vs f st up t i h =
    let w = running-keeps κ φ vs f st up in
    let r = step-done st (run vs (begin κ)).store (run vs (begin κ)).ledger w.1 t i h in
    (r.1, r.2, w.1.core.kept r.1 r.2, r.3)

-- ── exactly-once retry: a commit that is answered done again alters nothing, and its transaction stands once ──
-- of commit's three answers done is the first
held_first : (x y : Bool) (st st₁ st₂ : Station) (a : Id) (d : ℕ) (i : Id) → (cond x (says (A.Done a) st) (cond y (says A.Empty st₁) (says (A.Closing d) st₂))).answer ≡ A.Done i
    → (x ≡ true) × (a ≡ i) × (cond x (says (A.Done a) st) (cond y (says A.Empty st₁) (says (A.Closing d) st₂)) ≡ says (A.Done a) st)
unfolding says
held_first true y st st₁ st₂ a d i h = (refl, cc, refl)
held_first false true st st₁ st₂ a d i h = let z : ◌≡◌ {A = ℕ} 0 1 = cc in absurd (omega arith)
held_first false false st st₁ st₂ a d i h = let z : ◌≡◌ {A = ℕ} 0 1 = cc in absurd (omega arith)

pub retry-alters-nothing : (st : Station) (t c : ℕ) (i : Id) → (commit st t c).answer ≡ A.Done i
    → (is_held t st ≡ true) × ((entry_at st (slot_of t st)).id ≡ i) × (commit st t c ≡ says (A.Done i) st) × (t ≢ 0)
unfolding commit all
retry-alters-nothing st t c i h =
    let a = accepted _ st _ refl (ap refused_with h ∙ (unfold refused_with in refl)) in
    let r = held_first (is_held t st) (eqb (write_count (live_at st (place_of t st))) 0) st _ _ _ _ i (sym (ap (λ (e : Effect). e.answer) a.1) ∙ h) in
    (r.0, r.1, a.1 ∙ (r.2 ∙ ap (λ (x : Id). says (A.Done x) st) r.1), eqb-false t 0 (row-off 3 _ _ (row-off 2 _ _ a.0).1).0)

pub retry-stands-once : (κ : Kind) → KindFits κ → (vs : List Event) → AllInRange vs → (st : Station) → (run vs (begin κ)).node ≡ running st → (t c : ℕ) (i : Id)
    → (does (Commit t c) st (run vs (begin κ)).store).answer ≡ A.Done i
    → (j : Committed) × Memᴰ j (run vs (begin κ)).ledger.standing × (j.id ≡ i) × ((x : Committed) → Memᴰ x (run vs (begin κ)).ledger.standing → x.id.txn ≡ i.txn → x ≡ j)
unfolding does
retry-stands-once κ φ vs f st up t c i h =
    let w = running-keeps κ φ vs f st up in
    let s = (run vs (begin κ)).store in
    let r = retry-alters-nothing st t c i h in
    let d = slot_of t st in
    let nz : (entry_at st d).id.txn ≢ 0 = (λ z. r.3 (sym (slot-hit st t r.0).1 ∙ z)) in
    let seen-d = w.1.slots.entered d nz in
    let o : d < st.kind.slots = held_below st w.0 d nz in (
      committed_in st.kind s d (entry_at st d),
      stands st.kind s _ w.1.core.found d (entry_at st d) o seen-d,
      committed-id st.kind s d (entry_at st d) ∙ r.1,
      λ x m e. stands-once st.kind s _ w.1.core.found w.1.core.single x d (entry_at st d) o seen-d m (e ∙ sym (ap (λ (y : Id). y.txn) r.1)),
    )

swept-is : {a b : ℕ} → A.Swept a ≡ A.Swept b → a ≡ b
swept-is e = cc

-- ── in a history a sweep clears all that it may: where it counts fewer than its limit, no entry may be collected ──
pub sweep-clears : (κ : Kind) → KindFits κ → (vs : List Event) → AllInRange vs → (st : Station) → (run vs (begin κ)).node ≡ running st → (n k : ℕ) → 1 ≤ n → n ≤ sweep_limit
    → (does (Sweep n) st (run vs (begin κ)).store).answer ≡ A.Swept k → k < n → NoneLeft (does (Sweep n) st (run vs (begin κ)).store).station
unfolding does
sweep-clears κ φ vs f st up n k o m h l = why w.ended
  where
    r : (sound st ≡ true) × Inv st (run vs (begin κ)).store (run vs (begin κ)).ledger
    r = running-keeps κ φ vs f st up

    w : IsSweep st (run vs (begin κ)).store n (sweep st (run vs (begin κ)).store n)
    w = sweep-is-collects st (run vs (begin κ)).store n r.1.core.size r.0 o m

    after : Reported (run vs (begin κ)).store (run vs (begin κ)).ledger (reports (Sweep n) (sweep st (run vs (begin κ)).store n).answer st (run vs (begin κ)).store) (sweep st (run vs (begin κ)).store n)
    after = unfold does in call-keeps (Sweep n) st (run vs (begin κ)).store (run vs (begin κ)).ledger (unfold txn_of number_of in (omega arith, omega (arith, m))) r.0 r.1

    why : (length w.slots ≡ n) ⊎ (NoneLeft (sweep st (run vs (begin κ)).store n).station ⊎ StoppedBy17 (sweep st (run vs (begin κ)).store n).station (stored (sweep st (run vs (begin κ)).store n).stores (run vs (begin κ)).store))
        → NoneLeft (sweep st (run vs (begin κ)).store n).station
    why (inl e) = let q : length w.slots ≡ k = swept-is (sym w.count ∙ h) in absurd (lt_irrefl n (omega (arith, e, q, l)))
    why (inr (inl x)) = x
    why (inr (inr x)) = absurd (true≢false (sym (ap (λ (a : Answer). member (refused_with a) faults) x.2 ∙ (unfold refused_with member any in refl))
        ∙ (unfold Calm does in calm (sweep st (run vs (begin κ)).store n).station (stored (sweep st (run vs (begin κ)).store n).stores (run vs (begin κ)).store) _ (unfold does in sound-kept (Sweep n) st (run vs (begin κ)).store r.0) after.after (Collect x.0))))
