-- What a whole history leaves of a property of the ledger, from what each answer leaves of it.
use Prim.Native.Nat.{ℕ, zero, suc, ◌-◌}
use mathlib.Core.Path.{◌≡◌, refl, sym, subst}
use mathlib.Core.Logic.{◌≢◌, ◌⊎◌, inl, inr}
use mathlib.Core.Bool.{Bool, true, false, cond}
use mathlib.Core.List.{List, [], ◌∷◌, ◌++◌, map}
use mathlib.Core.Option.{Option, some, none}
use lib.Dec.{eqb, leb, ltb}
use borrow.Author.Tests.{not-false}
use Rattle.model.specs.declared.Id.{Id}
use Rattle.model.specs.Types.{Station}
use Rattle.model.specs.Kinds.{Kind}
use Rattle.model.specs.declared.Answer.{Answer}
use Rattle.model.specs.declared.Answer.TheVariants as A
use Rattle.model.specs.Lives.{write_count, is_closing, records_stored}
use Rattle.model.specs.Stations.{live_at, entry_at, is_live, is_held, place_of}
use Rattle.model.specs.Ranges.{Every}
use Rattle.model.specs.Sound.{sound}
use Rattle.model.specs.Supersedence.{superseded}
use Rattle.model.specs.Reading.{Choice, own, absent, nofit, version}
use Rattle.model.specs.Effects.{Effect, says, says_storing, Row, ◌when◌, refusals}
use Rattle.model.specs.Start.{start}
use Rattle.model.specs.Put.{put}
use Rattle.model.specs.Get.{choice_of, answered, get}
use Rattle.model.specs.Commit.{commit}
use Rattle.model.specs.Step.{stepped, step}
use Rattle.model.specs.Abort.{abort}
use Rattle.model.specs.Collect.{collect}
use Rattle.model.specs.Scan.{scan}
use Rattle.model.specs.Sweep.{collections, sweep}
use Rattle.model.specs.Calls.{Call, Start, Put, Get, Commit, Step, Abort, Collect, Scan, Sweep, does, is_sweep, txn_of, key_of, number_of}
use Rattle.model.proofs.Tests.{or_right, and_first, not_of_false}
use Rattle.model.proofs.RefusalLaws.{guard, unguarded, cond-rule}
use Rattle.model.proofs.StationLaws.{held-txn}
use Rattle.model.proofs.SoundKept.{sound-kept}
use Rattle.model.proofs.CollectionLaws.{Ends, Goes, ends-or-goes, ends, next_station, next_store, goes}
use Rattle.history.specs.Ledger.{Committed, Ledger, draft_of, without, revised, with_drafts, blank_draft, keeping, reading, closing_at, committed_from, strike, feed}
use Rattle.history.specs.Histories.{Event, called, cut, Node, running, down, World, handed, Report, report_of, reports, fed, given_after, after_call, after_cut, next, run, call_in, AllInRange}
use Rattle.history.proofs.Invariant.{Core, Inv}
use Rattle.history.proofs.DraftLaws.{some_inj}
use Rattle.history.proofs.Collecting.{collect-keeps}
use Rattle.history.proofs.Recovering.{scan-is}
use Rattle.history.proofs.Theorem.{only-scan, down-kind, Running, State, next-keeps}

-- where any call may come
pub any-event : (vs : List Event) → Every (λ (v : Event). Unit {0}) vs
any-event [] = tt
any-event (v ∷ vs) = (tt, any-event vs)

module _ (P : Ledger → Type 0) (Allowed : Call → Type 0) where
  -- each answer's row of `feed` keeps P, with what the call has tested of the station
  pub record RowsKeep (st : Station) (b : Ledger) : Type 0 where
    pub started : (t : ℕ) → Allowed (Start t) → is_held t st ≡ false → P (with_drafts (blank_draft t ∷ without t b.drafts) b)
    pub kept : (t x v : ℕ) → P (with_drafts (revised t (keeping x v) b.drafts) b)
    pub read : (t x : ℕ) (i : Id) → P (with_drafts (revised t (reading x i) b.drafts) b)
    pub closing : (t c : ℕ) → is_live t st ≡ true → is_closing (live_at st (place_of t st)).phase ≡ false → P (with_drafts (revised t (closing_at c) b.drafts) b)
    pub slipped : (js : List Committed) → P (record { drafts = b.drafts; standing = js ++ b.standing; past = js ++ b.past })
    pub torn : (t : ℕ) → P (with_drafts (without t b.drafts) b)
    pub collected : (d : ℕ) → (entry_at st d).id.txn ≢ 0 → superseded st.entries (entry_at st d) ≡ true
        → P (record { drafts = b.drafts; standing = strike (entry_at st d).id.txn b.standing; past = b.past })

  -- what a call's answer leaves
  record Leaves (b : Ledger) (c : Call) (e : Effect) : Type 0 where
    holds : P (feed e.answer c b)

  leaves-says : (b : Ledger) {c : Call} (a : Answer) (st : Station) → P (feed a c b) → Leaves b c (says a st)
  unfolding says
  leaves-says b a st x = record { holds = x }

  leaves-stores : (b : Ledger) {c : Call} (a : Answer) (st : Station) (d n : ℕ) (r : List ℕ) → P (feed a c b) → Leaves b c (says_storing a st d n r)
  unfolding says_storing
  leaves-stores b a st d n r x = record { holds = x }

  module _ (cleared : (b : Ledger) → P b → P (with_drafts [] b)) where
    -- a scan needs no station
    scanned : (κ : Kind) (s : List ℕ) (b : Ledger) → P b → Core κ s b.standing b.past → Leaves b Scan (scan κ s)
    unfolding feed
    scanned κ s b p core = rw (scan-is κ s b.standing b.past core) (leaves-says b _ _ (cleared b p))

    -- ── each call ──
    module _ (st : Station) (s : List ℕ) (b : Ledger) (inv : Inv st s b) (p : P b) (k : RowsKeep st b) where
      row : {c : Call} (n : ℕ) (t : Bool) (rs : List Row) (e : Effect) → (t ≡ false → Leaves b c (refusals rs st e)) → Leaves b c (refusals (n when t ∷ rs) st e)
      unfolding feed
      row {c} n t rs e f = guard (Leaves b c) n t rs st e (leaves-says b (A.Refused n 0) st p) f

      rest : {c : Call} (e : Effect) → Leaves b c e → Leaves b c (refusals [] st e)
      rest {c} e f = unguarded (Leaves b c) st e f

      choice : {c : Call} (t : Bool) (x y : Effect) → (t ≡ true → Leaves b c x) → (t ≡ false → Leaves b c y) → Leaves b c (cond t x y)
      choice {c} t x y f g = cond-rule (Leaves b c) t x y f g

      feeds : (c : Call) → Allowed c → Leaves b c (does c st s)
      unfolding does start put get commit step abort collect sweep stepped answered feed txn_of key_of number_of
      feeds (Start t) a = row 2 _ _ _ λ h2. row 3 _ _ _ λ h3. row 6 _ _ _ λ h6. row 7 _ _ _ λ h7. rest _ (leaves-says b _ _ (k.started t a (or_right _ _ h6)))
      feeds (Put t x v) a = row 2 _ _ _ λ h2. row 3 _ _ _ λ h3. row 4 _ _ _ λ h4. row 8 _ _ _ λ h8. row 9 _ _ _ λ h9. row 11 _ _ _ λ h11. rest _ (leaves-says b _ _ (k.kept t x v))
      feeds (Get t x) a = row 1 _ _ _ λ h1. row 2 _ _ _ λ h2. row 3 _ _ _ λ h3. row 4 _ _ _ λ h4. row 8 _ _ _ λ h8. row 9 _ _ _ λ h9. row 12 _ _ _ λ h12. row 17 _ _ _ λ h17.
          rest _ (by-choice (choice_of st (live_at st (place_of t st)) x))
        where
          by-choice : (ch : Choice) → Leaves b (Get t x) (answered st s (place_of t st) x ch)
          by-choice (own v) = leaves-says b _ _ p
          by-choice absent = leaves-says b _ _ p
          by-choice (nofit n) = leaves-says b _ _ p
          by-choice (version d) = leaves-says b _ _ (k.read t x _)
      feeds (Commit t x) a = row 2 _ _ _ λ h2. row 3 _ _ _ λ h3. row 5 _ _ _ λ h5. row 8 _ _ _ λ h8. row 9 _ _ _ λ h9. row 13 _ _ _ λ h13. row 21 _ _ _ λ h21.
          rest _ (choice (is_held t st) _ _ (λ y. leaves-says b _ _ (k.torn t)) λ y.
          choice (eqb (write_count (live_at st (place_of t st))) 0) _ _ (λ z. leaves-says b _ _ (k.torn t)) λ z. leaves-says b _ _ (k.closing t _ (not-false _ (and_first _ _ h8 (not_of_false _ y))) h9))
      feeds (Step t) a = row 1 _ _ _ λ h1. row 2 _ _ _ λ h2. row 3 _ _ _ λ h3. row 8 _ _ _ λ h8. row 10 _ _ _ λ h10.
          rest _ (choice (ltb (records_stored (live_at st (place_of t st)).phase) (write_count (live_at st (place_of t st)))) _ _ (λ y. leaves-stores b _ _ _ _ _ p) λ y.
          choice (eqb (records_stored (live_at st (place_of t st)).phase) (write_count (live_at st (place_of t st)))) _ _
          (λ z. leaves-stores b _ _ _ _ _ (k.slipped (committed_from (draft_of t b.drafts)))) λ z. leaves-says b _ _ (k.torn t))
      feeds (Abort t) a = row 2 _ _ _ λ h2. row 3 _ _ _ λ h3. row 8 _ _ _ λ h8. row 9 _ _ _ λ h9. rest _ (leaves-says b _ _ (k.torn t))
      feeds (Collect d) a = row 1 _ _ _ λ h1. row 2 _ _ _ λ h2. row 14 _ _ _ λ h14. row 15 _ _ _ λ h15. row 16 _ _ _ λ h16. row 17 _ _ _ λ h17.
          rest _ (leaves-stores b _ _ _ _ _ (k.collected d (held-txn st d (not-false _ (or_right _ _ h14))) (not-false _ h15)))
      feeds Scan a = scanned st.kind s b p inv.core
      feeds (Sweep n) a = row 1 _ _ _ λ h1. row 2 _ _ _ λ h2. row 20 _ _ _ λ h20. rest _ (record { holds = p })

    -- ── what the ledger is fed for a call, and for one cut short ──
    record AllFed (rs : List Report) (b : Ledger) : Type 0 where
      whole : P (fed rs b)
      cut_short : (n : ℕ) → P (fed (given_after n rs) b)

    nothing : (b : Ledger) → P b → AllFed [] b
    unfolding fed given_after
    nothing b p = record { whole = p; cut_short = λ n. p }

    one_more : (r : Report) (rs : List Report) (b : Ledger) → P b → AllFed rs (feed r.answer r.call b) → AllFed (r ∷ rs) b
    unfolding fed given_after
    one_more r rs b p f = record {
      whole = f.whole;
      cut_short = λ n. cond-rule (λ (x : List Report). P (fed x b)) (leb r.stores n) _ _ (λ y. f.cut_short (n - r.stores)) (λ y. p);
    }

    module _ (collectable : (d : ℕ) → Allowed (Collect d)) (each : (st : Station) (s : List ℕ) (b : Ledger) → Inv st s b → sound st ≡ true → P b → RowsKeep st b) where
      collects : (n : ℕ) (st : Station) (s : List ℕ) (b : Ledger) → sound st ≡ true → Inv st s b → P b → AllFed (map report_of (collections n st s)) b
      unfolding report_of
      collects zero st s b h inv p = unfold collections in nothing b p
      collects (suc n) st s b h inv p = go (ends-or-goes st s) (λ st₁ s₁ b₁ h₁ i₁ p₁. collects n st₁ s₁ b₁ h₁ i₁ p₁)
        where
          go : Ends st s ⊎ Goes st s → ((st₁ : Station) (s₁ : List ℕ) (b₁ : Ledger) → sound st₁ ≡ true → Inv st₁ s₁ b₁ → P b₁ → AllFed (map report_of (collections n st₁ s₁)) b₁)
              → AllFed (map report_of (collections (suc n) st s)) b
          go (inl e) ih = rw (ends st s e (suc n)) (nothing b p)
          go (inr g) ih = rw (goes st s g n) (one_more _ _ b p
              (ih (next_station st s g) (next_store st s g) _ (unfold does in sound-kept (Collect g.slot) st s h) (collect-keeps st s b g.slot inv h).after
              (unfold does in (feeds st s b inv p (each st s b inv h p) (Collect g.slot) (collectable g.slot)).holds)))

      all-fed : (c : Call) (st : Station) (s : List ℕ) (b : Ledger) → Allowed c → sound st ≡ true → Inv st s b → P b → AllFed (reports c (does c st s).answer st s) b
      unfolding reports
      all-fed c st s b a h inv p = cond-rule (λ (rs : List Report). AllFed rs b) (is_sweep c) _ _ (λ y. collects _ st s b h inv p) (λ y. one_more _ [] b p (nothing _ (feeds st s b inv p (each st s b inv h p) c a).holds))

      -- ── a history ──
      handed-feeds : (κ : Kind) (c : Call) (n : Node Station) (st : Station) (s : List ℕ) (b : Ledger) → Allowed c → Core κ s b.standing b.past → Running κ n s b → handed κ c n ≡ some st → P b → AllFed (reports c (does c st s).answer st s) b
      unfolding handed
      handed-feeds κ c (running st₀) st s b a core r e p = subst (λ (x : Station). AllFed (reports c (does c x s).answer x s) b) (some_inj e) (all-fed c st₀ s b a r.0 r.1 p)
      handed-feeds κ c down st s b a core r e p = subst (λ (x : Call). AllFed (reports x (does x st s).answer st s) b) (sym (only-scan κ c st e))
          (unfold reports is_sweep does in one_more _ [] b p (nothing _ (scanned st.kind s b p (subst (λ (x : Kind). Core x s b.standing b.past) (sym (down-kind κ c st e)) core)).holds))

      next-feeds : (v : Event) (w : World) → Allowed (call_in v) → State w → P w.ledger → P (next v w).ledger
      unfolding next call_in
      next-feeds (called c) w a sw p = go (handed w.kind c w.node) refl
        where
          go : (x : Option Station) → handed w.kind c w.node ≡ x → P (after_call x c w).ledger
          go none e = unfold after_call in p
          go (some st) e = unfold after_call in (handed-feeds w.kind c w.node st w.store w.ledger a sw.lasts.core sw.runs e p).whole
      next-feeds (cut c n) w a sw p = go (handed w.kind c w.node) refl
        where
          go : (x : Option Station) → handed w.kind c w.node ≡ x → P (after_cut x c n w).ledger
          go none e = unfold after_cut in p
          go (some st) e = unfold after_cut in (handed-feeds w.kind c w.node st w.store w.ledger a sw.lasts.core sw.runs e p).cut_short n

      -- whatever comes, cuts included
      pub run-feeds : (vs : List Event) (w : World) → Every (λ (v : Event). Allowed (call_in v)) vs → AllInRange vs → State w → P w.ledger → P (run vs w).ledger
      unfolding run AllInRange
      run-feeds [] w a f sw p = p
      run-feeds (v ∷ vs) w a f sw p = run-feeds vs (next v w) a.1 f.1 (next-keeps v w f.0 sw) (next-feeds v w a.0 sw p)
