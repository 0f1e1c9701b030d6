-- 01 'The cut rule', proved: every history keeps the invariant, so the claim holds after every history.
use Prim.Native.Nat.{ℕ, zero, suc, ◌<◌}
use mathlib.Core.Path.{◌≡◌, refl, sym, ap, subst, ◌∙◌}
use mathlib.Core.Bool.{true}
use mathlib.Core.Option.{Option, some, none, none-ne-some}
use mathlib.Core.List.Memᴰ
use mathlib.Core.List.Permᴰ
use mathlib.Core.List.{List, [], ◌∷◌}
use lib.ListN.{length, take, replicate, length-replicate}
use lib.Seq.{take_all}
use native.Mathlib.Decide.{dec_lt}
use native.Mathlib.Omega.{arith}
use Rattle.model.specs.Types.{Station}
use Rattle.model.specs.Limits.{entry_places}
use Rattle.model.specs.Kinds.{Kind, store_size, KindFits}
use Rattle.model.specs.Entries.{no_entry}
use Rattle.model.specs.Stations.{empty_station, entry_at}
use Rattle.model.specs.Slots.{free, seen}
use Rattle.model.specs.Sound.{sound}
use Rattle.model.specs.Effects.{Effect, stored}
use Rattle.model.specs.Scan.{entry_seen}
use Rattle.model.specs.Calls.{Call, Start, Put, Get, Commit, Step, Abort, Collect, Scan, Sweep, does, is_scan, is_sweep, txn_of, number_of, InRange}
use Rattle.model.proofs.ListLaws.{get_or-all}
use Rattle.model.proofs.KindKept.{kind-kept}
use Rattle.model.proofs.SlotLaws.{committed≢free, free≢damaged, zeros-free}
use Rattle.model.proofs.SoundKept.{sound_empty, sound-scan, sound-kept}
use Rattle.history.specs.Ledger.{Ledger, empty_ledger}
use Rattle.history.specs.Histories.{Event, called, cut, Node, running, down, World, begin, handed, Report, reports, fed, given_after, after_call, after_cut, next, run, call_in, AllInRange}
use Rattle.history.specs.CutRule.{CutRule, Demand3}
use Rattle.history.specs.Matches.{Correspond}
use Rattle.history.proofs.Invariant.{Core, Lasting, draft_in, Inv, Reported, good-reported}
use Rattle.history.proofs.DraftLaws.{some_inj}
use Rattle.history.proofs.Lasting.{lasting}
use Rattle.history.proofs.Opening.{start-keeps, put_keeps, abort-keeps}
use Rattle.history.proofs.Committing.{commit-keeps}
use Rattle.history.proofs.Reading.{get_keeps}
use Rattle.history.proofs.CommittedLaws.{holds-free, slots_hold, hold-none, hold-more, in-store}
use Rattle.history.proofs.Storing.{step_keeps}
use Rattle.history.proofs.Collecting.{collect-keeps}
use Rattle.history.proofs.Sweeping.{sweep-keeps}
use Rattle.history.proofs.Recovering.{scan-keeps, idle-inv, cut-rule-of}

-- ── at the beginning ──
-- a store of free slots, with no transaction standing and a station with nothing in it
none-held : (κ : Kind) (s : List ℕ) → ((d : ℕ) → seen κ s d ≡ free) → (n i : ℕ) → slots_hold κ s n i ≡ []
none-held κ s f zero i = hold-none κ s i
none-held κ s f (suc n) i = rw (hold-more κ s n i, holds-free κ s i (f i)) (none-held κ s f n (suc i))

empty-kind : (κ : Kind) → (empty_station κ).kind ≡ κ
unfolding empty_station
empty-kind κ = refl

module _ (κ : Kind) (φ : KindFits κ) where
  zeros : List ℕ
  zeros = replicate (store_size κ) 0

  zeros-core : Core κ zeros [] []
  unfolding zeros
  zeros-core = record {
    fits = φ;
    size = length-replicate {A = ℕ} (store_size κ) 0;
    undamaged = λ d o h. free≢damaged (sym (zeros-free κ (store_size κ) d) ∙ h);
    single = λ d d' e e' o o' h. absurd (committed≢free e (sym h ∙ zeros-free κ (store_size κ) d));
    found = rw (in-store κ (replicate (store_size κ) 0), none-held κ (replicate (store_size κ) 0) (zeros-free κ (store_size κ)) κ.slots 0) (Permᴰ.refl []);
    kept = λ j m. m;
    dominated = λ j m. absurd (Memᴰ.not-nil m);
    recorded = λ j m. absurd (Memᴰ.not-nil m);
  }

  begin-inv : Inv (empty_station κ) zeros empty_ledger
  unfolding zeros empty_station empty_ledger
  begin-inv = idle-inv κ (replicate entry_places no_entry) zeros [] [] (length-replicate entry_places no_entry) (λ d o. unfold entry_at in get_or-all entry_places d no_entry)
      (λ d o. unfold entry_at entry_seen in (get_or-all entry_places d no_entry ∙ ap entry_seen (sym (zeros-free κ (store_size κ) d)))) zeros-core

-- ── a call ──
-- what the ledger is fed for it
abbrev pub Owed : Call → Station → List ℕ → Ledger → Type 0
Owed c st s b = Reported s b (reports c (does c st s).answer st s) (does c st s)

pub call-keeps : (c : Call) (st : Station) (s : List ℕ) (b : Ledger) → InRange c → sound st ≡ true → Inv st s b → Owed c st s b
unfolding does txn_of number_of reports is_sweep
call-keeps (Start t) st s b f h inv = good-reported s b (Start t) _ (start-keeps st s b t inv h f.0)
call-keeps (Put t k v) st s b f h inv = good-reported s b (Put t k v) _ (put_keeps st s b t k v inv h f.1)
call-keeps (Get t k) st s b f h inv = good-reported s b (Get t k) _ (get_keeps st s b t k inv h)
call-keeps (Commit t c) st s b f h inv = good-reported s b (Commit t c) _ (commit-keeps st s b t c inv h f.1)
call-keeps (Step t) st s b f h inv = good-reported s b (Step t) _ (step_keeps st s b t inv h)
call-keeps (Abort t) st s b f h inv = good-reported s b (Abort t) _ (abort-keeps st s b t inv h)
call-keeps (Collect d) st s b f h inv = good-reported s b (Collect d) _ (collect-keeps st s b d inv h)
call-keeps Scan st s b f h inv = good-reported s b Scan _ (scan-keeps st.kind s b inv.core)
call-keeps (Sweep n) st s b f h inv = sweep-keeps st s b n inv h

-- ── a history ──
-- what holds of a world: what lasts, and of a running station that it is sound, the invariant, and its kind
abbrev pub Running : Kind → Node Station → List ℕ → Ledger → Type 0
Running κ (running st) s b = (sound st ≡ true) × Inv st s b × (st.kind ≡ κ)
Running κ down s b = Unit {0}

pub record State (w : World) : Type 0 where
  pub lasts : Lasting w.kind w.store w.ledger
  pub runs : Running w.kind w.node w.store w.ledger

-- the one call of a station that is down
pub only-scan : (κ : Kind) (c : Call) (st : Station) → handed κ c down ≡ some st → c ≡ Scan
unfolding handed is_scan
only-scan κ (Start t) st e = absurd (none-ne-some st e)
only-scan κ (Put t k v) st e = absurd (none-ne-some st e)
only-scan κ (Get t k) st e = absurd (none-ne-some st e)
only-scan κ (Commit t c) st e = absurd (none-ne-some st e)
only-scan κ (Step t) st e = absurd (none-ne-some st e)
only-scan κ (Abort t) st e = absurd (none-ne-some st e)
only-scan κ (Collect d) st e = absurd (none-ne-some st e)
only-scan κ Scan st e = refl
only-scan κ (Sweep n) st e = absurd (none-ne-some st e)

-- which is handed the empty one of the kind
pub down-kind : (κ : Kind) (c : Call) (st : Station) → handed κ c down ≡ some st → st.kind ≡ κ
unfolding handed is_scan
down-kind κ c st e = from_empty (subst (λ (x : Call). handed κ x down ≡ some st) (only-scan κ c st e) e)
  where
    from_empty : some (empty_station κ) ≡ some st → st.kind ≡ κ
    from_empty q = ap (λ (x : Station). x.kind) (sym (some_inj q)) ∙ empty-kind κ

-- what a call owes that is handed a station: what it reports, a sound station, and the kind
abbrev pub Keeps : Kind → Call → Station → List ℕ → Ledger → Type 0
Keeps κ c st s b = Owed c st s b × (sound (does c st s).station ≡ true) × ((does c st s).station.kind ≡ κ)

scan-owed : (κ : Kind) (s : List ℕ) (b : Ledger) (st : Station) → st.kind ≡ κ → Core κ s b.standing b.past → Keeps κ Scan st s b
unfolding does reports is_sweep
scan-owed κ s b st k core = (good-reported s b Scan _ (scan-keeps st.kind s b (subst (λ (x : Kind). Core x s b.standing b.past) (sym k) core)), sound-scan st.kind s, kind-kept Scan st s ∙ k)

-- a call that is handed a station does what it owes
pub handed-keeps : (κ : Kind) (c : Call) (s : List ℕ) (b : Ledger) (n : Node Station) (st : Station) → InRange c → Core κ s b.standing b.past → Running κ n s b → handed κ c n ≡ some st → Keeps κ c st s b
unfolding handed
handed-keeps κ c s b (running st₀) st f core r e = subst (λ (x : Station). Keeps κ c x s b) (some_inj e) (call-keeps c st₀ s b f r.0 r.1, sound-kept c st₀ s r.0, kind-kept c st₀ s ∙ r.2)
handed-keeps κ c s b down st f core r e = subst (λ (x : Call). Keeps κ x st s b) (sym (only-scan κ c st e)) (scan-owed κ s b st (down-kind κ c st e) core)

lasts_as : (κ κ' : Kind) (s : List ℕ) (b : Ledger) → κ ≡ κ' → Lasting κ s b → Lasting κ' s b
lasts_as κ κ' s b e l = subst (λ (x : Kind). Lasting x s b) e l

pub called-keeps : (c : Call) (w : World) → InRange c → State w → State (next (called c) w)
unfolding next
called-keeps c w f sw = go (handed w.kind c w.node) refl
  where
    go : (x : Option Station) → handed w.kind c w.node ≡ x → State (after_call x c w)
    go none e = unfold after_call in sw
    go (some st) e =
        let g = handed-keeps w.kind c w.store w.ledger w.node st f sw.lasts.core sw.runs e in
        unfold after_call in record { lasts = lasts_as _ _ _ _ g.2 (lasting _ _ _ g.1 g.0.after); runs = (g.1, g.0.after, g.2) }

-- when power goes after the first n stores, what lasts holds
pub cut_keeps : (c : Call) (n : ℕ) (w : World) → InRange c → State w → State (next (cut c n) w)
unfolding next
cut_keeps c n w f sw = go (handed w.kind c w.node) refl
  where
    prefix : (rs : List Report) (e : Effect) → Reported w.store w.ledger rs e → sound e.station ≡ true → Dec (n < length e.stores)
        → Lasting e.station.kind (stored (take n e.stores) w.store) (fed (given_after n rs) w.ledger)
    prefix rs e good h (yes y) = good.before n y
    prefix rs e good h (no y) = rw (good.complete n (omega arith), take_all n e.stores (omega arith)) (lasting _ _ _ h good.after)

    go : (x : Option Station) → handed w.kind c w.node ≡ x → State (after_cut x c n w)
    go none e = unfold after_cut in sw
    go (some st) e =
        let g = handed-keeps w.kind c w.store w.ledger w.node st f sw.lasts.core sw.runs e in
        unfold after_cut in record {
          lasts = lasts_as _ _ _ _ g.2 (prefix _ (does c st w.store) g.0 g.1 (dec_lt n (length (does c st w.store).stores)));
          runs = tt;
        }

pub next-keeps : (v : Event) (w : World) → InRange (call_in v) → State w → State (next v w)
unfolding call_in
next-keeps (called c) w f sw = called-keeps c w f sw
next-keeps (cut c n) w f sw = cut_keeps c n w f sw

-- from any state
pub run-keeps : (vs : List Event) (w : World) → AllInRange vs → State w → State (run vs w)
unfolding run AllInRange
run-keeps [] w f sw = sw
run-keeps (v ∷ vs) w f sw = run-keeps vs (next v w) f.1 (next-keeps v w f.0 sw)

-- from the empty station and the zero store
module _ (κ : Kind) (φ : KindFits κ) where
  pub begin-state : State (begin κ)
  unfolding begin zeros
  begin-state = record {
    lasts = lasts_as _ _ (zeros κ φ) empty_ledger (empty-kind κ) (lasting (empty_station κ) (zeros κ φ) empty_ledger (sound_empty κ) (begin-inv κ φ));
    runs = (sound_empty κ, begin-inv κ φ, empty-kind κ);
  }

  pub history-keeps : (vs : List Event) → AllInRange vs → State (run vs (begin κ))
  history-keeps vs f = run-keeps vs (begin κ) f begin-state

  -- of the station that runs after a history
  pub running-keeps : (vs : List Event) → AllInRange vs → (st : Station) → (run vs (begin κ)).node ≡ running st
      → (sound st ≡ true) × Inv st (run vs (begin κ)).store (run vs (begin κ)).ledger
  running-keeps vs f st e =
      let r = subst (λ (k : Node Station). Running (run vs (begin κ)).kind k (run vs (begin κ)).store (run vs (begin κ)).ledger) e (history-keeps vs f).runs in
      (r.0, r.1)

  -- "A ticket is live while it has a page."
  pub drafts-correspond : (vs : List Event) → AllInRange vs → (st : Station) → (run vs (begin κ)).node ≡ running st → Correspond st (draft_in (run vs (begin κ)).ledger)
  drafts-correspond vs f st e = (running-keeps vs f st e).1.drafts

-- ── the cut rule ──
-- a world keeps its kind
pub next-kind : (v : Event) (w : World) → (next v w).kind ≡ w.kind
unfolding next
next-kind (called c) w = go (handed w.kind c w.node)
  where
    go : (x : Option Station) → (after_call x c w).kind ≡ w.kind
    go none = unfold after_call in refl
    go (some st) = unfold after_call in refl
next-kind (cut c n) w = go (handed w.kind c w.node)
  where
    go : (x : Option Station) → (after_cut x c n w).kind ≡ w.kind
    go none = unfold after_cut in refl
    go (some st) = unfold after_cut in refl

pub run-kind : (vs : List Event) (w : World) → (run vs w).kind ≡ w.kind
unfolding run
run-kind [] w = refl
run-kind (v ∷ vs) w = run-kind vs (next v w) ∙ next-kind v w

-- from any state
pub cut-rule-from : (w : World) → State w → (vs : List Event) → AllInRange vs → CutRule w.kind (run vs w).store (run vs w).ledger
cut-rule-from w sw vs f = subst (λ (x : Kind). CutRule x (run vs w).store (run vs w).ledger) (run-kind vs w) (cut-rule-of _ _ _ (run-keeps vs w f sw).lasts)

pub cut-rule : Demand3
unfolding begin
cut-rule κ φ vs f = cut-rule-from (begin κ) (begin-state κ φ) vs f
