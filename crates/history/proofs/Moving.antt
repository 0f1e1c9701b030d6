-- 02 §6: a move that is not refused carries the history over. The target has the transactions that the source has, by its slots, and what lasts of
-- store and ledger holds of it.
use Prim.Native.Nat.{ℕ, zero, suc, ◌*◌, ◌-◌, ◌<◌}
use mathlib.Core.Path.{◌≡◌, refl, sym, ap, subst, ◌∙◌, fun_ext}
use mathlib.Core.Bool.{true, cond}
use mathlib.Core.List.{List, [], ◌∷◌, ◌++◌, map}
use mathlib.Core.Option.{Option, some, none, none-ne-some}
use lib.Dec.{eqb}
use lib.ListN.{length, take, drop}
use native.Mathlib.Decide.{ℕ_discrete}
use native.Mathlib.Omega.{arith}
use borrow.Author.Tests.{eqb-true}
use Rattle.model.specs.Types.{Entry}
use Rattle.model.specs.declared.Answer.TheVariants as A
use Rattle.model.specs.Lists.{from}
use Rattle.model.specs.Limits.{record_size}
use Rattle.model.specs.Kinds.{Kind, store_size, KindFits}
use Rattle.model.specs.Answers.{refused_with}
use Rattle.model.specs.Entries.{wrote, record_of}
use Rattle.model.specs.Records.{value_in, record_at}
use Rattle.model.specs.Slots.{Seen, free, committed, damaged, seen}
use Rattle.model.specs.Effects.{Effect, says}
use Rattle.model.specs.Scan.{slots_seen, scan}
use Rattle.model.specs.Moves.{moved, move}
use Rattle.model.proofs.RefusalLaws.{cond-rule}
use Rattle.model.proofs.SlotLaws.{record_of_lem}
use Rattle.model.proofs.ScanLaws.{KeepsRules, scan-finds}
use Rattle.model.proofs.ContentLaws.{Content, content_of, contents, nth-version}
use Rattle.model.proofs.HeldLaws.{held_by}
use Rattle.model.proofs.MoveRows.{Accepts, Told, move-told, unrefused-moves}
use Rattle.model.proofs.MoveLaws.{moved-long, moved-rules, held_same, back-moved}
use Rattle.history.specs.Ledger.{Committed, Ledger, draft_of, with_drafts}
use Rattle.history.specs.Histories.{World, begin}
use Rattle.history.specs.CutRule.{committed_in, committed_found, CutRule}
use Rattle.history.specs.Moves.{carried_over, after_move, Leg, events, moves, move_cut, after_leg, go_on, LegInRange, LegsInRange, CutRuleMoved}
use Rattle.history.proofs.Invariant.{in_store, Core, Lasting}
use Rattle.history.proofs.CommittedLaws.{holds-free, holds-damaged, holds-committed, cond-frame, slot_holds, slots_hold, hold-none, hold-more, in-store}
use Rattle.history.proofs.Recovering.{cut-rule-of}
use Rattle.history.proofs.Theorem.{State, run-keeps, begin-state}

-- ── the transactions of a store, by what its slots hold ──
-- the version record n of a slot, and the transaction that the slot is
version_in : Content → ℕ → List ℕ
version_in c n = take record_size (drop (record_size * (n - 1)) c.versions)

transaction : Content → Committed
transaction c = record { id = c.entry.id; values = λ k. cond (wrote c.entry k) (some (value_in (version_in c (record_of c.entry k)))) none }

version-in : (κ : Kind) (s : List ℕ) (d : ℕ) (e : Entry) (k : ℕ) → wrote e k ≡ true → record_at κ s d (record_of e k) ≡ version_in (content_of κ s d e) (record_of e k)
unfolding version_in
version-in κ s d e k h =
    let r = record_of_lem e k h in
    let q : suc r.0 - 1 ≡ r.0 = omega arith in
    rw (r.2, q) (sym (nth-version κ s d e r.0 r.1))

transaction-of : (κ : Kind) (s : List ℕ) (d : ℕ) (e : Entry) → committed_in κ s d e ≡ transaction (content_of κ s d e)
unfolding committed_in transaction content_of
transaction-of κ s d e = λ z. record { id = e.id; values = fun_ext values z }
  where
    values : (k : ℕ) → ◌≡◌ {A = Option ℕ} (cond (wrote e k) (some (value_in (record_at κ s d (record_of e k)))) none) (cond (wrote e k) (some (value_in (version_in (content_of κ s d e) (record_of e k)))) none)
    values k = cond-frame (wrote e k) _ _ none (λ h. ap (λ (x : List ℕ). some (value_in x)) (version-in κ s d e k h))

slots-hold : (κ : Kind) (s : List ℕ) (n i : ℕ) → slots_hold κ s n i ≡ map transaction (contents κ s i (from n i (seen κ s)))
unfolding from contents
slots-hold κ s zero i = hold-none κ s i
slots-hold κ s (suc n) i = hold-more κ s n i ∙ go (seen κ s i) refl (slots-hold κ s n (suc i))
  where
    rest : List Content
    rest = contents κ s (suc i) (from n (suc i) (seen κ s))

    go : (x : Seen) → seen κ s i ≡ x → slots_hold κ s n (suc i) ≡ map transaction rest → slot_holds κ s i ++ slots_hold κ s n (suc i) ≡ map transaction (contents κ s i (x ∷ from n (suc i) (seen κ s)))
    go free h ih = rw (holds-free κ s i h) ih
    go (committed e) h ih = rw (holds-committed κ s i e h, transaction-of κ s i e) (ap (λ (js : List Committed). transaction (content_of κ s i e) ∷ js) ih)
    go damaged h ih = rw (holds-damaged κ s i h) ih

in-store-held : (κ : Kind) (s : List ℕ) → in_store κ s ≡ map transaction (held_by κ s)
unfolding slots_seen
in-store-held κ s = in-store κ s ∙ slots-hold κ s κ.slots 0

-- ── the target has the source's ──
pub same_store : (κ κ' : Kind) (s t : List ℕ) → KindFits κ' → Accepts κ κ' s t → in_store κ' (moved κ κ' s) ≡ in_store κ s
same_store κ κ' s t φ a = in-store-held κ' (moved κ κ' s) ∙ (ap (map transaction) (held_same κ κ' s t φ a) ∙ sym (in-store-held κ s))

-- what a scan finds is that
pub scan-holds : (κ : Kind) (s : List ℕ) → length s ≡ store_size κ → KeepsRules κ s → committed_found κ s 0 (scan κ s).station.entries ≡ in_store κ s
unfolding in_store says
scan-holds κ s l k = ap (λ (x : Effect). committed_found κ s 0 x.station.entries) (scan-finds κ s l k)

module _ (κ κ' : Kind) (φ' : KindFits κ') (s t : List ℕ) (n : ℕ) (h : (move κ κ' s t).answer ≡ A.Moved n) where
  told : Told κ κ' s t n (move κ κ' s t)
  told = move-told κ κ' s t n h

  -- "the committed set is the same": ids, keys and values, by the store; also of transactions stored and not yet acknowledged
  pub same-committed : committed_found κ' (move κ κ' s t).target 0 (scan κ' (move κ κ' s t).target).station.entries ≡ committed_found κ s 0 (scan κ s).station.entries
  same-committed = subst (λ (x : List ℕ). committed_found κ' x 0 (scan κ' x).station.entries ≡ committed_found κ s 0 (scan κ s).station.entries) (sym told.writes)
      (scan-holds κ' (moved κ κ' s) (moved-long κ κ' s t φ' a) (moved-rules κ κ' s t φ' a) ∙ (same_store κ κ' s t φ' a ∙ sym (scan-holds κ s a.source a.rules)))
    where
      a : Accepts κ κ' s t
      a = told.accepts

-- "Moved out and back, the committed set is the same."
pub same-out-and-back : (κ κ' : Kind) → KindFits κ → KindFits κ' → (s t : List ℕ) (n : ℕ) → (move κ κ' s t).answer ≡ A.Moved n → (t₂ : List ℕ) → length t₂ ≡ store_size κ
    → committed_found κ (move κ' κ (move κ κ' s t).target t₂).target 0 (scan κ (move κ' κ (move κ κ' s t).target t₂).target).station.entries ≡ committed_found κ s 0 (scan κ s).station.entries
same-out-and-back κ κ' φ φ' s t n h t₂ l =
    same-committed κ' κ φ (move κ κ' s t).target t₂ n (back-moved κ κ' φ' s t n h t₂ l) ∙ same-committed κ κ' φ' s t n h

-- ── what lasts ──
-- no two slots of a store that keeps the rules have one transaction
pub one-slot : (κ : Kind) (s : List ℕ) → KeepsRules κ s
    → (d d' : ℕ) (e e' : Entry) → d < κ.slots → d' < κ.slots → seen κ s d ≡ committed e → seen κ s d' ≡ committed e' → e.id.txn ≡ e'.id.txn → d ≡ d'
one-slot κ s k d d' e e' o o' x y q = go (ℕ_discrete d d')
  where
    go : Dec (d ≡ d') → d ≡ d'
    go (yes z) = z
    go (no n) = absurd (k.single d d' e e' o o' n x y q)

pub move-lasts : (κ κ' : Kind) (s t : List ℕ) (b : Ledger) → KindFits κ' → Accepts κ κ' s t → Core κ s b.standing b.past → Lasting κ' (moved κ κ' s) (with_drafts [] b)
unfolding with_drafts draft_of
move-lasts κ κ' s t b φ a core = record {
  core = record {
    fits = φ;
    size = moved-long κ κ' s t φ a;
    undamaged = λ d o e. (moved-rules κ κ' s t φ a).undamaged d o e;
    single = one-slot κ' (moved κ κ' s) (moved-rules κ κ' s t φ a);
    found = rw (same_store κ κ' s t φ a) core.found;
    kept = core.kept;
    dominated = core.dominated;
    recorded = core.recorded;
  };
  sure = λ t p e. absurd (none-ne-some p e);
}

pub move-keeps : (w : World) (κ' : Kind) (t : List ℕ) (n : ℕ) → State w → KindFits κ' → (move w.kind κ' w.store t).answer ≡ A.Moved n → State (carried_over κ' (move w.kind κ' w.store t).target w)
unfolding carried_over
move-keeps w κ' t n sw φ h =
    let r = move-told w.kind κ' w.store t n h in
    record {
      lasts = subst (λ (x : List ℕ). Lasting κ' x (with_drafts [] w.ledger)) (sym r.writes) (move-lasts w.kind κ' w.store t w.ledger φ r.accepts sw.lasts.core);
      runs = tt;
    }

-- ── the history goes on ──
pub leg-keeps : (l : Leg) (w : World) → LegInRange l → State w → State (after_leg l w)
unfolding after_leg after_move
leg-keeps (events vs) w f sw = run-keeps vs w f sw
leg-keeps (moves κ t) w f sw = cond-rule State (eqb (refused_with (move w.kind κ w.store t).answer) 0) _ w
    (λ e. let r = unrefused-moves w.kind κ w.store t (eqb-true _ 0 e) in move-keeps w κ t r.0 sw f r.1) (λ e. sw)
leg-keeps move_cut w f sw = record { lasts = sw.lasts; runs = tt }

pub legs-keep : (ls : List Leg) (w : World) → LegsInRange ls → State w → State (go_on ls w)
unfolding go_on LegsInRange
legs-keep [] w f sw = sw
legs-keep (l ∷ ls) w f sw = legs-keep ls (after_leg l w) f.1 (leg-keeps l w f.0 sw)

-- from any state
pub cut-rule-goes-on : (w : World) → State w → (ls : List Leg) → LegsInRange ls → CutRule (go_on ls w).kind (go_on ls w).store (go_on ls w).ledger
cut-rule-goes-on w sw ls f = cut-rule-of _ _ _ (legs-keep ls w f sw).lasts

pub cut-rule-moved : CutRuleMoved
cut-rule-moved κ φ ls f = cut-rule-goes-on (begin κ) (begin-state κ φ) ls f
