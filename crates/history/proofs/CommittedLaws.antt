-- The transactions that stand in a store, slot by slot; and the list of standing ones.
use Prim.Native.Nat.{ℕ, zero, suc, ◌+◌, ◌-◌, ◌<◌, ◌≤◌}
use mathlib.Core.Path.{◌≡◌, refl, sym, ap, ap₂, subst, ◌∙◌, fun_ext}
use mathlib.Core.Logic.{◌≢◌, ⊎_elim}
use mathlib.Core.Bool.{Bool, true, false, cond}
use mathlib.Core.List.Memᴰ
use mathlib.Core.List.Permᴰ
use mathlib.Core.List.{List, [], ◌∷◌, ◌++◌, map, Permᴰ, Memᴰ}
use mathlib.Core.Option.{Option, some, none, none-ne-some}
use lib.Dec.{eqb}
use lib.ListN.{length, replicate}
use native.Mathlib.Nat.{lt_irrefl}
use native.Mathlib.Decide.{ℕ_discrete}
use native.Mathlib.Omega.{arith}
use borrow.Author.Tests.{eqb-true, eq-eqb, ne_eqb}
use Rattle.model.specs.declared.Id.{Id}
use Rattle.model.specs.Types.{Entry}
use Rattle.model.specs.Lists.{from, same, padded}
use Rattle.model.specs.Limits.{entry_places}
use Rattle.model.specs.Kinds.{Kind, width}
use Rattle.model.specs.Entries.{no_entry, wrote, record_of, entry_rules}
use Rattle.model.specs.Records.{value_in, record_at}
use Rattle.model.specs.Slots.{Seen, free, committed, damaged, seen}
use Rattle.model.specs.Scan.{slots_seen, entry_seen, entries_seen}
use Rattle.model.specs.Answers.{values}
use Rattle.model.proofs.SlotLaws.{rules-txn, rules-record, committed-injective, seen-frame, committed-rules}
use Rattle.history.specs.Ledger.{Committed, at, strike}
use Rattle.history.specs.CutRule.{committed_in, committed_here, committed_found, Wrote}
use Rattle.history.proofs.Invariant.{in_store}

-- ── permutations ──
pub perm-mem : {A : Type 0} {l m : List A} {x : A} → Permᴰ l m → Memᴰ x l → Memᴰ x m
perm-mem Permᴰ.nil h = h
perm-mem (Permᴰ.cons e p) h = ⊎_elim (λ q. Memᴰ.head (q ∙ e)) (λ m'. Memᴰ.tail (perm-mem p m')) (Memᴰ.cases_cons h)
perm-mem (Permᴰ.swap e f) h =
    ⊎_elim (λ q. Memᴰ.tail (Memᴰ.head (q ∙ e))) (λ m'. ⊎_elim (λ q. Memᴰ.head (q ∙ f)) (λ m''. Memᴰ.tail (Memᴰ.tail m'')) (Memᴰ.cases_cons m')) (Memᴰ.cases_cons h)
perm-mem (Permᴰ.trans p q) h = perm-mem q (perm-mem p h)

pub perm-length : {A : Type 0} {l m : List A} → Permᴰ l m → length l ≡ length m
perm-length Permᴰ.nil = refl
perm-length (Permᴰ.cons e p) = ap suc (perm-length p)
perm-length (Permᴰ.swap e f) = refl
perm-length (Permᴰ.trans p q) = perm-length p ∙ perm-length q

-- ── strike ──
strike-cons : (t : ℕ) (a b : Committed) (l m : List Committed) → a ≡ b → Permᴰ (strike t l) (strike t m) → Permᴰ (strike t (a ∷ l)) (strike t (b ∷ m))
unfolding strike
strike-cons t a b l m e p = subst (λ (x : Committed). Permᴰ (strike t (a ∷ l)) (strike t (x ∷ m))) e (go (eqb a.id.txn t))
  where
    go : (c : Bool) → Permᴰ (cond c (strike t l) (a ∷ strike t l)) (cond c (strike t m) (a ∷ strike t m))
    go true = p
    go false = Permᴰ.cons refl p

strike-swap : (t : ℕ) (a b : Committed) (l : List Committed) → Permᴰ (strike t (a ∷ b ∷ l)) (strike t (b ∷ a ∷ l))
unfolding strike
strike-swap t a b l = go (eqb a.id.txn t) (eqb b.id.txn t)
  where
    go : (c d : Bool) → Permᴰ (cond c (cond d (strike t l) (b ∷ strike t l)) (a ∷ cond d (strike t l) (b ∷ strike t l))) (cond d (cond c (strike t l) (a ∷ strike t l)) (b ∷ cond c (strike t l) (a ∷ strike t l)))
    go true true = Permᴰ.refl _
    go true false = Permᴰ.refl _
    go false true = Permᴰ.refl _
    go false false = Permᴰ.swap refl refl

pub strike-perm : (t : ℕ) {l m : List Committed} → Permᴰ l m → Permᴰ (strike t l) (strike t m)
unfolding strike
strike-perm t Permᴰ.nil = Permᴰ.nil
strike-perm t (Permᴰ.cons {a = a} {b = b} {l₁ = l} {l₂ = m} e p) = strike-cons t a b l m e (strike-perm t p)
strike-perm t (Permᴰ.swap {a = a} {b = b} {a' = c} {b' = d} {l = l} e f) =
    subst (λ (x : Committed). Permᴰ (strike t (a ∷ b ∷ l)) (strike t (x ∷ d ∷ l))) f (subst (λ (x : Committed). Permᴰ (strike t (a ∷ b ∷ l)) (strike t (b ∷ x ∷ l))) e (strike-swap t a b l))
strike-perm t (Permᴰ.trans p q) = Permᴰ.trans (strike-perm t p) (strike-perm t q)

pub strike-none : (t : ℕ) (l : List Committed) → ((j : Committed) → Memᴰ j l → j.id.txn ≢ t) → strike t l ≡ l
unfolding strike
strike-none t [] f = refl
strike-none t (j ∷ js) f = rw (ne_eqb j.id.txn t (f j (Memᴰ.head refl))) (ap (λ (x : List Committed). j ∷ x) (strike-none t js (λ i m. f i (Memᴰ.tail m))))

pub strike-head : (t : ℕ) (j : Committed) (l : List Committed) → j.id.txn ≡ t → strike t (j ∷ l) ≡ strike t l
unfolding strike
strike-head t j l e = rw (eq-eqb j.id.txn t e)

pub strike-keeps : (t : ℕ) (l : List Committed) (j : Committed) → Memᴰ j l → j.id.txn ≢ t → Memᴰ j (strike t l)
unfolding strike
strike-keeps t [] j m n = m
strike-keeps t (i ∷ is) j m n = go (eqb i.id.txn t) refl (strike-keeps t is j)
  where
    go : (c : Bool) → eqb i.id.txn t ≡ c → (Memᴰ j is → j.id.txn ≢ t → Memᴰ j (strike t is)) → Memᴰ j (strike t (i ∷ is))
    go true e ih = rw e (⊎_elim (λ q. absurd (n (ap (λ (x : Committed). x.id.txn) q ∙ eqb-true _ t e))) (λ m'. ih m' n) (Memᴰ.cases_cons m))
    go false e ih = rw e (⊎_elim (λ q. Memᴰ.head q) (λ m'. Memᴰ.tail (ih m' n)) (Memᴰ.cases_cons m))

pub strike-sub : (t : ℕ) (l : List Committed) (j : Committed) → Memᴰ j (strike t l) → Memᴰ j l
unfolding strike
strike-sub t [] j m = m
strike-sub t (i ∷ is) j m = go (eqb i.id.txn t) refl (strike-sub t is j)
  where
    go : (c : Bool) → eqb i.id.txn t ≡ c → (Memᴰ j (strike t is) → Memᴰ j is) → Memᴰ j (i ∷ is)
    go true e ih = Memᴰ.tail (ih (rw e at m))
    go false e ih = ⊎_elim (λ q. Memᴰ.head q) (λ m'. Memᴰ.tail (ih m')) (Memᴰ.cases_cons (rw e at m))

-- ── the transaction of a slot ──
unfoldable pub slot_holds : Kind → List ℕ → ℕ → List Committed
slot_holds κ s d = committed_here κ s d (entry_seen (seen κ s d))

pub holds-free : (κ : Kind) (s : List ℕ) (d : ℕ) → seen κ s d ≡ free → slot_holds κ s d ≡ []
unfolding slot_holds committed_here entry_seen
holds-free κ s d h = rw h

pub holds-damaged : (κ : Kind) (s : List ℕ) (d : ℕ) → seen κ s d ≡ damaged → slot_holds κ s d ≡ []
unfolding slot_holds committed_here entry_seen
holds-damaged κ s d h = rw h

pub holds-committed : (κ : Kind) (s : List ℕ) (d : ℕ) (e : Entry) → seen κ s d ≡ committed e → slot_holds κ s d ≡ committed_in κ s d e ∷ []
unfolding slot_holds committed_here entry_seen
holds-committed κ s d e h = rw (h, ne_eqb e.id.txn 0 (rules-txn κ e (committed-rules κ s d e h)))

pub cond-frame : {A : Type 0} (b : Bool) (x y z : A) → (b ≡ true → x ≡ y) → cond b x z ≡ cond b y z
cond-frame true x y z f = f refl
cond-frame false x y z f = refl

committed-frame : (κ : Kind) (s s' : List ℕ) (d : ℕ) (e : Entry) → entry_rules κ e ≡ true → ((n : ℕ) → n < width κ → record_at κ s' d n ≡ record_at κ s d n) → committed_in κ s' d e ≡ committed_in κ s d e
unfolding committed_in
committed-frame κ s s' d e o f = λ z. record { id = e.id; values = fun_ext values z }
  where
    values : (k : ℕ) → ◌≡◌ {A = Option ℕ} (cond (wrote e k) (some (value_in (record_at κ s' d (record_of e k)))) none) (cond (wrote e k) (some (value_in (record_at κ s d (record_of e k)))) none)
    values k = cond-frame (wrote e k) _ _ none (λ h. ap (λ (x : List ℕ). some (value_in x)) (f (record_of e k) (rules-record κ e o k h)))

pub holds_frame : (κ : Kind) (s s' : List ℕ) (d : ℕ) → ((n : ℕ) → n < width κ → record_at κ s' d n ≡ record_at κ s d n) → slot_holds κ s' d ≡ slot_holds κ s d
holds_frame κ s s' d f = go (seen κ s d) refl
  where
    same : seen κ s' d ≡ seen κ s d
    same = seen-frame κ s' s d d f

    go : (x : Seen) → seen κ s d ≡ x → slot_holds κ s' d ≡ slot_holds κ s d
    go free h = holds-free κ s' d (same ∙ h) ∙ sym (holds-free κ s d h)
    go damaged h = holds-damaged κ s' d (same ∙ h) ∙ sym (holds-damaged κ s d h)
    go (committed e) h = holds-committed κ s' d e (same ∙ h) ∙ (ap (λ (j : Committed). j ∷ []) (committed-frame κ s s' d e (committed-rules κ s d e h) f) ∙ sym (holds-committed κ s d e h))

-- ── n slots from i on ──
unfoldable pub slots_hold : Kind → List ℕ → ℕ → ℕ → List Committed
slots_hold κ s n i = committed_found κ s i (map entry_seen (from n i (seen κ s)))

pub hold-none : (κ : Kind) (s : List ℕ) (i : ℕ) → slots_hold κ s 0 i ≡ []
unfolding slots_hold from committed_found
hold-none κ s i = refl

pub hold-more : (κ : Kind) (s : List ℕ) (n i : ℕ) → slots_hold κ s (suc n) i ≡ slot_holds κ s i ++ slots_hold κ s n (suc i)
unfolding slots_hold from committed_found slot_holds
hold-more κ s n i = refl

-- unused entries after them hold none
found-unused : (κ : Kind) (s : List ℕ) (n d : ℕ) → committed_found κ s d (replicate n no_entry) ≡ []
unfolding committed_found committed_here
found-unused κ s zero d = refl
found-unused κ s (suc n) d = found-unused κ s n (suc d)

found-padded : (κ : Kind) (s : List ℕ) (n d : ℕ) (es : List Entry) → committed_found κ s d (es ++ replicate n no_entry) ≡ committed_found κ s d es
unfolding committed_found
found-padded κ s n d [] = found-unused κ s n d
found-padded κ s n d (e ∷ es) = ap (λ (js : List Committed). committed_here κ s d e ++ js) (found-padded κ s n (suc d) es)

pub in-store : (κ : Kind) (s : List ℕ) → in_store κ s ≡ slots_hold κ s κ.slots 0
unfolding in_store slots_hold slots_seen entries_seen padded
in-store κ s = found-padded κ s (entry_places - length (map entry_seen (slots_seen κ s))) 0 (map entry_seen (slots_seen κ s))

pub hold-same : (κ : Kind) (s s' : List ℕ) (n i : ℕ) → ((d : ℕ) → i ≤ d → slot_holds κ s' d ≡ slot_holds κ s d) → slots_hold κ s' n i ≡ slots_hold κ s n i
hold-same κ s s' zero i f = hold-none κ s' i ∙ sym (hold-none κ s i)
hold-same κ s s' (suc n) i f = rw (hold-more κ s' n i, hold-more κ s n i, f i (omega arith)) (ap (λ (x : List Committed). slot_holds κ s i ++ x) (hold-same κ s s' n (suc i) (λ d o. f d (omega arith))))

-- one more in slot d
pub hold-one-more : (κ : Kind) (s s' : List ℕ) (x : Committed) (d : ℕ) → slot_holds κ s d ≡ [] → slot_holds κ s' d ≡ x ∷ [] → ((c : ℕ) → c ≢ d → slot_holds κ s' c ≡ slot_holds κ s c)
    → (n i : ℕ) → i ≤ d → d < i + n → Permᴰ (slots_hold κ s' n i) (x ∷ slots_hold κ s n i)
hold-one-more κ s s' x d h h' f zero i a b = absurd (lt_irrefl i (omega arith))
hold-one-more κ s s' x d h h' f (suc n) i a b = rw (hold-more κ s' n i, hold-more κ s n i) (go (ℕ_discrete i d) (hold-one-more κ s s' x d h h' f n (suc i)))
  where
    go : Dec (i ≡ d) → (suc i ≤ d → d < suc i + n → Permᴰ (slots_hold κ s' n (suc i)) (x ∷ slots_hold κ s n (suc i)))
        → Permᴰ (slot_holds κ s' i ++ slots_hold κ s' n (suc i)) (x ∷ (slot_holds κ s i ++ slots_hold κ s n (suc i)))
    go (yes e) ih = rw (e, h, h', hold-same κ s s' n (suc d) (λ c o. f c (λ q. lt_irrefl d (omega (arith, q))))) (Permᴰ.refl _)
    go (no e) ih = rw (f i e) (Permᴰ.trans (Permᴰ.append_left (slot_holds κ s i) (ih (omega arith) (omega arith))) (Permᴰ.middle x (slot_holds κ s i) (slots_hold κ s n (suc i))))

pub hold-mem : (κ : Kind) (s : List ℕ) (x : Committed) (d : ℕ) → Memᴰ x (slot_holds κ s d) → (n i : ℕ) → i ≤ d → d < i + n → Memᴰ x (slots_hold κ s n i)
hold-mem κ s x d h zero i a b = absurd (lt_irrefl i (omega arith))
hold-mem κ s x d h (suc n) i a b = rw (hold-more κ s n i) (go (ℕ_discrete i d) (hold-mem κ s x d h n (suc i)))
  where
    go : Dec (i ≡ d) → (suc i ≤ d → d < suc i + n → Memᴰ x (slots_hold κ s n (suc i))) → Memᴰ x (slot_holds κ s i ++ slots_hold κ s n (suc i))
    go (yes e) ih = Memᴰ.append_left {s = slot_holds κ s i} (slots_hold κ s n (suc i)) (rw e h)
    go (no e) ih = Memᴰ.append_right (slot_holds κ s i) (ih (omega arith) (omega arith))

pub hold-from : (κ : Kind) (s : List ℕ) (x : Committed) (n i : ℕ) → Memᴰ x (slots_hold κ s n i) → (d : ℕ) × (d < i + n) × Memᴰ x (slot_holds κ s d)
hold-from κ s x zero i m = absurd (Memᴰ.not-nil (rw (hold-none κ s i) at m))
hold-from κ s x (suc n) i m =
    ⊎_elim (λ y. (i, omega arith, y)) (λ y. let r = hold-from κ s x n (suc i) y in (r.0, omega (arith, r.1), r.2)) (Memᴰ.append_cases (slot_holds κ s i) (rw (hold-more κ s n i) at m))

-- a transaction of a slot is there under a committed entry
slot-entry : (κ : Kind) (s : List ℕ) (x : Committed) (d : ℕ) → Memᴰ x (slot_holds κ s d) → (e : Entry) × (seen κ s d ≡ committed e) × (x ≡ committed_in κ s d e)
slot-entry κ s x d m = go (seen κ s d) refl
  where
    go : (y : Seen) → seen κ s d ≡ y → (e : Entry) × (seen κ s d ≡ committed e) × (x ≡ committed_in κ s d e)
    go free h = absurd (Memᴰ.not-nil (rw (holds-free κ s d h) at m))
    go damaged h = absurd (Memᴰ.not-nil (rw (holds-damaged κ s d h) at m))
    go (committed e) h = (e, h, Memᴰ.eq_of_singleton (rw (holds-committed κ s d e h) at m))

-- a transaction found in the store stands in a slot
pub stands-in : (κ : Kind) (s : List ℕ) (b : List Committed) → Permᴰ (in_store κ s) b → (j : Committed) → Memᴰ j b
    → (d : ℕ) × (d < κ.slots) × (e : Entry) × (seen κ s d ≡ committed e) × (j ≡ committed_in κ s d e)
stands-in κ s b p j m =
    let r = hold-from κ s j κ.slots 0 (rw (in-store κ s) at (perm-mem (Permᴰ.symm p) m)) in
    let x = slot-entry κ s j r.0 r.2 in
    (r.0, omega (arith, r.1), x.0, x.1, x.2)

pub stands : (κ : Kind) (s : List ℕ) (b : List Committed) → Permᴰ (in_store κ s) b → (d : ℕ) (e : Entry) → d < κ.slots → seen κ s d ≡ committed e → Memᴰ (committed_in κ s d e) b
stands κ s b p d e o h = perm-mem p (rw (in-store κ s) (hold-mem κ s _ d (rw (holds-committed κ s d e h) (Memᴰ.head refl)) κ.slots 0 (omega arith) (omega arith)))

-- ── what it wrote ──
cond-some : {A : Type 0} (b : Bool) (x v : A) → ◌≡◌ {A = Option A} (cond b (some x) none) (some v) → b ≡ true
cond-some true x v h = refl
cond-some false x v h = absurd (none-ne-some v h)

pub committed-wrote : (κ : Kind) (s : List ℕ) (d : ℕ) (e : Entry) (k : ℕ) → Wrote (committed_in κ s d e) k → wrote e k ≡ true
unfolding committed_in
committed-wrote κ s d e k w = cond-some _ _ w.0 w.1

pub wrote-committed : (κ : Kind) (s : List ℕ) (d : ℕ) (e : Entry) (k : ℕ) → wrote e k ≡ true → (committed_in κ s d e).values k ≡ some (value_in (record_at κ s d (record_of e k)))
unfolding committed_in
wrote-committed κ s d e k h = rw h

pub committed-id : (κ : Kind) (s : List ℕ) (d : ℕ) (e : Entry) → (committed_in κ s d e).id ≡ e.id
unfolding committed_in
committed-id κ s d e = refl

-- where numbers stand in one slot each, a standing transaction with a committed slot's number is that slot's
pub stands-once : (κ : Kind) (s : List ℕ) (b : List Committed) → Permᴰ (in_store κ s) b
    → ((d d' : ℕ) (e e' : Entry) → d < κ.slots → d' < κ.slots → seen κ s d ≡ committed e → seen κ s d' ≡ committed e' → e.id.txn ≡ e'.id.txn → d ≡ d')
    → (j : Committed) (d : ℕ) (e : Entry) → d < κ.slots → seen κ s d ≡ committed e → Memᴰ j b → j.id.txn ≡ e.id.txn → j ≡ committed_in κ s d e
stands-once κ s b p single j d e o h m et =
    let r = stands-in κ s b p j m in
    let dd : r.0 ≡ d = single r.0 d r.2 e r.1 o r.3 h (sym (ap (λ (x : Committed). x.id.txn) r.4 ∙ ap (λ (i : Id). i.txn) (committed-id κ s r.0 r.2)) ∙ et) in
    r.4 ∙ ap₂ (committed_in κ s) dd (committed-injective r.2 e (sym r.3 ∙ (ap (seen κ s) dd ∙ h)))
