-- Ids are in one order: by clock, then transaction.
use Prim.Native.Nat.{◌<◌, ◌≤◌}
use mathlib.Core.Path.{◌≡◌, refl, sym, ap, ◌∙◌}
use mathlib.Core.Logic.{◌⊎◌, inl, inr, ⊎_elim}
use mathlib.Core.Bool.{Bool, true, false}
use mathlib.Core.List.Memᴰ
use mathlib.Core.List.{List, [], ◌∷◌, Memᴰ}
use native.Mathlib.Nat.{lt_irrefl}
use native.Mathlib.Decide.{ℕ_discrete, dec_lt}
use native.Mathlib.Omega.{arith}
use borrow.Author.Tests.{ltb-true, ltb-false, eqb-true, lt-ltb, le-ltb, eq-eqb}
use Rattle.model.specs.declared.Id.{Id}
use Rattle.model.specs.Lists.{◌and◌, ◌or◌}
use Rattle.model.specs.Ids.{older, same_id, no_id, newer_of, greatest}
use Rattle.model.proofs.Tests.{and_left, and_right, and_intro, and_second, or_left, or_right, or-intro-left, or-intro-right, or_cases, bool_cases}

pub older-irrefl : (i : Id) → older i i ≡ false
unfolding older ◌or◌ ◌and◌
older-irrefl i = simp (le-ltb i.clock i.clock (omega arith), le-ltb i.txn i.txn (omega arith), eq-eqb i.clock i.clock refl)

-- older: an earlier clock, or the same clock and a lower number
pub older-is : (i j : Id) → older i j ≡ true → (i.clock < j.clock) ⊎ ((i.clock ≡ j.clock) × (i.txn < j.txn))
unfolding older
older-is i j h = ⊎_elim (λ a. inl (ltb-true _ _ a)) (λ b. inr (eqb-true _ _ (and_left _ _ b), ltb-true _ _ (and_right _ _ b))) (or_cases _ _ h)

pub not-older-is : (i j : Id) → older i j ≡ false → (j.clock < i.clock) ⊎ ((j.clock ≡ i.clock) × (j.txn ≤ i.txn))
unfolding older
not-older-is i j h = go (dec_lt j.clock i.clock)
  where
    go : Dec (j.clock < i.clock) → (j.clock < i.clock) ⊎ ((j.clock ≡ i.clock) × (j.txn ≤ i.txn))
    go (yes a) = inl a
    go (no a) =
        let e : j.clock ≡ i.clock = omega (arith, ltb-false i.clock j.clock (or_left _ _ h)) in
        inr (e, ltb-false i.txn j.txn (and_second _ _ (or_right _ _ h) (eq-eqb i.clock j.clock (sym e))))

pub is-older : (i j : Id) → (i.clock < j.clock) ⊎ ((i.clock ≡ j.clock) × (i.txn < j.txn)) → older i j ≡ true
unfolding older
is-older i j (inl a) = or-intro-left _ _ (lt-ltb _ _ a)
is-older i j (inr b) = or-intro-right _ _ (and_intro _ _ (eq-eqb _ _ b.0) (lt-ltb _ _ b.1))

pub is-not-older : (i j : Id) → (j.clock < i.clock) ⊎ ((j.clock ≡ i.clock) × (j.txn ≤ i.txn)) → older i j ≡ false
is-not-older i j x = ⊎_elim (λ t. absurd (clash x (older-is i j t))) (λ f. f) (bool_cases (older i j))
  where
    clash : (j.clock < i.clock) ⊎ ((j.clock ≡ i.clock) × (j.txn ≤ i.txn)) → (i.clock < j.clock) ⊎ ((i.clock ≡ j.clock) × (i.txn < j.txn)) → ⊥
    clash (inl a) (inl b) = lt_irrefl i.clock (omega arith)
    clash (inl a) (inr b) = lt_irrefl i.clock (omega (arith, b.0))
    clash (inr a) (inl b) = lt_irrefl i.clock (omega (arith, a.0))
    clash (inr a) (inr b) = lt_irrefl i.txn (omega (arith, a.1, b.1))

pub older-asym : (i j : Id) → older i j ≡ true → older j i ≡ false
older-asym i j h = is-not-older j i (⊎_elim (λ a. inl a) (λ b. inr (b.0, omega (arith, b.1))) (older-is i j h))

pub older-trans : (i j k : Id) → older i j ≡ true → older j k ≡ true → older i k ≡ true
older-trans i j k a b = is-older i k (go (older-is i j a) (older-is j k b))
  where
    go : (i.clock < j.clock) ⊎ ((i.clock ≡ j.clock) × (i.txn < j.txn)) → (j.clock < k.clock) ⊎ ((j.clock ≡ k.clock) × (j.txn < k.txn))
        → (i.clock < k.clock) ⊎ ((i.clock ≡ k.clock) × (i.txn < k.txn))
    go (inl x) (inl y) = inl (omega arith)
    go (inl x) (inr y) = inl (omega (arith, y.0))
    go (inr x) (inl y) = inl (omega (arith, x.0))
    go (inr x) (inr y) = inr (x.0 ∙ y.0, omega (arith, x.1, y.1))

-- what is not older than an id is not older than one that is not newer
pub not-older-trans : (i j k : Id) → older i j ≡ false → older j k ≡ false → older i k ≡ false
not-older-trans i j k a b = is-not-older i k (go (not-older-is i j a) (not-older-is j k b))
  where
    go : (j.clock < i.clock) ⊎ ((j.clock ≡ i.clock) × (j.txn ≤ i.txn)) → (k.clock < j.clock) ⊎ ((k.clock ≡ j.clock) × (k.txn ≤ j.txn))
        → (k.clock < i.clock) ⊎ ((k.clock ≡ i.clock) × (k.txn ≤ i.txn))
    go (inl x) (inl y) = inl (omega arith)
    go (inl x) (inr y) = inl (omega (arith, y.0))
    go (inr x) (inl y) = inl (omega (arith, x.0))
    go (inr x) (inr y) = inr (y.0 ∙ x.0, omega (arith, x.1, y.1))

-- neither is older: they are the same
pub older-total : (i j : Id) → older i j ≡ false → older j i ≡ false → i ≡ j
older-total i j a b = go (not-older-is i j a) (not-older-is j i b)
  where
    same : i.clock ≡ j.clock → i.txn ≡ j.txn → i ≡ j
    same p q = λ z. record { clock = p z; txn = q z }

    go : (j.clock < i.clock) ⊎ ((j.clock ≡ i.clock) × (j.txn ≤ i.txn)) → (i.clock < j.clock) ⊎ ((i.clock ≡ j.clock) × (i.txn ≤ j.txn)) → i ≡ j
    go (inl x) (inl y) = absurd (lt_irrefl i.clock (omega arith))
    go (inl x) (inr y) = absurd (lt_irrefl i.clock (omega (arith, y.0)))
    go (inr x) (inl y) = absurd (lt_irrefl i.clock (omega (arith, x.0)))
    go (inr x) (inr y) = same y.0 (omega (arith, x.1, y.1))

pub same_id_lem : (i j : Id) → same_id i j ≡ true → i ≡ j
unfolding same_id
same_id_lem i j h = λ z. record { clock = eqb-true i.clock j.clock (and_left _ _ h) z; txn = eqb-true i.txn j.txn (and_right _ _ h) z }

pub id_same : (i j : Id) → i ≡ j → same_id i j ≡ true
unfolding same_id
id_same i j e = and_intro _ _ (eq-eqb i.clock j.clock (ap (λ (x : Id). x.clock) e)) (eq-eqb i.txn j.txn (ap (λ (x : Id). x.txn) e))

-- ── the greatest of a list ──
newer-left : (i j : Id) → older (newer_of i j) i ≡ false
unfolding newer_of
newer-left i j = ⊎_elim (λ t. rw t (older-asym i j t)) (λ f. rw f (older-irrefl i)) (bool_cases (older i j))

newer-right : (i j : Id) → older (newer_of i j) j ≡ false
unfolding newer_of
newer-right i j = ⊎_elim (λ t. rw t (older-irrefl j)) (λ f. rw f f) (bool_cases (older i j))

pub greatest-above : (is : List Id) (i : Id) → Memᴰ i is → older (greatest is) i ≡ false
unfolding greatest
greatest-above [] i m = absurd (Memᴰ.not-nil m)
greatest-above (j ∷ is) i m =
    ⊎_elim (λ e. rw e (newer-left j (greatest is)))
    (λ m'. not-older-trans (newer_of j (greatest is)) (greatest is) i (newer-right j (greatest is)) (greatest-above is i m'))
    (Memᴰ.cases_cons m)

-- it is no_id or one of them
pub greatest-one : (is : List Id) → (greatest is ≡ no_id) ⊎ Memᴰ (greatest is) is
unfolding greatest
greatest-one [] = inl refl
greatest-one (j ∷ is) = go (older j (greatest is)) refl (greatest-one is)
  where
    go : (b : Bool) → older j (greatest is) ≡ b → (greatest is ≡ no_id) ⊎ Memᴰ (greatest is) is → (newer_of j (greatest is) ≡ no_id) ⊎ Memᴰ (newer_of j (greatest is)) (j ∷ is)
    go true e ih = unfold newer_of in (rw e (⊎_elim (λ z. inl z) (λ m. inr (Memᴰ.tail m)) ih))
    go false e ih = unfold newer_of in (rw e (inr (Memᴰ.head refl)))

-- nothing is older than no_id
pub none-older : (i : Id) → older i no_id ≡ false
none-older i = is-not-older i no_id (go (ℕ_discrete i.clock 0))
  where
    go : Dec (i.clock ≡ 0) → (0 < i.clock) ⊎ ((0 ≡ i.clock) × (0 ≤ i.txn))
    go (yes e) = inr (sym e, omega arith)
    go (no n) = inl (omega arith)
