-- "tickets oldest id first" (specs/Exports, `by_age`): it keeps the members, each is older than the next, and no other order of them is so.
use Prim.Native.Nat.{suc}
use mathlib.Core.Path.{◌≡◌, refl, sym, ap, subst, ◌∙◌}
use mathlib.Core.Logic.{◌≢◌, ◌⊎◌, inl, inr, ⊎_elim}
use mathlib.Core.Bool.{true, false, true≢false}
use mathlib.Core.List.Memᴰ
use mathlib.Core.List.{List, [], ◌∷◌, Memᴰ}
use lib.ListN.{length}
use Rattle.model.specs.declared.Id.{Id}
use Rattle.model.specs.Ids.{older}
use Rattle.model.proofs.Tests.{and_intro, bool_cases}
use Rattle.model.proofs.IdLaws.{older-irrefl, older-asym, older-trans, older-total}
use Rattle.model.proofs.RefusalLaws.{cond-rule}
use Rattle.resp.specs.Streams.{Transaction, oldest_first}
use Rattle.resp.specs.Exports.{inserted, by_age}

-- no two have the same f
abbrev pub Apart : {B : Type 0} → (Transaction → B) → List Transaction → Type 0
Apart f [] = Unit {0}
Apart f (x ∷ xs) = ((y : Transaction) → Memᴰ y xs → f x ≢ f y) × Apart f xs

-- each is older than all after it
abbrev pub Ascends : List Transaction → Type 0
Ascends [] = Unit {0}
Ascends (x ∷ xs) = ((y : Transaction) → Memᴰ y xs → older x.id y.id ≡ true) × Ascends xs

-- of two ids one is older
pub older-other : (i j : Id) → i ≢ j → older i j ≡ false → older j i ≡ true
older-other i j n h = ⊎_elim (λ t. t) (λ f. absurd (n (older-total i j h f))) (bool_cases (older j i))

-- ── older than all after it ──
pub ascends-first : (xs : List Transaction) → Ascends xs → oldest_first xs ≡ true
unfolding oldest_first
ascends-first [] a = refl
ascends-first (x ∷ []) a = refl
ascends-first (x ∷ y ∷ xs) a = and_intro _ _ (a.0 y (Memᴰ.head refl)) (ascends-first (y ∷ xs) a.1)

-- two such lists with the same members are equal
pub ascending-same : (xs ys : List Transaction) → Ascends xs → Ascends ys
    → ((z : Transaction) → Memᴰ z xs → Memᴰ z ys) → ((z : Transaction) → Memᴰ z ys → Memᴰ z xs) → xs ≡ ys
ascending-same [] [] a b f g = refl
ascending-same [] (y ∷ ys) a b f g = absurd (Memᴰ.not-nil (g y (Memᴰ.head refl)))
ascending-same (x ∷ xs) [] a b f g = absurd (Memᴰ.not-nil (f x (Memᴰ.head refl)))
ascending-same (x ∷ xs) (y ∷ ys) a b f g = let tails : xs ≡ ys = ascending-same xs ys a.1 b.1 there back in λ i. heads i ∷ tails i
  where
    both : (x ≡ y) ⊎ Memᴰ x ys → (y ≡ x) ⊎ Memᴰ y xs → x ≡ y
    both (inl e) q = e
    both (inr m) (inl e) = sym e
    both (inr m) (inr n) = absurd (true≢false (sym (a.0 y n) ∙ older-asym y.id x.id (b.0 x m)))

    heads : x ≡ y
    heads = both (Memᴰ.cases_cons (f x (Memᴰ.head refl))) (Memᴰ.cases_cons (g y (Memᴰ.head refl)))

    -- no later one is the first
    later : (u : Transaction) (us : List Transaction) → Ascends (u ∷ us) → (z : Transaction) → Memᴰ z us → z ≢ u
    later u us c z m e = true≢false (sym (c.0 z m) ∙ (ap (λ (t : Transaction). older u.id t.id) e ∙ older-irrefl u.id))

    there : (z : Transaction) → Memᴰ z xs → Memᴰ z ys
    there z m = ⊎_elim (λ e. absurd (later x xs a z m (e ∙ sym heads))) (λ n. n) (Memᴰ.cases_cons (f z (Memᴰ.tail m)))

    back : (z : Transaction) → Memᴰ z ys → Memᴰ z xs
    back z m = ⊎_elim (λ e. absurd (later y ys b z m (e ∙ heads))) (λ n. n) (Memᴰ.cases_cons (g z (Memᴰ.tail m)))

-- ── one more put in its place ──
inserted-rule : (x y : Transaction) (ys : List Transaction) (P : List Transaction → Type 0)
    → (older x.id y.id ≡ true → P (x ∷ y ∷ ys)) → (older x.id y.id ≡ false → P (y ∷ inserted x ys)) → P (inserted x (y ∷ ys))
unfolding inserted
inserted-rule x y ys P f g = cond-rule P (older x.id y.id) (x ∷ y ∷ ys) (y ∷ inserted x ys) f g

inserted-mem : (x : Transaction) (ys : List Transaction) (z : Transaction) → Memᴰ z (inserted x ys) → (z ≡ x) ⊎ Memᴰ z ys
unfolding inserted
inserted-mem x [] z m = Memᴰ.cases_cons m
inserted-mem x (y ∷ ys) z m = inserted-rule x y ys (λ l. Memᴰ z l → (z ≡ x) ⊎ Memᴰ z (y ∷ ys)) (λ h n. Memᴰ.cases_cons n)
    (λ h n. ⊎_elim (λ e. inr (Memᴰ.head e)) (λ o. ⊎_elim (λ e. inl e) (λ p. inr (Memᴰ.tail p)) (inserted-mem x ys z o)) (Memᴰ.cases_cons n)) m

inserted-here : (x : Transaction) (ys : List Transaction) (z : Transaction) → z ≡ x → Memᴰ z (inserted x ys)
unfolding inserted
inserted-here x [] z e = Memᴰ.head e
inserted-here x (y ∷ ys) z e = inserted-rule x y ys (Memᴰ z) (λ h. Memᴰ.head e) (λ h. Memᴰ.tail (inserted-here x ys z e))

mem-inserted : (x : Transaction) (ys : List Transaction) (z : Transaction) → Memᴰ z ys → Memᴰ z (inserted x ys)
mem-inserted x [] z m = absurd (Memᴰ.not-nil m)
mem-inserted x (y ∷ ys) z m = inserted-rule x y ys (Memᴰ z) (λ h. Memᴰ.tail m)
    (λ h. ⊎_elim (λ e. Memᴰ.head e) (λ n. Memᴰ.tail (mem-inserted x ys z n)) (Memᴰ.cases_cons m))

inserted-length : (x : Transaction) (ys : List Transaction) → length (inserted x ys) ≡ suc (length ys)
unfolding inserted
inserted-length x [] = refl
inserted-length x (y ∷ ys) = inserted-rule x y ys (λ l. length l ≡ suc (suc (length ys))) (λ h. refl) (λ h. ap suc (inserted-length x ys))

inserted-apart : {B : Type 0} (f : Transaction → B) (x : Transaction) (ys : List Transaction) → Apart f (x ∷ ys) → Apart f (inserted x ys)
unfolding inserted
inserted-apart f x [] a = a
inserted-apart f x (y ∷ ys) a = inserted-rule x y ys (Apart f) (λ h. a)
    (λ h. (
      λ z m. ⊎_elim (λ e q. a.0 y (Memᴰ.head refl) (sym (q ∙ ap f e))) (λ n. a.1.0 z n) (inserted-mem x ys z m),
      inserted-apart f x ys (λ z m. a.0 z (Memᴰ.tail m), a.1.1),
    ))

inserted-ascends : (x : Transaction) (ys : List Transaction) → ((y : Transaction) → Memᴰ y ys → x.id ≢ y.id) → Ascends ys → Ascends (inserted x ys)
unfolding inserted
inserted-ascends x [] n a = (λ y m. absurd (Memᴰ.not-nil m), tt)
inserted-ascends x (y ∷ ys) n a = inserted-rule x y ys Ascends
    (λ h. (λ z m. before h z (Memᴰ.cases_cons m), a))
    (λ h. (λ z m. behind h z (inserted-mem x ys z m), inserted-ascends x ys (λ z m. n z (Memᴰ.tail m)) a.1))
  where
    before : older x.id y.id ≡ true → (z : Transaction) → (z ≡ y) ⊎ Memᴰ z ys → older x.id z.id ≡ true
    before h z (inl e) = subst (λ (t : Transaction). older x.id t.id ≡ true) (sym e) h
    before h z (inr m) = older-trans x.id y.id z.id h (a.0 z m)

    behind : older x.id y.id ≡ false → (z : Transaction) → (z ≡ x) ⊎ Memᴰ z ys → older y.id z.id ≡ true
    behind h z (inl e) = subst (λ (t : Transaction). older y.id t.id ≡ true) (sym e) (older-other x.id y.id (n y (Memᴰ.head refl)) h)
    behind h z (inr m) = a.0 z m

-- ── all in their places ──
pub aged-mem : (xs : List Transaction) (z : Transaction) → Memᴰ z (by_age xs) → Memᴰ z xs
unfolding by_age
aged-mem [] z m = m
aged-mem (x ∷ xs) z m = ⊎_elim (λ e. Memᴰ.head e) (λ n. Memᴰ.tail (aged-mem xs z n)) (inserted-mem x (by_age xs) z m)

pub mem-aged : (xs : List Transaction) (z : Transaction) → Memᴰ z xs → Memᴰ z (by_age xs)
unfolding by_age
mem-aged [] z m = m
mem-aged (x ∷ xs) z m = ⊎_elim (λ e. inserted-here x (by_age xs) z e) (λ n. mem-inserted x (by_age xs) z (mem-aged xs z n)) (Memᴰ.cases_cons m)

pub aged-length : (xs : List Transaction) → length (by_age xs) ≡ length xs
unfolding by_age
aged-length [] = refl
aged-length (x ∷ xs) = inserted-length x (by_age xs) ∙ ap suc (aged-length xs)

pub aged-apart : {B : Type 0} (f : Transaction → B) (xs : List Transaction) → Apart f xs → Apart f (by_age xs)
unfolding by_age
aged-apart f [] a = tt
aged-apart f (x ∷ xs) a = inserted-apart f x (by_age xs) (λ y m. a.0 y (aged-mem xs y m), aged-apart f xs a.1)

-- with different ids each is older than all after it
pub aged-ascends : (xs : List Transaction) → Apart (λ (x : Transaction). x.id) xs → Ascends (by_age xs)
unfolding by_age
aged-ascends [] a = tt
aged-ascends (x ∷ xs) a = inserted-ascends x (by_age xs) (λ y m. a.0 y (aged-mem xs y m)) (aged-ascends xs a.1)

pub aged-first : (xs : List Transaction) → Apart (λ (x : Transaction). x.id) xs → oldest_first (by_age xs) ≡ true
aged-first xs a = ascends-first (by_age xs) (aged-ascends xs a)
