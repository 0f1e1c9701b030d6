-- Laws of a list in which no number but 0 stands twice: what a count of a number tells, and what a table of the lowest bytes seen.
use Prim.Native.Nat.{ℕ, zero, suc, ◌+◌, ◌-◌, ◌%◌, ◌<◌, ◌≤◌}
use mathlib.Core.Path.{◌≡◌, refl, sym, ap, subst, ◌∙◌}
use mathlib.Core.Logic.{◌≢◌, ◌⊎◌, inl, inr}
use mathlib.Core.Bool.{Bool, true, false, true≢false}
use mathlib.Core.List.{List, [], ◌∷◌}
use lib.Dec.{eqb, leb}
use lib.ListN.{length, drop, get_or, set}
use lib.Seq.{drop-drop, get_or-set_same}
use native.Mathlib.Nat.{lt_irrefl}
use native.Mathlib.Decide.{ℕ_discrete, dec_lt}
use native.Mathlib.Omega.{arith}
use borrow.Author.Tests.{eqb-true, leb-false, le-leb, eq-eqb, ne_eqb}
use Rattle.model.specs.Lists.{◌or◌, any, count, member, distinct}
use Rattle.model.proofs.Tests.{bool_cases}
use Rattle.model.proofs.ListLaws.{at_set, any-yes, any-no, count_yes, count_no}
use Rattle.model.proofs.DistinctLaws.{distinct_tail, distinct_of}
use Rattle.model.proofs.RestLaws.{count-more}

-- ── a number that is counted more than once stands twice ──
module _ {A : Type 0} (p : A → Bool) where
  any-counted : (xs : List A) → any p xs ≡ leb 1 (count p xs)
  unfolding any count
  any-counted [] = refl
  any-counted (x ∷ xs) = go (bool_cases (p x)) (any-counted xs)
    where
      go : (p x ≡ true) ⊎ (p x ≡ false) → any p xs ≡ leb 1 (count p xs) → any p (x ∷ xs) ≡ leb 1 (count p (x ∷ xs))
      go (inl e) ih = any-yes p x xs e ∙ sym (le-leb 1 (count p (x ∷ xs)) (omega (arith, count_yes p x xs e)))
      go (inr e) ih = any-no p x xs e ∙ ih ∙ ap (leb 1) (sym (count_no p x xs e))

  count-drop : (i : ℕ) (xs : List A) → count p (drop i xs) ≤ count p xs
  count-drop zero xs = omega arith
  count-drop (suc i) [] = omega arith
  count-drop (suc i) (x ∷ xs) = go (bool_cases (p x)) (count-drop i xs)
    where
      go : (p x ≡ true) ⊎ (p x ≡ false) → count p (drop i xs) ≤ count p xs → count p (drop i xs) ≤ count p (x ∷ xs)
      go (inl e) ih = omega (arith, ih, count_yes p x xs e)
      go (inr e) ih = omega (arith, ih, count_no p x xs e)

  -- two places count two
  count-two : (xs : List A) (d : A) (j i : ℕ) → j < i → i < length xs → p (get_or xs j d) ≡ true → p (get_or xs i d) ≡ true → 1 < count p xs
  count-two xs d j i o h e f =
      let k : j + 1 + (i - (j + 1)) ≡ i = omega arith in
      let m : count p (drop i xs) ≤ count p (drop (j + 1) xs) = rw (drop-drop, k) at (count-drop (i - (j + 1)) (drop (j + 1) xs)) in
      omega (arith, count-drop j xs, count-more p xs j d (omega arith) e, count-more p xs i d h f)

distinct-old : (x : ℕ) (xs : List ℕ) → x ≢ 0 → member x xs ≡ true → distinct (x ∷ xs) ≡ false
unfolding distinct ◌or◌
distinct-old x xs n e = rw (ne_eqb x 0 n, e, distinct)

-- where no number but 0 stands twice, each stands once at most
once-count : (x : ℕ) (xs : List ℕ) → x ≢ 0 → distinct xs ≡ true → count (eqb x) xs ≤ 1
unfolding count member
once-count x [] n h = omega arith
once-count x (y ∷ ys) n h = go (bool_cases (eqb x y)) (bool_cases (member x ys)) (once-count x ys n (distinct_tail y ys h))
  where
    go : (eqb x y ≡ true) ⊎ (eqb x y ≡ false) → (member x ys ≡ true) ⊎ (member x ys ≡ false) → count (eqb x) ys ≤ 1 → count (eqb x) (y ∷ ys) ≤ 1
    go (inr e) m ih = omega (arith, ih, count_no (eqb x) y ys e)
    go (inl e) (inr m) ih = omega (arith, count_yes (eqb x) y ys e, leb-false 1 (count (eqb x) ys) (sym (any-counted (eqb x) ys) ∙ m))
    go (inl e) (inl m) ih =
        let q : x ≡ y = eqb-true x y e in
        absurd (true≢false (sym h ∙ distinct-old y ys (λ z. n (q ∙ z)) (subst (λ (k : ℕ). member k ys ≡ true) q m)))

pub distinct-twice : (x : ℕ) (xs : List ℕ) → x ≢ 0 → 1 < count (eqb x) xs → distinct xs ≡ false
distinct-twice x xs n c = go (bool_cases (distinct xs))
  where
    go : (distinct xs ≡ true) ⊎ (distinct xs ≡ false) → distinct xs ≡ false
    go (inl e) = absurd (lt_irrefl 1 (omega (arith, c, once-count x xs n e)))
    go (inr e) = e

-- ── numbers one by one, with a table of the lowest bytes seen ──
-- no place before i has its number
abbrev pub New : List ℕ → ℕ → Type 0
New xs i = (j : ℕ) → j < i → get_or xs i 0 ≢ 0 → get_or xs j 0 ≢ get_or xs i 0

abbrev pub Seen : List ℕ → List Bool → ℕ → Type 0
Seen xs seen i = get_or xs i 0 ≢ 0 → get_or seen (get_or xs i 0 % 256) false ≡ true

-- the numbers before place n are new, and seen
unfoldable pub Passed : List ℕ → List Bool → ℕ → Type 0
Passed xs seen n = (i : ℕ) → i < n → New xs i × Seen xs seen i

module _ (xs : List ℕ) (seen : List Bool) where
  pub passed_none : Passed xs seen 0
  unfolding Passed
  passed_none i h = absurd (lt_irrefl 0 (omega arith))

  pub passed-all : (n : ℕ) → length xs ≤ n → Passed xs seen n → distinct xs ≡ true
  unfolding Passed
  passed-all n l p = distinct_of xs (λ i j a b e z. go i j a b e z (dec_lt i j) (dec_lt j i))
    where
      go : (i j : ℕ) → i < length xs → j < length xs → get_or xs i 0 ≡ get_or xs j 0 → get_or xs i 0 ≢ 0 → Dec (i < j) → Dec (j < i) → i ≡ j
      go i j a b e z (yes o) u = absurd ((p j (omega arith)).0 i o (λ q. z (e ∙ q)) e)
      go i j a b e z (no o) (yes u) = absurd ((p i (omega arith)).0 j u z (sym e))
      go i j a b e z (no o) (no u) = omega arith

module _ (xs : List ℕ) (seen : List Bool) (n : ℕ) (p : Passed xs seen n) where
  -- a number is new where its byte was not seen, and where it is counted once
  pub new-byte : get_or seen (get_or xs n 0 % 256) false ≡ false → New xs n
  unfolding Passed
  new-byte h j o z e = true≢false (sym ((p j o).1 (λ q. z (sym e ∙ q))) ∙ ap (λ (x : ℕ). get_or seen (x % 256) false) e ∙ h)

  pub new-count : n < length xs → count (eqb (get_or xs n 0)) xs ≤ 1 → New xs n
  new-count h c j o z e =
      let x : ℕ = get_or xs n 0 in
      lt_irrefl 1 (omega (arith, c, count-two (eqb x) xs 0 j n o h (eq-eqb x (get_or xs j 0) (sym e)) (eq-eqb x x refl)))

  passed-one : (t : List Bool) → ((k : ℕ) → get_or seen k false ≡ true → get_or t k false ≡ true) → New xs n → Seen xs t n → Passed xs t (n + 1)
  unfolding Passed
  passed-one t kept new s i o = go (ℕ_discrete i n)
    where
      go : Dec (i ≡ n) → New xs i × Seen xs t i
      go (yes e) = subst (λ (k : ℕ). New xs k × Seen xs t k) (sym e) (new, s)
      go (no m) = let r : New xs i × Seen xs seen i = p i (omega arith) in (r.0, λ z. kept (get_or xs i 0 % 256) (r.1 z))

  pub passed-zero : get_or xs n 0 ≡ 0 → Passed xs seen (n + 1)
  passed-zero e = passed-one seen (λ k h. h) (λ j o z. absurd (z e)) (λ z. absurd (z e))

  pub passed-more : get_or xs n 0 % 256 < length seen → New xs n → Passed xs (set seen (get_or xs n 0 % 256) true) (n + 1)
  passed-more h new =
      let b : ℕ = get_or xs n 0 % 256 in
      passed-one (set seen b true)
      (λ k e. at_set (λ j v. get_or seen j false ≡ true → v ≡ true) seen b true false h (λ q. refl) (λ j m q. q) k e)
      new
      (λ z. get_or-set_same seen b true false h)
