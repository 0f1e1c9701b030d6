-- Laws of `distinct` (specs/Lists): no number but 0 stands twice.
use Prim.Native.Nat.{ℕ, zero, suc, ◌+◌, ◌-◌, ◌<◌, suc-le-suc}
use mathlib.Core.Path.{◌≡◌, refl, sym, ap, ◌∙◌}
use mathlib.Core.Logic.{◌≢◌, ◌⊎◌, inl, inr, ⊎_elim}
use mathlib.Core.Bool.{Bool, true, false, not, true≢false, false≢true}
use mathlib.Core.List.{List, [], ◌∷◌, ◌++◌}
use lib.Dec.{eqb}
use lib.ListN.{length, get_or, set, get_or-eq_default, get_or-append}
use lib.Seq.{get_or-append-add, set_out, get_or-set_same, get_or-set_other}
use native.Mathlib.Nat.{le_of_suc-le-suc, not-suc-le-zero, zero-lt-suc, lt_irrefl}
use native.Mathlib.Decide.{ℕ_discrete, dec_lt}
use native.Mathlib.Omega.{arith}
use borrow.Author.Tests.{eqb-false, not-false, ne_eqb}
use Rattle.model.specs.Lists.{◌or◌, first, member, distinct, same}
use Rattle.model.proofs.Tests.{or_left, or_right, or-intro-right, not_of_false}
use Rattle.model.proofs.ListLaws.{member-finds, member-at, member-none}

distinct_head : (x : ℕ) (xs : List ℕ) → distinct (x ∷ xs) ≡ true → (eqb x 0 or not (member x xs)) ≡ true
unfolding distinct
distinct_head x xs h = go (eqb x 0 or not (member x xs)) refl
  where
    go : (b : Bool) → (eqb x 0 or not (member x xs)) ≡ b → (eqb x 0 or not (member x xs)) ≡ true
    go true e = e
    go false e = absurd (false≢true (rw (e, distinct) at h))

pub distinct_tail : (x : ℕ) (xs : List ℕ) → distinct (x ∷ xs) ≡ true → distinct xs ≡ true
unfolding distinct
distinct_tail x xs h = rw (distinct_head x xs h, distinct) at h

distinct-out : (x : ℕ) (xs : List ℕ) (j : ℕ) → distinct (x ∷ xs) ≡ true → j < length xs → x ≡ get_or xs j 0 → x ≢ 0 → ⊥
unfolding ◌or◌
distinct-out x xs j h o e n = true≢false (sym (rw (ne_eqb x 0 n, rw (← e) at (member-at xs j o)) at (distinct_head x xs h)))

-- equal numbers other than 0 stand at one place
pub distinct-at : (l : List ℕ) → distinct l ≡ true → (i j : ℕ) → i < length l → j < length l → get_or l i 0 ≡ get_or l j 0 → get_or l i 0 ≢ 0 → i ≡ j
distinct-at [] h i j oi oj e n = absurd (not-suc-le-zero oi)
distinct-at (x ∷ xs) h zero zero oi oj e n = refl
distinct-at (x ∷ xs) h zero (suc j) oi oj e n = absurd (distinct-out x xs j h (le_of_suc-le-suc oj) e n)
distinct-at (x ∷ xs) h (suc i) zero oi oj e n = absurd (distinct-out x xs i h (le_of_suc-le-suc oi) (sym e) (λ z. n (e ∙ z)))
distinct-at (x ∷ xs) h (suc i) (suc j) oi oj e n = ap suc (distinct-at xs (distinct_tail x xs h) i j (le_of_suc-le-suc oi) (le_of_suc-le-suc oj) e n)

-- a number that the others have not
pub distinct_cons : (x : ℕ) (xs : List ℕ) → member x xs ≡ false → distinct xs ≡ true → distinct (x ∷ xs) ≡ true
unfolding distinct
distinct_cons x xs h k = rw (or-intro-right (eqb x 0) _ (not_of_false _ h), distinct) k

-- and a list in which they do is distinct
pub distinct_of : (l : List ℕ) → ((i j : ℕ) → i < length l → j < length l → get_or l i 0 ≡ get_or l j 0 → get_or l i 0 ≢ 0 → i ≡ j) → distinct l ≡ true
unfolding distinct
distinct_of [] f = refl
distinct_of (x ∷ xs) f = go (eqb x 0 or not (member x xs)) refl (distinct_of xs (λ i j oi oj e n. inj (f (suc i) (suc j) (suc-le-suc oi) (suc-le-suc oj) e n)))
  where
    inj : {i j : ℕ} → suc i ≡ suc j → i ≡ j
    inj e = omega arith

    clash : (eqb x 0 or not (member x xs)) ≡ false → ⊥
    clash e =
        let m : member x xs ≡ true = not-false _ (or_right _ _ e) in
        let r = member-finds x xs m in
        let z : 0 ≡ suc (first (eqb x) xs) = f 0 (suc (first (eqb x) xs)) (zero-lt-suc _) (suc-le-suc r.0) (sym r.1) (eqb-false x 0 (or_left _ _ e)) in
        omega arith

    go : (b : Bool) → (eqb x 0 or not (member x xs)) ≡ b → distinct xs ≡ true → distinct (x ∷ xs) ≡ true
    go true e ih = rw (e, distinct) ih
    go false e ih = absurd (clash e)

-- ── lists of numbers in which no number but 0 stands twice ──
-- equal numbers other than 0 stand at one place
abbrev pub Once : (ℕ → ℕ) → Type 0
Once f = (i j : ℕ) → f i ≡ f j → f i ≢ 0 → i ≡ j

pub once_by : (f g : ℕ → ℕ) → ((i : ℕ) → f i ≡ g i) → Once f → Once g
once_by f g e o i j q n = o i j (e i ∙ (q ∙ sym (e j))) (λ z. n (sym (e i) ∙ z))

-- f with another number at k, which nothing else has unless it is 0
pub once-set : (f g : ℕ → ℕ) (k : ℕ) → ((j : ℕ) → j ≢ k → g j ≡ f j) → Once f → ((j : ℕ) → j ≢ k → g k ≢ 0 → f j ≢ g k) → Once g
once-set f g k same o new i j e n = go (ℕ_discrete i k) (ℕ_discrete j k)
  where
    go : Dec (i ≡ k) → Dec (j ≡ k) → i ≡ j
    go (yes a) (yes b) = a ∙ sym b
    go (yes a) (no b) = absurd (new j b (λ z. n (ap g a ∙ z)) (sym (same j b) ∙ (sym e ∙ ap g a)))
    go (no a) (yes b) = absurd (new i a (λ z. n (e ∙ (ap g b ∙ z))) (sym (same i a) ∙ (e ∙ ap g b)))
    go (no a) (no b) = o i j (sym (same i a) ∙ (e ∙ same j b)) (λ z. n (same i a ∙ z))

-- a number other than 0 stands inside
pub number-inside : (l : List ℕ) (i : ℕ) → get_or l i 0 ≢ 0 → i < length l
number-inside l i n = go (dec_lt i (length l))
  where
    go : Dec (i < length l) → i < length l
    go (yes y) = y
    go (no y) = absurd (n (get_or-eq_default l 0 {n = i} (omega arith)))

pub once-at : (l : List ℕ) → distinct l ≡ true → Once (λ i. get_or l i 0)
once-at l h i j e n = distinct-at l h i j (number-inside l i n) (number-inside l j (λ z. n (e ∙ z))) e n

pub once-of : (l : List ℕ) → Once (λ i. get_or l i 0) → distinct l ≡ true
once-of l f = distinct_of l (λ i j oi oj e n. f i j e n)

-- another number set at k, which no other place has unless it is 0
pub distinct-set : (l : List ℕ) (k x : ℕ) → distinct l ≡ true → ((j : ℕ) → j ≢ k → x ≢ 0 → get_or l j 0 ≢ x) → distinct (set l k x) ≡ true
distinct-set l k x h new = go (dec_lt k (length l))
  where
    go : Dec (k < length l) → distinct (set l k x) ≡ true
    go (yes o) = once-of (set l k x) (once-set (λ j. get_or l j 0) (λ j. get_or (set l k x) j 0) k (λ j n. get_or-set_other l k j x 0 n) (once-at l h) (rw (get_or-set_same l k x 0 o) new))
    go (no o) = rw (set_out l k x (omega arith)) h

-- a number other than 0 that is no member stands nowhere
pub member-never : (t : ℕ) (l : List ℕ) → member t l ≡ false → t ≢ 0 → (i : ℕ) → get_or l i 0 ≢ t
member-never t l h n i e = member-none t l h i (number-inside l i (λ z. n (sym e ∙ z))) e

-- two lists, one after the other
module _ (xs ys : List ℕ) where
  left_at : (i : ℕ) → get_or xs i 0 ≢ 0 → get_or (xs ++ ys) i 0 ≡ get_or xs i 0
  left_at i n = get_or-append xs ys 0 i (number-inside xs i n)

  right-at : (j : ℕ) → get_or (xs ++ ys) (length xs + j) 0 ≡ get_or ys j 0
  right-at j = get_or-append-add xs ys j 0

  pub once-left : distinct (xs ++ ys) ≡ true → Once (λ i. get_or xs i 0)
  once-left h i j e n = once-at (xs ++ ys) h i j (left_at i n ∙ (e ∙ sym (left_at j (λ z. n (e ∙ z))))) (λ z. n (sym (left_at i n) ∙ z))

  pub once-right : distinct (xs ++ ys) ≡ true → Once (λ i. get_or ys i 0)
  once-right h i j e n =
      let q : length xs + i ≡ length xs + j = once-at (xs ++ ys) h (length xs + i) (length xs + j) (right-at i ∙ (e ∙ sym (right-at j))) (λ z. n (sym (right-at i) ∙ z)) in
      omega (arith, q)

  pub once-apart : distinct (xs ++ ys) ≡ true → (i j : ℕ) → get_or xs i 0 ≢ 0 → get_or xs i 0 ≢ get_or ys j 0
  once-apart h i j n e =
      let q : i ≡ length xs + j = once-at (xs ++ ys) h i (length xs + j) (left_at i n ∙ (e ∙ sym (right-at j))) (λ z. n (sym (left_at i n) ∙ z)) in
      let o : i < length xs = number-inside xs i n in
      lt_irrefl i (omega (arith, q, o))

  -- place i of the two is one of the first or one of the second
  side : (i : ℕ) → ((i < length xs) × (get_or (xs ++ ys) i 0 ≡ get_or xs i 0)) ⊎ ((k : ℕ) × (i ≡ length xs + k) × (get_or (xs ++ ys) i 0 ≡ get_or ys k 0))
  side i = go (dec_lt i (length xs))
    where
      go : Dec (i < length xs) → ((i < length xs) × (get_or (xs ++ ys) i 0 ≡ get_or xs i 0)) ⊎ ((k : ℕ) × (i ≡ length xs + k) × (get_or (xs ++ ys) i 0 ≡ get_or ys k 0))
      go (yes o) = inl (o, get_or-append xs ys 0 i o)
      go (no o) =
          let e : i ≡ length xs + (i - length xs) = omega arith in
          inr (i - length xs, e, ap (λ (k : ℕ). get_or (xs ++ ys) k 0) e ∙ right-at (i - length xs))

  pub distinct_append : Once (λ i. get_or xs i 0) → Once (λ i. get_or ys i 0) → ((i j : ℕ) → get_or xs i 0 ≢ 0 → get_or xs i 0 ≢ get_or ys j 0) → distinct (xs ++ ys) ≡ true
  distinct_append ox oy ap' = once-of (xs ++ ys) (λ i j e n.
      ⊎_elim
      (λ a. ⊎_elim
      (λ b. ox i j (sym a.1 ∙ (e ∙ b.1)) (λ z. n (a.1 ∙ z)))
      (λ b. absurd (ap' i b.0 (λ z. n (a.1 ∙ z)) (sym a.1 ∙ (e ∙ b.2))))
      (side j))
      (λ a. ⊎_elim
      (λ b. absurd (ap' j a.0 (λ z. n (e ∙ (b.1 ∙ z))) (sym b.1 ∙ (sym e ∙ a.2))))
      (λ b. a.1 ∙ (ap (λ (k : ℕ). length xs + k) (oy a.0 b.0 (sym a.2 ∙ (e ∙ b.2)) (λ z. n (a.2 ∙ z))) ∙ sym b.1))
      (side j))
      (side i))
