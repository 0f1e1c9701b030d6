-- Laws of the searches and tests on lists (specs/Lists), over plain lists.
use Prim.Native.Nat.{ℕ, zero, suc, ◌+◌, ◌<◌, ◌≤◌, min, suc-le-suc}
use mathlib.Core.Path.{◌≡◌, refl, sym, ap, subst, ◌∙◌}
use mathlib.Core.Logic.{◌≢◌, ◌⊎◌, inl, inr, ⊎_elim}
use mathlib.Core.Bool.{Bool, true, false, true≢false, false≢true}
use mathlib.Core.List.Memᴰ
use mathlib.Core.List.{List, [], ◌∷◌, ◌++◌, map, Memᴰ}
use mathlib.Core.Option.{Option, some, none, Option-elim}
use lib.Dec.{eqb}
use lib.ListN.{length, take, drop, get_or, replicate, set, length-set, get_or-eq_default}
use lib.Seq.{get_or-set_same, get_or-set_other}
use native.Mathlib.Nat.{le_of_suc-le-suc, not-suc-le-zero, zero-lt-suc, le_refl, lt_irrefl}
use native.Mathlib.Decide.{ℕ_discrete, dec_lt}
use native.Mathlib.Omega.{arith}
use borrow.Author.Tests.{eqb-true, eq-eqb}
use Rattle.model.specs.Lists.{◌or◌, all, any, first, filter, count, from, member, least, any_below, greatest_below}
use Rattle.model.specs.Ranges.{Every}
use Rattle.model.proofs.Tests.{or_cases}

module _ {A : Type 0} where
  -- a list with one element replaced, place by place
  pub at_set : (P : ℕ → A → Type 0) (l : List A) (i : ℕ) (a d : A) → i < length l → P i a
      → ((j : ℕ) → j ≢ i → P j (get_or l j d)) → (j : ℕ) → P j (get_or (set l i a) j d)
  at_set P l i a d h pa po j = go (ℕ_discrete j i)
    where
      go : Dec (j ≡ i) → P j (get_or (set l i a) j d)
      go (yes e) = subst (λ (k : ℕ). P k (get_or (set l i a) k d)) (sym e) (subst (P i) (sym (get_or-set_same l i a d h)) pa)
      go (no n) = subst (P j) (sym (get_or-set_other l i j a d n)) (po j n)

  -- ── first ──
  pub first-yes : (p : A → Bool) (x : A) (xs : List A) → p x ≡ true → first p (x ∷ xs) ≡ 0
  unfolding first
  first-yes p x xs h = rw (h, first)

  pub first-no : (p : A → Bool) (x : A) (xs : List A) → p x ≡ false → first p (x ∷ xs) ≡ suc (first p xs)
  unfolding first
  first-no p x xs h = rw (h, first)

  pub first_finds : (p : A → Bool) (l : List A) (d : A) (j : ℕ) → p (get_or l j d) ≡ true → j < length l
      → (first p l < length l) × (p (get_or l (first p l) d) ≡ true)
  first_finds p [] d j h o = absurd (not-suc-le-zero o)
  first_finds p (x ∷ xs) d zero h o = rw (first-yes p x xs h) (zero-lt-suc _, h)
  first_finds p (x ∷ xs) d (suc j) h o = go (p x) refl (first_finds p xs d j h (le_of_suc-le-suc o))
    where
      go : (b : Bool) → p x ≡ b → (first p xs < length xs) × (p (get_or xs (first p xs) d) ≡ true)
          → (first p (x ∷ xs) < length (x ∷ xs)) × (p (get_or (x ∷ xs) (first p (x ∷ xs)) d) ≡ true)
      go true e ih = rw (first-yes p x xs e) (zero-lt-suc _, e)
      go false e ih = rw (first-no p x xs e) (suc-le-suc ih.0, ih.1)

  pub first-none : (p : A → Bool) (l : List A) (d : A) → ((j : ℕ) → j < length l → p (get_or l j d) ≡ false) → first p l ≡ length l
  unfolding first
  first-none p [] d f = refl
  first-none p (x ∷ xs) d f = first-no p x xs (f 0 (zero-lt-suc _)) ∙ ap suc (first-none p xs d (λ j o. f (suc j) (suc-le-suc o)))

  -- before the first none passes
  pub first-before : (p : A → Bool) (l : List A) (d : A) (j : ℕ) → j < first p l → p (get_or l j d) ≡ false
  unfolding first
  first-before p [] d j o = absurd (not-suc-le-zero o)
  first-before p (x ∷ xs) d zero o = go (p x) refl
    where
      go : (b : Bool) → p x ≡ b → p x ≡ false
      go true e = absurd (not-suc-le-zero (rw (first-yes p x xs e) at o))
      go false e = e
  first-before p (x ∷ xs) d (suc j) o = go (p x) refl (first-before p xs d j)
    where
      go : (b : Bool) → p x ≡ b → (j < first p xs → p (get_or xs j d) ≡ false) → p (get_or xs j d) ≡ false
      go true e ih = absurd (not-suc-le-zero (rw (first-yes p x xs e) at o))
      go false e ih = ih (le_of_suc-le-suc (rw (first-no p x xs e) at o))

  -- what is found there passes
  pub first_passes : (p : A → Bool) (l : List A) (d : A) → first p l < length l → p (get_or l (first p l) d) ≡ true
  unfolding first
  first_passes p [] d o = absurd (not-suc-le-zero o)
  first_passes p (x ∷ xs) d o = go (p x) refl (first_passes p xs d)
    where
      go : (b : Bool) → p x ≡ b → (first p xs < length xs → p (get_or xs (first p xs) d) ≡ true) → p (get_or (x ∷ xs) (first p (x ∷ xs)) d) ≡ true
      go true e ih = rw (first-yes p x xs e) e
      go false e ih = rw (first-no p x xs e) (ih (le_of_suc-le-suc (rw (first-no p x xs e) at o)))

  -- ── all ──
  pub all_head : (p : A → Bool) (x : A) (xs : List A) → all p (x ∷ xs) ≡ true → p x ≡ true
  unfolding all
  all_head p x xs h = go (p x) refl
    where
      go : (b : Bool) → p x ≡ b → p x ≡ true
      go true e = e
      go false e = absurd (false≢true (rw (e, all) at h))

  pub all_tail : (p : A → Bool) (x : A) (xs : List A) → all p (x ∷ xs) ≡ true → all p xs ≡ true
  unfolding all
  all_tail p x xs h = rw (all_head p x xs h, all) at h

  pub all_cons : (p : A → Bool) (x : A) (xs : List A) → p x ≡ true → all p xs ≡ true → all p (x ∷ xs) ≡ true
  unfolding all
  all_cons p x xs h k = rw (h, all) k

  pub all-at : (p : A → Bool) (l : List A) (d : A) → all p l ≡ true → (i : ℕ) → i < length l → p (get_or l i d) ≡ true
  all-at p [] d h i o = absurd (not-suc-le-zero o)
  all-at p (x ∷ xs) d h zero o = all_head p x xs h
  all-at p (x ∷ xs) d h (suc i) o = all-at p xs d (all_tail p x xs h) i (le_of_suc-le-suc o)

  pub all_of : (p : A → Bool) (l : List A) (d : A) → ((i : ℕ) → i < length l → p (get_or l i d) ≡ true) → all p l ≡ true
  unfolding all
  all_of p [] d f = refl
  all_of p (x ∷ xs) d f = all_cons p x xs (f 0 (zero-lt-suc _)) (all_of p xs d (λ i o. f (suc i) (suc-le-suc o)))

  pub all-mem : (p : A → Bool) (l : List A) → all p l ≡ true → (x : A) → Memᴰ x l → p x ≡ true
  all-mem p [] h x m = absurd (Memᴰ.not-nil m)
  all-mem p (y ∷ l) h x m = ⊎_elim (λ e. rw e (all_head p y l h)) (λ m'. all-mem p l (all_tail p y l h) x m') (Memᴰ.cases_cons m)

  pub all-by : (p q : A → Bool) (l : List A) → ((x : A) → Memᴰ x l → p x ≡ true → q x ≡ true) → all p l ≡ true → all q l ≡ true
  unfolding all
  all-by p q [] f h = refl
  all-by p q (x ∷ xs) f h = all_cons q x xs (f x (Memᴰ.head refl) (all_head p x xs h)) (all-by p q xs (λ y m. f y (Memᴰ.tail m)) (all_tail p x xs h))

  pub all_set : (p : A → Bool) (l : List A) (i : ℕ) (a : A) → all p l ≡ true → p a ≡ true → all p (set l i a) ≡ true
  unfolding all
  all_set p [] i a h k = refl
  all_set p (x ∷ xs) zero a h k = all_cons p a xs k (all_tail p x xs h)
  all_set p (x ∷ xs) (suc i) a h k = all_cons p x (set xs i a) (all_head p x xs h) (all_set p xs i a (all_tail p x xs h) k)

  pub all_replicate : (p : A → Bool) (n : ℕ) (a : A) → p a ≡ true → all p (replicate n a) ≡ true
  unfolding all
  all_replicate p zero a h = refl
  all_replicate p (suc n) a h = all_cons p a (replicate n a) h (all_replicate p n a h)

  pub all_drop : (p : A → Bool) (n : ℕ) (l : List A) → all p l ≡ true → all p (drop n l) ≡ true
  unfolding all
  all_drop p zero l h = h
  all_drop p (suc n) [] h = refl
  all_drop p (suc n) (x ∷ xs) h = all_drop p n xs (all_tail p x xs h)

  pub all-fails : (p : A → Bool) (l : List A) (d : A) (j : ℕ) → j < length l → p (get_or l j d) ≡ false → all p l ≡ false
  all-fails p l d j o h = go (all p l) refl
    where
      go : (b : Bool) → all p l ≡ b → all p l ≡ false
      go true e = absurd (true≢false (sym (all-at p l d e j o) ∙ h))
      go false e = e

  -- ── any ──
  pub any-finds : (p : A → Bool) (l : List A) (d : A) → any p l ≡ true → (j : ℕ) × (j < length l) × (p (get_or l j d) ≡ true)
  unfolding any
  any-finds p [] d h = absurd (false≢true h)
  any-finds p (x ∷ xs) d h = go (p x) refl (any-finds p xs d)
    where
      go : (b : Bool) → p x ≡ b → (any p xs ≡ true → (j : ℕ) × (j < length xs) × (p (get_or xs j d) ≡ true))
          → (j : ℕ) × (j < length (x ∷ xs)) × (p (get_or (x ∷ xs) j d) ≡ true)
      go true e ih = (0, zero-lt-suc _, e)
      go false e ih = let r = ih (rw (e, any) at h) in (suc r.0, suc-le-suc r.1, r.2)

  pub any-yes : (p : A → Bool) (x : A) (xs : List A) → p x ≡ true → any p (x ∷ xs) ≡ true
  unfolding any
  any-yes p x xs h = rw (h, any)

  pub any-no : (p : A → Bool) (x : A) (xs : List A) → p x ≡ false → any p (x ∷ xs) ≡ any p xs
  unfolding any
  any-no p x xs h = rw (h, any)

  pub any_at : (p : A → Bool) (l : List A) (d : A) (j : ℕ) → j < length l → p (get_or l j d) ≡ true → any p l ≡ true
  any_at p [] d j o h = absurd (not-suc-le-zero o)
  any_at p (x ∷ xs) d zero o h = any-yes p x xs h
  any_at p (x ∷ xs) d (suc j) o h = go (p x) refl (any_at p xs d j (le_of_suc-le-suc o) h)
    where
      go : (b : Bool) → p x ≡ b → any p xs ≡ true → any p (x ∷ xs) ≡ true
      go true e ih = any-yes p x xs e
      go false e ih = any-no p x xs e ∙ ih

  pub any_none : (p : A → Bool) (l : List A) → any p l ≡ false → (x : A) → Memᴰ x l → p x ≡ false
  unfolding any
  any_none p [] h x m = absurd (Memᴰ.not-nil m)
  any_none p (y ∷ l) h x m = go (p y) refl (any_none p l)
    where
      go : (b : Bool) → p y ≡ b → (any p l ≡ false → (z : A) → Memᴰ z l → p z ≡ false) → p x ≡ false
      go true e ih = absurd (true≢false (rw (e, any) at h))
      go false e ih = ⊎_elim (λ q. ap p q ∙ e) (λ m'. ih (rw (e, any) at h) x m') (Memᴰ.cases_cons m)

  pub any-none-of : (p : A → Bool) (l : List A) (d : A) → ((j : ℕ) → j < length l → p (get_or l j d) ≡ false) → any p l ≡ false
  unfolding any
  any-none-of p [] d f = refl
  any-none-of p (x ∷ xs) d f = any-no p x xs (f 0 (zero-lt-suc _)) ∙ any-none-of p xs d (λ j o. f (suc j) (suc-le-suc o))

  pub any-cons-none : (p : A → Bool) (x : A) (xs : List A) → any p (x ∷ xs) ≡ false → (p x ≡ false) × (any p xs ≡ false)
  any-cons-none p x xs h = go (p x) refl
    where
      go : (b : Bool) → p x ≡ b → (p x ≡ false) × (any p xs ≡ false)
      go true e = absurd (true≢false (sym (any-yes p x xs e) ∙ h))
      go false e = (e, sym (any-no p x xs e) ∙ h)

  -- ── count ──
  pub count_yes : (p : A → Bool) (x : A) (xs : List A) → p x ≡ true → count p (x ∷ xs) ≡ suc (count p xs)
  unfolding count
  count_yes p x xs h = rw (h, count)

  pub count_no : (p : A → Bool) (x : A) (xs : List A) → p x ≡ false → count p (x ∷ xs) ≡ count p xs
  unfolding count
  count_no p x xs h = rw (h, count)

  pub count_most : (p : A → Bool) (xs : List A) → count p xs ≤ length xs
  unfolding count
  count_most p [] = le_refl 0
  count_most p (x ∷ xs) = go (p x) refl (count_most p xs)
    where
      go : (b : Bool) → p x ≡ b → count p xs ≤ length xs → count p (x ∷ xs) ≤ suc (length xs)
      go true e ih = rw (count_yes p x xs e) (suc-le-suc ih)
      go false e ih = rw (count_no p x xs e) (omega (arith, ih))

  -- ── membership ──
  pub get_or-mem : (l : List A) (j : ℕ) (d : A) → j < length l → Memᴰ (get_or l j d) l
  get_or-mem [] j d h = absurd (not-suc-le-zero h)
  get_or-mem (x ∷ xs) zero d h = Memᴰ.head refl
  get_or-mem (x ∷ xs) (suc j) d h = Memᴰ.tail (get_or-mem xs j d (le_of_suc-le-suc h))

  pub mem-get_or : (l : List A) (x d : A) → Memᴰ x l → (j : ℕ) × (j < length l) × (get_or l j d ≡ x)
  mem-get_or [] x d m = absurd (Memᴰ.not-nil m)
  mem-get_or (y ∷ l) x d m = ⊎_elim (λ e. (0, zero-lt-suc _, sym e)) (λ m'. let r = mem-get_or l x d m' in (suc r.0, suc-le-suc r.1, r.2)) (Memᴰ.cases_cons m)

  -- an element inside does not depend on the default
  pub get_or-inside : (l : List A) (j : ℕ) (d e : A) → j < length l → get_or l j d ≡ get_or l j e
  get_or-inside [] j d e h = absurd (not-suc-le-zero h)
  get_or-inside (x ∷ xs) zero d e h = refl
  get_or-inside (x ∷ xs) (suc j) d e h = get_or-inside xs j d e (le_of_suc-le-suc h)

  pub get_or-all : (n j : ℕ) (x : A) → get_or (replicate n x) j x ≡ x
  get_or-all zero j x = refl
  get_or-all (suc n) zero x = refl
  get_or-all (suc n) (suc j) x = get_or-all n j x

-- ── what holds of the numbers passed, and of one more ──
pub below_more : (P : ℕ → Type 0) (i : ℕ) → ((j : ℕ) → j < i → P j) → P i → (j : ℕ) → j < i + 1 → P j
below_more P i f q j o = go (ℕ_discrete j i)
  where
    go : Dec (j ≡ i) → P j
    go (yes e) = subst P (sym e) q
    go (no n) = f j (omega arith)

-- ── lists that count up ──
module _ {A : Type 0} (f : ℕ → A) where
  pub from-length : (n i : ℕ) → length (from n i f) ≡ n
  unfolding from
  from-length zero i = refl
  from-length (suc n) i = ap suc (from-length n (suc i))

  pub from_at : (n i j : ℕ) (d : A) → j < n → get_or (from n i f) j d ≡ f (i + j)
  unfolding from
  from_at zero i j d o = absurd (not-suc-le-zero o)
  from_at (suc n) i zero d o = ap f (omega arith)
  from_at (suc n) i (suc j) d o = from_at n (suc i) j d (le_of_suc-le-suc o) ∙ ap f (omega arith)

-- ── member ──
pub member-yes : (t x : ℕ) (xs : List ℕ) → eqb t x ≡ true → member t (x ∷ xs) ≡ true
unfolding member
member-yes t x xs h = any-yes (eqb t) x xs h

pub member-no : (t x : ℕ) (xs : List ℕ) → eqb t x ≡ false → member t (x ∷ xs) ≡ member t xs
unfolding member
member-no t x xs h = any-no (eqb t) x xs h

pub member-cons : (t x : ℕ) (xs : List ℕ) → member t (x ∷ xs) ≡ (eqb t x or member t xs)
unfolding ◌or◌
member-cons t x xs = go (eqb t x) refl
  where
    go : (b : Bool) → eqb t x ≡ b → member t (x ∷ xs) ≡ (b or member t xs)
    go true e = member-yes t x xs e
    go false e = member-no t x xs e

pub member-finds : (t : ℕ) (l : List ℕ) → member t l ≡ true → (first (eqb t) l < length l) × (get_or l (first (eqb t) l) 0 ≡ t)
unfolding member
member-finds t l h =
    let r = any-finds (eqb t) l 0 h in
    let q = first_finds (eqb t) l 0 r.0 r.2 r.1 in
    (q.0, sym (eqb-true t _ q.1))

pub member-at : (l : List ℕ) (i : ℕ) → i < length l → member (get_or l i 0) l ≡ true
unfolding member
member-at l i h = any_at (eqb (get_or l i 0)) l 0 i h (eq-eqb (get_or l i 0) (get_or l i 0) refl)

pub member-none : (t : ℕ) (l : List ℕ) → member t l ≡ false → (i : ℕ) → i < length l → get_or l i 0 ≢ t
member-none t l h i o e = true≢false (sym (subst (λ (x : ℕ). member x l ≡ true) e (member-at l i o)) ∙ h)

-- ── the greatest below a number ──
pub greatest-below : (p : ℕ → Bool) (n : ℕ) → any_below p n ≡ true
    → (greatest_below p n < n) × (p (greatest_below p n) ≡ true) × ((m : ℕ) → m < n → greatest_below p n < m → p m ≡ false)
unfolding any_below greatest_below
greatest-below p zero h = absurd (false≢true h)
greatest-below p (suc n) h = go (p n) refl (greatest-below p n)
  where
    go : (b : Bool) → p n ≡ b → (any_below p n ≡ true → (greatest_below p n < n) × (p (greatest_below p n) ≡ true) × ((m : ℕ) → m < n → greatest_below p n < m → p m ≡ false))
        → (greatest_below p (suc n) < suc n) × (p (greatest_below p (suc n)) ≡ true) × ((m : ℕ) → m < suc n → greatest_below p (suc n) < m → p m ≡ false)
    go true e ih = rw (e, greatest_below) (omega arith, e, λ m o x. absurd (lt_irrefl n (omega arith)))
    go false e ih = rw (e, greatest_below) (below (ih (rest (or_cases _ _ h))))
      where
        rest : (p n ≡ true) ⊎ (any_below p n ≡ true) → any_below p n ≡ true
        rest (inl x) = absurd (true≢false (sym x ∙ e))
        rest (inr x) = x

        above : ((m : ℕ) → m < n → greatest_below p n < m → p m ≡ false) → (m : ℕ) → m < suc n → greatest_below p n < m → Dec (m ≡ n) → p m ≡ false
        above f m o x (yes q) = ap p q ∙ e
        above f m o x (no q) = f m (omega arith) x

        below : (greatest_below p n < n) × (p (greatest_below p n) ≡ true) × ((m : ℕ) → m < n → greatest_below p n < m → p m ≡ false)
            → (greatest_below p n < suc n) × (p (greatest_below p n) ≡ true) × ((m : ℕ) → m < suc n → greatest_below p n < m → p m ≡ false)
        below r = (omega (arith, r.0), r.1, λ m o x. above r.2 m o x (ℕ_discrete m n))

-- ── lists mapped, and tests of elements ──
module _ {A : Type 0} where
  -- all pass, and so does the default: every place passes
  pub all-everywhere : (p : A → Bool) (l : List A) (d : A) → all p l ≡ true → p d ≡ true → (i : ℕ) → p (get_or l i d) ≡ true
  all-everywhere p l d h q i = go (dec_lt i (length l))
    where
      go : Dec (i < length l) → p (get_or l i d) ≡ true
      go (yes o) = all-at p l d h i o
      go (no o) = rw (get_or-eq_default l d {n = i} (omega arith)) q

  -- some passes still, where one that does not pass is replaced
  pub any-set : (p : A → Bool) (l : List A) (i : ℕ) (a d : A) → any p l ≡ true → p (get_or l i d) ≡ false → any p (set l i a) ≡ true
  any-set p l i a d h q =
      let r = any-finds p l d h in
      let n : r.0 ≢ i = λ e. true≢false (sym r.2 ∙ (ap (λ (k : ℕ). p (get_or l k d)) e ∙ q)) in
      any_at p (set l i a) d r.0 (rw (length-set l i a) r.1) (rw (get_or-set_other l i r.0 a d n) r.2)

  module _ {B : Type 0} (f : A → B) where
    pub map_at : (l : List A) (i : ℕ) → i < length l → (y : B) (z : A) → get_or (map f l) i y ≡ f (get_or l i z)
    map_at [] i o y z = absurd (not-suc-le-zero o)
    map_at (x ∷ xs) zero o y z = refl
    map_at (x ∷ xs) (suc i) o y z = map_at xs i (le_of_suc-le-suc o) y z

    pub map-set : (l : List A) (i : ℕ) (a : A) → map f (set l i a) ≡ set (map f l) i (f a)
    map-set [] i a = refl
    map-set (x ∷ xs) zero a = refl
    map-set (x ∷ xs) (suc i) a = ap (λ (l : List B). f x ∷ l) (map-set xs i a)

    pub take-map : (n : ℕ) (l : List A) → take n (map f l) ≡ map f (take n l)
    take-map zero l = refl
    take-map (suc n) [] = refl
    take-map (suc n) (x ∷ xs) = ap (λ (l : List B). f x ∷ l) (take-map n xs)

    pub drop-map : (n : ℕ) (l : List A) → drop n (map f l) ≡ map f (drop n l)
    drop-map zero l = refl
    drop-map (suc n) [] = refl
    drop-map (suc n) (x ∷ xs) = drop-map n xs

    pub all_map : (p : A → Bool) (q : B → Bool) → ((x : A) → p x ≡ true → q (f x) ≡ true) → (l : List A) → all p l ≡ true → all q (map f l) ≡ true
    unfolding all
    all_map p q g [] h = refl
    all_map p q g (x ∷ xs) h = all_cons q (f x) (map f xs) (g x (all_head p x xs h)) (all_map p q g xs (all_tail p x xs h))

-- ── the numbers of a list's elements ──
module _ {A : Type 0} (f : A → ℕ) where
  pub map-mem : (xs : List A) (x : A) → Memᴰ x xs → Memᴰ (f x) (map f xs)
  map-mem [] x m = absurd (Memᴰ.not-nil m)
  map-mem (y ∷ ys) x m = ⊎_elim (λ e. Memᴰ.head (ap f e)) (λ r. Memᴰ.tail (map-mem ys x r)) (Memᴰ.cases_cons m)

  pub mem-map : (xs : List A) (n : ℕ) → Memᴰ n (map f xs) → (x : A) × Memᴰ x xs × (f x ≡ n)
  mem-map [] n m = absurd (Memᴰ.not-nil m)
  mem-map (y ∷ ys) n m = ⊎_elim (λ e. (y, Memᴰ.head refl, sym e)) (λ r. let x = mem-map ys n r in (x.0, Memᴰ.tail x.1, x.2)) (Memᴰ.cases_cons m)

-- ── all elements have a property (specs/Ranges) ──
module _ {A : Type 0} (P : A → Type 0) where
  pub every-at : (xs : List A) → Every P xs → (i : ℕ) (d : A) → i < length xs → P (get_or xs i d)
  every-at [] h i d o = absurd (not-suc-le-zero o)
  every-at (x ∷ xs) h zero d o = h.0
  every-at (x ∷ xs) h (suc i) d o = every-at xs h.1 i d (le_of_suc-le-suc o)

  -- and so has the default
  pub every-everywhere : (xs : List A) → Every P xs → (d : A) → P d → (i : ℕ) → P (get_or xs i d)
  every-everywhere [] h d q i = q
  every-everywhere (x ∷ xs) h d q zero = h.0
  every-everywhere (x ∷ xs) h d q (suc i) = every-everywhere xs h.1 d q i

  -- element by element
  pub every_of : (xs : List A) (d : A) → ((i : ℕ) → i < length xs → P (get_or xs i d)) → Every P xs
  every_of [] d f = tt
  every_of (x ∷ xs) d f = (f 0 (zero-lt-suc _), every_of xs d (λ i o. f (suc i) (suc-le-suc o)))

  pub every_set : (xs : List A) → Every P xs → (i : ℕ) (x : A) → P x → Every P (set xs i x)
  every_set [] h i x q = tt
  every_set (y ∷ ys) h zero x q = (q, h.1)
  every_set (y ∷ ys) h (suc i) x q = (h.0, every_set ys h.1 i x q)

  pub every_take : (n : ℕ) (xs : List A) → Every P xs → Every P (take n xs)
  every_take zero xs h = tt
  every_take (suc n) [] h = tt
  every_take (suc n) (x ∷ xs) h = (h.0, every_take n xs h.1)

  pub every_drop : (n : ℕ) (xs : List A) → Every P xs → Every P (drop n xs)
  every_drop zero xs h = h
  every_drop (suc n) [] h = tt
  every_drop (suc n) (x ∷ xs) h = every_drop n xs h.1

  pub every_append : (xs ys : List A) → Every P xs → Every P ys → Every P (xs ++ ys)
  every_append [] ys h k = k
  every_append (x ∷ xs) ys h k = (h.0, every_append xs ys h.1 k)

  pub every_first : (xs ys : List A) → Every P (xs ++ ys) → Every P xs
  every_first [] ys h = tt
  every_first (x ∷ xs) ys h = (h.0, every_first xs ys h.1)

  pub every-last : (xs ys : List A) → Every P (xs ++ ys) → Every P ys
  every-last [] ys h = h
  every-last (x ∷ xs) ys h = every-last xs ys h.1

  pub every-replicate : (n : ℕ) (x : A) → P x → Every P (replicate n x)
  every-replicate zero x q = tt
  every-replicate (suc n) x q = (q, every-replicate n x q)

  pub every-from : (f : ℕ → A) (n i : ℕ) → ((j : ℕ) → i ≤ j → j < i + n → P (f j)) → Every P (from n i f)
  unfolding from
  every-from f zero i h = tt
  every-from f (suc n) i h = (h i (omega arith) (omega arith), every-from f n (suc i) (λ j a b. h j (omega arith) (omega arith)))

  pub every_map : {B : Type 0} (f : B → A) (Q : B → Type 0) → ((x : B) → Q x → P (f x)) → (xs : List B) → Every Q xs → Every P (map f xs)
  every_map f Q g [] h = tt
  every_map f Q g (x ∷ xs) h = (g x h.0, every_map f Q g xs h.1)

-- ── what is made of those that pass ──
module _ {A B : Type 0} (p : A → Bool) (f : A → B) where
  pub kept-mem : (l : List A) (x : A) → Memᴰ x l → p x ≡ true → Memᴰ (f x) (map f (filter p l))
  unfolding filter
  kept-mem [] x m h = absurd (Memᴰ.not-nil m)
  kept-mem (y ∷ ys) x m h = go (p y) refl (kept-mem ys x)
    where
      go : (b : Bool) → p y ≡ b → (Memᴰ x ys → p x ≡ true → Memᴰ (f x) (map f (filter p ys))) → Memᴰ (f x) (map f (filter p (y ∷ ys)))
      go true e ih = rw (e, filter) (⊎_elim (λ q. Memᴰ.head (ap f q)) (λ m'. Memᴰ.tail (ih m' h)) (Memᴰ.cases_cons m))
      go false e ih = rw (e, filter) (⊎_elim (λ q. absurd (true≢false (sym h ∙ (ap p q ∙ e)))) (λ m'. ih m' h) (Memᴰ.cases_cons m))

  pub kept_from : (l : List A) (y : B) → Memᴰ y (map f (filter p l)) → (x : A) × Memᴰ x l × (p x ≡ true) × (y ≡ f x)
  unfolding filter
  kept_from [] y m = absurd (Memᴰ.not-nil m)
  kept_from (x ∷ xs) y m = go (p x) refl (kept_from xs y)
    where
      go : (b : Bool) → p x ≡ b → (Memᴰ y (map f (filter p xs)) → (z : A) × Memᴰ z xs × (p z ≡ true) × (y ≡ f z))
          → (z : A) × Memᴰ z (x ∷ xs) × (p z ≡ true) × (y ≡ f z)
      go true e ih = ⊎_elim (λ q. (x, Memᴰ.head refl, e, q)) (λ m'. let r = ih m' in (r.0, Memᴰ.tail r.1, r.2, r.3))
          (Memᴰ.cases_cons (rw (e, filter) at m))
      go false e ih = let r = ih (rw (e, filter) at m) in (r.0, Memᴰ.tail r.1, r.2, r.3)

-- ── the least of a list: one of it, and none of it is less ──
abbrev pub IsLeast : List ℕ → Option ℕ → Type 0
IsLeast ns none = (n : ℕ) → Memᴰ n ns → ⊥
IsLeast ns (some m) = Memᴰ m ns × ((n : ℕ) → Memᴰ n ns → m ≤ n)

pub least-is : (ns : List ℕ) → IsLeast ns (least ns)
unfolding least Option-elim
least-is [] = λ n m. Memᴰ.not-nil m
least-is (n ∷ ns) = go (least ns) (least-is ns)
  where
    go : (x : Option ℕ) → IsLeast ns x → IsLeast (n ∷ ns) (some (Option-elim x n (min n)))
    go none f = (Memᴰ.head refl, λ j m. ⊎_elim (λ e. omega (arith, e)) (λ m'. absurd (f j m')) (Memᴰ.cases_cons m))
    go (some x) (h, f) = (one (dec_lt n x), λ j m. ⊎_elim (λ e. omega (arith, e)) (λ m'. omega (arith, f j m')) (Memᴰ.cases_cons m))
      where
        one : Dec (n < x) → Memᴰ (min n x) (n ∷ ns)
        one (yes o) = let e : min n x ≡ n = omega arith in Memᴰ.head e
        one (no o) = let e : min n x ≡ x = omega arith in rw e (Memᴰ.tail h)
