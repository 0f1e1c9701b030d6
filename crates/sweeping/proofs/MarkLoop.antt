-- Loops that mark more and more: over rows, and for one element of a list after the other.
use Prim.Native.Nat.{ℕ, zero, suc, ◌+◌, ◌<◌, ◌≤◌}
use mathlib.Core.Path.{◌≡◌, refl, sym, ap, ◌∙◌}
use mathlib.Core.Bool.{Bool, true, false}
use mathlib.Core.List.{List, [], ◌∷◌}
use lib.ListN.{length, take, get_or, set, length-set}
use lib.Seq.{take_all}
use native.Mathlib.Nat.{not-suc-le-zero, lt_irrefl}
use native.Mathlib.Numerals.{add-one}
use native.Mathlib.Omega.{arith}
use Rattle.model.specs.Lists.{◌or◌, any}
use Rattle.model.proofs.Tests.{or-intro-right, or-false, or_assoc}
use Rattle.model.proofs.ListLaws.{at_set, any-yes, any-no}
use Rattle.reading.proofs.Loops.{any-take-more}
use Rattle.sweeping.specs.Marks.{AlsoMarked}

first-or : {A : Type 0} (p : A → Bool) (x : A) (xs : List A) → (p x or any p xs) ≡ any p (x ∷ xs)
unfolding ◌or◌
first-or p x xs = go (p x) refl
  where
    go : (b : Bool) → p x ≡ b → (p x or any p xs) ≡ any p (x ∷ xs)
    go true e = ap (λ (b : Bool). b or any p xs) e ∙ sym (any-yes p x xs e)
    go false e = ap (λ (b : Bool). b or any p xs) e ∙ sym (any-no p x xs e)

-- ── row after row ──
-- the first d of m rows are marked where they were, or pass; the others where they were
pub record Marking (p : ℕ → Bool) (m d : ℕ) (xs ys : List Bool) : Type 0 where
  pub fits : d ≤ m
  pub long : length ys ≡ m
  pub passed : (j : ℕ) → j < d → get_or ys j false ≡ (get_or xs j false or p j)
  pub left : (j : ℕ) → d ≤ j → get_or ys j false ≡ get_or xs j false

module _ (p : ℕ → Bool) (m : ℕ) (xs : List Bool) where
  pub marking-start : length xs ≡ m → Marking p m 0 xs xs
  marking-start l = record { fits = omega arith; long = l; passed = λ j o. absurd (not-suc-le-zero o); left = λ j o. refl }

  module _ (d : ℕ) (ys : List Bool) (h : Marking p m d xs ys) where
    inside : d < m → d < length ys
    inside o = omega (arith, o, h.long)

    -- row d is marked where it was, or passes
    row-written : d < m → (y : Bool) → y ≡ (get_or xs d false or p d) → Marking p m (d + 1) xs (set ys d y)
    row-written o y e = record {
      fits = omega arith;
      long = length-set ys d y ∙ h.long;
      passed = at_set (λ j x. j < d + 1 → x ≡ (get_or xs j false or p j)) ys d y false (inside o) (λ u. e) (λ j n u. h.passed j (omega arith));
      left = at_set (λ j x. d + 1 ≤ j → x ≡ get_or xs j false) ys d y false (inside o) (λ u. absurd (lt_irrefl d (omega arith))) (λ j n u. h.left j (omega arith));
    }

    -- row d does not pass, and stays; or it does, and is marked
    pub marking-skip : d < m → p d ≡ false → Marking p m (d + 1) xs (set ys d (get_or ys d false))
    marking-skip o e = row-written o _ (h.left d (omega arith) ∙ (sym (or-false (get_or xs d false)) ∙ ap (λ (b : Bool). get_or xs d false or b) (sym e)))

    pub marking-hit : d < m → p d ≡ true → Marking p m (d + 1) xs (set ys d true)
    marking-hit o e = row-written o true (sym (or-intro-right (get_or xs d false) _ e))

    pub marking-all : m ≤ d → AlsoMarked p m xs ys
    marking-all o j u = h.passed j (omega arith)

-- ── element after element ──
-- marked where they were, and for one of the first i elements
pub record AlsoAny {A : Type 0} (f : A → ℕ → Bool) (ls : List A) (m : ℕ) (xs : List Bool) (i : ℕ) (ys : List Bool) : Type 0 where
  pub marked : AlsoMarked (λ d. any (λ x. f x d) (take i ls)) m xs ys

module _ {A : Type 0} (f : A → ℕ → Bool) (ls : List A) (m : ℕ) (xs : List Bool) where
  pub also-none : AlsoAny f ls m xs 0 xs
  unfolding any
  also-none = record { marked = λ d o. sym (or-false (get_or xs d false)) }

  module _ (i : ℕ) (ys : List Bool) (h : AlsoAny f ls m xs i ys) where
    pub also-more : (z x : A) → get_or ls i z ≡ x → i < length ls → (zs : List Bool) → AlsoMarked (f x) m ys zs → AlsoAny f ls m xs (i + 1) zs
    also-more z x q o zs g = record {
      marked = λ d u.
          g d u ∙ (ap (λ (b : Bool). b or f x d) (h.marked d u) ∙ (or_assoc (get_or xs d false) (any (λ x. f x d) (take i ls)) (f x d)
          ∙ ap (λ (b : Bool). get_or xs d false or b) (ap (λ (y : A). any (λ x. f x d) (take i ls) or f y d) (sym q) ∙ sym (any-take-more (λ x. f x d) ls i z o))));
    }

    pub also-all : length ls ≤ i → AlsoMarked (λ d. any (λ x. f x d) ls) m xs ys
    also-all o d u = h.marked d u ∙ ap (λ (l : List A). get_or xs d false or any (λ x. f x d) l) (take_all i ls o)

-- the same of a list that gets shorter: what is marked, with what its elements mark, is what all of them mark
pub record MarksLeft {A : Type 0} (f : A → ℕ → Bool) (m : ℕ) (xs : List Bool) (ls left : List A) (ys : List Bool) : Type 0 where
  pub whole : (d : ℕ) → d < m → (get_or ys d false or any (λ x. f x d) left) ≡ (get_or xs d false or any (λ x. f x d) ls)

module _ {A : Type 0} (f : A → ℕ → Bool) (m : ℕ) (xs : List Bool) (ls : List A) where
  pub left-all : (left : List A) → left ≡ ls → MarksLeft f m xs ls left xs
  left-all left q = record { whole = λ d o. ap (λ (l : List A). get_or xs d false or any (λ x. f x d) l) q }

  module _ (left : List A) (ys : List Bool) (h : MarksLeft f m xs ls left ys) where
    pub left-more : (x : A) (more : List A) (zs : List Bool) → left ≡ x ∷ more → AlsoMarked (f x) m ys zs → MarksLeft f m xs ls more zs
    left-more x more zs q g = record {
      whole = λ d o.
          ap (λ (b : Bool). b or any (λ x. f x d) more) (g d o)
          ∙ (or_assoc (get_or ys d false) (f x d) (any (λ x. f x d) more) ∙ (ap (λ (b : Bool). get_or ys d false or b) (first-or (λ x. f x d) x more ∙ ap (any (λ x. f x d)) (sym q)) ∙ h.whole d o));
    }

    pub left-none : left ≡ [] → AlsoMarked (λ d. any (λ x. f x d) ls) m xs ys
    unfolding any
    left-none q d o = sym (or-false (get_or ys d false)) ∙ (ap (λ (l : List A). get_or ys d false or any (λ x. f x d) l) (sym q) ∙ h.whole d o)

-- what an iterator has left that gives the first n of a list
module _ {A : Type 0} where
  pub take-more : (n k : ℕ) (xs more : List A) (x : A) → xs ≡ x ∷ more → k + 1 ≡ n → take n xs ≡ x ∷ take k more
  take-more n k xs more x q e = ap (λ (l : List A). take n l) q ∙ ap (λ (j : ℕ). take j (x ∷ more)) (sym e ∙ add-one k)

  pub take-none : (n : ℕ) (xs : List A) → (0 < n → length xs ≡ 0) → take n xs ≡ []
  take-none zero xs h = refl
  take-none (suc n) [] h = refl
  take-none (suc n) (x ∷ xs) h = absurd (omega (arith, h (omega arith)))
