-- Laws of a search through a list.
use Prim.Native.Nat.{ℕ, zero, suc, ◌+◌, ◌<◌}
use mathlib.Core.Path.{◌≡◌, refl, sym, ap, ◌∙◌}
use mathlib.Core.Bool.{Bool, true, false}
use mathlib.Core.List.{List, [], ◌∷◌, map}
use lib.ListN.{length, take, get_or}
use Rattle.std.proofs.lemmas.List.{take_min}
use native.Mathlib.Nat.{not-suc-le-zero, le_of_suc-le-suc}
use native.Mathlib.Numerals.{add-one}
use Rattle.model.specs.Lists.{◌or◌, any}
use Rattle.model.specs.Types.{Live}
use Rattle.model.specs.Lives.{reads_of}
use Rattle.model.proofs.ListLaws.{any-yes, any-no}
use Rattle.model.proofs.InsideLaws.{reads-are}

module _ {A : Type 0} where
  -- one of the first i + 1 passes: one of the first i, or the next
  pub any-take-more : (p : A → Bool) (l : List A) (i : ℕ) (z : A) → i < length l → any p (take (i + 1) l) ≡ (any p (take i l) or p (get_or l i z))
  any-take-more p l i z o = rw (add-one i) (go l i o)
    where
      go : (l : List A) (i : ℕ) → i < length l → any p (take (suc i) l) ≡ (any p (take i l) or p (get_or l i z))
      go [] i u = absurd (not-suc-le-zero u)
      go (x ∷ xs) zero u = one (p x) refl
        where
          one : (b : Bool) → p x ≡ b → any p (x ∷ []) ≡ (any p [] or p x)
          one true e = unfold any in unfold ◌or◌ in (any-yes p x [] e ∙ sym e)
          one false e = unfold any in unfold ◌or◌ in (any-no p x [] e ∙ sym e)
      go (x ∷ xs) (suc i) u = both (p x) refl (go xs i (le_of_suc-le-suc u))
        where
          both : (b : Bool) → p x ≡ b → any p (take (suc i) xs) ≡ (any p (take i xs) or p (get_or xs i z)) → any p (x ∷ take (suc i) xs) ≡ (any p (x ∷ take i xs) or p (get_or xs i z))
          both true e ih = unfold ◌or◌ in (any-yes p x (take (suc i) xs) e ∙ sym (ap (λ (b : Bool). b or p (get_or xs i z)) (any-yes p x (take i xs) e)))
          both false e ih = any-no p x (take (suc i) xs) e ∙ (ih ∙ sym (ap (λ (b : Bool). b or p (get_or xs i z)) (any-no p x (take i xs) e)))

-- what passes of a list made element by element
pub any-map : {A B : Type 0} (p : B → Bool) (f : A → B) (xs : List A) → any p (map f xs) ≡ any (λ x. p (f x)) xs
unfolding any
any-map p f [] = refl
any-map p f (x ∷ xs) = λ z. elim (p (f x)) [ true ↦ true | false ↦ any-map p f xs z ]

-- as many of a place's reads as the transaction has are its reads
pub reads_taken : (l : Live) (n : ℕ) → n ≡ length (reads_of l) → take n l.reads ≡ reads_of l
unfolding reads_of
reads_taken l n e = ap (λ (j : ℕ). take j l.reads) (e ∙ reads-are l) ∙ take_min l.read_count l.reads
