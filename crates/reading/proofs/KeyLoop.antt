-- The loop that collects keys in one number, element after element of a list.
use Prim.Native.Nat.{ℕ, ◌+◌, ◌<◌, ◌≤◌}
use mathlib.Core.Path.{◌≡◌, sym, ap, ap₂, ◌∙◌}
use mathlib.Core.Bool.{Bool}
use mathlib.Core.List.{List}
use lib.ListN.{length, take, get_or}
use lib.Seq.{take_all}
use Rattle.model.specs.Lists.{◌or◌, any, member}
use Rattle.model.specs.KeySets.{key_set}
use Rattle.model.proofs.KeySetLaws.{set-none}
use Rattle.reading.proofs.Loops.{any-take-more}

-- the set has the keys of the first i elements; f x k says that x has key k
pub record Collecting {A : Type 0} (f : A → ℕ → Bool) (l : List A) (i set : ℕ) : Type 0 where
  pub has : (k : ℕ) → member k (key_set set) ≡ any (λ x. f x k) (take i l)

module _ {A : Type 0} (f : A → ℕ → Bool) (l : List A) where
  pub collecting-start : Collecting f l 0 0
  unfolding member any
  collecting-start = record { has = λ k. ap (member k) set-none }

  module _ (i set : ℕ) (h : Collecting f l i set) where
    pub collecting-more : (z x : A) → get_or l i z ≡ x → i < length l → (more : ℕ) → ((k : ℕ) → member k (key_set more) ≡ (member k (key_set set) or f x k)) → Collecting f l (i + 1) more
    collecting-more z x q o more g = record {
      has = λ k. g k ∙ (ap₂ (λ (a : Bool) (y : A). a or f y k) (h.has k) (sym q) ∙ sym (any-take-more (λ x. f x k) l i z o));
    }

    pub collecting-all : length l ≤ i → (k : ℕ) → member k (key_set set) ≡ any (λ x. f x k) l
    collecting-all o k = h.has k ∙ ap (any (λ x. f x k)) (take_all i l o)
