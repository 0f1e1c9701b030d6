-- A verdict's line, written part by part.
use Prim.Native.Nat.{ℕ, ◌+◌, ◌≤◌}
use mathlib.Core.Path.{◌≡◌, ◌∙◌}
use mathlib.Core.List.{List, [], ◌∷◌, ◌++◌, append_assoc}
use lib.ListN.{length, take, drop}
use native.Mathlib.Omega.{arith}
use Rattle.decimal.specs.Digits.{digits}
use Rattle.decimal.specs.Written.{written}
use Rattle.decimal.proofs.WrittenLaws.{Wrote, Field, wrote-field, wrote-more, wrote-all}

-- what a function that prints a line ensures
abbrev pub Prints : List ℕ → List ℕ → ℕ → List ℕ → Type 0
Prints s t n w = (n ≤ 64) × (take n t ≡ w) × (drop n t ≡ drop n s) × (length t ≡ length s)

-- a word
pub word-printed : (s t : List ℕ) (n : ℕ) (w : List ℕ) → 64 ≤ length s → length w ≤ 64 → n ≡ 0 + length w → t ≡ written s 0 w → Prints s t n w
word-printed s t n w o l e h =
    let r = wrote-all s t n w (record { till-is = e; now-is = h }) (omega arith) in
    (omega arith, r.0, r.1, r.2)

module _ (s t₁ t₂ : List ℕ) (p₁ p₂ : ℕ) (w : List ℕ) (x : ℕ) (end : ℕ) (o : 64 ≤ length s) (l : length w ≤ 8) (e : p₁ ≡ 0 + length w) (h : t₁ ≡ written s 0 w)
    (f : Field t₁ t₂ p₁ p₂ 21 (digits x) end) where
  -- a word and a number
  one_field : Wrote s t₂ 0 p₂ (w ++ (digits x ++ (end ∷ [])))
  one_field = wrote-more s t₁ t₂ 0 p₁ p₂ w _ (record { till-is = e; now-is = h }) (wrote-field t₁ t₂ p₁ p₂ 21 (digits x) end f) (omega arith)

  pub one-printed : Prints s t₂ p₂ (w ++ (digits x ++ (end ∷ [])))
  one-printed = let r = wrote-all s t₂ p₂ _ one_field (omega arith) in (omega arith, r.0, r.1, r.2)

  -- and another
  pub two-printed : (t₃ : List ℕ) (p₃ y end₂ : ℕ) → Field t₂ t₃ p₂ p₃ 21 (digits y) end₂ → Prints s t₃ p₃ (w ++ (digits x ++ (end ∷ digits y ++ (end₂ ∷ []))))
  two-printed t₃ p₃ y end₂ g =
      let m = wrote-more s t₂ t₃ 0 p₂ p₃ _ _ one_field (wrote-field t₂ t₃ p₂ p₃ 21 (digits y) end₂ g) (omega arith) in
      let r = wrote-all s t₃ p₃ _ m (omega arith) in
      (omega arith, r.0 ∙ (simp append_assoc), r.1, r.2)
