-- The loop that writes a list into lent bytes from their front: what is written, and what is still to come.
use Prim.Native.Nat.{ℕ, ◌+◌, ◌<◌, ◌≤◌}
use mathlib.Core.Path.{◌≡◌, sym, ap, ◌∙◌}
use mathlib.Core.List.{List, ◌∷◌, ◌++◌, append_assoc}
use lib.ListN.{length, take, set, length-set}
use lib.Seq.{take-suc-set}
use native.Mathlib.Omega.{arith}
use native.Mathlib.Numerals.{add-one}

-- i of n are written over the part p₀; with the rest r they are the whole w
abbrev pub Written : ℕ → List ℕ → List ℕ → ℕ → List ℕ → List ℕ → Type 0
Written n p₀ w i p r = (i ≤ n) × (length p ≡ length p₀) × (take i p ++ r ≡ w)

module _ (n : ℕ) (p₀ w : List ℕ) (i : ℕ) (p r : List ℕ) (h : Written n p₀ w i p r) where
  pub written-more : (x : ℕ) (r' : List ℕ) → i < n → i < length p → r ≡ x ∷ r' → Written n p₀ w (i + 1) (set p i x) r'
  written-more x r' o u e = (
    omega arith,
    length-set p i x ∙ h.1,
    rw (add-one i, take-suc-set p i x u, append_assoc) (ap (λ (l : List ℕ). take i p ++ l) (sym e) ∙ h.2),
  )
