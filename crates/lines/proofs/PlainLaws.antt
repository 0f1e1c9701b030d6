-- Bytes without a newline: a line, with a newline after it or at the end.
use Prim.Native.Nat.{ℕ}
use mathlib.Core.Path.{◌≡◌, refl, ap, ◌∙◌}
use mathlib.Core.Bool.{true, false}
use mathlib.Core.List.{List, [], ◌∷◌, ◌++◌}
use lib.Dec.{eqb}
use Rattle.model.specs.Ranges.{Every}
use Rattle.lines.specs.Lines.{newline, first_line, other_lines}
use Rattle.lines.proofs.JoinLaws.{line-none, line-yes, line-no}

abbrev pub Plain : List ℕ → Type 0
Plain bs = Every (λ b. eqb b newline ≡ false) bs

pub plain-joined : (p : List ℕ) (b : ℕ) → Plain p → eqb b newline ≡ false → Plain (p ++ (b ∷ []))
plain-joined [] b h e = (e, tt)
plain-joined (x ∷ xs) b h e = (h.0, plain-joined xs b h.1 e)

others-yes : (b : ℕ) (bs : List ℕ) → eqb b newline ≡ true → other_lines (b ∷ bs) ≡ bs
unfolding other_lines
others-yes b bs h = rw h

others-no : (b : ℕ) (bs : List ℕ) → eqb b newline ≡ false → other_lines (b ∷ bs) ≡ other_lines bs
unfolding other_lines
others-no b bs h = rw h

-- such a line, with a newline after it or at the input's end
pub first_plain : (p : List ℕ) (b : ℕ) (bs : List ℕ) → Plain p → eqb b newline ≡ true → first_line (p ++ b ∷ bs) ≡ p
first_plain [] b bs h e = line-yes b bs e
first_plain (x ∷ xs) b bs h e = line-no x (xs ++ b ∷ bs) h.0 ∙ ap (λ (l : List ℕ). x ∷ l) (first_plain xs b bs h.1 e)

pub others-plain : (p : List ℕ) (b : ℕ) (bs : List ℕ) → Plain p → eqb b newline ≡ true → other_lines (p ++ b ∷ bs) ≡ bs
others-plain [] b bs h e = others-yes b bs e
others-plain (x ∷ xs) b bs h e = others-no x (xs ++ b ∷ bs) h.0 ∙ others-plain xs b bs h.1 e

pub first-last : (p : List ℕ) → Plain p → first_line p ≡ p
first-last [] h = line-none
first-last (x ∷ xs) h = line-no x xs h.0 ∙ ap (λ (l : List ℕ). x ∷ l) (first-last xs h.1)

pub others-last : (p : List ℕ) → Plain p → other_lines p ≡ []
unfolding other_lines
others-last [] h = refl
others-last (x ∷ xs) h = others-no x xs h.0 ∙ others-last xs h.1
