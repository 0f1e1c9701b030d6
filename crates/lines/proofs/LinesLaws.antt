-- The lines of an input: `lines_in` without its number of steps.
use Prim.Native.Nat.{ℕ, zero, suc, ◌≤◌}
use mathlib.Core.Path.{◌≡◌, refl, sym, ap, ap₂, ◌∙◌}
use mathlib.Core.Bool.{Bool, true, false}
use mathlib.Core.List.{List, [], ◌∷◌, ◌++◌}
use lib.Dec.{eqb}
use lib.ListN.{length}
use native.Mathlib.Nat.{not-suc-le-zero, le_refl}
use native.Mathlib.Omega.{arith}
use Rattle.lines.specs.Lines.{newline, first_line, other_lines, lines_from, lines_in}
use Rattle.lines.proofs.PlainLaws.{Plain, first_plain, others-plain}

-- the lines after the first have fewer bytes than all
fewer-if : (t : Bool) (b : ℕ) (bs : List ℕ) → eqb b newline ≡ t → length (other_lines bs) ≤ length bs → length (other_lines (b ∷ bs)) ≤ length bs
unfolding other_lines
fewer-if true b bs e h = rw e (le_refl (length bs))
fewer-if false b bs e h = rw e h

others-within : (bs : List ℕ) → length (other_lines bs) ≤ length bs
unfolding other_lines
others-within [] = le_refl 0
others-within (b ∷ bs) = omega (arith, fewer-if (eqb b newline) b bs refl (others-within bs))

others-fewer : (b : ℕ) (bs : List ℕ) → length (other_lines (b ∷ bs)) ≤ length bs
others-fewer b bs = fewer-if (eqb b newline) b bs refl (others-within bs)

from-none : (m : ℕ) → lines_from m [] ≡ []
unfolding lines_from
from-none zero = refl
from-none (suc m) = refl

-- more steps than there are bytes make no difference
enough : (m k : ℕ) (bs : List ℕ) → length bs ≤ m → length bs ≤ k → lines_from m bs ≡ lines_from k bs
unfolding lines_from
enough zero k [] o p = sym (from-none k)
enough zero k (b ∷ bs) o p = absurd (not-suc-le-zero o)
enough (suc m) k [] o p = sym (from-none k)
enough (suc m) zero (b ∷ bs) o p = absurd (not-suc-le-zero p)
enough (suc m) (suc k) (b ∷ bs) o p =
    ap (λ (ls : List (List ℕ)). first_line (b ∷ bs) ∷ ls) (enough m k (other_lines (b ∷ bs)) (omega (arith, others-fewer b bs)) (omega (arith, others-fewer b bs)))

-- ── the two equations of `lines_in` ──
pub lines_none : lines_in [] ≡ []
unfolding lines_in
lines_none = from-none 0

pub lines_more : (b : ℕ) (bs : List ℕ) → lines_in (b ∷ bs) ≡ first_line (b ∷ bs) ∷ lines_in (other_lines (b ∷ bs))
unfolding lines_in lines_from
lines_more b bs = ap (λ (ls : List (List ℕ)). first_line (b ∷ bs) ∷ ls) (enough (length bs) (length (other_lines (b ∷ bs))) (other_lines (b ∷ bs)) (others-fewer b bs) (le_refl _))

-- a line with its newline
pub lines-ended : (rest l : List ℕ) → Plain l → lines_in (l ++ (newline ∷ rest)) ≡ l ∷ lines_in rest
lines-ended rest l h = go l ∙ ap₂ (λ (x y : List ℕ). x ∷ lines_in y) (first_plain l newline rest h refl) (others-plain l newline rest h refl)
  where
    go : (l : List ℕ) → lines_in (l ++ (newline ∷ rest)) ≡ first_line (l ++ (newline ∷ rest)) ∷ lines_in (other_lines (l ++ (newline ∷ rest)))
    go [] = lines_more newline rest
    go (b ∷ bs) = lines_more b (bs ++ (newline ∷ rest))
