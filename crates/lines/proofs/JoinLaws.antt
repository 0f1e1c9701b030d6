-- The first line of a list.
use Prim.Native.Nat.{ℕ, ◌≤◌}
use mathlib.Core.Path.{◌≡◌, refl}
use mathlib.Core.Bool.{Bool, true, false}
use mathlib.Core.List.{List, [], ◌∷◌}
use lib.Dec.{eqb}
use lib.ListN.{length}
use native.Mathlib.Omega.{arith}
use Rattle.lines.specs.Lines.{first_line, newline}

pub line-none : first_line [] ≡ []
unfolding first_line
line-none = refl

pub line-yes : (b : ℕ) (bs : List ℕ) → eqb b newline ≡ true → first_line (b ∷ bs) ≡ []
unfolding first_line
line-yes b bs h = rw h

pub line-no : (b : ℕ) (bs : List ℕ) → eqb b newline ≡ false → first_line (b ∷ bs) ≡ b ∷ first_line bs
unfolding first_line
line-no b bs h = rw h

pub line-within : (bs : List ℕ) → length (first_line bs) ≤ length bs
line-within [] = rw line-none (omega arith)
line-within (b ∷ bs) = go (eqb b newline) refl (line-within bs)
  where
    go : (t : Bool) → eqb b newline ≡ t → length (first_line bs) ≤ length bs → length (first_line (b ∷ bs)) ≤ length (b ∷ bs)
    go true e ih = rw (line-yes b bs e) (omega arith)
    go false e ih = rw (line-no b bs e) (omega arith)
