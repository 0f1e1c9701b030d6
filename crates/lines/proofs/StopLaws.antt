-- Where a line ends in a block.
use Prim.Native.Nat.{ℕ, suc, ◌+◌, ◌<◌, ◌≤◌}
use mathlib.Core.Path.{◌≡◌, refl, sym, ap, ◌∙◌}
use mathlib.Core.Bool.{Bool, true, false, cond}
use mathlib.Core.List.{List, [], ◌∷◌}
use lib.Dec.{eqb}
use lib.ListN.{length, take, drop, length-drop}
use lib.Seq.{drop-drop}
use native.Mathlib.Omega.{arith}
use borrow.Author.Tests.{eqb-true}
use Rattle.model.specs.Lists.{first}
use Rattle.lines.specs.Lines.{newline, first_line}
use Rattle.lines.proofs.JoinLaws.{line-none, line-yes, line-no}

-- a line is as long as the place of the first newline
ends : (t : Bool) (b n : ℕ) (bs : List ℕ) → n ≡ length bs → elim t [ true ↦ 0 | false ↦ suc n ] ≡ length (cond t [] (b ∷ bs))
ends true b n bs e = refl
ends false b n bs e = ap suc e

pub first-newline : (bs : List ℕ) → first (λ b. eqb b newline) bs ≡ length (first_line bs)
unfolding first first_line
first-newline [] = refl
first-newline (b ∷ bs) = ends (eqb b newline) b _ _ (first-newline bs)

-- those before the first newline, as a part of all
pub first_taken : (bs : List ℕ) → first_line bs ≡ take (length (first_line bs)) bs
first_taken [] = rw line-none
first_taken (b ∷ bs) = go (eqb b newline) refl (first_taken bs)
  where
    go : (t : Bool) → eqb b newline ≡ t → first_line bs ≡ take (length (first_line bs)) bs → first_line (b ∷ bs) ≡ take (length (first_line (b ∷ bs))) (b ∷ bs)
    go true e ih = rw (line-yes b bs e)
    go false e ih = rw (line-no b bs e) (ap (λ (l : List ℕ). b ∷ l) ih)

-- a line that does not reach the block's end is ended by a newline
line-stops : (bs : List ℕ) → length (first_line bs) < length bs → drop (length (first_line bs)) bs ≡ newline ∷ drop (suc (length (first_line bs))) bs
line-stops [] h = absurd (omega arith)
line-stops (b ∷ bs) h = go (eqb b newline) refl (line-stops bs)
  where
    go : (t : Bool) → eqb b newline ≡ t → (length (first_line bs) < length bs → drop (length (first_line bs)) bs ≡ newline ∷ drop (suc (length (first_line bs))) bs)
        → drop (length (first_line (b ∷ bs))) (b ∷ bs) ≡ newline ∷ drop (suc (length (first_line (b ∷ bs)))) (b ∷ bs)
    go true e ih = rw (line-yes b bs e) (ap (λ (x : ℕ). x ∷ bs) (eqb-true b newline e))
    go false e ih =
        let h' : suc (length (first_line bs)) < suc (length bs) = rw (line-no b bs e) at h in
        rw (line-no b bs e) (ih (omega arith))

-- ── the bytes of a line in a block, from a place up to their end ──
module _ (input : List ℕ) (from end : ℕ) (e : end ≡ from + length (first_line (drop from input))) where
  pub rest : drop (length (first_line (drop from input))) (drop from input) ≡ drop end input
  rest = drop-drop (length (first_line (drop from input))) from input ∙ ap (λ (n : ℕ). drop n input) (sym e)

  -- a byte there is a newline
  pub stops : from ≤ length input → end < length input → drop end input ≡ newline ∷ drop (end + 1) input
  stops o h =
      let m : from + suc (length (first_line (drop from input))) ≡ end + 1 = omega arith in
      sym rest ∙ line-stops (drop from input) (simp length-drop (omega arith))
      ∙ ap (λ (bs : List ℕ). newline ∷ bs) (drop-drop (suc (length (first_line (drop from input)))) from input ∙ ap (λ (n : ℕ). drop n input) m)
