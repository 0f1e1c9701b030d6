-- A block checked line by line.
use Prim.Native.Nat.{ℕ, ◌+◌, ◌-◌, ◌≤◌, ◌<◌}
use mathlib.Core.Path.{◌≡◌, refl, sym, ap, ◌∙◌}
use mathlib.Core.Bool.{Bool, true, false}
use mathlib.Core.List.{List, [], ◌∷◌, ◌++◌}
use lib.Dec.{eqb}
use lib.ListN.{length, take, drop, drop_of_length-le}
use native.Mathlib.Omega.{arith}
use Rattle.shoplog.specs.declared.Verdict.TheVariants.{Clean}
use Rattle.lines.specs.Lines.{first_line, newline}
use Rattle.lines.specs.Kept.{joined, joined_with}
use Rattle.lines.proofs.JoinLaws.{line-none, line-yes, line-no}
use Rattle.lines.proofs.KeptLaws.{kept-all}
use Rattle.lines.proofs.StopLaws.{first_taken, rest, stops}
use Rattle.logcheck.specs.Checking.{Checking, line_checked, byte_checked, after_bytes}
use Rattle.logcheck.proofs.KeptLaws.{kept-checked}

abbrev pub at : List ℕ → ℕ → List ℕ → Checking
at T n l = record { verdict = Clean; table = T; above = n; line = l }

-- ── one byte ──
pub newline-checked : (b : ℕ) (T : List ℕ) (n : ℕ) (l : List ℕ) → eqb b newline ≡ true → byte_checked Clean b (at T n l) ≡ line_checked l T n
unfolding byte_checked
newline-checked b T n l h = rw h

pub byte-checked : (b : ℕ) (T : List ℕ) (n : ℕ) (l : List ℕ) → eqb b newline ≡ false → byte_checked Clean b (at T n l) ≡ at T n (joined l b)
unfolding byte_checked
byte-checked b T n l h = rw h

-- ── bytes after bytes ──
pub after-append : (xs ys : List ℕ) (s : Checking) → after_bytes (xs ++ ys) s ≡ after_bytes ys (after_bytes xs s)
unfolding after_bytes
after-append [] ys s = refl
after-append (b ∷ xs) ys s = after-append xs ys (byte_checked s.verdict b s)

-- ── a line's bytes ──
line_after : (bs T : List ℕ) (n : ℕ) (l : List ℕ) → after_bytes bs (at T n l) ≡ after_bytes (drop (length (first_line bs)) bs) (at T n (joined_with l (first_line bs)))
unfolding joined_with after_bytes
line_after [] T n l = sym (ap (λ (m : List ℕ). after_bytes (drop (length m) []) (at T n (joined_with l m))) line-none)
line_after (b ∷ bs) T n l = go (eqb b newline) refl (line_after bs T n (joined l b))
  where
    go : (t : Bool) → eqb b newline ≡ t → after_bytes bs (at T n (joined l b)) ≡ after_bytes (drop (length (first_line bs)) bs) (at T n (joined_with (joined l b) (first_line bs)))
        → after_bytes (b ∷ bs) (at T n l) ≡ after_bytes (drop (length (first_line (b ∷ bs))) (b ∷ bs)) (at T n (joined_with l (first_line (b ∷ bs))))
    go true e ih = rw (line-yes b bs e)
    go false e ih = rw (line-no b bs e) (ap (after_bytes bs) (byte-checked b T n l e) ∙ ih)

-- ── the bytes of a line in a block, from a place up to their end ──
module _ (input : List ℕ) (from end : ℕ) (e : end ≡ from + length (first_line (drop from input))) (T : List ℕ) (n : ℕ) where
  to_end : (l : List ℕ) → after_bytes (drop from input) (at T n l) ≡ after_bytes (drop end input) (at T n (joined_with l (first_line (drop from input))))
  to_end l = line_after (drop from input) T n l ∙ ap (λ (bs : List ℕ). after_bytes bs (at T n (joined_with l (first_line (drop from input))))) (rest input from end e)

  -- the block ends first
  pub line-begun : (l : List ℕ) → length input ≤ end → after_bytes (drop from input) (at T n l) ≡ at T n (joined_with l (first_line (drop from input)))
  unfolding after_bytes
  line-begun l o = to_end l ∙ ap (λ (bs : List ℕ). after_bytes bs (at T n (joined_with l (first_line (drop from input))))) (drop_of_length-le input o)

  -- a newline is there
  pub line-ended : (l : List ℕ) → from ≤ length input → end < length input
      → after_bytes (drop from input) (at T n l) ≡ after_bytes (drop (end + 1) input) (line_checked (joined_with l (first_line (drop from input))) T n)
  unfolding after_bytes
  line-ended l o h =
      let q : List ℕ = joined_with l (first_line (drop from input)) in
      to_end l ∙ ap (λ (bs : List ℕ). after_bytes bs (at T n q)) (stops input from end e o h) ∙ ap (after_bytes (drop (end + 1) input)) (newline-checked newline T n q refl)

  -- a line that begins there is judged where it lies
  pub line-whole : from ≤ length input → end < length input → after_bytes (drop from input) (at T n []) ≡ after_bytes (drop (end + 1) input) (line_checked (take (end - from) (drop from input)) T n)
  line-whole o h =
      let m : end - from ≡ length (first_line (drop from input)) = omega arith in
      line-ended [] o h ∙ ap (after_bytes (drop (end + 1) input)) (ap (λ (l : List ℕ). line_checked l T n) (kept-all [] (first_line (drop from input)))
      ∙ kept-checked (first_line (drop from input)) T n ∙ ap (λ (l : List ℕ). line_checked l T n) (first_taken (drop from input) ∙ ap (λ (i : ℕ). take i (drop from input)) (sym m)))
