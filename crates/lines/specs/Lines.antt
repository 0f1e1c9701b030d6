-- 01 'The run sheet': lines of text. "Fields are in a fixed order parted by commas, no quoting." Bytes are ASCII.
use Rattle.std.specs.Prelude.{ℕ, zero, suc, cond, List, [], ◌∷◌, eqb, length}

abbrev pub comma : ℕ
comma = 44

abbrev pub newline : ℕ
newline = 10

-- "A line has at most 64 bytes before its newline"
abbrev pub line_limit : ℕ
line_limit = 64

-- ── lines: "the last newline may be missing"; nothing after the last newline is no line ──
-- the bytes before the first newline; those after it
unfoldable pub first_line : List ℕ → List ℕ
first_line [] = []
first_line (b ∷ bs) = cond (eqb b newline) [] (b ∷ first_line bs)

unfoldable pub other_lines : List ℕ → List ℕ
other_lines [] = []
other_lines (b ∷ bs) = cond (eqb b newline) bs (other_lines bs)

-- the lines of an input; there are at most as many as bytes
unfoldable pub lines_from : ℕ → List ℕ → List (List ℕ)
lines_from zero bs = []
lines_from (suc more) [] = []
lines_from (suc more) (b ∷ bs) = first_line (b ∷ bs) ∷ lines_from more (other_lines (b ∷ bs))

unfoldable pub lines_in : List ℕ → List (List ℕ)
lines_in bs = lines_from (length bs) bs
