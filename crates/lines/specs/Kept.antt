-- A line whose bytes come in blocks: what is kept of it.
use Rattle.std.specs.Prelude.{ℕ, ◌+◌, List, [], ◌∷◌, ◌++◌, take}
use Rattle.lines.specs.Lines.{line_limit}

-- "A line has at most 64 bytes before its newline .. A longer .. line is one refused line": of a longer one 65 bytes are kept
abbrev pub kept_bytes : ℕ
kept_bytes = line_limit + 1

unfoldable pub joined : List ℕ → ℕ → List ℕ
joined l b = take kept_bytes (l ++ (b ∷ []))

-- a line with more bytes joined to it
unfoldable pub joined_with : List ℕ → List ℕ → List ℕ
joined_with l [] = l
joined_with l (b ∷ bs) = joined_with (joined l b) bs
