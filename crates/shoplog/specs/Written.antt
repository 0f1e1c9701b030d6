-- A line's bytes, and those of a whole log: what `line_in` and `lines_in` read back (`line-back`, `log_back`).
use Rattle.std.specs.Prelude.{ℕ, ◌<◌, ◌≢◌, List, [], ◌∷◌, ◌++◌}
use Rattle.model.specs.Limits.{keys, txn_range, number_range}
use Rattle.decimal.specs.Digits.{digits}
use Rattle.lines.specs.Lines.{comma, newline}
use Rattle.shoplog.specs.Lines.{Line, write, commit, read, LineKind, is_write, is_commit, is_read, kind_bytes}

-- "Lines: kind,ticket,key,clock,author."
unfoldable pub fields_written : LineKind → ℕ → ℕ → ℕ → ℕ → List ℕ
fields_written v t k c a = kind_bytes v ++ (comma ∷ digits t ++ (comma ∷ digits k ++ (comma ∷ digits c ++ (comma ∷ digits a))))

unfoldable pub line_written : Line → List ℕ
line_written (write t k) = fields_written is_write t k 0 0
line_written (commit t c) = fields_written is_commit t 0 c 0
line_written (read t k i) = fields_written is_read t k i.clock i.txn

-- the bytes of a log, from its first line to its last, each with its newline
unfoldable pub log_written : List Line → List ℕ
log_written [] = []
log_written (l ∷ ls) = line_written l ++ (newline ∷ log_written ls)

-- the fields that a line names lie in 01's ranges
abbrev pub IsTxn : ℕ → Type 0
IsTxn t = (t ≢ 0) × (t < txn_range)

abbrev pub IsClock : ℕ → Type 0
IsClock c = (c ≢ 0) × (c < number_range)

abbrev pub LineFits : Line → Type 0
LineFits (write t k) = IsTxn t × (k < keys)
LineFits (commit t c) = IsTxn t × IsClock c
LineFits (read t k i) = IsTxn t × (k < keys) × IsClock i.clock × IsTxn i.txn
