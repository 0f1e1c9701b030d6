-- 02 §10: the lines of a log. "Lines: kind,ticket,key,clock,author."
use Rattle.std.specs.Prelude.{ℕ, Bool, true, false, cond, List, [], ◌∷◌, eqb, leb, length}
use Rattle.std.proofs.Math.Option.{Option, some, none}
use Rattle.model.specs.declared.Id.{Id}
use Rattle.model.specs.Lists.{◌and◌, same}
use Rattle.model.specs.Limits.{keys, txn_range, number_range}
use Rattle.decimal.specs.Digits.{number_below}
use Rattle.decimal.specs.Fields.{field, after_field}
use Rattle.lines.specs.Lines.{comma, line_limit}

-- "`write` names ticket and key; `commit` names ticket and clock; `read` names reader, key and the version's clock and author": its id
pub data Line : Type 0 where
  write : ℕ → ℕ → Line
  commit : ℕ → ℕ → Line
  read : ℕ → ℕ → Id → Line

-- ── the first field ──
pub data LineKind : Type 0 where
  is_write : LineKind
  is_commit : LineKind
  is_read : LineKind

unfoldable pub kind_bytes : LineKind → List ℕ
kind_bytes is_write = 119 ∷ 114 ∷ 105 ∷ 116 ∷ 101 ∷ []
kind_bytes is_commit = 99 ∷ 111 ∷ 109 ∷ 109 ∷ 105 ∷ 116 ∷ []
kind_bytes is_read = 114 ∷ 101 ∷ 97 ∷ 100 ∷ []

-- the kind whose name the bytes are
unfoldable pub kind_in : List ℕ → Option LineKind
kind_in bs =
    cond (same bs (kind_bytes is_write)) (some is_write)
    (cond (same bs (kind_bytes is_commit)) (some is_commit)
    (cond (same bs (kind_bytes is_read)) (some is_read) none))

-- ── all five ──
-- a line, if its fields are as they must be
unfoldable pub line_if : Bool → Line → Option Line
line_if true l = some l
line_if false l = none

-- "Fields lie in document 01's ranges": a ticket, an author and a clock are not 0 where they are named; "unused fields are 0"
unfoldable pub line_named : LineKind → ℕ → ℕ → ℕ → ℕ → Option Line
line_named is_write t k c a = line_if (leb 1 t and eqb c 0 and eqb a 0) (write t k)
line_named is_commit t k c a = line_if (leb 1 t and eqb k 0 and leb 1 c and eqb a 0) (commit t c)
line_named is_read t k c a = line_if (leb 1 t and leb 1 c and leb 1 a) (read t k (record { clock = c; txn = a }))

-- all five fields are there and of their form: ticket and author below 2^32, key 0 to 63, clock below 2^64
unfoldable pub of_fields : Option LineKind → Option ℕ → Option ℕ → Option ℕ → Option ℕ → Option Line
of_fields (some v) (some t) (some k) (some c) (some a) = line_named v t k c a
of_fields (some v) (some t) (some k) (some c) none = none
of_fields (some v) (some t) (some k) none a = none
of_fields (some v) (some t) none c a = none
of_fields (some v) none k c a = none
of_fields none t k c a = none

-- what is left after four commas is the last field, with no comma in it: a comma is no digit
unfoldable pub fifth : Option LineKind → Option ℕ → Option ℕ → Option ℕ → Option (List ℕ) → Option Line
fifth v t k c none = none
fifth v t k c (some bs) = of_fields v t k c (number_below txn_range bs)

unfoldable pub fourth : Option LineKind → Option ℕ → Option ℕ → Option (List ℕ) → Option Line
fourth v t k none = none
fourth v t k (some bs) = fifth v t k (number_below number_range (field comma bs)) (after_field comma bs)

unfoldable pub third : Option LineKind → Option ℕ → Option (List ℕ) → Option Line
third v t none = none
third v t (some bs) = fourth v t (number_below keys (field comma bs)) (after_field comma bs)

unfoldable pub second : Option LineKind → Option (List ℕ) → Option Line
second v none = none
second v (some bs) = third v (number_below txn_range (field comma bs)) (after_field comma bs)

-- the line that bytes are; none where they are "19 for form or range". "lines have the run sheet's form": at most 64 bytes
unfoldable pub line_in : List ℕ → Option Line
line_in bs = cond (leb (length bs) line_limit) (second (kind_in (field comma bs)) (after_field comma bs)) none
