-- What the functions below `parse_log_line` read, as the code says it.
use Rattle.std.specs.Prelude.{ℕ, Bool, List, not, eqb, ◌&&◌, ◌≡◌, ◌⊎◌, Some, None}
use Rattle.std.specs.Prelude as P
use Rattle.std.proofs.Math.Option.{Option, some, none}
use Rattle.decimal.specs.Digits.{number_below}
use Rattle.decimal.specs.Fields.{field, after_field}
use Rattle.lines.specs.Lines.{comma}
use Rattle.shoplog.specs.declared.LogLine.{LogLine}
use Rattle.shoplog.specs.declared.LogLine.TheVariants as L
use Rattle.shoplog.specs.declared.LineKind as machine
use Rattle.shoplog.specs.declared.LineKind.TheVariants as K
use Rattle.shoplog.specs.Lines.{Line, write, commit, read, LineKind, is_write, is_commit, is_read}

-- the kind that a kind of the code stands for
unfoldable pub kind_of : machine.LineKind → LineKind
kind_of K.Write = is_write
kind_of K.Commit = is_commit
kind_of K.Read = is_read

unfoldable pub kind_found : P.Option machine.LineKind → Option LineKind
kind_found None = none
kind_found (Some v) = some (kind_of v)

-- a ticket, a clock and an author are not 0 where a line names them, and what it does not name is 0
abbrev pub is_named : LineKind → ℕ → ℕ → ℕ → ℕ → Bool
is_named is_write t k c a = not (eqb t 0) && (eqb c 0 && eqb a 0)
is_named is_commit t k c a = not (eqb t 0) && (eqb k 0 && not (eqb c 0) && eqb a 0)
is_named is_read t k c a = not (eqb t 0) && (not (eqb c 0) && not (eqb a 0))

-- a number's field before a comma, and what is after it; or one of them is not there
abbrev pub IsField : ℕ → List ℕ → ℕ → List ℕ → Type 0
IsField bound bs n rest = (number_below bound (field comma bs) ≡ some n) × (after_field comma bs ≡ some rest)

abbrev pub NoField : ℕ → List ℕ → Type 0
NoField bound bs = (number_below bound (field comma bs) ≡ none) ⊎ (after_field comma bs ≡ none)

unfoldable pub number_of : P.Option ℕ → Option ℕ
number_of None = none
number_of (Some n) = some n

-- a line as the code hands it on
unfoldable pub parsed_of : Option Line → P.Option LogLine
parsed_of none = None
parsed_of (some (write t k)) = Some (L.Write t k)
parsed_of (some (commit t c)) = Some (L.Commit t c)
parsed_of (some (read t k i)) = Some (L.Read t k i)
