-- What a finding decides, and how the code says a place.
use Rattle.std.specs.Prelude.{List, ℕ, cond, ltb, Option, Some, None, Result, Ok, Err}
use Rattle.shoplog.specs.declared.Fault.{Fault}
use Rattle.shoplog.specs.Findings.{Finding}
use Rattle.logtable.specs.Tables.{places}

-- the table after a line that is fine, or as it was
unfoldable pub if_fine : Finding → List ℕ → List ℕ → List ℕ
if_fine (Ok u) after before = after
if_fine (Err e) after before = before

-- a place of the table; none at the number of places
abbrev pub place_in : ℕ → Option ℕ
place_in p = cond (ltb p places) (Some p) None

-- the author's place, where a read is fine
abbrev pub author_if : Finding → ℕ → Result ℕ Fault
author_if (Ok u) a = Ok a
author_if (Err e) a = Err e
