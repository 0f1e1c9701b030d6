-- What is kept between two blocks, as the code holds it.
use Rattle.std.specs.Prelude.{ℕ, List, take}
use Rattle.shoplog.specs.declared.Verdict.{Verdict}
use Rattle.logcheck.specs.Checking.{Checking}

-- the line is the first len bytes of the part that is kept
unfoldable pub checking_of : Verdict → List ℕ → ℕ → List ℕ → ℕ → Checking
checking_of v table above part len = record { verdict = v; table = table; above = above; line = take len part }
