-- What is kept of a line says what all of it says, since a longer line is malformed.
use Prim.Native.Nat.{ℕ}
use mathlib.Core.Path.{◌≡◌}
use mathlib.Core.List.{List}
use mathlib.Core.Option.{none}
use lib.ListN.{take}
use Rattle.lines.proofs.KeptLaws.{kept-says}
use Rattle.shoplog.specs.Lines.{line_in}
use Rattle.shoplog.proofs.LineLaws.{line-long}
use Rattle.logcheck.specs.Checking.{line_checked}

pub kept_line : (l : List ℕ) → line_in (take 65 l) ≡ line_in l
kept_line l = kept-says line_in none line-long l

pub kept-checked : (l T : List ℕ) (n : ℕ) → line_checked (take 65 l) T n ≡ line_checked l T n
unfolding line_checked
kept-checked l T n = rw (kept_line l)
