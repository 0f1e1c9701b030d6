-- `decimal::write_number` meets its contract.
use Prim.Native.Nat.{◌+◌, ◌≤◌}
use mathlib.Core.Path.{◌≡◌}
use lib.ListN.{length}
use Rattle.decimal.specs.Digits.{digits}
use Rattle.decimal.specs.Written.{written}
use Rattle.decimal.proofs.write_number.Given as goal

-- where the digits that are left are written, all are
abbrev pub invariant-loop-rest : goal.invariant-loop-rest
invariant-loop-rest l = (l.at ≡ l.start + length (digits l.rest)) × (l.at ≤ l.start + 20) × (length (digits l.x) ≤ 20) × (length l.out ≡ length l.initial.out) × (written l.out l.start (digits l.rest) ≡ written l.initial.out l.start (digits l.x))

abbrev pub decreases-loop-rest : goal.decreases-loop-rest
decreases-loop-rest l = l.rest
