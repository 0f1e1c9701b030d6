-- `decimal::number_in` meets its contract.
use Prim.Native.Nat.{suc, ◌+◌, ◌≤◌}
use mathlib.Core.Path.{◌≡◌}
use lib.ListN.{length, drop}
use Rattle.decimal.specs.Digits.{number_below}
use Rattle.decimal.specs.Fields.{field}
use Rattle.decimal.proofs.ReadLaws.{read_on}
use Rattle.decimal.proofs.number_in.Given as goal

abbrev pub invariant-loop-i : goal.invariant-loop-i
invariant-loop-i l = record {
  small : l.sum ≤ l.max;
  long : length (field l.end l.s) ≡ l.i + length (field l.end (drop l.i l.s));
  rest : number_below (suc l.max) (field l.end l.s) ≡ read_on (suc l.max) l.sum (field l.end (drop l.i l.s));
}
