-- `recovery::read_entries` meets its contract.
use Rattle.std.proofs.Common.{◌≡◌, length}
use Rattle.model.specs.Listed.{kind_of}
use Rattle.recovery.specs.Marks.{Marked}
use Rattle.recovery.proofs.ScanSteps.{Passed}
use Rattle.recovery.proofs.read_entries.Given as goal

abbrev pub invariant-loop-d : goal.invariant-loop-d
invariant-loop-d l = record {
  passed : Passed (kind_of l.kind) l.store l.entries l.txns l.found l.d;
  many : length l.marks ≡ 256;
  marked : Marked l.marks l.txns;
}
