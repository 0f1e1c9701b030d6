-- `sweeping::sifted` meets its contract.
use mathlib.Core.Path.{◌≡◌}
use lib.ListN.{length}
use Rattle.model.specs.Listed.{listed_entries}
use Rattle.reading.proofs.KeyLoop.{Collecting}
use Rattle.sweeping.specs.Sifted.{AreSifted}
use Rattle.sweeping.proofs.SiftLaws.{row_wrote}
use Rattle.sweeping.proofs.sifted.Given as goal

abbrev pub invariant-loop-s : goal.invariant-loop-s
invariant-loop-s l =
    (length l.slots ≡ 64) × Collecting (row_wrote (listed_entries l.entries) l.order.slots) l.order.slots l.s-index l.seen × AreSifted (listed_entries l.entries) l.order.slots l.read l.s-index l.n l.slots
