-- `stations::highest_free` meets its contract. The loop's invariant: the highest free slot is the highest below the last one looked at. Assumes nothing.
use Prim.Native.Nat.{ℕ, ◌≤◌}
use mathlib.Core.Path.{◌≡◌, ap}
use mathlib.Core.List.{List, map}
use lib.ListN.{get_or}
use Rattle.model.specs.declared.Entry.{Entry}
use Rattle.model.specs.Types as L
use Rattle.model.specs.Listed.{listed_lives, listed_entries}
use Rattle.model.specs.Entries.{no_entry}
use Rattle.model.proofs.ListedLaws.{zero_entry, listed-any}
use Rattle.stations.specs.Found.{live_mark}
use Rattle.stations.proofs.Free.{highest, free}
use Rattle.stations.proofs.highest_free.Given as goal

-- a slot's transaction
pub held-as : (es : List Entry) (d : ℕ) → (get_or (listed_entries es) d no_entry).id.txn ≡ (get_or es d zero_entry).id.txn
held-as es d = ap (λ (e : L.Entry). e.id.txn) (listed-any es d)

abbrev pub invariant-loop-slot : goal.invariant-loop-slot
invariant-loop-slot l =
    (l.slot ≤ 64) × (highest (free (listed_entries l.entries) (map live_mark (listed_lives l.live))) l.initial.slot ≡ highest (free (listed_entries l.entries) (map live_mark (listed_lives l.live))) l.slot)
