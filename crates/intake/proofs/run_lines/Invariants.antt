-- `intake::run_lines` meets its contract.
use Prim.Native.Nat.{◌+◌, ◌*◌, ◌-◌, ◌≤◌, ◌<◌}
use mathlib.Core.Path.{◌≡◌}
use mathlib.Core.List.{◌∷◌}
use lib.ListN.{length, drop}
use Rattle.model.specs.Listed.{listed}
use Rattle.model.specs.Sound.{sound}
use Rattle.lines.specs.Lines.{newline}
use Rattle.intake.specs.Intakes.{after_bytes, bytes_output}
use Rattle.intake.specs.Parts.{intake_of}
use Rattle.intake.proofs.BlockLaws.{Passed}
use Rattle.intake.proofs.run_lines.Given as goal

abbrev pub invariant-loop-end : goal.invariant-loop-end
invariant-loop-end l =
    (l.end ≤ length l.input) × (l.n ≤ 65) × (l.used ≤ 96 * l.end) × (l.next ≤ l.number + l.end) × (length l.part ≡ 65) × (length l.out ≡ length l.initial.out) × (length l.store ≡ length l.initial.store)
    × Passed l.input (after_bytes (drop l.initial.end l.input) (intake_of l.initial.s l.initial.store l.initial.next l.initial.part l.initial.n)) (bytes_output (drop l.initial.end l.input) (intake_of l.initial.s l.initial.store l.initial.next l.initial.part l.initial.n)) l.initial.out (intake_of l.s l.store l.next l.part l.n) l.end l.used l.out
    × (l.end < length l.input → drop l.end l.input ≡ newline ∷ drop (l.end + 1) l.input) × (l.known ≡ sound (listed l.s))

abbrev pub decreases-loop-end : goal.decreases-loop-end
decreases-loop-end l =
    length l.input - l.end
