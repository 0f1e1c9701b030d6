use Rattle.std.proofs.Common.{◌≡◌, true}
use Rattle.model.specs.Listed.{listed}
use Rattle.model.specs.Sound.{sound}
use Rattle.bench.proofs.bench_known.Given as goal

-- the station stays sound
abbrev pub invariant-loop-i : goal.invariant-loop-i
invariant-loop-i l = sound (listed l.s) ≡ true
