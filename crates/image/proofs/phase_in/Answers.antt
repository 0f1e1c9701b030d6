-- `image::phase_in` meets its contract.
use Rattle.image.proofs.Names.{arith, phase_of, sym}
use Rattle.image.proofs.PlaceLaws.{phase-at, phase-closing}
use Rattle.image.proofs.phase_in.Goals as goal

pub returns-in-0 : goal.returns-in-0
unfolding phase_of
returns-in-0 c = sym (phase-at c.args.b.now 0 c.in-0.is)

pub returns-in-1 : goal.returns-in-1
unfolding phase_of
returns-in-1 c = sym (phase-at c.args.b.now 1 c.in-1.is)

pub returns-in_default : goal.returns-in_default
returns-in_default c = phase-closing c.args.b.now c.args.clock (λ e. omega (arith, e)) (λ e. omega (arith, e)) c.requires.clock_value
