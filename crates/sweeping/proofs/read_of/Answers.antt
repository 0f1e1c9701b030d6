use Prim.Native.Nat.{ℕ}
use mathlib.Core.Path.{◌≡◌, ap, ◌∙◌}
use mathlib.Core.Bool.{Bool, false}
use lib.ListN.{get_or, replicate, length-map}
use native.Mathlib.Omega.{arith}
use Rattle.model.specs.Listed.{listed_live}
use Rattle.model.specs.Lists.{◌or◌}
use Rattle.model.proofs.ListLaws.{get_or-all}
use Rattle.model.proofs.ListedLaws.{zero_live, lives-any}
use Rattle.sweeping.proofs.MarkLoop.{also-none, also-more, also-all}
use Rattle.sweeping.proofs.read_of.Goals as goal

pub loop-l-init : goal.loop-l-init
loop-l-init c = also-none _ _ _ _

pub loop-l-preserved : goal.loop-l-preserved
loop-l-preserved c =
    also-more _ _ _ _ _ _ c.loop-l.invariant (listed_live zero_live) _ (lives-any c.args.live.now c.loop-l.l-index) (omega (arith, length-map c.args.live.now listed_live)) _ c.mark_reads.ensures

-- none was marked at first
none : (d : ℕ) (b : Bool) → (get_or (replicate 64 false) d false or b) ≡ b
unfolding ◌or◌
none d b = ap (λ (a : Bool). a or b) (get_or-all 64 d false)

pub returns : goal.returns
returns c d o = also-all _ _ _ _ _ _ c.loop-l.invariant (omega (arith, length-map c.args.live.now listed_live)) d o ∙ none d _
