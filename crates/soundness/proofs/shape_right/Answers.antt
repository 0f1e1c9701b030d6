use native.Mathlib.Omega.{arith}
use Rattle.std.proofs.Common.{◌≡◌, ◌∙◌, sym, ap, Bool, true, false}
use Rattle.model.specs.declared.Phase.{Phase}
use Rattle.model.specs.Lists.{◌and◌}
use Rattle.model.specs.Listed.{kind_of, listed_live}
use Rattle.soundness.specs.Parts.{lists_right, counts_right, shape_right, shape}
use Rattle.soundness.proofs.shape_right.Goals.{After-counts_right}
use Rattle.soundness.proofs.shape_right.Goals as goal

pub returns-in-Unused : goal.returns-in-Unused
unfolding shape_right
returns-in-Unused c = c.unused_right.ensures ∙ sym (ap (λ (p : Phase). shape_right (kind_of c.args.kind) p (listed_live c.args.l.now)) c.in-Unused.is)

pub returns-in-Open : goal.returns-in-Open
unfolding shape_right
returns-in-Open c = c.lists_right.ensures ∙ sym (ap (λ (p : Phase). shape_right (kind_of c.args.kind) p (listed_live c.args.l.now)) c.in-Open.is)

-- a closing transaction's counts, by how many keys it writes
counts : (c : After-counts_right) (b : Bool) → c.counts_right.result ≡ b → shape (kind_of c.args.kind) (listed_live c.args.l.now) ≡ (b and lists_right (kind_of c.args.kind) (listed_live c.args.l.now))
unfolding shape_right
counts c b e =
    let l = c.args.l.now in
    ap (λ (p : Phase). shape_right (kind_of c.args.kind) p (listed_live l)) c.in-Closing.is
    ∙ ap (λ (x : Bool). x and lists_right (kind_of c.args.kind) (listed_live l)) (sym (c.counts_right.ensures ∙ ap (counts_right _ _) (omega (arith, c.write_count.ensures))) ∙ e)

pub returns-then-counts_right : goal.returns-then-counts_right
unfolding ◌and◌
returns-then-counts_right c = c.lists_right-then-counts_right.ensures ∙ sym (counts (goal.at.returns-then-counts_right c).After-counts_right true c.if-counts_right.true)

pub returns-else-counts_right : goal.returns-else-counts_right
unfolding ◌and◌
returns-else-counts_right c = c.if-counts_right.false ∙ sym (counts (goal.at.returns-else-counts_right c).After-counts_right false c.if-counts_right.false)
