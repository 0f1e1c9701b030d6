use Rattle.std.proofs.Common.{◌≡◌, ◌∙◌, sym, ap, true}
use mathlib.Core.Bool.{true≢false}
use Rattle.model.specs.declared.Phase.{Phase}
use Rattle.model.specs.Listed.{kind_of, listed_live, listed_entries}
use Rattle.soundness.specs.Parts.{shape_right, shape, named_by}
use Rattle.soundness.proofs.PartLaws.{few-reads, place-wrong, place-reads}
use Rattle.soundness.proofs.Whole.{unused-reads}
use Rattle.soundness.proofs.place_right.Goals.{Then-shape_right, in-Unused, in_default}
use Rattle.soundness.proofs.place_right.Goals as goal

shaped : (c : Then-shape_right) → shape (kind_of c.args.kind) (listed_live c.args.l.now) ≡ true
shaped c = sym c.shape_right.ensures ∙ c.if-shape_right.true

pub reads_right-requires : goal.reads_right-requires
reads_right-requires c = few-reads (kind_of c.args.kind) c.args.l.now.phase (listed_live c.args.l.now) (shaped (goal.at.reads_right-requires c).Then-shape_right)

pub returns-then-matches : goal.returns-then-matches
unfolding shape_right
returns-then-matches c =
    let κ = kind_of c.args.kind in
    let es = listed_entries c.args.entries.now in
    let ts = c.args.txns.now in
    let l = listed_live c.args.l.now in
    let h = shaped (goal.at.returns-then-matches c).Then-shape_right in
    elim c.match-matches.branch [
      | in-Unused w ↦ c.if-matches.true ∙ sym (place-reads κ es ts l h ∙ unused-reads (named_by es ts) l (sym (ap (λ (p : Phase). shape_right κ p l) w.in-Unused.is) ∙ h))
      | in_default w ↦ absurd (true≢false (sym c.if-matches.true ∙ w.matches-is))
    ]

pub returns-else-matches : goal.returns-else-matches
returns-else-matches c =
    c.reads_right.ensures
    ∙ sym (place-reads (kind_of c.args.kind) (listed_entries c.args.entries.now) c.args.txns.now (listed_live c.args.l.now) (shaped (goal.at.returns-else-matches c).Then-shape_right))

pub returns-else-shape_right : goal.returns-else-shape_right
returns-else-shape_right c =
    c.if-shape_right.false
    ∙ sym (place-wrong (kind_of c.args.kind) (listed_entries c.args.entries.now) c.args.txns.now (listed_live c.args.l.now) (sym c.shape_right.ensures ∙ c.if-shape_right.false))
