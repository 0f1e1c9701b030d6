-- `records::read_slot` meets its contract.
use mathlib.Core.Path.{sym, ◌∙◌}
use Rattle.model.specs.Listed.{kind_of}
use Rattle.records.proofs.SlotSteps.{slot-free, slot-no-commit, slot-unwritten, slot-committed}
use Rattle.records.proofs.read_slot.Goals as goal

pub returns-then-w-eq-FREE_MARK : goal.returns-then-w-eq-FREE_MARK
returns-then-w-eq-FREE_MARK c = slot-free (kind_of c.args.kind) c.args.w.now c.if-w-eq-FREE_MARK.true

pub returns-then-not-is_commit : goal.returns-then-not-is_commit
returns-then-not-is_commit c = slot-no-commit (kind_of c.args.kind) c.args.w.now c.if-w-eq-FREE_MARK.false (sym c.is_commit.ensures ∙ c.if-not-is_commit.true)

pub returns-in-Some : goal.returns-in-Some
returns-in-Some c = slot-committed (kind_of c.args.kind) c.args.w.now c.if-w-eq-FREE_MARK.false (sym c.is_commit.ensures ∙ c.if-not-is_commit.false) c.in-Some.e c.in-Some.ensures

pub returns-in-None : goal.returns-in-None
returns-in-None c = slot-unwritten (kind_of c.args.kind) c.args.w.now c.if-w-eq-FREE_MARK.false (sym c.is_commit.ensures ∙ c.if-not-is_commit.false) c.in-None.ensures
