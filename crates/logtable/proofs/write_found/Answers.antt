-- `logtable::write_found` meets its contract.
use mathlib.Core.Path.{sym, ◌∙◌}
use borrow.Author.Tests.{lt-leb, eq-eqb, ne_eqb}
use Rattle.model.specs.Lists.{◌or◌}
use Rattle.logtable.specs.Findings.{write_found}
use Rattle.logtable.proofs.write_found.Goals as goal

pub returns-then-full_for : goal.returns-then-full_for
unfolding write_found ◌or◌
returns-then-full_for c = rw (lt-leb 64 _ c.requires.1, sym c.full_for.ensures ∙ c.if-full_for.true)

pub returns-then-table-place-ne0 : goal.returns-then-table-place-ne0
unfolding write_found ◌or◌
returns-then-table-place-ne0 c = rw (lt-leb 64 _ c.requires.1, sym c.full_for.ensures ∙ c.if-full_for.false, ne_eqb _ 0 c.if-table-place-ne0.true)

pub returns-else-table-place-ne0 : goal.returns-else-table-place-ne0
unfolding write_found ◌or◌
returns-else-table-place-ne0 c = rw (lt-leb 64 _ c.requires.1, sym c.full_for.ensures ∙ c.if-full_for.false, eq-eqb _ 0 c.if-table-place-ne0.false)
