-- `logtable::read_found` meets its contract.
use Prim.Native.Nat.{ℕ}
use mathlib.Core.Path.{◌≡◌, sym, ap, ◌∙◌}
use mathlib.Core.Bool.{Bool, true, false, not, cond}
use Rattle.model.specs.Lists.{◌or◌}
use Rattle.shoplog.specs.Findings.{Finding, Fine, Bad}
use Rattle.logtable.specs.Tables.{seat_of}
use Rattle.logtable.specs.Findings.{is_unknown, unfit, read_found}
use Rattle.logtable.specs.Parts.{author_if}
use Rattle.logtable.proofs.FoundLaws.{read-full, read-here, known, unknown, known-seated}
use Rattle.logtable.proofs.read_found.Goals.{After-may_read}
use Rattle.logtable.proofs.read_found.Goals as goal

-- there is room: what the other tests say decides
rest : (c : After-may_read) → (a : ℕ) (b : Bool) → c.may_read.result ≡ b
    → (let T = c.args.table.now in
    cond (not b or is_unknown T a c.args.key c.args.id.clock or unfit T c.args.place c.args.key a) Bad Fine ≡ read_found T c.args.place a c.args.key c.args.id.clock)
rest c a b e =
    read-here c.args.table.now c.args.place a c.args.key c.args.id.clock c.requires.1 b (sym c.full_for.ensures ∙ c.if-full_for.false) (sym e ∙ c.may_read.ensures)

pub returns-then-full_for : goal.returns-then-full_for
returns-then-full_for c =
    let a = c.args in
    ap (λ (f : Finding). author_if f (seat_of a.table.now a.id.txn)) (read-full a.table.now a.place _ a.key a.id.clock c.requires.1 (sym c.full_for.ensures ∙ c.if-full_for.true))

pub returns-then-not-may_read : goal.returns-then-not-may_read
unfolding ◌or◌
returns-then-not-may_read c =
    let a = c.args in
    let s = seat_of a.table.now a.id.txn in
    ap (λ (f : Finding). author_if f s) (rest (goal.at.returns-then-not-may_read c).After-may_read s false c.if-not-may_read.true)

pub unfit-requires : goal.unfit-requires
unfit-requires c =
    let a = c.args in
    let u = known (is_unknown a.table.now (seat_of a.table.now a.id.txn) a.key a.id.clock) _ c.in-Some.author c.author_of.result c.author_of.ensures c.in-Some.is in
    (c.requires.0, c.requires.1, c.requires.2, rw (u.1) (known-seated a.table.now _ a.key a.id.clock u.0))

pub returns-in-Some : goal.returns-in-Some
unfolding ◌or◌
returns-in-Some c =
    let a = c.args in
    let n = c.in-Some.author in
    let u = known (is_unknown a.table.now (seat_of a.table.now a.id.txn) a.key a.id.clock) _ n c.author_of.result c.author_of.ensures c.in-Some.is in
    let v : is_unknown a.table.now n a.key a.id.clock ≡ false = rw (u.1) (u.0) in
    rw (← u.1, ← rest (goal.at.returns-in-Some c).After-may_read n true c.if-not-may_read.false, v, sym c.unfit.ensures ∙ c.if-not-unfit.true)

pub returns-in_default : goal.returns-in_default
unfolding ◌or◌
returns-in_default c =
    let a = c.args in
    let n = c.in-Some.author in
    let u = known (is_unknown a.table.now (seat_of a.table.now a.id.txn) a.key a.id.clock) _ n c.author_of.result c.author_of.ensures c.in-Some.is in
    let v : is_unknown a.table.now n a.key a.id.clock ≡ false = rw (u.1) (u.0) in
    rw (← u.1, ← rest (goal.at.returns-in_default c).After-may_read n true c.if-not-may_read.false, v, sym c.unfit.ensures ∙ c.if-not-unfit.false)

pub returns-in_default-2 : goal.returns-in_default-2
unfolding ◌or◌
returns-in_default-2 c =
    let a = c.args in
    let s = seat_of a.table.now a.id.txn in
    let u = unknown (is_unknown a.table.now s a.key a.id.clock) s c.author_of.result c.author_of.ensures c.in_default.is in
    rw (← rest (goal.at.returns-in_default-2 c).After-may_read s true c.if-not-may_read.false, u)
