-- `resp::version_in` meets its contract.
use Prim.Native.Nat.{ℕ}
use mathlib.Core.Path.{◌≡◌, ap, ◌∙◌}
use mathlib.Core.List.{List}
use mathlib.Core.Option.{some}
use Rattle.resp.specs.Streams.{set_begins}
use Rattle.resp.specs.Inverse.{after}
use Rattle.resp.proofs.LengthLaws.{set-begins}
use Rattle.resp.proofs.AfterLaws.{stripped-none, stripped-some}
use Rattle.resp.proofs.VersionLaws.{no-command, no-name-bulk, nameless, no-value-bulk, valueless, with_value}
use Rattle.resp.proofs.VersionBack.{version-shorter}
use Rattle.resp.proofs.version_in.Goals.{In_ok-set}
use Rattle.resp.proofs.version_in.Goals as goal

begins : (c : In_ok-set) → after set_begins c.args.s.now ≡ some c.in_ok-set.set.now
begins c = ap (λ (w : List ℕ). after w c.args.s.now) set-begins ∙ stripped-some _ _ _ c.strip_prefix.ensures.cases c.in_ok-set.set c.in_ok-set.was

pub returns-in_err-set-clause-read : goal.returns-in_err-set-clause-read
returns-in_err-set-clause-read c =
    rw c.from_residual.ensures
    (no-command _ (ap (λ (w : List ℕ). after w c.args.s.now) set-begins ∙ stripped-none _ _ _ c.strip_prefix.ensures.cases c.in_err-set.was))

pub returns-in_err-first-clause-read : goal.returns-in_err-first-clause-read
returns-in_err-first-clause-read c = rw c.from_residual-in_err-first.ensures (no-name-bulk _ (begins (goal.at.returns-in_err-first-clause-read c).In_ok-set) c.in_err-first.ensures)

pub returns-in_err-key-clause-read : goal.returns-in_err-key-clause-read
returns-in_err-key-clause-read c = rw c.from_residual-in_err-key.ensures (nameless _ (begins (goal.at.returns-in_err-key-clause-read c).In_ok-set) c.in_ok-first.ensures c.in_err-key.ensures)

pub returns-in_err-second-clause-read : goal.returns-in_err-second-clause-read
returns-in_err-second-clause-read c =
    rw c.from_residual-in_err-second.ensures
    (no-value-bulk _ (begins (goal.at.returns-in_err-second-clause-read c).In_ok-set) c.in_ok-first.ensures c.in_ok-key.ensures c.in_err-second.ensures)

pub returns-in_err-value-clause-read : goal.returns-in_err-value-clause-read
returns-in_err-value-clause-read c =
    rw c.from_residual-in_err-value.ensures
    (valueless _ (begins (goal.at.returns-in_err-value-clause-read c).In_ok-set) c.in_ok-first.ensures c.in_ok-key.ensures c.in_ok-second.ensures c.in_err-value.ensures)

pub returns-clause-read : goal.returns-clause-read
returns-clause-read c =
    with_value _ (begins (goal.at.returns-clause-read c).In_ok-set) c.in_ok-first.ensures c.in_ok-key.ensures c.in_ok-second.ensures _ c.in_ok-value.ensures

pub returns-clause-shorter : goal.returns-clause-shorter
returns-clause-shorter c =
    version-shorter _ _ (with_value _ (begins (goal.at.returns-clause-shorter c).In_ok-set) c.in_ok-first.ensures c.in_ok-key.ensures c.in_ok-second.ensures _ c.in_ok-value.ensures)
