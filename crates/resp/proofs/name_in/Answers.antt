-- `resp::name_in` meets its contract.
use mathlib.Core.Path.{◌≡◌}
use mathlib.Core.List.{[], ◌∷◌}
use mathlib.Core.Option.{some}
use native.Mathlib.Omega.{arith}
use Rattle.model.specs.Limits.{keys}
use Rattle.resp.specs.Streams.{slash}
use Rattle.resp.specs.Inverse.{after}
use Rattle.resp.proofs.AfterLaws.{stripped-none, stripped-some}
use Rattle.resp.proofs.NumberLaws.{ended-below}
use Rattle.resp.proofs.NameLaws.{no_name, keyless, idless, name-read}
use Rattle.resp.proofs.name_in.Goals.{In_ok-named}
use Rattle.resp.proofs.name_in.Goals as goal

begins : (c : In_ok-named) → after (118 ∷ slash ∷ []) c.args.s.now ≡ some c.in_ok-named.named.now
begins c = stripped-some (118 ∷ slash ∷ []) _ _ c.strip_prefix.ensures.cases c.in_ok-named.named c.in_ok-named.was

pub returns-in_err-named : goal.returns-in_err-named
returns-in_err-named c = rw c.from_residual.ensures (no_name _ (stripped-none (118 ∷ slash ∷ []) _ _ c.strip_prefix.ensures.cases c.in_err-named.was))

pub returns-in_err-key : goal.returns-in_err-key
returns-in_err-key c = rw c.from_residual-in_err-key.ensures (keyless _ (begins (goal.at.returns-in_err-key c).In_ok-named) c.in_err-key.ensures)

pub returns-in_err-id : goal.returns-in_err-id
returns-in_err-id c = rw c.from_residual-in_err-id.ensures (idless _ (begins (goal.at.returns-in_err-id c).In_ok-named) c.in_ok-key.ensures c.in_err-id.ensures)

pub overflow_cast-result : goal.overflow_cast-result
overflow_cast-result c = omega (arith, ended-below slash keys _ _ c.in_ok-key.ensures)

pub returns : goal.returns
returns c = name-read _ (begins (goal.at.returns c).In_ok-named) c.in_ok-key.ensures _ c.in_ok-id.ensures
