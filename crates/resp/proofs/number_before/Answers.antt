-- `resp::number_before` meets its contract.
use borrow.Author.Rules.{rules}
use native.Mathlib.Omega.{arith}
use Rattle.resp.proofs.NumberLaws.{ended-none, place_in, ended-alone, ended-some}
use Rattle.resp.proofs.number_before.Goals as goal

pub returns-in_err-n : goal.returns-in_err-n
returns-in_err-n c = rw c.from_residual.ensures (ended-none c.args.end _ _ c.number_in.ensures c.in_err-n.was)

pub overflow_add-at : goal.overflow_add-at
overflow_add-at c = let o = place_in c.args.end _ _ c.number_in.ensures c.in_ok-n.n c.in_ok-n.at c.in_ok-n.was in search rules

pub returns-in_err-rest : goal.returns-in_err-rest
returns-in_err-rest c = rw c.from_residual-in_err-rest.ensures (ended-alone c.args.end _ _ c.number_in.ensures c.in_ok-n.n c.in_ok-n.at c.in_ok-n.was (omega (arith, c.in_err-rest.ensures.lookup)))

pub returns : goal.returns
returns c = ended-some c.args.end _ _ c.number_in.ensures c.in_ok-n.n c.in_ok-n.at c.in_ok-n.was c.in_ok-rest.rest.now c.in_ok-rest.ensures.lookup.0.0 c.in_ok-rest.ensures.lookup.0.2
