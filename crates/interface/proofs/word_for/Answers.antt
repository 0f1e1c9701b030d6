-- `interface::word_for` meets its contract.
use native.Mathlib.Omega.{arith}
use Rattle.sheet.specs.Parts.{verb_of}
use Rattle.interface.specs.Exchange.{verb_numbered}
use Rattle.interface.proofs.ByteLaws.{verb-unknown}
use Rattle.interface.proofs.word_for.Goals as goal

pub returns-in-1 : goal.returns-in-1
unfolding verb_of verb_numbered
returns-in-1 c = rw c.in-1.is

pub returns-in-2 : goal.returns-in-2
unfolding verb_of verb_numbered
returns-in-2 c = rw c.in-2.is

pub returns-in-3 : goal.returns-in-3
unfolding verb_of verb_numbered
returns-in-3 c = rw c.in-3.is

pub returns-in-4 : goal.returns-in-4
unfolding verb_of verb_numbered
returns-in-4 c = rw c.in-4.is

pub returns-in-5 : goal.returns-in-5
unfolding verb_of verb_numbered
returns-in-5 c = rw c.in-5.is

pub returns-in-6 : goal.returns-in-6
unfolding verb_of verb_numbered
returns-in-6 c = rw c.in-6.is

pub returns-in-7 : goal.returns-in-7
unfolding verb_of verb_numbered
returns-in-7 c = rw c.in-7.is

pub returns-in-8 : goal.returns-in-8
unfolding verb_of verb_numbered
returns-in-8 c = rw c.in-8.is

pub returns-in_default : goal.returns-in_default
unfolding verb_of
returns-in_default c = verb-unknown c.args.verb (λ e. omega arith) (λ e. omega arith) (λ e. omega arith) (λ e. omega arith) (λ e. omega arith) (λ e. omega arith) (λ e. omega arith) (λ e. omega arith)
