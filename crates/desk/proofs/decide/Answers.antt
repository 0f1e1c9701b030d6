-- `desk::decide` meets its contract. Assumes nothing.
use mathlib.Core.Path.{sym, ap, ◌∙◌}
use mathlib.Core.Bool.{true≢false}
use mathlib.Core.Logic.{⊎_elim}
use Rattle.model.specs.Calls.{Start, Put, Get, Commit, Step, Abort, Collect, does, is_scan, is_sweep}
use Rattle.model.proofs.StoreLaws.{start-stores-nothing, put-stores-nothing, get-stores-nothing, commit-stores-nothing, abort-stores-nothing}
use Rattle.sheet.specs.declared.Command.{Command}
use Rattle.desk.specs.Acts.{call_of, asks_scan, asks_sweep}
use Rattle.desk.proofs.ActLaws.{decides, decides-quiet, decides_not}
use Rattle.desk.proofs.decide.Goals as goal

pub returns-in-Start : goal.returns-in-Start
unfolding call_of does
returns-in-Start c = decides-quiet _ _ _ (Start _) (ap call_of c.in-Start.is) _ _ c.start.ensures (start-stores-nothing _ _)

pub returns-in-Put : goal.returns-in-Put
unfolding call_of does
returns-in-Put c = decides-quiet _ _ _ (Put _ _ _) (ap call_of c.in-Put.is) _ _ c.put.ensures (put-stores-nothing _ _ _ _)

pub returns-in-Get : goal.returns-in-Get
unfolding call_of does
returns-in-Get c = decides-quiet _ _ _ (Get _ _) (ap call_of c.in-Get.is) _ _ c.get.ensures (get-stores-nothing _ _ _ _)

pub returns-in-Commit : goal.returns-in-Commit
unfolding call_of does
returns-in-Commit c = decides-quiet _ _ _ (Commit _ _) (ap call_of c.in-Commit.is) _ _ c.commit.ensures (commit-stores-nothing _ _ _)

pub returns-in-Step : goal.returns-in-Step
unfolding call_of does
returns-in-Step c = decides _ _ _ (Step _) (ap call_of c.in-Step.is) _ _ c.step.ensures.0 _ c.step.ensures.1

pub returns-in-Abort : goal.returns-in-Abort
unfolding call_of does
returns-in-Abort c = decides-quiet _ _ _ (Abort _) (ap call_of c.in-Abort.is) _ _ c.abort.ensures (abort-stores-nothing _ _)

pub returns-in-Collect : goal.returns-in-Collect
unfolding call_of does
returns-in-Collect c = decides _ _ _ (Collect _) (ap call_of c.in-Collect.is) _ _ c.collect.ensures.0 _ c.collect.ensures.1

pub returns-in-Malformed : goal.returns-in-Malformed
unfolding call_of does
returns-in-Malformed c = decides_not _ _ _ (ap call_of c.in-Malformed.is) _ _ c.refused.ensures

-- neither a cut nor a sweep was asked
pub returns-in-Cut : goal.returns-in-Cut
unfolding call_of asks_scan asks_sweep is_scan is_sweep
returns-in-Cut c = ⊎_elim
    (λ e. absurd (true≢false (sym (ap (λ (x : Command). asks_scan (call_of x)) e) ∙ c.requires.1)))
    (λ e. absurd (true≢false (sym (ap (λ (x : Command). asks_sweep (call_of x)) e.1) ∙ c.requires.2)))
    c.in-Cut.is
