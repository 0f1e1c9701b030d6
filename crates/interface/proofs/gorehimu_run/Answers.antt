-- `interface::gorehimu_run` meets its contract.
use mathlib.Core.Path.{◌≡◌, sym, ◌∙◌}
use mathlib.Core.Bool.{true, false, true≢false}
use lib.ListN.{length}
use Rattle.interface.specs.Exchange.{fits}
use Rattle.interface.proofs.LengthLaws.{cond_yes, cond_no, image-fits, requests-fit, answers-fit}
use Rattle.interface.proofs.RunLaws.{run-answers, run-held, run_store, run-image}
use Rattle.interface.proofs.TwoRuns.{run-kept}
use Rattle.interface.proofs.gorehimu_run.Goals.{Else-not-lengths_fit, Then-not-lengths_fit}
use Rattle.interface.proofs.gorehimu_run.Goals as goal

-- what the test says on each arm
unfit : (c : Then-not-lengths_fit) → fits (length c.args.image.now) (length c.args.requests.now) (length c.args.answers.now) ≡ false
unfit c = sym c.lengths_fit.ensures ∙ c.if-not-lengths_fit.true

fit : (c : Else-not-lengths_fit) → fits (length c.args.image.now) (length c.args.requests.now) (length c.args.answers.now) ≡ true
fit c = sym c.lengths_fit.ensures ∙ c.if-not-lengths_fit.false

pub returns-then-not-lengths_fit : goal.returns-then-not-lengths_fit
returns-then-not-lengths_fit c =
    let e = unfit (goal.at.returns-then-not-lengths_fit c).Then-not-lengths_fit in
    record { value = cond_no _ _ _ e; image_after = cond_no _ _ _ e; store_after = cond_no _ _ _ e; answers_after = cond_no _ _ _ e; store_after_2 = λ h. absurd (true≢false (sym h ∙ e)) }

pub run_requests-last-requires : goal.run_requests-last-requires
run_requests-last-requires c =
    let e = fit (goal.at.run_requests-last-requires c).Else-not-lengths_fit in
    record { request_size_len = (requests-fit _ _ _ e, answers-fit _ _ _ e); tested_value = c.current_in-first.ensures.2 }

pub keep-requires : goal.keep-requires
keep-requires c = image-fits _ _ _ (fit (goal.at.keep-requires c).Else-not-lengths_fit)

pub returns : goal.returns
returns c =
    let a = c.args in
    let e = fit (goal.at.returns c).Else-not-lengths_fit in
    let f = c.current_in-first in
    let r = c.run_requests-last in
    let w = c.keep in
    let h = run-held a.image.now a.store.now a.requests.now f.result f.ensures.0 f.ensures.1 r.result r.new.store r.ensures.0 in record {
      value = cond_yes _ _ _ e;
      image_after = w.ensures.image_after ∙ run-image a.image.now r.result r.new.store _ h ∙ cond_yes _ _ _ e;
      store_after = run_store r.result r.new.store _ h ∙ cond_yes _ _ _ e;
      answers_after = r.ensures.1 ∙ run-answers a.image.now a.store.now a.requests.now f.result f.ensures.0 f.ensures.1 ∙ cond_yes _ _ _ e;
      store_after_2 = λ _. run-kept a.image.now a.store.now a.requests.now w.new.image r.result r.new.store h w.ensures.image_after w.ensures.image_after_2;
    }
