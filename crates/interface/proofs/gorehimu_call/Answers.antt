-- `interface::gorehimu_call` meets its contract.
use mathlib.Core.Path.{◌≡◌, sym, ◌∙◌}
use mathlib.Core.Bool.{true, false}
use lib.ListN.{length}
use Rattle.interface.specs.Exchange.{fits_one}
use Rattle.interface.proofs.LengthLaws.{cond_yes, cond_no, one-image, one-request, one_answer, one-whole}
use Rattle.interface.proofs.RunLaws.{one-answered, one-held, run_store, run-image}
use Rattle.interface.proofs.gorehimu_call.Goals.{Else-not-one_fits, Then-not-one_fits}
use Rattle.interface.proofs.gorehimu_call.Goals as goal

-- what the test says on each arm
unfit : (c : Then-not-one_fits) → fits_one (length c.args.image.now) (length c.args.request.now) (length c.args.answer.now) ≡ false
unfit c = sym c.one_fits.ensures ∙ c.if-not-one_fits.true

fit : (c : Else-not-one_fits) → fits_one (length c.args.image.now) (length c.args.request.now) (length c.args.answer.now) ≡ true
fit c = sym c.one_fits.ensures ∙ c.if-not-one_fits.false

pub returns-then-not-one_fits : goal.returns-then-not-one_fits
returns-then-not-one_fits c =
    let e = unfit (goal.at.returns-then-not-one_fits c).Then-not-one_fits in
    record { value = cond_no _ _ _ e; image_after = cond_no _ _ _ e; store_after = cond_no _ _ _ e; answer_after = cond_no _ _ _ e }

pub run_requests-last-requires : goal.run_requests-last-requires
run_requests-last-requires c =
    let e = fit (goal.at.run_requests-last-requires c).Else-not-one_fits in
    record { request_size_len = one-whole _ _ (one-request _ _ _ e) (one_answer _ _ _ e); tested_value = c.current_in-first.ensures.2 }

pub keep-requires : goal.keep-requires
keep-requires c = one-image _ _ _ (fit (goal.at.keep-requires c).Else-not-one_fits)

pub returns : goal.returns
returns c =
    let a = c.args in
    let e = fit (goal.at.returns c).Else-not-one_fits in
    let f = c.current_in-first in
    let r = c.run_requests-last in
    let q = one-request _ _ _ e in
    let h = one-held a.image.now a.store.now a.request.now f.result f.ensures.0 f.ensures.1 q r.result r.new.store r.ensures.0 in record {
      value = cond_yes _ _ _ e;
      image_after = c.keep.ensures.image_after ∙ run-image a.image.now r.result r.new.store _ h ∙ cond_yes _ _ _ e;
      store_after = run_store r.result r.new.store _ h ∙ cond_yes _ _ _ e;
      answer_after = r.ensures.1 ∙ one-answered a.image.now a.store.now a.request.now f.result f.ensures.0 f.ensures.1 q ∙ cond_yes _ _ _ e;
    }
