-- `interface::recover_of` meets its contract.
use mathlib.Core.Path.{◌≡◌, sym, ap, ◌∙◌}
use mathlib.Core.Bool.{true, false}
use lib.ListN.{length}
use Rattle.model.specs.Listed.{numbered}
use Rattle.image.specs.Images.{station_bytes}
use Rattle.interface.specs.Exchange.{request_size, image_of, fits_one}
use Rattle.interface.proofs.LengthLaws.{cond_yes, cond_no, one-image, one_answer}
use Rattle.interface.proofs.recover_of.Goals.{Else-not-one_fits, Then-not-one_fits}
use Rattle.interface.proofs.recover_of.Goals as goal

-- what the test says on each arm
unfit : (c : Then-not-one_fits) → fits_one (length c.args.image.now) request_size (length c.args.answer.now) ≡ false
unfit c = sym c.one_fits.ensures ∙ c.if-not-one_fits.true

fit : (c : Else-not-one_fits) → fits_one (length c.args.image.now) request_size (length c.args.answer.now) ≡ true
fit c = sym c.one_fits.ensures ∙ c.if-not-one_fits.false

pub returns-then-not-one_fits : goal.returns-then-not-one_fits
returns-then-not-one_fits c =
    let e = unfit (goal.at.returns-then-not-one_fits c).Then-not-one_fits in
    record { value = cond_no _ _ _ e; image_after = cond_no _ _ _ e; answer_after = cond_no _ _ _ e }

pub run_scan-found-requires : goal.run_scan-found-requires
run_scan-found-requires c = one_answer _ _ _ (fit (goal.at.run_scan-found-requires c).Else-not-one_fits)

pub write_image-requires : goal.write_image-requires
write_image-requires c = one-image _ _ _ (fit (goal.at.write_image-requires c).Else-not-one_fits)

pub returns : goal.returns
unfolding image_of
returns c =
    let w = c.write_image.ensures in
    let e = fit (goal.at.returns c).Else-not-one_fits in
    let r = c.run_scan-found.ensures in
    record { value = cond_yes _ _ _ e; image_after = w.bytes_after ∙ ap station_bytes (sym w.station_value ∙ ap numbered r.2) ∙ cond_yes _ _ _ e; answer_after = r.3 ∙ cond_yes _ _ _ e }
