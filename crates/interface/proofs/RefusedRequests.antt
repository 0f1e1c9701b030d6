-- A refused request that is no scan leaves the image's bytes and the store as they were. Over an image that is no station's, every request
-- but a scan is refused.
use Prim.Native.Nat.{ℕ}
use mathlib.Core.Path.{◌≡◌, refl, sym, ap, subst, ◌∙◌}
use mathlib.Core.Logic.{◌≢◌, ◌⊎◌, ⊎_elim}
use mathlib.Core.Bool.{Bool, true, false, true≢false}
use mathlib.Core.List.{List, [], ◌∷◌}
use mathlib.Core.Option.{Option, some, none}
use lib.ListN.{length}
use native.Mathlib.Omega.{arith}
use Rattle.model.specs.Lists.{◌and◌, ◌or◌, all}
use Rattle.model.specs.Ids.{same_id}
use Rattle.model.specs.Entries.{entry_rules, is_no_entry}
use Rattle.model.specs.Stations.{empty_station, set_entry}
use Rattle.model.specs.Sound.{entry_right, sound}
use Rattle.model.specs.Effects.{RecordWrite, Effect, says, stored}
use Rattle.model.specs.Calls.{Call, does}
use Rattle.model.specs.Answers.{refused_with}
use Rattle.model.proofs.Tests.{or_left, or_right, or-intro-left, or-false}
use Rattle.model.proofs.RecordLaws.{Bytes}
use Rattle.model.proofs.ListedLaws.{station-back}
use Rattle.desk.specs.Acts.{asks_scan}
use Rattle.desk.proofs.ActLaws.{Barred, call-barred}
use Rattle.image.specs.Images.{station_bytes, station_in, is_image}
use Rattle.image.proofs.Round.{image-length, image-fits, image-only}
use Rattle.sheet.specs.Sheets.{line_effect}
use Rattle.interface.specs.Exchange.{request_size, request_call, Held, unsound_station, held_in, request_effect, after_request, after_requests, image_of, image_after, after_run}
use Rattle.interface.proofs.RefusedLaws.{Unaltered, refused-unaltered}
use Rattle.interface.proofs.LengthLaws.{one-part}

-- ── where nothing was done the image stays as it was ──
pub image-held : (image s : List ℕ) → Bytes image → image_after image (held_in image s) ≡ image
unfolding image_after image_of held_in
image-held image s y = go (is_image image) refl
  where
    go : (b : Bool) → is_image image ≡ b → image_after image (held_in image s) ≡ image
    go true e = rw e (ap station_bytes (station-back (station_in image) (image-fits image (image-length image e) y)) ∙ image-only image e)
    go false e = rw e

-- ── a refused request ──
module _ (image s q : List ℕ) (n : asks_scan (request_call q) ≡ false) (r : refused_with (request_effect q (held_in image s)).answer ≢ 0) where
  unaltered : Unaltered (held_in image s).station (request_effect q (held_in image s))
  unfolding request_effect
  unaltered = refused-unaltered (request_call q) (held_in image s).station (held_in image s).store n r

  pub refused-held : after_request q (held_in image s) ≡ held_in image s
  unfolding after_request stored
  refused-held = λ i. record {
    whole = (ap (λ (b : Bool). (held_in image s).whole or b) n ∙ or-false (held_in image s).whole) i;
    station = unaltered.station-same i;
    store = ap (λ (w : List RecordWrite). stored w (held_in image s).store) unaltered.none-stored i;
  }

  pub refused-image : Bytes image → image_after image (after_request q (held_in image s)) ≡ image
  refused-image y = ap (image_after image) refused-held ∙ image-held image s y

  pub refused-store : (after_request q (held_in image s)).store ≡ s
  unfolding held_in
  refused-store = ap (λ (h : Held). h.store) refused-held

  -- as bytes handed over
  pub refused-run : Bytes image → length q ≡ request_size → (image_after image (after_run image s q) ≡ image) × ((after_run image s q).store ≡ s)
  refused-run y l = (ap (image_after image) one ∙ refused-image y, ap (λ (h : Held). h.store) one ∙ refused-store)
    where
      one : after_run image s q ≡ after_request q (held_in image s)
      one = unfold after_run in unfold after_requests in ap (λ (qs : List (List ℕ)). after_requests qs (held_in image s)) (one-part q l)

-- ── the station that is held where the image is none is not sound ──
pub unsound-station : sound unsound_station ≡ false
unfolding sound unsound_station set_entry empty_station all entry_right is_no_entry entry_rules same_id ◌and◌ ◌or◌
unsound-station = refl

pub no-station : (image s q : List ℕ) (c : Call) → is_image image ≡ false → request_call q ≡ some c → asks_scan (some c) ≡ false
    → (refused_with (request_effect q (held_in image s)).answer ≡ 1) ⊎ (refused_with (request_effect q (held_in image s)).answer ≡ 2)
unfolding request_effect held_in line_effect asks_scan
no-station image s q c e f n = rw (f, e) (barred (does c unsound_station s) (call-barred unsound_station unsound-station c s n))
  where
    barred : (x : Effect) → Barred unsound_station x → (refused_with x.answer ≡ 1) ⊎ (refused_with x.answer ≡ 2)
    barred x b = subst (λ (y : Effect). (refused_with y.answer ≡ 1) ⊎ (refused_with y.answer ≡ 2)) (sym b.refused-so) (unfold says in unfold refused_with in b.one-or-two)

one-two : ◌≡◌ {A = ℕ} 1 0 → ⊥
one-two z = absurd (omega arith)

two-one : ◌≡◌ {A = ℕ} 2 0 → ⊥
two-one z = absurd (omega arith)

-- ── an image that is no station's, and the store, stay as they were until a scan ──
module _ (image s q : List ℕ) (e : is_image image ≡ false) where
  always-refused : asks_scan (request_call q) ≡ false → refused_with (request_effect q (held_in image s)).answer ≢ 0
  always-refused n = go (request_call q) refl n
    where
      go : (c : Option Call) → request_call q ≡ c → asks_scan c ≡ false → refused_with (request_effect q (held_in image s)).answer ≢ 0
      go none f m = unfold request_effect in unfold line_effect in unfold says in unfold refused_with in rw f (λ (z : ◌≡◌ {A = ℕ} 19 0). absurd (omega arith))
      go (some c) f m = λ z. ⊎_elim (λ x. one-two (sym x ∙ z)) (λ x. two-one (sym x ∙ z)) (no-station image s q c e f m)

-- once the image is to be the station's it stays so
pub whole-stays : (qs : List (List ℕ)) (h : Held) → h.whole ≡ true → (after_requests qs h).whole ≡ true
unfolding after_requests after_request
whole-stays [] h e = e
whole-stays (q ∷ qs) h e = whole-stays qs (after_request q h) (or-intro-left _ _ e)

pub untouched : (image s : List ℕ) (qs : List (List ℕ)) → (after_requests qs (held_in image s)).whole ≡ false → after_requests qs (held_in image s) ≡ held_in image s
unfolding after_requests
untouched image s [] e = refl
untouched image s (q ∷ qs) e = go (after_request q (held_in image s)).whole refl (untouched image s qs)
  where
    go : (b : Bool) → (after_request q (held_in image s)).whole ≡ b → ((after_requests qs (held_in image s)).whole ≡ false → after_requests qs (held_in image s) ≡ held_in image s)
        → after_requests qs (after_request q (held_in image s)) ≡ held_in image s
    go true f ih = absurd (true≢false (sym (whole-stays qs (after_request q (held_in image s)) f) ∙ e))
    go false f ih = ap (after_requests qs) k ∙ ih (sym (ap (λ (h : Held). (after_requests qs h).whole) k) ∙ e)
      where
        either : ((held_in image s).whole or asks_scan (request_call q)) ≡ false
        either = unfold after_request in f

        n : asks_scan (request_call q) ≡ false
        n = or_right _ _ either

        none-there : is_image image ≡ false
        none-there = unfold held_in in or_left _ _ either

        k : after_request q (held_in image s) ≡ held_in image s
        k = refused-held image s q n (always-refused image s q none-there n)
