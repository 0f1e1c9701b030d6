-- What is held after a run is all in the image and the store; so requests that come in two runs come to what they do in one.
use Prim.Native.Nat.{ℕ, zero, suc, ◌+◌, ◌*◌, ◌/◌, ◌%◌, ◌≤◌}
use mathlib.Core.Path.{◌≡◌, refl, sym, ap, ap₂, ◌∙◌}
use mathlib.Core.Bool.{Bool, true, false, cond, true≢false}
use mathlib.Core.List.{List, [], ◌∷◌, ◌++◌, append_assoc}
use lib.ListN.{length, take, drop, length-append, length-drop}
use lib.Seq.{take-append-le, drop-append-le}
use native.Mathlib.Nat.{mul-zero, mul-suc, suc-ne-zero}
use native.Mathlib.Omega.{arith}
use Rattle.model.specs.Listed.{listed}
use Rattle.image.specs.Layout.{parts}
use Rattle.image.specs.Images.{station_in, is_image}
use Rattle.interface.specs.declared.Current.{Current}
use Rattle.interface.specs.Exchange.{request_size, answer_bytes, Held, unsound_station, held_in, request_effect, after_request, after_requests, answers_to, image_of, image_after, requests_in, after_run, answers_in}
use Rattle.interface.specs.Parts.{held_of}
use Rattle.interface.proofs.LengthLaws.{cond_yes, cond_no}
use Rattle.interface.proofs.RefusedRequests.{whole-stays, untouched}

-- ── what is held after a run ──
module _ (image s b x : List ℕ) (h : Held) (k : h ≡ after_run image s b) (e : x ≡ cond h.whole (image_of h.station) image)
    (f : h.whole ≡ true → (is_image x ≡ true) × (listed (station_in x) ≡ h.station)) where
  pub held_after : held_in x h.store ≡ after_run image s b
  held_after = go h.whole refl ∙ k
    where
      go : (w : Bool) → h.whole ≡ w → held_in x h.store ≡ h
      go true g = unfold held_in in λ i. record {
        whole = ((f g).0 ∙ sym g) i;
        station = (sym (cond_yes (is_image x) (listed (station_in x)) unsound_station (f g).0) ∙ (f g).1) i;
        store = h.store;
      }
      go false g = ap₂ held_in same-image same_store ∙ sym same-held
        where
          same-image : x ≡ image
          same-image = e ∙ sym (cond_no h.whole (image_of h.station) image g)

          same-held : h ≡ held_in image s
          same-held = k ∙ (unfold after_run in untouched image s (requests_in b) (sym (ap (λ (y : Held). y.whole) (unfold after_run in k)) ∙ g))

          same_store : h.store ≡ s
          same_store = unfold held_in in ap (λ (y : Held). y.store) same-held

-- the same of what the code hands on
pub run-kept : (image s b x : List ℕ) (l : Current) (s' : List ℕ) → held_of l s' ≡ after_run image s b → x ≡ cond l.whole (image_of (listed l.station)) image
    → (l.whole ≡ true → (is_image x ≡ true) × (listed (station_in x) ≡ listed l.station)) → held_in x s' ≡ after_run image s b
unfolding held_of
run-kept image s b x l s' k e f = held_after image s b x (held_of l s') k e f

-- ── two runs ──
image-own : (x : List ℕ) (h : Held) → h.whole ≡ true → image_after x h ≡ image_of h.station
unfolding image_after
image-own x h e = sym (cond_yes h.whole (image_of h.station) x e)

image-as-was : (x : List ℕ) (h : Held) → h.whole ≡ false → image_after x h ≡ x
unfolding image_after
image-as-was x h e = sym (cond_no h.whole (image_of h.station) x e)

after-append : (ps qs : List (List ℕ)) (h : Held) → after_requests (ps ++ qs) h ≡ after_requests qs (after_requests ps h)
unfolding after_requests
after-append [] qs h = refl
after-append (p ∷ ps) qs h = after-append ps qs (after_request p h)

answers-append : (ps qs : List (List ℕ)) (h : Held) → answers_to (ps ++ qs) h ≡ answers_to ps h ++ answers_to qs (after_requests ps h)
unfolding after_requests answers_to
answers-append [] qs h = refl
answers-append (p ∷ ps) qs h =
    ap (λ (x : List ℕ). answer_bytes (request_effect p h).answer ++ x) (answers-append ps qs (after_request p h))
    ∙ sym (append_assoc (answer_bytes (request_effect p h).answer) (answers_to ps (after_request p h)) (answers_to qs (after_requests ps (after_request p h))))

parts-append : (k n m : ℕ) (b c : List ℕ) → length b ≡ k * n → parts k (n + m) (b ++ c) ≡ parts k n b ++ parts k m c
unfolding parts
parts-append k zero m [] c l =
    let e : 0 + m ≡ m = omega arith in
    ap (λ (n : ℕ). parts k n c) e
parts-append k zero m (x ∷ b) c l = absurd (suc-ne-zero _ (l ∙ mul-zero k))
parts-append k (suc n) m b c l =
    let e : suc n + m ≡ suc (n + m) = omega arith in
    let o : k ≤ length b = omega (arith, l, mul-suc k n) in
    ap (λ (j : ℕ). parts k j (b ++ c)) e
    ∙ ap₂ (λ (x : List ℕ) (y : List ℕ). x ∷ parts k (n + m) y) (take-append-le k b c o) (drop-append-le k b c o)
    ∙ ap (λ (x : List (List ℕ)). take k b ∷ x) (parts-append k n m (drop k b) c (length-drop k b ∙ omega (arith, l, mul-suc k n)))

module _ (image s b c : List ℕ) (l : length b % request_size ≡ 0) where
  requests-append : requests_in (b ++ c) ≡ requests_in b ++ requests_in c
  unfolding requests_in
  requests-append =
      let e : length (b ++ c) / request_size ≡ length b / request_size + length c / request_size = omega (arith, l, length-append b c) in
      ap (λ (n : ℕ). parts request_size n (b ++ c)) e ∙ parts-append request_size (length b / request_size) (length c / request_size) b c (omega (arith, l))

  all_held : after_requests (requests_in c) (after_run image s b) ≡ after_run image s (b ++ c)
  unfolding after_run
  all_held = sym (after-append (requests_in b) (requests_in c) (held_in image s)) ∙ ap (λ (qs : List (List ℕ)). after_requests qs (held_in image s)) (sym requests-append)

  -- the image is not the station's after both, so it was not after the first
  not_yet : (after_run image s (b ++ c)).whole ≡ false → (after_run image s b).whole ≡ false
  not_yet f = go (after_run image s b).whole refl
    where
      go : (w : Bool) → (after_run image s b).whole ≡ w → (after_run image s b).whole ≡ false
      go true g = absurd (true≢false (sym (whole-stays (requests_in c) (after_run image s b) g) ∙ ap (λ (y : Held). y.whole) all_held ∙ f))
      go false g = g

  -- the second run begins with the bytes that the first has left
  module _ (x s' : List ℕ) (h : held_in x s' ≡ after_run image s b) where
    pub runs-held : after_run x s' c ≡ after_run image s (b ++ c)
    unfolding after_run
    runs-held = ap (after_requests (requests_in c)) h ∙ all_held

    pub runs-answers : answers_in image s b ++ answers_in x s' c ≡ answers_in image s (b ++ c)
    unfolding answers_in after_run
    runs-answers =
        ap (λ (y : Held). answers_to (requests_in b) (held_in image s) ++ answers_to (requests_in c) y) h
        ∙ sym (answers-append (requests_in b) (requests_in c) (held_in image s))
        ∙ ap (λ (qs : List (List ℕ)). answers_to qs (held_in image s)) (sym requests-append)

    pub runs_image : x ≡ image_after image (after_run image s b) → image_after x (after_run x s' c) ≡ image_after image (after_run image s (b ++ c))
    runs_image e = ap (image_after x) runs-held ∙ go (after_run image s (b ++ c)).whole refl
      where
        go : (w : Bool) → (after_run image s (b ++ c)).whole ≡ w → image_after x (after_run image s (b ++ c)) ≡ image_after image (after_run image s (b ++ c))
        go true g = image-own x _ g ∙ sym (image-own image _ g)
        go false g = image-as-was x _ g ∙ e ∙ image-as-was image _ (not_yet g) ∙ sym (image-as-was image _ g)
