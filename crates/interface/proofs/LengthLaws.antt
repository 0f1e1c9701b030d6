-- Choices by a test, and the lengths that are handed over.
use Prim.Native.Nat.{ℕ, ◌*◌, ◌/◌, ◌%◌}
use mathlib.Core.Path.{◌≡◌, refl, sym, ◌∙◌}
use mathlib.Core.Logic.{◌≢◌}
use mathlib.Core.Bool.{Bool, true, false, cond, true≢false, false≢true}
use mathlib.Core.List.{List, [], ◌∷◌}
use lib.Dec.{eqb}
use lib.ListN.{length}
use lib.Seq.{take_all}
use native.Mathlib.Decide.{ℕ_discrete}
use native.Mathlib.Omega.{arith}
use borrow.Author.Tests.{eqb-true, eq-eqb, ne_eqb}
use Rattle.model.specs.Lists.{◌and◌}
use Rattle.model.proofs.Tests.{and_left, and_right, and-none-left, and-none-right}
use Rattle.image.specs.Layout.{image_size, parts}
use Rattle.interface.specs.Exchange.{request_size, answer_size, requests_in, fits, fits_one}

pub cond_yes : {A : Type 0} (b : Bool) (x y : A) → b ≡ true → x ≡ cond b x y
cond_yes true x y h = refl
cond_yes false x y h = absurd (false≢true h)

pub cond_no : {A : Type 0} (b : Bool) (x y : A) → b ≡ false → y ≡ cond b x y
cond_no true x y h = absurd (true≢false h)
cond_no false x y h = refl

module _ (i r a : ℕ) where
  pub no-image : i ≢ image_size → false ≡ fits i r a
  unfolding fits
  no-image h = sym (and-none-left _ _ (and-none-left _ _ (ne_eqb i image_size h)))

  pub no-requests : r % request_size ≢ 0 → false ≡ fits i r a
  unfolding fits
  no-requests h = sym (and-none-left _ _ (and-none-right (eqb i image_size) _ (ne_eqb (r % request_size) 0 h)))

  pub no-answers : a % answer_size ≢ 0 → false ≡ fits i r a
  unfolding fits
  no-answers h = sym (and-none-right (eqb i image_size and eqb (r % request_size) 0) _ (ne_eqb a (answer_size * (r / request_size)) (λ e. h (omega (arith, e)))))

  pub one_each : i ≡ image_size → r % request_size ≡ 0 → a % answer_size ≡ 0 → eqb (a / answer_size) (r / request_size) ≡ fits i r a
  unfolding fits ◌and◌
  one_each e f g = rw (eq-eqb i image_size e, eq-eqb (r % request_size) 0 f) (go (ℕ_discrete (a / answer_size) (r / request_size)))
    where
      go : Dec (a / answer_size ≡ r / request_size) → eqb (a / answer_size) (r / request_size) ≡ eqb a (answer_size * (r / request_size))
      go (yes h) = eq-eqb (a / answer_size) (r / request_size) h ∙ sym (eq-eqb a (answer_size * (r / request_size)) (omega arith))
      go (no h) = ne_eqb (a / answer_size) (r / request_size) h ∙ sym (ne_eqb a (answer_size * (r / request_size)) (λ k. h (omega arith)))

  module _ (h : fits i r a ≡ true) where
    pub image-fits : i ≡ image_size
    unfolding fits
    image-fits = eqb-true i image_size (and_left _ _ (and_left _ _ h))

    pub requests-fit : r % request_size ≡ 0
    unfolding fits
    requests-fit = eqb-true (r % request_size) 0 (and_right _ _ (and_left _ _ h))

    pub answers-fit : a ≡ answer_size * (r / request_size)
    unfolding fits
    answers-fit = eqb-true a (answer_size * (r / request_size)) (and_right _ _ h)

-- one request
module _ (i r a : ℕ) where
  pub one-no-image : i ≢ image_size → false ≡ fits_one i r a
  unfolding fits_one
  one-no-image h = sym (and-none-left _ _ (and-none-left _ _ (ne_eqb i image_size h)))

  pub one-no-request : r ≢ request_size → false ≡ fits_one i r a
  unfolding fits_one
  one-no-request h = sym (and-none-left _ _ (and-none-right (eqb i image_size) _ (ne_eqb r request_size h)))

  pub one-rest : i ≡ image_size → r ≡ request_size → eqb a answer_size ≡ fits_one i r a
  unfolding fits_one ◌and◌
  one-rest e f = rw (eq-eqb i image_size e, eq-eqb r request_size f)

  module _ (h : fits_one i r a ≡ true) where
    pub one-image : i ≡ image_size
    unfolding fits_one
    one-image = eqb-true i image_size (and_left _ _ (and_left _ _ h))

    pub one-request : r ≡ request_size
    unfolding fits_one
    one-request = eqb-true r request_size (and_right _ _ (and_left _ _ h))

    pub one_answer : a ≡ answer_size
    unfolding fits_one
    one_answer = eqb-true a answer_size (and_right _ _ h)

-- bytes of one request's length are one request
pub one-whole : (r a : ℕ) → r ≡ request_size → a ≡ answer_size → (r % request_size ≡ 0) × (a ≡ answer_size * (r / request_size))
one-whole r a e f = (omega arith, omega arith)

pub one-part : (b : List ℕ) → length b ≡ request_size → requests_in b ≡ b ∷ []
unfolding requests_in parts
one-part b l = rw (l, take_all request_size b (omega (arith, l)))
