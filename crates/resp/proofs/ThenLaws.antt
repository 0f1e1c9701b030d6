-- One thing read, and another after it.
use mathlib.Core.Path.{◌≡◌, refl}
use mathlib.Core.Option.{Option, some, none, none-ne-some}
use Rattle.resp.specs.Inverse.{◌then◌}

module _ {A B : Type 0} (m : Option A) (f : A → Option B) where
  pub then_some : (x : A) → m ≡ some x → (m then f) ≡ f x
  unfolding ◌then◌
  then_some x h = rw h

  pub then-none : m ≡ none → (m then f) ≡ none
  unfolding ◌then◌
  then-none h = rw h

-- where both are read, the first is, and the second after it
pub then-read : {A B C : Type 0} (m : Option A) (f : A → Option B) (y : B) → (m then f) ≡ some y → ((x : A) → m ≡ some x → f x ≡ some y → C) → C
unfolding ◌then◌
then-read none f y h k = absurd (none-ne-some y h)
then-read (some x) f y h k = k x refl h

-- two ways to go on that say the same of what is read
pub then-both : {A B : Type 0} (m : Option A) (f g : A → Option B) → ((x : A) → m ≡ some x → f x ≡ g x) → (m then f) ≡ (m then g)
unfolding ◌then◌
then-both none f g h = refl
then-both (some x) f g h = h x refl
