-- Laws of the tests `and`, `or`, `not`.
use mathlib.Core.Path.{◌≡◌, refl, sym, ◌∙◌}
use mathlib.Core.Logic.{◌⊎◌, inl, inr}
use mathlib.Core.Bool.{Bool, true, false, not, true≢false, false≢true}
use borrow.Author.Tests.{not-true}
use Rattle.model.specs.Lists.{◌and◌, ◌or◌}

pub and_left : (a b : Bool) → (a and b) ≡ true → a ≡ true
unfolding ◌and◌
and_left true b h = refl
and_left false b h = h

pub and_right : (a b : Bool) → (a and b) ≡ true → b ≡ true
unfolding ◌and◌
and_right true b h = h
and_right false b h = absurd (false≢true h)

pub and_intro : (a b : Bool) → a ≡ true → b ≡ true → (a and b) ≡ true
unfolding ◌and◌
and_intro true b ea eb = eb
and_intro false b ea eb = absurd (false≢true ea)

pub and-true : (a : Bool) → (a and true) ≡ a
unfolding ◌and◌
and-true true = refl
and-true false = refl

-- a conjunction fails, and its first part holds
pub and_second : (a b : Bool) → (a and b) ≡ false → a ≡ true → b ≡ false
unfolding ◌and◌
and_second true b h e = h
and_second false b h e = absurd (false≢true e)

pub or_left : (a b : Bool) → (a or b) ≡ false → a ≡ false
unfolding ◌or◌
or_left true b h = absurd (true≢false h)
or_left false b h = refl

pub or_right : (a b : Bool) → (a or b) ≡ false → b ≡ false
unfolding ◌or◌
or_right true b h = absurd (true≢false h)
or_right false b h = h

pub or-none : (a b : Bool) → a ≡ false → b ≡ false → (a or b) ≡ false
unfolding ◌or◌
or-none true b ea eb = absurd (true≢false ea)
or-none false b ea eb = eb

pub or-intro-left : (a b : Bool) → a ≡ true → (a or b) ≡ true
unfolding ◌or◌
or-intro-left true b e = refl
or-intro-left false b e = absurd (false≢true e)

pub or-intro-right : (a b : Bool) → b ≡ true → (a or b) ≡ true
unfolding ◌or◌
or-intro-right true b e = refl
or-intro-right false b e = e

pub or_cases : (a b : Bool) → (a or b) ≡ true → (a ≡ true) ⊎ (b ≡ true)
unfolding ◌or◌
or_cases true b h = inl refl
or_cases false b h = inr h

-- `not (a and b)` holds, and a does
pub nand : (a b : Bool) → not (a and b) ≡ true → a ≡ true → b ≡ false
nand a b h e = and_second a b (not-true _ h) e

pub not_of_false : (a : Bool) → a ≡ false → not a ≡ true
not_of_false a e = rw e

pub not-of-true : (a : Bool) → a ≡ true → not a ≡ false
not-of-true a e = rw e

-- a test that is not true is false
pub bool_cases : (a : Bool) → (a ≡ true) ⊎ (a ≡ false)
bool_cases true = inl refl
bool_cases false = inr refl

-- a conjunction with a part that fails
pub and-none-left : (x y : Bool) → x ≡ false → (x and y) ≡ false
unfolding ◌and◌
and-none-left true y e = absurd (true≢false e)
and-none-left false y e = refl

pub and-none-right : (x y : Bool) → y ≡ false → (x and y) ≡ false
unfolding ◌and◌
and-none-right true y e = e
and-none-right false y e = refl

-- a conjunction fails, and its second part holds
pub and_first : (x y : Bool) → (x and y) ≡ false → y ≡ true → x ≡ false
unfolding ◌and◌
and_first true y e q = absurd (true≢false (sym q ∙ e))
and_first false y e q = refl

pub and_assoc : (a b c : Bool) → (a and (b and c)) ≡ (a and b and c)
unfolding ◌and◌
and_assoc true b c = refl
and_assoc false b c = refl

pub or-false : (a : Bool) → (a or false) ≡ a
unfolding ◌or◌
or-false true = refl
or-false false = refl

pub or_assoc : (a b c : Bool) → (a or b or c) ≡ (a or (b or c))
unfolding ◌or◌
or_assoc true b c = refl
or_assoc false b c = refl

-- two tests that say the same
pub same_test : (a b : Bool) → (a ≡ true → b ≡ true) → (b ≡ true → a ≡ true) → a ≡ b
same_test true b f g = sym (f refl)
same_test false true f g = g refl
same_test false false f g = refl

pub or_swap : (a b c : Bool) → (a or (b or c)) ≡ (b or (a or c))
unfolding ◌or◌
or_swap true true c = refl
or_swap true false c = refl
or_swap false b c = refl

pub or-twice : (a b : Bool) → (a or (a or b)) ≡ (a or b)
unfolding ◌or◌
or-twice true b = refl
or-twice false b = refl
