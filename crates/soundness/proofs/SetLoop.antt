-- The loop over the first elements of a set, n at most: their keys ascend, and they are good.
use Prim.Native.Nat.{ℕ, ◌+◌, ◌-◌, ◌<◌, ◌≤◌}
use mathlib.Core.Path.{◌≡◌, ◌∙◌}
use mathlib.Core.Bool.{Bool, true, false}
use mathlib.Core.List.{List}
use lib.ListN.{length, drop, get_or}
use Rattle.soundness.specs.Parts.{fits, set_right}
use Rattle.soundness.proofs.Loops.{key_more, key-stop, good-stop, set-end}

module _ {A : Type 0} (key : A → ℕ) (good is_zero : A → Bool) (n : ℕ) (xs : List A) where
  -- j elements are passed, and a key to come is at least lo: the set is right where what is left of it is
  abbrev pub SetPassed : ℕ → ℕ → Type 0
  SetPassed lo j = set_right key good is_zero 0 n xs ≡ set_right key good is_zero lo (n - j) (drop j xs)

  module _ (lo j : ℕ) (h : SetPassed lo j) where
    pub key-wrong : (d : A) → j < n → j < length xs → fits lo (key (get_or xs j d)) ≡ false → set_right key good is_zero 0 n xs ≡ false
    key-wrong d u o e = h ∙ key-stop key good is_zero lo n xs j d o u e

    pub not_good : (d : A) → j < n → j < length xs → fits lo (key (get_or xs j d)) ≡ true → good (get_or xs j d) ≡ false → set_right key good is_zero 0 n xs ≡ false
    not_good d u o e g = h ∙ good-stop key good is_zero lo n xs j d o u e g

    pub key-next : (d : A) → j < n → j < length xs → fits lo (key (get_or xs j d)) ≡ true → good (get_or xs j d) ≡ true → SetPassed (key (get_or xs j d) + 1) (j + 1)
    key-next d u o e g = h ∙ key_more key good is_zero lo n xs j d o u e g

    pub keys-done : length xs ≤ j → set_right key good is_zero 0 n xs ≡ true
    keys-done o = h ∙ set-end key good is_zero lo (n - j) xs j o
