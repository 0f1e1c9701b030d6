-- The loop that ors fields of the elements of a list: they come to 0 where every element's are 0.
use Prim.Native.Nat.{ℕ, ◌+◌, ◌<◌, ◌≤◌}
use mathlib.Core.Path.{◌≡◌, refl, sym, ap, ap₂, ◌∙◌}
use mathlib.Core.Bool.{Bool, true, false}
use mathlib.Core.List.{List}
use lib.Dec.{eqb}
use lib.ListN.{length, drop, get_or}
use lib.Bits.{bit_or, or_add_and, and_le_l, and_le_r}
use native.Mathlib.Omega.{arith}
use borrow.Author.Tests.{eqb-true, eq-eqb}
use Rattle.model.specs.declared.Read.{Read}
use Rattle.model.specs.Lists.{◌and◌, all}
use Rattle.model.specs.Ids.{same_id}
use Rattle.model.specs.Sound.{is_no_read}
use Rattle.model.proofs.Tests.{and_left, and_right, and_intro, and-true, and_assoc, same_test}
use Rattle.model.proofs.RestLaws.{all_split, all_end}

crossed : (a b c d : Bool) → ((a and b) and (c and d)) ≡ ((a and c) and (b and d))
unfolding ◌and◌
crossed true true c d = refl
crossed true false true d = refl
crossed true false false d = refl
crossed false b c d = refl

-- ── the elements one by one ──
module _ {A : Type 0} (p : A → Bool) (xs : List A) where
  -- those before j are passed, and b says whether they all pass
  abbrev pub OrPassed : Bool → ℕ → Type 0
  OrPassed b j = all p xs ≡ (b and all p (drop j xs))

  pub or-start : OrPassed true 0
  unfolding ◌and◌
  or-start = refl

  module _ (b : Bool) (j : ℕ) (h : OrPassed b j) where
    pub or-next : (d : A) (c : Bool) → j < length xs → (b and p (get_or xs j d)) ≡ c → OrPassed c (j + 1)
    or-next d c o e =
        h ∙ ap (λ (x : Bool). b and x) (all_split p xs j d o) ∙ and_assoc b (p (get_or xs j d)) (all p (drop (j + 1) xs)) ∙ ap (λ (x : Bool). x and all p (drop (j + 1) xs)) e

    pub or-done : length xs ≤ j → b ≡ all p xs
    or-done o = sym (h ∙ ap (λ (x : Bool). b and x) (all_end p xs j o) ∙ and-true b)

-- ── fields ──
pub or-zero : (a b : ℕ) → eqb (bit_or a b) 0 ≡ (eqb a 0 and eqb b 0)
or-zero a b = same_test (eqb (bit_or a b) 0) (eqb a 0 and eqb b 0) there back
  where
    there : eqb (bit_or a b) 0 ≡ true → (eqb a 0 and eqb b 0) ≡ true
    there h =
        let z : bit_or a b ≡ 0 = eqb-true (bit_or a b) 0 h in
        let x : a ≡ 0 = omega (arith, z, or_add_and a b, and_le_r a b) in
        let y : b ≡ 0 = omega (arith, z, or_add_and a b, and_le_l a b) in
        and_intro _ _ (eq-eqb a 0 x) (eq-eqb b 0 y)

    back : (eqb a 0 and eqb b 0) ≡ true → eqb (bit_or a b) 0 ≡ true
    back h = eq-eqb (bit_or a b) 0 (ap₂ bit_or (eqb-true a 0 (and_left _ _ h)) (eqb-true b 0 (and_right _ _ h)))

-- a read's
pub read-or : (k c t : ℕ) (r : Read) → ((eqb k 0 and (eqb c 0 and eqb t 0)) and is_no_read r)
    ≡ (eqb (bit_or k r.key) 0 and (eqb (bit_or c r.id.clock) 0 and eqb (bit_or t r.id.txn) 0))
unfolding is_no_read same_id
read-or k c t r =
    crossed (eqb k 0) (eqb c 0 and eqb t 0) (eqb r.key 0) (eqb r.id.clock 0 and eqb r.id.txn 0)
    ∙ ap₂ (λ (a b : Bool). a and b) (sym (or-zero k r.key))
    (crossed (eqb c 0) (eqb t 0) (eqb r.id.clock 0) (eqb r.id.txn 0) ∙ ap₂ (λ (a b : Bool). a and b) (sym (or-zero c r.id.clock)) (sym (or-zero t r.id.txn)))
