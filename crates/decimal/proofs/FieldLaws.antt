-- Fields: the place of the first byte that ends one, and what is after it.
use Prim.Native.Nat.{ℕ, suc, ◌+◌, ◌-◌, ◌<◌, ◌≤◌}
use mathlib.Core.Path.{◌≡◌, refl, sym, ap, ◌∙◌}
use mathlib.Core.Logic.{◌≢◌}
use mathlib.Core.Bool.{Bool, true, false, cond}
use mathlib.Core.List.{List, [], ◌∷◌}
use mathlib.Core.Option.{some, none}
use lib.Dec.{eqb}
use lib.ListN.{length, take, drop, get_or, length-drop, drop_of_length-le, length-take}
use lib.Seq.{take_all, drop-cons}
use native.Mathlib.Nat.{le_of_suc-le-suc, not-suc-le-zero}
use native.Mathlib.Omega.{arith}
use native.Mathlib.Numerals.{add-one}
use borrow.Author.Tests.{eq-eqb, ne_eqb}
use Rattle.model.specs.Lists.{first}
use Rattle.decimal.specs.Fields.{field, after_field}

-- ── the rest of a list ──
pub rest-next : (l : List ℕ) (i : ℕ) → i < length l → drop i l ≡ get_or l i 0 ∷ drop (i + 1) l
rest-next l i o = rw (add-one i) (drop-cons l i 0 o)

-- the rest of a slice, as a part
pub rest_part : (s : List ℕ) (n : ℕ) → n ≤ length s → take (length s - n) (drop n s) ≡ drop n s
rest_part s n h = take_all (length s - n) (drop n s) (omega (arith, length-drop n s))

-- ── the first byte that ends a field ──
module _ (end : ℕ) where
  pub field-yes : (b : ℕ) (bs : List ℕ) → eqb b end ≡ true → field end (b ∷ bs) ≡ []
  unfolding field
  field-yes b bs h = rw h

  pub field-no : (b : ℕ) (bs : List ℕ) → eqb b end ≡ false → field end (b ∷ bs) ≡ b ∷ field end bs
  unfolding field
  field-no b bs h = rw h

  after-yes : (b : ℕ) (bs : List ℕ) → eqb b end ≡ true → after_field end (b ∷ bs) ≡ some bs
  unfolding after_field
  after-yes b bs h = rw h

  after-no : (b : ℕ) (bs : List ℕ) → eqb b end ≡ false → after_field end (b ∷ bs) ≡ after_field end bs
  unfolding after_field
  after-no b bs h = rw h

  -- the field from a place on: at the byte that ends it, before that, past the last byte
  pub field-here : (s : List ℕ) (i : ℕ) → i < length s → get_or s i 0 ≡ end → field end (drop i s) ≡ []
  field-here s i o h = ap (field end) (rest-next s i o) ∙ field-yes (get_or s i 0) (drop (i + 1) s) (eq-eqb (get_or s i 0) end h)

  pub field_next : (s : List ℕ) (i : ℕ) → i < length s → get_or s i 0 ≢ end → field end (drop i s) ≡ get_or s i 0 ∷ field end (drop (i + 1) s)
  field_next s i o h = ap (field end) (rest-next s i o) ∙ field-no (get_or s i 0) (drop (i + 1) s) (ne_eqb (get_or s i 0) end h)

  pub field_end : (s : List ℕ) (i : ℕ) → length s ≤ i → field end (drop i s) ≡ []
  unfolding field
  field_end s i h = ap (field end) (drop_of_length-le s h)

  -- a field is as long as the place of the first byte that ends it
  first-ends : (t : Bool) (b n : ℕ) (bs : List ℕ) → n ≡ length bs → elim t [ true ↦ 0 | false ↦ suc n ] ≡ length (cond t [] (b ∷ bs))
  first-ends true b n bs e = refl
  first-ends false b n bs e = ap suc e

  pub first-field : (s : List ℕ) → first (λ b. eqb b end) s ≡ length (field end s)
  unfolding first field
  first-field [] = refl
  first-field (b ∷ bs) = first-ends (eqb b end) b _ _ (first-field bs)

  -- the first field, as a part
  pub field-taken : (s : List ℕ) → take (length (field end s)) s ≡ field end s
  unfolding field
  field-taken [] = refl
  field-taken (b ∷ bs) = go (eqb b end) refl (field-taken bs)
    where
      go : (t : Bool) → eqb b end ≡ t → take (length (field end bs)) bs ≡ field end bs → take (length (field end (b ∷ bs))) (b ∷ bs) ≡ field end (b ∷ bs)
      go true e ih = rw (field-yes b bs e)
      go false e ih = rw (field-no b bs e) (ap (λ (l : List ℕ). b ∷ l) ih)

  pub field-short : (s : List ℕ) → length (field end s) ≤ length s
  field-short s = omega (arith, length-take (length (field end s)) s, ap length (field-taken s))

  -- where there is none, the list is one field
  pub field-whole : (s : List ℕ) → length s ≤ length (field end s) → field end s ≡ s
  field-whole s h = sym (field-taken s) ∙ take_all (length (field end s)) s h

  -- what is after it
  pub after_none : (s : List ℕ) → length s ≤ length (field end s) → after_field end s ≡ none
  unfolding after_field
  after_none [] h = refl
  after_none (b ∷ bs) h = go (eqb b end) refl (after_none bs)
    where
      go : (t : Bool) → eqb b end ≡ t → (length bs ≤ length (field end bs) → after_field end bs ≡ none) → after_field end (b ∷ bs) ≡ none
      go true e ih = absurd (not-suc-le-zero (rw (field-yes b bs e) at h))
      go false e ih = after-no b bs e ∙ ih (le_of_suc-le-suc (rw (field-no b bs e) at h))

  pub after-some : (s : List ℕ) → length (field end s) < length s → after_field end s ≡ some (drop (length (field end s) + 1) s)
  after-some [] h = absurd (not-suc-le-zero h)
  after-some (b ∷ bs) h = go (eqb b end) refl (after-some bs)
    where
      shift : (n : ℕ) → suc (n + 1) ≡ suc n + 1
      shift n = omega arith

      go : (t : Bool) → eqb b end ≡ t → (length (field end bs) < length bs → after_field end bs ≡ some (drop (length (field end bs) + 1) bs))
          → after_field end (b ∷ bs) ≡ some (drop (length (field end (b ∷ bs)) + 1) (b ∷ bs))
      go true e ih = rw (field-yes b bs e, after-yes b bs e)
      go false e ih = rw (field-no b bs e, after-no b bs e) (ih (le_of_suc-le-suc (rw (field-no b bs e) at h)) ∙ ap (λ (n : ℕ). some (drop n (b ∷ bs))) (shift (length (field end bs))))
