-- A number's field as `number_in` reads it: one that a byte ends, and one that is all there is.
use Prim.Native.Nat.{ℕ, ◌+◌, ◌-◌, ◌<◌, ◌≤◌}
use mathlib.Core.Path.{◌≡◌, refl, sym, ap, subst, ◌∙◌}
use mathlib.Core.Logic.{◌≢◌}
use mathlib.Core.Bool.{false}
use mathlib.Core.List.{List}
use mathlib.Core.Option.{Option, some, none, some-injective}
use lib.ListN.{length, take, drop}
use native.Mathlib.Decide.{dec_lt}
use native.Mathlib.Omega.{arith}
use Rattle.std.specs.Prelude as P
use Rattle.std.specs.Prelude.{Some, None}
use Rattle.decimal.specs.Digits.{is_digit, number_below}
use Rattle.decimal.specs.Fields.{field, after_field, number_read}
use Rattle.decimal.proofs.FieldLaws.{field-short, field-whole, after_none, after-some, rest_part}
use Rattle.decimal.proofs.ReadLaws.{read-ended, read_below, unread, read_as}
use Rattle.resp.specs.Inverse.{◌then◌}
use Rattle.resp.specs.Parts.{Numbered, number_ended}
use Rattle.resp.proofs.ThenLaws.{then-none, then_some, then-read}

abbrev both : ℕ → List ℕ → Option Numbered
both n r = some (record { number = n; rest = r })

-- a number and what comes after it, in one
pub number-then : {A : Type 0} (end bound : ℕ) (bs : List ℕ) (f : ℕ → List ℕ → Option A)
    → (number_below bound (field end bs) then λ n. after_field end bs then λ r. f n r) ≡ (number_ended bound end bs then λ p. f p.number p.rest)
unfolding number_ended ◌then◌
number-then end bound bs f = go (number_below bound (field end bs)) (after_field end bs)
  where
    go : (m : Option ℕ) (o : Option (List ℕ)) → (m then λ n. o then λ r. f n r) ≡ ((m then λ n. o then λ r. both n r) then λ p. f p.number p.rest)
    go none o = refl
    go (some n) none = refl
    go (some n) (some r) = refl

module _ (end bound : ℕ) (bs : List ℕ) {r : P.Option (ℕ × ℕ)} (h : r ≡ number_read (number_below bound (field end bs)) (length (field end bs))) where
  number-none : r ≡ None → number_below bound (field end bs) ≡ none
  number-none e = unread _ _ r h e

  pub ended-none : r ≡ None → number_ended bound end bs ≡ none
  unfolding number_ended
  ended-none e = then-none _ _ (number-none e)

  module _ (n at : ℕ) (e : r ≡ Some (n, at)) where
    number-some : number_below bound (field end bs) ≡ some n
    number-some = (read_as _ _ r n at h e).0

    place_is : at ≡ length (field end bs)
    place_is = (read_as _ _ r n at h e).1

    pub place_in : at ≤ length bs
    place_in = omega (arith, place_is, field-short end bs)

    pub ended-alone : length bs < at + 1 → number_ended bound end bs ≡ none
    unfolding number_ended
    ended-alone o = then_some _ _ n number-some ∙ then-none _ _ (after_none end bs (omega (arith, place_is)))

    pub ended-some : (l : List ℕ) → at + 1 ≤ length bs → l ≡ take (length bs - (at + 1)) (drop (at + 1) bs) → number_ended bound end bs ≡ some (record { number = n; rest = l })
    unfolding number_ended
    ended-some l o q =
        then_some _ _ n number-some
        ∙ then_some _ _ (drop (at + 1) bs) (after-some end bs (omega (arith, place_is)) ∙ ap (λ (k : ℕ). some (drop (k + 1) bs)) (sym place_is))
        ∙ ap (λ (x : List ℕ). some (record { number = n; rest = x })) (sym (q ∙ rest_part bs (at + 1) o))

  -- bytes that are to be a number as a whole, read as a field that a byte other than a digit ends
  module _ (z : is_digit end ≡ false) where
    pub whole-unread : r ≡ None → number_below bound bs ≡ none
    whole-unread e = go (dec_lt (length (field end bs)) (length bs))
      where
        go : Dec (length (field end bs) < length bs) → number_below bound bs ≡ none
        go (yes o) = read-ended end z bound bs o
        go (no o) = sym (ap (number_below bound) (field-whole end bs (omega arith))) ∙ number-none e

    module _ (n at : ℕ) (e : r ≡ Some (n, at)) where
      pub whole-more : at ≢ length bs → number_below bound bs ≡ none
      whole-more o = read-ended end z bound bs (omega (arith, place_is n at e, place_in n at e, o))

      pub whole-read : at ≡ length bs → number_below bound bs ≡ some n
      whole-read o = sym (ap (number_below bound) (field-whole end bs (omega (arith, place_is n at e)))) ∙ number-some n at e

-- it is below the bound
pub ended-below : (end bound : ℕ) (bs : List ℕ) (p : Numbered) → number_ended bound end bs ≡ some p → p.number < bound
unfolding number_ended
ended-below end bound bs p h =
    then-read _ _ p h λ n en h₁. then-read _ _ p h₁ λ r er h₂.
    subst (λ (m : ℕ). m < bound) (ap (λ (q : Numbered). q.number) (some-injective _ p h₂)) (read_below bound (field end bs) n en)
