-- Bytes with, after them, the byte that ends them: they are the field, and what is after that byte is the rest.
use Prim.Native.Nat.{ℕ}
use mathlib.Core.Path.{◌≡◌, refl, sym, ap, ◌∙◌}
use mathlib.Core.Bool.{Bool, true, false, true≢false}
use mathlib.Core.List.{List, [], ◌∷◌, ◌++◌}
use mathlib.Core.Option.{some}
use lib.Dec.{eqb}
use borrow.Author.Tests.{eq-eqb, ne_eqb}
use Rattle.model.specs.Lists.{all}
use Rattle.model.specs.Ranges.{Every}
use Rattle.model.proofs.ListLaws.{all_head, all_tail}
use Rattle.decimal.specs.Digits.{digits, is_digit}
use Rattle.decimal.specs.Fields.{field, after_field}
use Rattle.decimal.proofs.FieldLaws.{field-yes, field-no}
use Rattle.decimal.proofs.RoundTrip.{digits-all}

-- the byte is not among them
abbrev pub Lacks : ℕ → List ℕ → Type 0
Lacks end bs = Every (λ b. eqb b end ≡ false) bs

-- bytes that pass a test lack every byte that does not
pub tested-lack : (p : ℕ → Bool) (end : ℕ) → p end ≡ false → (bs : List ℕ) → all p bs ≡ true → Lacks end bs
tested-lack p end z [] h = tt
tested-lack p end z (b ∷ bs) h = (ne_eqb b end (λ e. true≢false (sym (all_head p b bs h) ∙ ap p e ∙ z)), tested-lack p end z bs (all_tail p b bs h))

pub digits-lack : (end : ℕ) → is_digit end ≡ false → (n : ℕ) → Lacks end (digits n)
digits-lack end z n = tested-lack is_digit end z (digits n) (digits-all n)

module _ (end : ℕ) (rest : List ℕ) where
  pub field-ended : (bs : List ℕ) → Lacks end bs → field end (bs ++ (end ∷ rest)) ≡ bs
  field-ended [] h = field-yes end end rest (eq-eqb end end refl)
  field-ended (b ∷ bs) h = field-no end b (bs ++ (end ∷ rest)) h.0 ∙ ap (λ (l : List ℕ). b ∷ l) (field-ended bs h.1)

  pub after-ended : (bs : List ℕ) → Lacks end bs → after_field end (bs ++ (end ∷ rest)) ≡ some rest
  unfolding after_field
  after-ended [] h = rw (eq-eqb end end refl)
  after-ended (b ∷ bs) h = rw h.0 (after-ended bs h.1)
