-- An id and a version's name read: each number and what comes after it, in one.
use Prim.Native.Nat.{ℕ}
use mathlib.Core.Path.{◌≡◌, ◌∙◌}
use mathlib.Core.Logic.{◌≢◌, ◌⊎◌, inl, inr}
use mathlib.Core.List.{List, [], ◌∷◌}
use mathlib.Core.Option.{some, none}
use native.Mathlib.Omega.{arith}
use borrow.Author.Tests.{le-leb, lt-leb}
use Rattle.model.specs.declared.Id.{Id}
use Rattle.model.specs.Limits.{keys, txn_range, number_range}
use Rattle.model.proofs.Tests.{and_intro, and-none-left, and-none-right}
use Rattle.decimal.specs.Digits.{number_below}
use Rattle.resp.specs.Streams.{slash}
use Rattle.resp.specs.Inverse.{◌then◌, after, id_from, id_text_in, name_in}
use Rattle.resp.specs.Parts.{number_ended}
use Rattle.resp.proofs.ThenLaws.{then_some, then-none, then-both}
use Rattle.resp.proofs.NumberLaws.{number-then}

-- ── an id ──
module _ (s : List ℕ) where
  id-steps : id_text_in s ≡ (number_ended number_range slash s then λ p. number_below txn_range p.rest then λ t. id_from p.number t)
  unfolding id_text_in
  id-steps = number-then slash number_range s (λ c a. number_below txn_range a then λ t. id_from c t)

  pub clockless : number_ended number_range slash s ≡ none → id_text_in s ≡ none
  clockless e = id-steps ∙ then-none _ _ e

  module _ {c : ℕ} {a : List ℕ} (h : number_ended number_range slash s ≡ some (record { number = c; rest = a })) where
    clocked : id_text_in s ≡ (number_below txn_range a then λ t. id_from c t)
    clocked = id-steps ∙ then_some _ _ (record { number = c; rest = a }) h

    pub txnless : number_below txn_range a ≡ none → id_text_in s ≡ none
    txnless e = clocked ∙ then-none _ _ e

    module _ {t : ℕ} (k : number_below txn_range a ≡ some t) where
      both_read : id_text_in s ≡ id_from c t
      both_read = clocked ∙ then_some _ _ t k

      pub zeroed : (c ≡ 0) ⊎ ((c ≢ 0) × (t ≡ 0)) → id_text_in s ≡ none
      unfolding id_from
      zeroed (inl z) = both_read ∙ (rw (and-none-left _ _ (lt-leb 1 c (omega arith))))
      zeroed (inr z) = both_read ∙ (rw (and-none-right _ _ (lt-leb 1 t (omega (arith, z.1)))))

      pub id-read : c ≢ 0 → t ≢ 0 → id_text_in s ≡ some (record { clock = c; txn = t })
      unfolding id_from
      id-read y z = both_read ∙ (rw (and_intro _ _ (le-leb 1 c (omega (arith, y))) (le-leb 1 t (omega (arith, z)))))

-- ── a version's name ──
module _ (s : List ℕ) where
  name-steps : name_in s ≡ (after (118 ∷ slash ∷ []) s then λ a. number_ended keys slash a then λ p. id_text_in p.rest then λ i. some (record { key = p.number; id = i }))
  unfolding name_in
  name-steps = then-both _ _ _ (λ a e. number-then slash keys a (λ k b. id_text_in b then λ i. some (record { key = k; id = i })))

  pub no_name : after (118 ∷ slash ∷ []) s ≡ none → name_in s ≡ none
  no_name e = name-steps ∙ then-none _ _ e

  module _ {a : List ℕ} (h : after (118 ∷ slash ∷ []) s ≡ some a) where
    pub keyless : number_ended keys slash a ≡ none → name_in s ≡ none
    keyless e = name-steps ∙ then_some _ _ a h ∙ then-none _ _ e

    module _ {k : ℕ} {b : List ℕ} (m : number_ended keys slash a ≡ some (record { number = k; rest = b })) where
      keyed : name_in s ≡ (id_text_in b then λ i. some (record { key = k; id = i }))
      keyed = name-steps ∙ then_some _ _ a h ∙ then_some _ _ (record { number = k; rest = b }) m

      pub idless : id_text_in b ≡ none → name_in s ≡ none
      idless e = keyed ∙ then-none _ _ e

      pub name-read : (i : Id) → id_text_in b ≡ some i → name_in s ≡ some (record { key = k; id = i })
      name-read i e = keyed ∙ then_some _ _ i e
