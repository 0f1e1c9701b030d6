-- A version's command read: SET, its name, its value.
use Prim.Native.Nat.{ℕ}
use mathlib.Core.Path.{◌≡◌, ◌∙◌}
use mathlib.Core.List.{List}
use mathlib.Core.Option.{some, none}
use Rattle.model.specs.Limits.{number_range}
use Rattle.decimal.specs.Digits.{number_below}
use Rattle.resp.specs.Streams.{set_begins}
use Rattle.resp.specs.Inverse.{after, bulk_in, Name, name_in, valued, version_in}
use Rattle.resp.proofs.ThenLaws.{then_some, then-none}

module _ (s : List ℕ) where
  pub no-command : after set_begins s ≡ none → version_in s ≡ none
  unfolding version_in
  no-command e = then-none _ _ e

  module _ {a : List ℕ} (h : after set_begins s ≡ some a) where
    pub no-name-bulk : bulk_in a ≡ none → version_in s ≡ none
    unfolding version_in
    no-name-bulk e = then_some _ _ a h ∙ then-none _ _ e

    module _ {w r : List ℕ} (k : bulk_in a ≡ some (record { content = w; rest = r })) where
      pub nameless : name_in w ≡ none → version_in s ≡ none
      unfolding version_in
      nameless e = then_some _ _ a h ∙ then_some _ _ (record { content = w; rest = r }) k ∙ then-none _ _ e

      module _ {n : Name} (m : name_in w ≡ some n) where
        named : version_in s ≡ valued n r
        unfolding version_in
        named = then_some _ _ a h ∙ then_some _ _ (record { content = w; rest = r }) k ∙ then_some _ _ n m

        pub no-value-bulk : bulk_in r ≡ none → version_in s ≡ none
        unfolding valued
        no-value-bulk e = named ∙ then-none _ _ e

        module _ {x t : List ℕ} (j : bulk_in r ≡ some (record { content = x; rest = t })) where
          pub valueless : number_below number_range x ≡ none → version_in s ≡ none
          unfolding valued
          valueless e = named ∙ then_some _ _ (record { content = x; rest = t }) j ∙ then-none _ _ e

          pub with_value : (v : ℕ) → number_below number_range x ≡ some v → version_in s ≡ some (record { id = n.id; write = record { key = n.key; value = v }; rest = t })
          unfolding valued
          with_value v e = named ∙ then_some _ _ (record { content = x; rest = t }) j ∙ then_some _ _ v e
