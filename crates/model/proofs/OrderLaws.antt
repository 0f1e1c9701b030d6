-- The entry that comes first in an order of those that pass, over any order; so the newest, and the oldest.
use Prim.Native.Nat.{ℕ, zero, suc, ◌<◌, suc-le-suc}
use mathlib.Core.Path.{◌≡◌, refl, sym, ap, subst, ◌∙◌}
use mathlib.Core.Bool.{Bool, true, false, true≢false}
use mathlib.Core.List.{List, [], ◌∷◌}
use mathlib.Core.Option.{Option, some, none}
use lib.ListN.{length, get_or}
use native.Mathlib.Nat.{le_of_suc-le-suc, not-suc-le-zero, zero-lt-suc}
use Rattle.model.specs.declared.Id.{Id}
use Rattle.model.specs.Types.{Entry}
use Rattle.model.specs.Ids.{older}
use Rattle.model.specs.Entries.{no_entry}
use Rattle.model.specs.Orders.{keep_first, foremost, newest, newer, oldest}
use Rattle.model.proofs.IdLaws.{older-irrefl, older-asym, not-older-trans, older-total}

-- what is asked of an order
pub record IsIdOrder (after : Id → Id → Bool) : Type 0 where
  pub irrefl : (i : Id) → after i i ≡ false
  pub asym : (i j : Id) → after i j ≡ true → after j i ≡ false
  pub not-trans : (i j k : Id) → after i j ≡ false → after j k ≡ false → after i k ≡ false
  pub total : (i j : Id) → after i j ≡ false → after j i ≡ false → i ≡ j

pub by-age : IsIdOrder older
by-age = record { irrefl = older-irrefl; asym = older-asym; not-trans = not-older-trans; total = older-total }

pub by-youth : IsIdOrder newer
unfolding newer
by-youth = record {
  irrefl = older-irrefl;
  asym = λ i j. older-asym j i;
  not-trans = λ i j k a b. not-older-trans k j i b a;
  total = λ i j a b. older-total i j b a;
}

pub record IsForemost (after : Id → Id → Bool) (p : Entry → Bool) (es : List Entry) (d : ℕ) : Type 0 where
  pub low : d < length es
  pub passes : p (get_or es d no_entry) ≡ true
  pub first : (j : ℕ) → j < length es → p (get_or es j no_entry) ≡ true → after (get_or es d no_entry).id (get_or es j no_entry).id ≡ false

module _ (after : Id → Id → Bool) (order : IsIdOrder after) where
  abbrev Outcome : (Entry → Bool) → List Entry → Option ℕ → Type 0
  Outcome p es none = (j : ℕ) → j < length es → p (get_or es j no_entry) ≡ false
  Outcome p es (some d) = IsForemost after p es d

  outcome : (p : Entry → Bool) (es : List Entry) → (x : Option ℕ) → foremost after p es ≡ x → Outcome p es x
  unfolding foremost
  outcome p [] x h = subst (Outcome p []) h (λ j o. absurd (not-suc-le-zero o))
  outcome p (e ∷ es) x h = subst (Outcome p (e ∷ es)) h (step (p e) refl (foremost after p es) (outcome p es (foremost after p es) refl))
    where
      at_zero : p e ≡ false → ((j : ℕ) → j < length es → p (get_or es j no_entry) ≡ false) → (j : ℕ) → j < suc (length es) → p (get_or (e ∷ es) j no_entry) ≡ false
      at_zero q f zero o = q
      at_zero q f (suc j) o = f j (le_of_suc-le-suc o)

      later : (d : ℕ) → IsForemost after p es d → (p e ≡ true → after (get_or es d no_entry).id e.id ≡ false) → IsForemost after p (e ∷ es) (suc d)
      later d n f = record { low = suc-le-suc n.low; passes = n.passes; first = cases }
        where
          cases : (j : ℕ) → j < suc (length es) → p (get_or (e ∷ es) j no_entry) ≡ true → after (get_or es d no_entry).id (get_or (e ∷ es) j no_entry).id ≡ false
          cases zero o q = f q
          cases (suc j) o q = n.first j (le_of_suc-le-suc o) q

      here : p e ≡ true → ((j : ℕ) → j < length es → p (get_or es j no_entry) ≡ true → after e.id (get_or es j no_entry).id ≡ false) → IsForemost after p (e ∷ es) 0
      here q f = record { low = zero-lt-suc _; passes = q; first = cases }
        where
          cases : (j : ℕ) → j < suc (length es) → p (get_or (e ∷ es) j no_entry) ≡ true → after e.id (get_or (e ∷ es) j no_entry).id ≡ false
          cases zero o r = order.irrefl e.id
          cases (suc j) o r = f j (le_of_suc-le-suc o) r

      compared : (d : ℕ) → IsForemost after p es d → p e ≡ true → (c : Bool) → after e.id (get_or es d no_entry).id ≡ c → Outcome p (e ∷ es) (keep_first after true e es (some d))
      compared d n q true c = unfold keep_first in (rw c (later d n (λ r. order.asym _ _ c)))
      compared d n q false c = unfold keep_first in (rw c (here q (λ j o r. order.not-trans _ _ _ c (n.first j o r))))

      step : (b : Bool) → p e ≡ b → (y : Option ℕ) → Outcome p es y → Outcome p (e ∷ es) (keep_first after (p e) e es y)
      step false q none f = rw q (unfold keep_first in at_zero q f)
      step false q (some d) n = rw q (unfold keep_first in later d n (λ r. absurd (true≢false (sym r ∙ q))))
      step true q none f = rw q (unfold keep_first in here q (λ j o r. absurd (true≢false (sym r ∙ f j o))))
      step true q (some d) n = rw q (compared d n q (after e.id (get_or es d no_entry).id) refl)

  module _ (p : Entry → Bool) (es : List Entry) where
    pub foremost-is : (d : ℕ) → foremost after p es ≡ some d → IsForemost after p es d
    foremost-is d h = outcome p es (some d) h

    pub foremost-none : foremost after p es ≡ none → (j : ℕ) → j < length es → p (get_or es j no_entry) ≡ false
    foremost-none h = outcome p es none h

    -- it is that one, where no other that passes has its id
    pub foremost-eq : (d : ℕ) → IsForemost after p es d → ((j : ℕ) → j < length es → p (get_or es j no_entry) ≡ true → (get_or es j no_entry).id ≡ (get_or es d no_entry).id → j ≡ d) → foremost after p es ≡ some d
    foremost-eq d is one = go (foremost after p es) refl
      where
        go : (x : Option ℕ) → foremost after p es ≡ x → foremost after p es ≡ some d
        go none e = absurd (true≢false (sym is.passes ∙ foremost-none e d is.low))
        go (some c) e =
            let n = foremost-is c e in
            e ∙ ap some (one c n.low n.passes (order.total _ _ (n.first d is.low is.passes) (is.first c n.low n.passes)))

    pub foremost-not : ((j : ℕ) → j < length es → p (get_or es j no_entry) ≡ false) → foremost after p es ≡ none
    foremost-not f = go (foremost after p es) refl
      where
        go : (x : Option ℕ) → foremost after p es ≡ x → foremost after p es ≡ none
        go none e = e
        go (some c) e = let n = foremost-is c e in absurd (true≢false (sym n.passes ∙ f c n.low))

-- ── the newest ──
abbrev pub IsNewest : (Entry → Bool) → List Entry → ℕ → Type 0
IsNewest = IsForemost older

module _ (p : Entry → Bool) (es : List Entry) where
  pub newest-is : (d : ℕ) → newest p es ≡ some d → IsNewest p es d
  unfolding newest
  newest-is = foremost-is older by-age p es

  pub newest-none : newest p es ≡ none → (j : ℕ) → j < length es → p (get_or es j no_entry) ≡ false
  unfolding newest
  newest-none = foremost-none older by-age p es

  pub newest-eq : (d : ℕ) → IsNewest p es d → ((j : ℕ) → j < length es → p (get_or es j no_entry) ≡ true → (get_or es j no_entry).id ≡ (get_or es d no_entry).id → j ≡ d) → newest p es ≡ some d
  unfolding newest
  newest-eq = foremost-eq older by-age p es

  pub newest-not : ((j : ℕ) → j < length es → p (get_or es j no_entry) ≡ false) → newest p es ≡ none
  unfolding newest
  newest-not = foremost-not older by-age p es

-- ── the oldest: none that passes is older ──
abbrev pub IsOldest : (Entry → Bool) → List Entry → ℕ → Type 0
IsOldest = IsForemost newer

module _ (p : Entry → Bool) (es : List Entry) where
  pub oldest-is : (d : ℕ) → oldest p es ≡ some d → IsOldest p es d
  unfolding oldest
  oldest-is = foremost-is newer by-youth p es

  pub oldest-none : oldest p es ≡ none → (j : ℕ) → j < length es → p (get_or es j no_entry) ≡ false
  unfolding oldest
  oldest-none = foremost-none newer by-youth p es

  pub oldest-eq : (d : ℕ) → IsOldest p es d → ((j : ℕ) → j < length es → p (get_or es j no_entry) ≡ true → (get_or es j no_entry).id ≡ (get_or es d no_entry).id → j ≡ d) → oldest p es ≡ some d
  unfolding oldest
  oldest-eq = foremost-eq newer by-youth p es

  pub oldest-not : ((j : ℕ) → j < length es → p (get_or es j no_entry) ≡ false) → oldest p es ≡ none
  unfolding oldest
  oldest-not = foremost-not newer by-youth p es
