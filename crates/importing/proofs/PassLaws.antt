-- What a stream comes to, from one pass and what is found without the first 64; and what an import then says.
use Prim.Native.Nat.{ℕ, ◌<◌, ◌≤◌}
use mathlib.Core.Path.{◌≡◌, refl, sym, ap, subst, ◌∙◌}
use mathlib.Core.Logic.{◌≢◌, ◌⊎◌, inl, inr}
use mathlib.Core.Bool.{Bool, true, false, true≢false}
use mathlib.Core.List.{List, []}
use mathlib.Core.Option.{some, none, none-ne-some}
use lib.ListN.{length, drop, drop_of_length-le}
use native.Mathlib.Omega.{arith}
use borrow.Author.Tests.{ne_eqb}
use Rattle.model.specs.Lists.{distinct}
use Rattle.model.specs.Kinds.{narrow_kind, store_size}
use Rattle.model.specs.Effects.{wrong_length}
use Rattle.model.proofs.Tests.{and-none-right, bool_cases}
use Rattle.model.proofs.ListLaws.{drop-map}
use Rattle.resp.specs.Streams.{Transaction, oldest_first, none_twice}
use Rattle.resp.specs.Inverse.{transactions_in}
use Rattle.resp.specs.Imports.{Import, unimported, taken, import}
use Rattle.resp.proofs.ImportLaws.{as-taken, taken-many}
use Rattle.resp.proofs.SequenceLaws.{sequence-none, stream-some, stream-refused}
use Rattle.importing.specs.Passes.{txns_of, PassFound, BadSays}
use Rattle.importing.proofs.OnceLaws.{distinct-drop, once-rest}
use Rattle.importing.proofs.AgeLaws.{ordered-drop}
use Rattle.importing.proofs.ReadingLaws.{empty}

-- ── one pass ──
module _ {n : ℕ} {left bs w₀ w : List ℕ} (p : PassFound n left bs w₀ w) where
  abbrev rest : List Transaction
  rest = drop narrow_kind.slots p.transactions

  rest-ordered : oldest_first rest ≡ true
  rest-ordered = ordered-drop narrow_kind.slots p.transactions p.ordered

  rest-txns : none_twice rest ≡ distinct (drop narrow_kind.slots (txns_of p.transactions))
  unfolding none_twice
  rest-txns = ap distinct (sym (drop-map (λ (x : Transaction). x.id.txn) narrow_kind.slots p.transactions))

  -- the numbers after the first 64 stand once: so do all
  once-all : none_twice rest ≡ true → transactions_in bs ≡ some p.transactions
  unfolding none_twice
  once-all h = stream-some bs p.transactions p.read p.ordered (once-rest narrow_kind.slots (txns_of p.transactions) p.once (sym rest-txns ∙ h))

  twice-one : none_twice rest ≡ false → none_twice p.transactions ≡ false
  unfolding none_twice
  twice-one h = go (bool_cases (none_twice p.transactions))
    where
      go : (none_twice p.transactions ≡ true) ⊎ (none_twice p.transactions ≡ false) → none_twice p.transactions ≡ false
      go (inl d) = absurd (true≢false (sym (rest-txns ∙ distinct-drop narrow_kind.slots (txns_of p.transactions) d) ∙ h))
      go (inr d) = d

  pub pass-none : transactions_in left ≡ none → transactions_in bs ≡ none
  pass-none h = go (bool_cases (none_twice rest))
    where
      go : (none_twice rest ≡ true) ⊎ (none_twice rest ≡ false) → transactions_in bs ≡ none
      go (inl d) = absurd (none-ne-some _ (sym h ∙ stream-some left rest p.left rest-ordered d))
      go (inr d) = stream-refused bs p.transactions p.read (and-none-right _ _ (twice-one d))

  pub pass-some : (ys : List Transaction) → transactions_in left ≡ some ys → transactions_in bs ≡ some p.transactions
  pass-some ys h = go (bool_cases (none_twice rest))
    where
      go : (none_twice rest ≡ true) ⊎ (none_twice rest ≡ false) → transactions_in bs ≡ some p.transactions
      go (inl d) = once-all d
      go (inr d) = absurd (none-ne-some _ (sym (stream-refused left rest p.left (and-none-right _ _ d)) ∙ h))

  -- there are no others
  pub pass-few : n ≤ narrow_kind.slots → transactions_in bs ≡ some p.transactions
  unfolding none_twice distinct
  pass-few h =
      let short : length p.transactions ≤ narrow_kind.slots = omega (arith, p.count) in
      once-all (ap none_twice (drop_of_length-le p.transactions short))

  pub pass_same : (r : Bool) → BadSays r left → BadSays r bs
  unfolding BadSays
  pass_same r h = (λ e. pass-none (h.0 e), λ e. let (ys, q) = h.1 e in (p.transactions, pass-some ys q))

-- ── passes over what is left ──
-- what is left says whether it is a stream
pub record Searching (s left : List ℕ) : Type 0 where
  pub same : (r : Bool) → BadSays r left → BadSays r s

pub bad-yes : (bs : List ℕ) → transactions_in bs ≡ none → BadSays true bs
unfolding BadSays
bad-yes bs h = (λ _. h, λ e. absurd (true≢false e))

pub bad-no : (bs : List ℕ) (xs : List Transaction) → transactions_in bs ≡ some xs → BadSays false bs
unfolding BadSays
bad-no bs xs h = (λ e. absurd (true≢false (sym e)), λ _. (xs, h))

module _ {s left : List ℕ} (i : Searching s left) where
  pub searching-bad : transactions_in left ≡ none → BadSays true s
  searching-bad h = i.same true (bad-yes left h)

  pub searching-all : length left ≡ 0 → BadSays false s
  unfolding oldest_first none_twice distinct
  searching-all h = i.same false (subst (BadSays false) (sym (empty left h)) (bad-no [] [] (stream-some [] [] sequence-none refl refl)))

  module _ {n : ℕ} {rest w₀ w : List ℕ} (p : PassFound n rest left w₀ w) where
    pub searching-few : n ≤ narrow_kind.slots → BadSays false s
    searching-few h = i.same false (bad-no left p.transactions (pass-few p h))

    pub searching-more : Searching s rest
    searching-more = record { same = λ r h. i.same r (pass_same p r h) }

-- ── an import ──
module _ (s t : List ℕ) where
  -- what it says, part by part
  pub import-parts : (e : Import) → import s t ≡ e → (e.answer ≡ (import s t).answer) × (e.store ≡ (import s t).store)
  import-parts e q = (ap (λ (x : Import). x.answer) (sym q), ap (λ (x : Import). x.store) (sym q))

  pub import-wrong : length t ≢ store_size narrow_kind → import s t ≡ unimported 1 t
  unfolding import wrong_length
  import-wrong n = rw (ne_eqb (length t) (store_size narrow_kind) n)

  module _ (l : length t ≡ store_size narrow_kind) where
    pub import-bad : transactions_in s ≡ none → import s t ≡ unimported 27 t
    unfolding taken
    import-bad h = as-taken s t none l h

    pub import-many : (xs : List Transaction) → transactions_in s ≡ some xs → narrow_kind.slots < length xs → import s t ≡ unimported 13 t
    import-many xs h o = as-taken s t (some xs) l h ∙ taken-many xs t o
