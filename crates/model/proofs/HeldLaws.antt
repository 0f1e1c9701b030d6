-- What the committed slots of a store hold, in order of slots.
use Prim.Native.Nat.{ℕ, zero, suc, ◌+◌, ◌<◌, ◌≤◌, suc-le-suc}
use mathlib.Core.Path.{◌≡◌, refl, sym, ap, ap₂, subst, ◌∙◌}
use mathlib.Core.Logic.{⊎_elim}
use mathlib.Core.Bool.{Bool, true, false}
use mathlib.Core.List.Memᴰ
use mathlib.Core.List.{List, [], ◌∷◌, map, Memᴰ}
use lib.Dec.{eqb}
use lib.ListN.{length, take, get_or}
use native.Mathlib.Nat.{zero-lt-suc, lt_irrefl}
use native.Mathlib.Omega.{arith}
use borrow.Author.Tests.{ltb-false}
use Rattle.model.specs.Types.{Entry}
use Rattle.model.specs.Lists.{any, first, filter, count, from, member, distinct}
use Rattle.model.specs.Kinds.{Kind, store_size}
use Rattle.model.specs.Ranges.{Every}
use Rattle.model.specs.Entries.{keys_of}
use Rattle.model.specs.Slots.{Seen, free, committed, damaged, seen}
use Rattle.model.specs.Scan.{slots_seen, is_committed}
use Rattle.model.specs.Moves.{too_wide}
use Rattle.model.proofs.ListLaws.{get_or-mem, mem-map, member-finds, any-cons-none}
use Rattle.model.proofs.DistinctLaws.{distinct_cons}
use Rattle.model.proofs.SlotLaws.{committed-injective, committed≢free, committed≢damaged}
use Rattle.model.proofs.ScanLaws.{KeepsRules}
use Rattle.model.proofs.ContentLaws.{no_content, txn_in, Content, content_of, contents, Fit, content-fits, rules-within, seen_as}

abbrev pub held_by : Kind → List ℕ → List Content
held_by κ s = contents κ s 0 (slots_seen κ s)

module _ (κ : Kind) (s : List ℕ) where
  pub contents-count : (d : ℕ) (xs : List Seen) → length (contents κ s d xs) ≡ count is_committed xs
  unfolding contents count is_committed
  contents-count d [] = refl
  contents-count d (free ∷ xs) = contents-count (suc d) xs
  contents-count d (committed e ∷ xs) = ap suc (contents-count (suc d) xs)
  contents-count d (damaged ∷ xs) = contents-count (suc d) xs

  pub contents-seen : (d : ℕ) (xs : List Seen) → map seen_as (contents κ s d xs) ≡ filter is_committed xs
  unfolding contents content_of filter is_committed
  contents-seen d [] = refl
  contents-seen d (free ∷ xs) = contents-seen (suc d) xs
  contents-seen d (committed e ∷ xs) = ap (λ (ys : List Seen). committed e ∷ ys) (contents-seen (suc d) xs)
  contents-seen d (damaged ∷ xs) = contents-seen (suc d) xs

  -- each of the committed ones, seen in its slot
  pub contents-from : (n d : ℕ) (c : Content) → Memᴰ c (contents κ s d (from n d (seen κ s))) → (i : ℕ) × (d ≤ i) × (i < d + n) × (seen κ s i ≡ committed c.entry)
  unfolding from contents content_of
  contents-from zero d c m = absurd (Memᴰ.not-nil m)
  contents-from (suc n) d c m = go (seen κ s d) refl m (contents-from n (suc d) c)
    where
      later : (i : ℕ) × (suc d ≤ i) × (i < suc d + n) × (seen κ s i ≡ committed c.entry) → (i : ℕ) × (d ≤ i) × (i < d + suc n) × (seen κ s i ≡ committed c.entry)
      later r = (r.0, omega (arith, r.1), omega (arith, r.2), r.3)

      go : (x : Seen) → seen κ s d ≡ x → Memᴰ c (contents κ s d (x ∷ from n (suc d) (seen κ s)))
          → (Memᴰ c (contents κ s (suc d) (from n (suc d) (seen κ s))) → (i : ℕ) × (suc d ≤ i) × (i < suc d + n) × (seen κ s i ≡ committed c.entry))
          → (i : ℕ) × (d ≤ i) × (i < d + suc n) × (seen κ s i ≡ committed c.entry)
      go free h m ih = later (ih m)
      go (committed e) h m ih = ⊎_elim (λ q. (d, omega arith, omega arith, h ∙ ap committed (sym (ap (λ (x : Content). x.entry) q)))) (λ m'. later (ih m')) (Memᴰ.cases_cons m)
      go damaged h m ih = later (ih m)

  -- the kind takes them
  contents-fit : length s ≡ store_size κ → (n d : ℕ) → d + n ≤ κ.slots → Every (Fit κ) (contents κ s d (from n d (seen κ s)))
  unfolding from contents
  contents-fit l zero d o = tt
  contents-fit l (suc n) d o = go (seen κ s d) refl (contents-fit l n (suc d) (omega arith))
    where
      go : (x : Seen) → seen κ s d ≡ x → Every (Fit κ) (contents κ s (suc d) (from n (suc d) (seen κ s))) → Every (Fit κ) (contents κ s d (x ∷ from n (suc d) (seen κ s)))
      go free h ih = ih
      go (committed e) h ih = (content-fits κ s l d (omega arith) e h, ih)
      go damaged h ih = ih

  pub held-fit : length s ≡ store_size κ → Every (Fit κ) (held_by κ s)
  unfolding slots_seen
  held-fit l = contents-fit l κ.slots 0 (omega arith)

  -- and so does another, where no write set is too wide for it
  pub fit-within : (κ' : Kind) (d : ℕ) (xs : List Seen) → any (too_wide κ') xs ≡ false → Every (Fit κ) (contents κ s d xs) → Every (Fit κ') (contents κ s d xs)
  unfolding contents content_of any too_wide
  fit-within κ' d [] h f = tt
  fit-within κ' d (free ∷ xs) h f = fit-within κ' (suc d) xs h f
  fit-within κ' d (committed e ∷ xs) h f =
      let r = any-cons-none (too_wide κ') (committed e) xs h in
      (record { whole = f.0.whole; rules = rules-within κ κ' e f.0.rules (ltb-false κ'.write_limit (length (keys_of e)) r.0) }, fit-within κ' (suc d) xs r.1 f.1)
  fit-within κ' d (damaged ∷ xs) h f = fit-within κ' (suc d) xs h f

  -- no two have one transaction
  contents-distinct : KeepsRules κ s → (n d : ℕ) → d + n ≤ κ.slots → distinct (map txn_in (contents κ s d (from n d (seen κ s)))) ≡ true
  unfolding from contents
  contents-distinct k zero d o = unfold distinct in refl
  contents-distinct k (suc n) d o = go (seen κ s d) refl (contents-distinct k n (suc d) (omega arith))
    where
      rest : List Content
      rest = contents κ s (suc d) (from n (suc d) (seen κ s))

      fresh : (e : Entry) → seen κ s d ≡ committed e → (b : Bool) → member e.id.txn (map txn_in rest) ≡ b → b ≡ false
      fresh e h false q = refl
      fresh e h true q =
          let f = member-finds e.id.txn (map txn_in rest) q in
          let m = mem-map txn_in rest e.id.txn (subst (λ (x : ℕ). Memᴰ x (map txn_in rest)) f.1 (get_or-mem (map txn_in rest) (first (eqb e.id.txn) (map txn_in rest)) 0 f.0)) in
          let r = contents-from n (suc d) m.0 m.1 in
          absurd (k.single d r.0 e m.0.entry (omega arith) (omega (arith, r.2)) (λ z. lt_irrefl d (omega (arith, r.1, z))) h r.3 (sym m.2))

      go : (x : Seen) → seen κ s d ≡ x → distinct (map txn_in rest) ≡ true → distinct (map txn_in (contents κ s d (x ∷ from n (suc d) (seen κ s)))) ≡ true
      go free h ih = ih
      go (committed e) h ih = unfold content_of in distinct_cons e.id.txn (map txn_in rest) (fresh e h (member e.id.txn (map txn_in rest)) refl) ih
      go damaged h ih = ih

  pub held-distinct : KeepsRules κ s → distinct (map txn_in (held_by κ s)) ≡ true
  unfolding slots_seen
  held-distinct k = contents-distinct k κ.slots 0 (omega arith)

  -- slot j's, among those of the slots from d on
  pub contents-at : (xs : List Seen) (d i j : ℕ) (e : Entry) → j ≡ d + i → get_or xs i free ≡ committed e → get_or (contents κ s d xs) (count is_committed (take i xs)) no_content ≡ content_of κ s j e
  unfolding contents count is_committed
  contents-at [] d i j e q h = absurd (committed≢free e (sym h))
  contents-at (free ∷ xs) d zero j e q h = absurd (committed≢free e (sym h))
  contents-at (free ∷ xs) d (suc i) j e q h = contents-at xs (suc d) i j e (omega arith) h
  contents-at (committed e' ∷ xs) d zero j e q h = let z : d ≡ j = omega arith in ap₂ (content_of κ s) z (committed-injective e' e h)
  contents-at (committed e' ∷ xs) d (suc i) j e q h = contents-at xs (suc d) i j e (omega arith) h
  contents-at (damaged ∷ xs) d zero j e q h = absurd (committed≢damaged e (sym h))
  contents-at (damaged ∷ xs) d (suc i) j e q h = contents-at xs (suc d) i j e (omega arith) h

pub committed-below : (xs : List Seen) (i : ℕ) (e : Entry) → get_or xs i free ≡ committed e → count is_committed (take i xs) < count is_committed xs
unfolding count is_committed
committed-below [] i e h = absurd (committed≢free e (sym h))
committed-below (free ∷ xs) zero e h = absurd (committed≢free e (sym h))
committed-below (free ∷ xs) (suc i) e h = committed-below xs i e h
committed-below (committed e' ∷ xs) zero e h = zero-lt-suc _
committed-below (committed e' ∷ xs) (suc i) e h = suc-le-suc (committed-below xs i e h)
committed-below (damaged ∷ xs) zero e h = absurd (committed≢damaged e (sym h))
committed-below (damaged ∷ xs) (suc i) e h = committed-below xs i e h
