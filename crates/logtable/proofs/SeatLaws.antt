-- The place of a number among a table's transactions, and the seat that two searches give.
use Prim.Native.Nat.{ℕ, ◌<◌, ◌≤◌}
use mathlib.Core.Path.{◌≡◌, refl, sym, ap, ◌∙◌}
use mathlib.Core.Bool.{Bool, true, false, cond}
use mathlib.Core.List.{List}
use lib.Dec.{eqb, ltb, leb}
use lib.ListN.{length, take, get_or}
use lib.Seq.{length-take-le}
use native.Mathlib.Omega.{arith}
use borrow.Author.Tests.{ne_eqb, ltb-true, ltb-false, le-leb, leb-true}
use Rattle.std.specs.Prelude.{Option, Some, None, MatchOption}
use Rattle.std.specs.List.{position_or_len}
use Rattle.model.specs.Lists.{member}
use Rattle.model.proofs.ListLaws.{first-none, member-finds, member-none}
use Rattle.model.proofs.StdWords.{position_or_len-first}
use Rattle.logtable.specs.Tables.{places, table_size, place_of, seat_of}
use Rattle.logtable.specs.Parts.{place_in}

-- ── a place as the code says it ──
pub place-is : (s p : ℕ) (r : Option ℕ) → r ≡ place_in s → r ≡ Some p → (p ≡ s) × (p < places)
place-is s p r e f = go (ltb s places) refl
  where
    go : (b : Bool) → ltb s places ≡ b → (p ≡ s) × (p < places)
    go true q = let h : ◌≡◌ {A = Option ℕ} (Some p) (Some s) = rw q at (sym f ∙ e) in let z : p ≡ s = cc in (z, omega (arith, z, ltb-true s places q))
    go false q = let h : ◌≡◌ {A = Option ℕ} (Some p) None = rw q at (sym f ∙ e) in absurd (let z : ◌≡◌ {A = ℕ} 0 1 = cc in omega arith)

pub place-none : (s : ℕ) (r : Option ℕ) → r ≡ place_in s → r ≡ None → leb places s ≡ true
place-none s r e f = go (ltb s places) refl
  where
    go : (b : Bool) → ltb s places ≡ b → leb places s ≡ true
    go true q = let h : ◌≡◌ {A = Option ℕ} None (Some s) = rw q at (sym f ∙ e) in absurd (let z : ◌≡◌ {A = ℕ} 0 1 = cc in omega arith)
    go false q = le-leb places s (ltb-false s places q)

module _ (T : List ℕ) (t : ℕ) (size : length T ≡ table_size) where
  abbrev txns : List ℕ
  txns = take places T

  all-places : length txns ≡ places
  all-places = length-take-le places T (omega arith)

  -- what `position` answers
  pub place-found : (r : Option ℕ) → r ≡ cond (ltb (position_or_len (eqb t) txns) (length txns)) (Some (position_or_len (eqb t) txns)) None → r ≡ place_in (place_of T t)
  unfolding place_of
  place-found r e = e ∙ rw (position_or_len-first (eqb t) txns, all-places)

  -- ── the seat: the search ends inside exactly where the transaction is there ──
  seat-found : place_of T t < places → place_of T t ≡ seat_of T t
  unfolding place_of seat_of
  seat-found o = go (member t txns) refl
    where
      go : (b : Bool) → member t txns ≡ b → place_of T t ≡ seat_of T t
      go true m = rw m
      go false m = absurd (omega (arith, o, all-places, first-none (eqb t) txns 0 (λ j u. ne_eqb t (get_or txns j 0) (λ z. member-none t txns m j u (sym z)))))

  seat-new : places ≤ place_of T t → place_of T 0 ≡ seat_of T t
  unfolding place_of seat_of
  seat-new o = go (member t txns) refl
    where
      go : (b : Bool) → member t txns ≡ b → place_of T 0 ≡ seat_of T t
      go true m = absurd (omega (arith, o, all-places, (member-finds t txns m).0))
      go false m = rw m

  pub seat-either : (p r : Option ℕ) {Q : Type 0} → p ≡ place_in (place_of T t) → MatchOption p Q (λ x. r ≡ Some x) → (Q → r ≡ place_in (place_of T 0)) → r ≡ place_in (seat_of T t)
  seat-either None r e q f = f q ∙ ap place_in (seat-new (leb-true places (place_of T t) (place-none _ None e refl)))
  seat-either (Some x) r e q f =
      let h = place-is _ x (Some x) e refl in
      q ∙ (e ∙ ap place_in (seat-found (omega (arith, h.0, h.1))))
