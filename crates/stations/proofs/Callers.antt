-- What a caller reads off the answers of this crate's functions, over the whole station.
use Prim.Native.Nat.{ℕ, ◌<◌, ◌≤◌}
use mathlib.Core.Path.{◌≡◌, refl, sym}
use mathlib.Core.Logic.{⊎_elim}
use mathlib.Core.Bool.{Bool, true, false, cond}
use mathlib.Core.List.{map}
use lib.Dec.{eqb}
use lib.ListN.{length, length-map}
use native.Mathlib.Nat.{lt_irrefl}
use native.Mathlib.Omega.{arith}
use borrow.Author.Tests.{eqb-true}
use Rattle.model.specs.Types.{Station}
use Rattle.model.specs.Lists.{first, any_below, greatest_below}
use Rattle.model.specs.Limits.{entry_places}
use Rattle.model.specs.Entries.{keys_of, entry_rules, is_no_entry}
use Rattle.model.specs.Stations.{entry_at, live_txns, held_txns, is_live, is_held, place_of, slot_of, is_free}
use Rattle.model.specs.Sound.{entry_right, sound}
use Rattle.model.specs.Commit.{highest_free}
use Rattle.model.proofs.Tests.{and_right, or_cases}
use Rattle.model.proofs.ListLaws.{greatest-below}
use Rattle.model.proofs.SlotLaws.{rules-count}
use Rattle.model.proofs.SoundLaws.{sound-at}
use Rattle.stations.specs.Found.{live_txn, entry_txn}
use Rattle.stations.proofs.Search.{member-hit, member-miss}

module _ (st : Station) (t i : ℕ) (at : i ≡ first (eqb t) (map live_txn st.live)) where
  -- `place_of` of a station's places
  pub place-eq : i ≡ place_of t st
  unfolding place_of live_txns
  place-eq = at

  pub place-live : length st.live ≡ 8 → i < 8 → is_live t st ≡ true
  unfolding is_live live_txns
  place-live n o = member-hit t i (map live_txn st.live) (sym at) (rw (length-map st.live live_txn, n) o)

  pub place_none : length st.live ≡ 8 → 8 ≤ i → is_live t st ≡ false
  unfolding is_live live_txns
  place_none n o = member-miss t i (map live_txn st.live) (sym at) (rw (length-map st.live live_txn, n) o)

module _ (st : Station) (t i : ℕ) (at : i ≡ first (eqb t) (map entry_txn st.entries)) where
  -- `slot_of` of a station's entries
  pub slot-eq : i ≡ slot_of t st
  unfolding slot_of held_txns
  slot-eq = at

  pub slot_held : length st.entries ≡ 64 → i < 64 → is_held t st ≡ true
  unfolding is_held held_txns
  slot_held n o = member-hit t i (map entry_txn st.entries) (sym at) (rw (length-map st.entries entry_txn, n) o)

  pub slot-none : length st.entries ≡ 64 → 64 ≤ i → is_held t st ≡ false
  unfolding is_held held_txns
  slot-none n o = member-miss t i (map entry_txn st.entries) (sym at) (rw (length-map st.entries entry_txn, n) o)

module _ (st : Station) (few : st.kind.slots ≤ entry_places) (r : ℕ) (at : r ≡ cond (any_below (is_free st) st.kind.slots) (highest_free st) entry_places) where
  -- `highest_free`
  pub free-some : r < 64 → (any_below (is_free st) st.kind.slots ≡ true) × (r ≡ highest_free st)
  free-some o = go (any_below (is_free st) st.kind.slots) refl
    where
      go : (b : Bool) → any_below (is_free st) st.kind.slots ≡ b → (any_below (is_free st) st.kind.slots ≡ true) × (r ≡ highest_free st)
      go true e = (e, rw e at at)
      go false e = let q : r ≡ 64 = rw e at at in absurd (lt_irrefl r (omega arith))

  pub free-none : 64 ≤ r → any_below (is_free st) st.kind.slots ≡ false
  unfolding highest_free
  free-none o = go (any_below (is_free st) st.kind.slots) refl
    where
      go : (b : Bool) → any_below (is_free st) st.kind.slots ≡ b → any_below (is_free st) st.kind.slots ≡ false
      go true e = let q : r ≡ greatest_below (is_free st) st.kind.slots = rw e at at in absurd (lt_irrefl 64 (omega (arith, o, q, few, (greatest-below (is_free st) st.kind.slots e).0)))
      go false e = e

-- an entry of a sound station has no more keys than its kind may
pub entry-count : (st : Station) → sound st ≡ true → (d : ℕ) → length (keys_of (entry_at st d)) ≤ st.kind.write_limit
unfolding entry_right is_no_entry
entry-count st h d = ⊎_elim
    (λ n. let z : length (keys_of (entry_at st d)) ≡ 0 = eqb-true _ 0 (and_right _ _ n) in omega arith)
    (λ r. rules-count st.kind (entry_at st d) r)
    (or_cases (is_no_entry (entry_at st d)) (entry_rules st.kind (entry_at st d)) ((sound-at st h).entry d))
