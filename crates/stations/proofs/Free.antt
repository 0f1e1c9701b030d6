-- The highest free slot, searched from the top.
use Prim.Native.Nat.{ℕ, suc, ◌+◌}
use mathlib.Core.Path.{◌≡◌, refl}
use mathlib.Core.Logic.{◌≢◌}
use mathlib.Core.Bool.{Bool, true, false, not, cond}
use mathlib.Core.List.{List, map}
use lib.Dec.{eqb}
use lib.ListN.{get_or}
use native.Mathlib.Numerals.{add-one}
use borrow.Author.Tests.{eq-eqb, ne_eqb}
use Rattle.model.specs.Types.{Entry, Station}
use Rattle.model.specs.Lists.{◌and◌, ◌or◌, member, any_below, greatest_below}
use Rattle.model.specs.Limits.{entry_places}
use Rattle.model.specs.Stations.{entry_at, holds, closing_slots, is_free}
use Rattle.model.specs.Commit.{highest_free}
use Rattle.model.proofs.Tests.{and_intro, or-intro-left, not_of_false, not-of-true, and-none-left, and-none-right}
use Rattle.stations.specs.Found.{live_mark}
use Rattle.model.specs.Entries.{no_entry}

-- the greatest number below n that passes; 64 where none does
unfoldable pub highest : (ℕ → Bool) → ℕ → ℕ
highest p n = cond (any_below p n) (greatest_below p n) entry_places

module _ (p : ℕ → Bool) where
  pub highest-none : highest p 0 ≡ 64
  unfolding highest any_below
  highest-none = refl

  pub highest-hit : (d n : ℕ) → d ≡ suc n → p n ≡ true → highest p d ≡ n
  unfolding highest any_below greatest_below
  highest-hit d n e h = rw (e, or-intro-left (p n) (any_below p n) h, h, greatest_below)

  pub highest-miss : (d n : ℕ) → d ≡ suc n → p n ≡ false → highest p d ≡ highest p n
  unfolding highest any_below greatest_below ◌or◌
  highest-miss d n e h = rw (e, h, greatest_below)

-- a slot is free, by the entries and the marks of the closing transactions
unfoldable pub free : List Entry → List ℕ → ℕ → Bool
free es ms d = not (not (eqb (get_or es d no_entry).id.txn 0)) and not (member (suc d) ms)

module _ (es : List Entry) (ms : List ℕ) (d : ℕ) where
  pub free-held : (get_or es d no_entry).id.txn ≢ 0 → free es ms d ≡ false
  unfolding free
  free-held h = and-none-left _ _ (rw (ne_eqb (get_or es d no_entry).id.txn 0 h))

  pub free-closing : member (d + 1) ms ≡ true → free es ms d ≡ false
  unfolding free
  free-closing h = and-none-right _ _ (not-of-true (member (suc d) ms) (rw (add-one d) at h))

  pub free-neither : (get_or es d no_entry).id.txn ≡ 0 → member (d + 1) ms ≡ false → free es ms d ≡ true
  unfolding free
  free-neither z h = and_intro _ _ (rw (eq-eqb (get_or es d no_entry).id.txn 0 z)) (not_of_false (member (suc d) ms) (rw (add-one d) at h))

-- in a station
pub highest-free : (st : Station) (ms : List ℕ) → ms ≡ map live_mark st.live
    → highest (free st.entries ms) st.kind.slots ≡ cond (any_below (is_free st) st.kind.slots) (highest_free st) entry_places
unfolding highest free is_free holds entry_at closing_slots highest_free
highest-free st ms e = rw e
