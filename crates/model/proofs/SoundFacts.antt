-- What is known of the places and slots of a sound station.
use Prim.Native.Nat.{ℕ, ◌+◌, ◌<◌, ◌≤◌}
use mathlib.Core.Path.{◌≡◌, sym, ap, subst, ◌∙◌}
use mathlib.Core.Logic.{◌≢◌, ⊎_elim}
use mathlib.Core.Bool.{true, false, false≢true}
use mathlib.Core.List.{[]}
use lib.ListN.{take}
use native.Mathlib.Nat.{suc-ne-zero}
use borrow.Author.Tests.{eqb-true}
use Rattle.model.specs.Types.{Live, Station}
use Rattle.model.specs.declared.Phase.{Phase}
use Rattle.model.specs.declared.Phase.TheVariants.{Unused, Open, Closing}
use Rattle.model.specs.Lives.{reads_of, is_closing, closing_slot, closing_clock, records_stored, write_count}
use Rattle.model.specs.Entries.{wrote}
use Rattle.model.specs.Stations.{live_at, entry_at, is_live, is_held, place_of, slot_of, holds}
use Rattle.model.specs.Sound.{is_no_live, place_right, sound}
use Rattle.model.proofs.Tests.{and_left, and_right, bool_cases}
use Rattle.model.proofs.StationLaws.{place-hit, slot-hit, unheld-txn, mark-closing}
use Rattle.model.proofs.SoundLaws.{sound-at, held_low, Used, used-at, Shut, place-used, closing-used, place-shut, unheld-wrote, unheld-clock}

module _ (st : Station) (h : sound st ≡ true) where
  -- a transaction has one place, or one slot, and not both
  pub one_place : (i j : ℕ) → (live_at st i).txn ≡ (live_at st j).txn → (live_at st i).txn ≢ 0 → i ≡ j
  one_place = (sound-at st h).live_once

  pub one-slot : (d d' : ℕ) → (entry_at st d).id.txn ≡ (entry_at st d').id.txn → (entry_at st d).id.txn ≢ 0 → d ≡ d'
  one-slot = (sound-at st h).held_once

  pub live-not-held : (i d : ℕ) → (live_at st i).txn ≡ (entry_at st d).id.txn → (live_at st i).txn ≢ 0 → ⊥
  live-not-held i d e n = (sound-at st h).apart i d n e

  pub held-not-live : (t : ℕ) → is_held t st ≡ true → (j : ℕ) → (live_at st j).txn ≡ t → (live_at st j).txn ≢ 0 → ⊥
  held-not-live t hh j e n = live-not-held j (slot_of t st) (e ∙ sym (slot-hit st t hh).1) n

  -- no other place has the transaction
  pub no_other : (t : ℕ) → is_live t st ≡ true → (j : ℕ) → j ≢ place_of t st → (live_at st j).txn ≡ t → (live_at st j).txn ≢ 0 → ⊥
  no_other t z j nj ej nz = nj (one_place j (place_of t st) (ej ∙ sym (place-hit st t z).1) nz)

  -- two closing transactions have two slots
  pub one-closing : (i j d c n c' n' : ℕ) → (live_at st i).phase ≡ Closing d c n → (live_at st j).phase ≡ Closing d c' n' → i ≡ j
  one-closing i j d c n c' n' ei ej =
      (sound-at st h).slot_once i j (mark-closing _ d c n ei ∙ sym (mark-closing _ d c' n' ej)) (λ z. suc-ne-zero d (sym (mark-closing _ d c n ei) ∙ z))

  -- an entry that wrote a key is held
  pub wrote-held : (d k : ℕ) → wrote (entry_at st d) k ≡ true → (entry_at st d).id.txn ≢ 0
  wrote-held d k w z = false≢true (sym (unheld-wrote _ (entry_at st d) ((sound-at st h).entry d) z k) ∙ w)

  -- a held slot is one of the kind's
  pub held_below : (d : ℕ) → (entry_at st d).id.txn ≢ 0 → d < st.kind.slots
  held_below = held_low st (sound-at st h)

  pub unheld-clockless : (d : ℕ) → (entry_at st d).id.txn ≡ 0 → (entry_at st d).id.clock ≡ 0
  unheld-clockless d z = unheld-clock _ (entry_at st d) ((sound-at st h).entry d) z

  -- a place with a number is in use; one without is not closing, and has read nothing
  pub live_facts : (i : ℕ) → (live_at st i).txn ≢ 0 → Used st.kind st.entries (live_at st i)
  live_facts i n = place-used st (live_at st i) _ ((sound-at st h).place i) n

-- a closing transaction
pub record IsClosing (st : Station) (l : Live) (d c n : ℕ) : Type 0 where
  pub used : Used st.kind st.entries l
  pub keyed : 1 ≤ write_count l
  pub clocked : 1 ≤ c
  pub within : n ≤ write_count l + 1
  pub low : d < st.kind.slots
  pub unheld : (entry_at st d).id.txn ≡ 0

pub closing-facts : (st : Station) → sound st ≡ true → (i d c n : ℕ) → (live_at st i).phase ≡ Closing d c n → IsClosing st (live_at st i) d c n
unfolding closing_slot closing_clock records_stored is_closing
closing-facts st h i d c n e = record {
  used = closing-used st (live_at st i) _ ((sound-at st h).place i) is;
  keyed = u.keyed;
  clocked = subst (λ (p : Phase). 1 ≤ closing_clock p) e u.clocked;
  within = subst (λ (p : Phase). records_stored p ≤ write_count (live_at st i) + 1) e u.within;
  low = subst (λ (p : Phase). closing_slot p < st.kind.slots) e u.low;
  unheld = unheld-txn st d (subst (λ (p : Phase). holds st (closing_slot p) ≡ false) e u.unheld);
}
  where
    is : is_closing (live_at st i).phase ≡ true
    is = ap is_closing e

    u : Shut st (live_at st i)
    u = place-shut st (live_at st i) _ ((sound-at st h).place i) is

pub unused-open : (st : Station) → sound st ≡ true → (i : ℕ) → (live_at st i).txn ≡ 0 → is_closing (live_at st i).phase ≡ false
unused-open st h i z =
    ⊎_elim (λ y. absurd ((closing-used st (live_at st i) _ ((sound-at st h).place i) y).numbered z)) (λ y. y) (bool_cases (is_closing (live_at st i).phase))

pub unused-reads : (st : Station) → sound st ≡ true → (i : ℕ) → (live_at st i).txn ≡ 0 → reads_of (live_at st i) ≡ []
unfolding place_right is_no_live reads_of
unused-reads st h i z = go (live_at st i).phase ((sound-at st h).place i)
  where
    go : (p : Phase) → place_right st p (live_at st i) ≡ true → take (live_at st i).read_count (live_at st i).reads ≡ []
    go Unused k = let c : (live_at st i).read_count ≡ 0 = eqb-true _ 0 (and_right _ _ (and_left _ _ (and_left _ _ k))) in rw c
    go Open k = absurd ((used-at _ _ (live_at st i) k).numbered z)
    go (Closing d c n) k = absurd ((used-at _ _ (live_at st i) (and_left _ _ k)).numbered z)
