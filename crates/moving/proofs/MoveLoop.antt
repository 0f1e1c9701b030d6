-- The committed slots moved, slot by slot: what holds of the slots passed, one slot more, and where all are passed.
use Prim.Native.Nat.{ℕ, suc, ◌+◌, ◌*◌, ◌-◌, ◌<◌, ◌≤◌}
use mathlib.Core.Path.{◌≡◌, refl, sym, ap, subst, ◌∙◌}
use mathlib.Core.Logic.{◌≢◌}
use mathlib.Core.Bool.{false}
use mathlib.Core.List.{List, ◌∷◌, ◌++◌, append_assoc, append-nil}
use lib.ListN.{length, take, drop, get_or, length-append, drop_of_length-le}
use lib.Seq.{take_at, length-take-le}
use native.Mathlib.Nat.{mul-le-mul_left}
use native.Mathlib.Omega.{arith}
use native.Mathlib.Numerals.{add-one}
use borrow.Rule.Slice.PartMut.{put_mid, mid_len, same_len_mid}
use borrow.Author.Tests.{ltb-false}
use Rattle.model.specs.declared as machine
use Rattle.model.specs.Types.{Entry}
use Rattle.model.specs.Lists.{any, count}
use Rattle.model.specs.Kinds.{Kind, slot_size, store_size}
use Rattle.model.specs.Listed.{listed_entry, listed_entries}
use Rattle.model.specs.Entries.{keys_of, no_entry}
use Rattle.model.specs.Stations.{entry_at}
use Rattle.model.specs.Slots.{Seen, free, committed, damaged, seen}
use Rattle.model.specs.Scan.{slots_seen, entry_seen, entries_seen, is_committed}
use Rattle.model.specs.Moves.{too_wide, moved_slot, moved_slots}
use Rattle.model.proofs.ListLaws.{any_none, count_yes, count_no, get_or-mem}
use Rattle.model.proofs.RestLaws.{rest-next}
use Rattle.model.proofs.ListedLaws.{zero_entry, listed-any}
use Rattle.model.proofs.SlotLaws.{rules-txn, committed-rules}
use Rattle.model.proofs.ScanLaws.{seen-length, seen_at, txn_seen, txn-seen, scan-entry}

-- ── a slot, by its entry among those found ──
module _ (κ : Kind) (s : List ℕ) (es : List machine.Entry.Entry) (q : listed_entries es ≡ entries_seen (slots_seen κ s)) (d : ℕ) (o : d < κ.slots) where
  abbrev found : machine.Entry.Entry
  found = get_or es d zero_entry

  entry_seen_lem : listed_entry found ≡ entry_seen (seen κ s d)
  entry_seen_lem = sym (listed-any es d) ∙ (ap (λ (l : List Entry). get_or l d no_entry) q ∙ (unfold entry_at in scan-entry κ s d o))

  pub found-committed : found.id.txn ≢ 0 → seen κ s d ≡ committed (listed_entry found)
  found-committed n = txn-seen (seen κ s d) (λ z. n (ap (λ (e : Entry). e.id.txn) entry_seen_lem ∙ z)) ∙ ap committed (sym entry_seen_lem)

  pub found_none : found.id.txn ≡ 0 → is_committed (seen κ s d) ≡ false
  found_none z = go (seen κ s d) refl (sym (ap (λ (e : Entry). e.id.txn) entry_seen_lem) ∙ z)
    where
      go : (x : Seen) → seen κ s d ≡ x → txn_seen x ≡ 0 → is_committed x ≡ false
      go free h t = unfold is_committed in refl
      go (committed e) h t = absurd (rules-txn κ e (committed-rules κ s d e h) (unfold entry_seen in t))
      go damaged h t = unfold is_committed in refl

-- the other kind takes its keys
pub slot-narrow : (κ κ' : Kind) (s : List ℕ) (d : ℕ) (e : Entry) → any (too_wide κ') (slots_seen κ s) ≡ false → d < κ.slots → seen κ s d ≡ committed e → length (keys_of e) ≤ κ'.write_limit
unfolding too_wide
slot-narrow κ κ' s d e h o c = ltb-false κ'.write_limit (length (keys_of e))
    (ap (too_wide κ') (sym (seen_at κ s d free o ∙ c)) ∙ any_none (too_wide κ') (slots_seen κ s) h (get_or (slots_seen κ s) d free) (get_or-mem (slots_seen κ s) d free (omega (arith, o, seen-length κ s))))

-- ── the slots passed ──
module _ (κ κ' : Kind) (s : List ℕ) where
  -- the slots still to come
  abbrev rest : ℕ → List Seen
  rest d = drop d (slots_seen κ s)

  rest-slot : (d : ℕ) → d < κ.slots → rest d ≡ seen κ s d ∷ rest (d + 1)
  rest-slot d o = rest-next (slots_seen κ s) d free (omega (arith, o, seen-length κ s)) ∙ ap (λ (x : Seen). x ∷ rest (d + 1)) (seen_at κ s d free o)

  -- what is moved of a slot and of those after it
  skips : (d : ℕ) (x : Seen) (xs : List Seen) → is_committed x ≡ false → moved_slots κ κ' s d (x ∷ xs) ≡ moved_slots κ κ' s (d + 1) xs
  unfolding moved_slots is_committed
  skips d free xs h = ap (λ (n : ℕ). moved_slots κ κ' s n xs) (sym (add-one d))
  skips d (committed e) xs h = absurd (let z : ◌≡◌ {A = ℕ} 0 1 = cc in omega arith)
  skips d damaged xs h = ap (λ (n : ℕ). moved_slots κ κ' s n xs) (sym (add-one d))

  moves : (d : ℕ) (e : Entry) (xs : List Seen) → moved_slots κ κ' s d (committed e ∷ xs) ≡ moved_slot κ κ' s d e ++ moved_slots κ κ' s (d + 1) xs
  unfolding moved_slots
  moves d e xs = ap (λ (n : ℕ). moved_slot κ κ' s d e ++ moved_slots κ κ' s n xs) (sym (add-one d))

  -- d slots are passed: the target t has room for the committed ones to come, and with them it is what it has to be
  pub record Moving (t : List ℕ) (at d : ℕ) : Type 0 where
    pub below : d ≤ κ.slots
    pub long : length t ≡ store_size κ'
    pub room : at + slot_size κ' * count is_committed (rest d) ≤ store_size κ'
    pub whole : take at t ++ moved_slots κ κ' s d (rest d) ≡ moved_slots κ κ' s 0 (slots_seen κ s)

  pub moving-none : (t : List ℕ) → length t ≡ store_size κ' → count is_committed (slots_seen κ s) ≤ κ'.slots → Moving t 0 0
  moving-none t l h = record { below = omega arith; long = l; room = omega (arith, mul-le-mul_left (slot_size κ') h); whole = refl }

  module _ (t : List ℕ) (at d : ℕ) (m : Moving t at d) (o : d < κ.slots) where
    -- a slot that is not committed
    pub moving-skips : is_committed (seen κ s d) ≡ false → Moving t at (d + 1)
    moving-skips h = record {
      below = omega arith;
      long = m.long;
      room = subst (λ (n : ℕ). at + slot_size κ' * n ≤ store_size κ') (ap (count is_committed) (rest-slot d o) ∙ count_no is_committed (seen κ s d) (rest (d + 1)) h) m.room;
      whole = sym (ap (λ (x : List ℕ). take at t ++ x) (ap (moved_slots κ κ' s d) (rest-slot d o) ∙ skips d (seen κ s d) (rest (d + 1)) h)) ∙ m.whole;
    }

    -- a committed one
    module _ (e : Entry) (c : seen κ s d ≡ committed e) where
      room-one : at + slot_size κ' * suc (count is_committed (rest (d + 1))) ≤ store_size κ'
      room-one = subst (λ (n : ℕ). at + slot_size κ' * n ≤ store_size κ') (ap (count is_committed) (rest-slot d o) ∙ count_yes is_committed (seen κ s d) (rest (d + 1)) (unfold is_committed in ap is_committed c)) m.room

      -- z bytes are a slot of the target
      module _ (z : ℕ) (q : z ≡ slot_size κ') where
        pub moving-room : at + z ≤ store_size κ'
        moving-room = omega (arith, room-one, q)

        pub moving-part : length (take (at + z - at) (drop at t)) ≡ slot_size κ'
        moving-part = mid_len at (at + z) t (omega (arith, moving-room, m.long)) ∙ omega (arith, q)

        pub moving-more : (y : List ℕ) → y ≡ moved_slot κ κ' s d e → length y ≡ length (take (at + z - at) (drop at t)) → Moving (put_mid at (at + z - at) t y) (at + z) (d + 1)
        moving-more y f g = record {
          below = omega arith;
          long = same_len_mid at (at + z - at) t y g ∙ m.long;
          room = omega (arith, room-one, q);
          whole =
              ap (λ (x : List ℕ). x ++ moved_slots κ κ' s (d + 1) (rest (d + 1))) front
              ∙ (append_assoc (take at t) y (moved_slots κ κ' s (d + 1) (rest (d + 1)))
              ∙ (ap (λ (x : List ℕ). take at t ++ (x ++ moved_slots κ κ' s (d + 1) (rest (d + 1)))) f
              ∙ (sym (ap (λ (x : List ℕ). take at t ++ x) (ap (moved_slots κ κ' s d) (rest-slot d o ∙ ap (λ (x : Seen). x ∷ rest (d + 1)) c) ∙ moves d e (rest (d + 1)))) ∙ m.whole)));
        }
          where
            long : length (take at t ++ y) ≡ at + z
            long = length-append (take at t) y ∙ omega (arith, length-take-le at t (omega (arith, moving-room, m.long)), g, moving-part, q)

            front : take (at + z) (put_mid at (at + z - at) t y) ≡ take at t ++ y
            front = ap (take (at + z)) (sym (append_assoc (take at t) y (drop (at + z - at) (drop at t)))) ∙ take_at (take at t ++ y) (drop (at + z - at) (drop at t)) (at + z) long

  -- all are passed
  pub moving-all : (t : List ℕ) (at d : ℕ) → Moving t at d → κ.slots ≤ d → (at ≤ length t) × (take at t ≡ moved_slots κ κ' s 0 (slots_seen κ s))
  unfolding moved_slots
  moving-all t at d m o =
      let none : length (slots_seen κ s) ≤ d = omega (arith, o, seen-length κ s) in
      (omega (arith, m.room, m.long), sym (append-nil (take at t)) ∙ (ap (λ (xs : List Seen). take at t ++ moved_slots κ κ' s d xs) (sym (drop_of_length-le (slots_seen κ s) none)) ∙ m.whole))
