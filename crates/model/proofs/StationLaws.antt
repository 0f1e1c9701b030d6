-- Laws of a station's parts: places, slots, transactions by number; what soundness says of each.
use Prim.Native.Nat.{ℕ, suc, ◌<◌, ◌≤◌}
use mathlib.Core.Path.{◌≡◌, refl, sym, ap, subst, ◌∙◌}
use mathlib.Core.Logic.{◌≢◌}
use mathlib.Core.Bool.{true, false, true≢false, false≢true}
use lib.ListN.{length, get_or, length-set, get_or-eq_default, length-map, get_or-map}
use lib.Seq.{get_or-set_same, get_or-set_other}
use native.Mathlib.Nat.{suc-ne-zero}
use native.Mathlib.Decide.{dec_lt}
use native.Mathlib.Omega.{arith}
use borrow.Author.Tests.{eqb-true, eqb-false, not-true, not-false, eq-eqb}
use Rattle.model.specs.Types.{Entry, Live, Station}
use Rattle.model.specs.declared.Phase.{Phase}
use Rattle.model.specs.declared.Phase.TheVariants.{Unused, Open, Closing}
use Rattle.model.specs.Lists.{member}
use Rattle.model.specs.Lives.{is_closing, closing_slot, closing_clock, records_stored, slot_mark, live_beyond}
use Rattle.model.specs.Entries.{no_entry}
use Rattle.model.specs.Stations.{live_at, entry_at, set_live, set_entry, live_txns, held_txns, is_live, is_held, place_of, slot_of, holds, closing_slots}
use Rattle.model.proofs.Tests.{not-of-true}
use Rattle.model.proofs.ListLaws.{at_set, get_or-inside, member-finds, member-at}
use Rattle.model.proofs.DistinctLaws.{member-never}

-- ── a station's lists, place by place ──
module _ (st : Station) where
  pub txn-at : (i : ℕ) → get_or (live_txns st) i 0 ≡ (live_at st i).txn
  unfolding live_txns live_at
  txn-at i = get_or-map (λ (l : Live). l.txn) st.live i live_beyond

  pub txns-length : length (live_txns st) ≡ length st.live
  unfolding live_txns
  txns-length = length-map st.live (λ (l : Live). l.txn)

  pub held_at : (d : ℕ) → get_or (held_txns st) d 0 ≡ (entry_at st d).id.txn
  unfolding held_txns entry_at
  held_at d = get_or-map (λ (e : Entry). e.id.txn) st.entries d no_entry

  pub held-length : length (held_txns st) ≡ length st.entries
  unfolding held_txns
  held-length = length-map st.entries (λ (e : Entry). e.id.txn)

  pub mark-at : (i : ℕ) → get_or (closing_slots st) i 0 ≡ slot_mark (live_at st i).phase
  unfolding closing_slots live_at slot_mark
  mark-at i = get_or-map (λ (l : Live). slot_mark l.phase) st.live i live_beyond

  pub marks-length : length (closing_slots st) ≡ length st.live
  unfolding closing_slots
  marks-length = length-map st.live (λ (l : Live). slot_mark l.phase)

  -- a transaction that is live has a place; one that is held has a slot
  pub place-hit : (t : ℕ) → is_live t st ≡ true → (place_of t st < length st.live) × ((live_at st (place_of t st)).txn ≡ t)
  unfolding is_live place_of
  place-hit t h = let r = member-finds t (live_txns st) h in (subst (λ (n : ℕ). place_of t st < n) txns-length r.0, sym (txn-at (place_of t st)) ∙ r.1)

  pub slot-hit : (t : ℕ) → is_held t st ≡ true → (slot_of t st < length st.entries) × ((entry_at st (slot_of t st)).id.txn ≡ t)
  unfolding is_held slot_of
  slot-hit t h = let r = member-finds t (held_txns st) h in (subst (λ (n : ℕ). slot_of t st < n) held-length r.0, sym (held_at (slot_of t st)) ∙ r.1)

  -- past the arrays' ends nothing is in use
  pub live_out : (i : ℕ) → length st.live ≤ i → live_at st i ≡ live_beyond
  unfolding live_at
  live_out i h = get_or-eq_default st.live _ h

  pub entry-out : (d : ℕ) → length st.entries ≤ d → entry_at st d ≡ no_entry
  unfolding entry_at
  entry-out d h = get_or-eq_default st.entries _ h

  -- inside the list an entry is as the list has it
  pub entry-get : (d : ℕ) → d < length st.entries → get_or st.entries d no_entry ≡ entry_at st d
  unfolding entry_at
  entry-get d o = get_or-inside st.entries d no_entry _ o

  pub live_in : (i : ℕ) → (live_at st i).txn ≢ 0 → i < length st.live
  live_in i n = go (dec_lt i (length st.live))
    where
      go : Dec (i < length st.live) → i < length st.live
      go (yes y) = y
      go (no y) = absurd (n (ap (λ (l : Live). l.txn) (live_out i (omega arith))))

  pub entry_in : (d : ℕ) → (entry_at st d).id.txn ≢ 0 → d < length st.entries
  entry_in d n = go (dec_lt d (length st.entries))
    where
      go : Dec (d < length st.entries) → d < length st.entries
      go (yes y) = y
      go (no y) = absurd (n (ap (λ (e : Entry). e.id.txn) (entry-out d (omega arith))))

  pub is_live_lem : (i : ℕ) → (live_at st i).txn ≢ 0 → is_live (live_at st i).txn st ≡ true
  unfolding is_live
  is_live_lem i n = subst (λ (t : ℕ). member t (live_txns st) ≡ true) (txn-at i) (member-at (live_txns st) i (rw txns-length (live_in i n)))

  pub is-held : (d : ℕ) → (entry_at st d).id.txn ≢ 0 → is_held (entry_at st d).id.txn st ≡ true
  unfolding is_held
  is-held d n = subst (λ (t : ℕ). member t (held_txns st) ≡ true) (held_at d) (member-at (held_txns st) d (rw held-length (entry_in d n)))

  pub unheld-txn : (d : ℕ) → holds st d ≡ false → (entry_at st d).id.txn ≡ 0
  unfolding holds
  unheld-txn d h = eqb-true _ 0 (not-false _ h)

  pub unheld-of : (d : ℕ) → (entry_at st d).id.txn ≡ 0 → holds st d ≡ false
  unfolding holds
  unheld-of d e = not-of-true _ (eq-eqb _ _ e)

  pub held-txn : (d : ℕ) → holds st d ≡ true → (entry_at st d).id.txn ≢ 0
  unfolding holds
  held-txn d h = eqb-false _ 0 (not-true _ h)

  -- a slot that is held is there
  pub held-inside : (d : ℕ) → holds st d ≡ true → d < length st.entries
  held-inside d h = entry_in d (held-txn d h)

  pub not_live : (t : ℕ) → is_live t st ≡ false → t ≢ 0 → (i : ℕ) → (live_at st i).txn ≢ t
  unfolding is_live
  not_live t h n i e = member-never t (live_txns st) h n i (txn-at i ∙ e)

  pub not-held : (t : ℕ) → is_held t st ≡ false → t ≢ 0 → (d : ℕ) → (entry_at st d).id.txn ≢ t
  unfolding is_held
  not-held t h n d e = member-never t (held_txns st) h n d (held_at d ∙ e)

-- ── a place or an entry replaced ──
module _ (st : Station) (i : ℕ) (l : Live) where
  pub set_live-at : (P : ℕ → Live → Type 0) → i < length st.live → P i l → ((j : ℕ) → j ≢ i → P j (live_at st j)) → (j : ℕ) → P j (live_at (set_live st i l) j)
  unfolding live_at set_live
  set_live-at P h p o j = at_set P st.live i l _ h p o j

  pub live_at-same : i < length st.live → live_at (set_live st i l) i ≡ l
  unfolding live_at set_live
  live_at-same h = get_or-set_same st.live i l _ h

  pub live_at-other : (j : ℕ) → j ≢ i → live_at (set_live st i l) j ≡ live_at st j
  unfolding live_at set_live
  live_at-other j n = get_or-set_other st.live i j l _ n

  pub set_live-entry : (d : ℕ) → entry_at (set_live st i l) d ≡ entry_at st d
  unfolding entry_at set_live
  set_live-entry d = refl

  pub set_live-length : length (set_live st i l).live ≡ length st.live
  unfolding set_live
  set_live-length = length-set st.live i l

module _ (st : Station) (d : ℕ) (e : Entry) where
  pub set_entry-at : (P : ℕ → Entry → Type 0) → d < length st.entries → P d e → ((c : ℕ) → c ≢ d → P c (entry_at st c)) → (c : ℕ) → P c (entry_at (set_entry st d e) c)
  unfolding entry_at set_entry
  set_entry-at P h p o c = at_set P st.entries d e _ h p o c

  pub entry_at-same : d < length st.entries → entry_at (set_entry st d e) d ≡ e
  unfolding entry_at set_entry
  entry_at-same h = get_or-set_same st.entries d e _ h

  pub entry_at-other : (c : ℕ) → c ≢ d → entry_at (set_entry st d e) c ≡ entry_at st c
  unfolding entry_at set_entry
  entry_at-other c n = get_or-set_other st.entries d c e _ n

  pub set_entry-live : (i : ℕ) → live_at (set_entry st d e) i ≡ live_at st i
  unfolding live_at set_entry
  set_entry-live i = refl

  pub set_entry-length : length (set_entry st d e).entries ≡ length st.entries
  unfolding set_entry
  set_entry-length = length-set st.entries d e

-- ── phases ──
pub not-closing : (p : Phase) (d c n : ℕ) → is_closing p ≡ false → p ≡ Closing d c n → ⊥
unfolding is_closing
not-closing p d c n h e = true≢false (subst (λ (q : Phase). is_closing q ≡ false) e h)

pub closing-is : (p : Phase) → is_closing p ≡ true → p ≡ Closing (closing_slot p) (closing_clock p) (records_stored p)
unfolding is_closing closing_slot closing_clock records_stored
closing-is Unused h = absurd (false≢true h)
closing-is Open h = absurd (false≢true h)
closing-is (Closing d c n) h = refl

pub open-clock : (p : Phase) → is_closing p ≡ false → closing_clock p ≡ 0
unfolding is_closing closing_clock
open-clock Unused h = refl
open-clock Open h = refl
open-clock (Closing d c n) h = absurd (true≢false h)

pub closing_same : (d c n d' c' n' : ℕ) → Closing d c n ≡ Closing d' c' n' → (d ≡ d') × (c ≡ c') × (n ≡ n')
closing_same d c n d' c' n' e = (cc, cc, cc)

pub clock-closing : (p : Phase) (d c n : ℕ) → p ≡ Closing d c n → closing_clock p ≡ c
unfolding closing_clock
clock-closing p d c n e = rw e

pub mark-closing : (p : Phase) (d c n : ℕ) → p ≡ Closing d c n → slot_mark p ≡ suc d
unfolding slot_mark
mark-closing p d c n e = ap slot_mark e

-- a mark is a closing transaction's
pub marked : (p : Phase) (d : ℕ) → slot_mark p ≡ suc d → p ≡ Closing d (closing_clock p) (records_stored p)
unfolding slot_mark closing_clock records_stored
marked Unused d e = absurd (suc-ne-zero d (sym e))
marked Open d e = absurd (suc-ne-zero d (sym e))
marked (Closing x c n) d e = ap (λ (y : ℕ). Closing y c n) (omega arith)

pub slot_mark-closing : (p : Phase) → is_closing p ≡ true → slot_mark p ≡ suc (closing_slot p)
unfolding is_closing slot_mark closing_slot
slot_mark-closing Unused e = absurd (false≢true e)
slot_mark-closing Open e = absurd (false≢true e)
slot_mark-closing (Closing d c n) e = refl

pub closing-in : (st : Station) (i d c n : ℕ) → (live_at st i).phase ≡ Closing d c n → i < length st.live
closing-in st i d c n e = go (dec_lt i (length st.live))
  where
    go : Dec (i < length st.live) → i < length st.live
    go (yes y) = y
    go (no y) = absurd (not-closing Unused d c n (unfold is_closing in refl) (sym (ap (λ (l : Live). l.phase) (live_out st i (omega arith))) ∙ e))

-- the slot of a closing transaction is marked
pub slot-marked : (st : Station) (i d c n : ℕ) → (live_at st i).phase ≡ Closing d c n → member (suc d) (closing_slots st) ≡ true
slot-marked st i d c n e =
    subst (λ (k : ℕ). member k (closing_slots st) ≡ true) (mark-at st i ∙ mark-closing _ d c n e)
    (member-at (closing_slots st) i (rw (marks-length st) (closing-in st i d c n e)))
