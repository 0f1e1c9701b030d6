-- Soundness (specs/Sound) taken apart and put together, place by place.
use Prim.Native.Nat.{ℕ, ◌+◌, ◌-◌, ◌<◌, ◌≤◌}
use mathlib.Core.Path.{◌≡◌, refl, sym, ap, subst, subst₂, ◌∙◌}
use mathlib.Core.Logic.{◌≢◌, ⊎_elim}
use mathlib.Core.Bool.{true, false, not, true≢false, false≢true}
use mathlib.Core.List.{List, ◌++◌, map, Memᴰ}
use lib.Dec.{leb}
use lib.ListN.{length-map, length, drop, get_or, length-take}
use lib.Seq.{set_out, get_or-drop}
use native.Mathlib.Nat.{lt_irrefl}
use native.Mathlib.Decide.{dec_lt}
use native.Mathlib.Omega.{arith}
use borrow.Author.Tests.{ltb-true, leb-true, eqb-true, not-true, lt-ltb, le-leb}
use Rattle.model.specs.declared.Id.{Id}
use Rattle.model.specs.declared.Read.{Read}
use Rattle.model.specs.Types.{Entry, Write, Live, Station}
use Rattle.model.specs.declared.Phase.{Phase}
use Rattle.model.specs.declared.Phase.TheVariants.{Unused, Open, Closing}
use Rattle.model.specs.Lists.{◌and◌, all, any, insert, member, ascending, distinct}
use Rattle.model.specs.Limits.{keys, write_places, read_limit}
use Rattle.model.specs.Kinds.{Kind, WriteSet}
use Rattle.model.specs.Ids.{same_id}
use Rattle.model.specs.Lives.{no_write, no_read, no_live, writes_of, reads_of, write_key, read_key, has_written, has_read, is_closing, closing_slot, closing_clock, records_stored, slot_mark, with_writes, with_reads, write_count}
use Rattle.model.specs.Entries.{keys_of, wrote, wrote_as, no_entry, entry_rules, is_no_entry, entry_for}
use Rattle.model.specs.Stations.{live_at, entry_at, set_live, set_entry, live_txns, held_txns, holds, closing_slots}
use Rattle.model.specs.Sound.{is_no_write, is_no_read, is_no_live, zero_past_counts, sets_right, names, in_use, closing_right, place_right, entry_right, sound}
use Rattle.model.specs.Put.{with_write}
use Rattle.model.specs.Get.{with_read}
use Rattle.model.proofs.Tests.{and_left, and_right, and_intro, or-intro-left, or-intro-right, or_cases, not_of_false}
use Rattle.model.proofs.ListLaws.{all_of, all-by, all_replicate, all-everywhere, any-set}
use Rattle.model.proofs.IdLaws.{same_id_lem}
use Rattle.model.proofs.DistinctLaws.{Once, once_by, once-set, once-at, once-of, once-left, once-right, once-apart, distinct_append}
use Rattle.model.proofs.InsertLaws.{insert-ascending, insert-fits, insert_all, padded-take, padded-drop}
use Rattle.model.proofs.StationLaws.{txn-at, held_at, mark-at, set_live-at, live_at-same, live_at-other, set_live-entry, set_entry-at, entry_at-same, entry_at-other, set_entry-live}
use Rattle.model.proofs.InsideLaws.{none_of}

-- ── soundness, place by place ──
pub no_entry-none : is_no_entry no_entry ≡ true
unfolding is_no_entry same_id ◌and◌
no_entry-none = refl

pub record Sound (st : Station) : Type 0 where
  pub entry : (d : ℕ) → entry_right st.kind (entry_at st d) ≡ true
  pub beyond : (d : ℕ) → st.kind.slots ≤ d → is_no_entry (entry_at st d) ≡ true
  pub place : (i : ℕ) → place_right st (live_at st i).phase (live_at st i) ≡ true
  pub live_once : Once (λ i. (live_at st i).txn)
  pub held_once : Once (λ d. (entry_at st d).id.txn)
  pub apart : (i d : ℕ) → (live_at st i).txn ≢ 0 → (live_at st i).txn ≢ (entry_at st d).id.txn
  pub slot_once : Once (λ i. slot_mark (live_at st i).phase)

pub sound-at : (st : Station) → sound st ≡ true → Sound st
unfolding sound
sound-at st h = record {
  entry = unfold entry_at in all-everywhere (entry_right st.kind) st.entries _ (and_left _ _ (and_left _ _ (and_left _ _ (and_left _ _ h)))) (unfold entry_right in or-intro-left _ _ no_entry-none);
  beyond = λ d o. unfold entry_at in subst (λ (e : Entry). is_no_entry e ≡ true) (rest d o) (all-everywhere is_no_entry (drop st.kind.slots st.entries) no_entry (and_right _ _ (and_left _ _ (and_left _ _ (and_left _ _ h)))) no_entry-none (d - st.kind.slots));
  place = unfold live_at in all-everywhere (λ l. place_right st l.phase l) st.live _ (and_right _ _ (and_left _ _ (and_left _ _ h))) (unfold place_right is_no_live ◌and◌ all in refl);
  live_once = once_by _ _ (txn-at st) (once-left (live_txns st) (held_txns st) txns);
  held_once = once_by _ _ (held_at st) (once-right (live_txns st) (held_txns st) txns);
  apart = λ i d. subst₂ (λ (a b : ℕ). a ≢ 0 → a ≢ b) (txn-at st i) (held_at st d) (once-apart (live_txns st) (held_txns st) txns i d);
  slot_once = once_by _ _ (mark-at st) (once-at (closing_slots st) (and_right _ _ h));
}
  where
    txns : distinct (live_txns st ++ held_txns st) ≡ true
    txns = and_right _ _ (and_left _ _ h)

    rest : (d : ℕ) → st.kind.slots ≤ d → get_or (drop st.kind.slots st.entries) (d - st.kind.slots) no_entry ≡ get_or st.entries d no_entry
    rest d o = get_or-drop st.kind.slots st.entries (d - st.kind.slots) no_entry ∙ ap (λ (j : ℕ). get_or st.entries j no_entry) (omega arith)

pub sound-of : (st : Station) → Sound st → sound st ≡ true
unfolding sound entry_at live_at
sound-of st s =
    and_intro _ _ (and_intro _ _ (and_intro _ _ (and_intro _ _
    (all_of (entry_right st.kind) st.entries _ (λ d o. s.entry d))
    (all_of is_no_entry (drop st.kind.slots st.entries) no_entry (λ d o. rw (get_or-drop st.kind.slots st.entries d no_entry) (s.beyond (st.kind.slots + d) (omega arith)))))
    (all_of (λ l. place_right st l.phase l) st.live _ (λ i o. s.place i)))
    (distinct_append (live_txns st) (held_txns st)
    (once_by _ _ (λ i. sym (txn-at st i)) s.live_once)
    (once_by _ _ (λ d. sym (held_at st d)) s.held_once)
    (λ i d. subst₂ (λ (a b : ℕ). a ≢ 0 → a ≢ b) (sym (txn-at st i)) (sym (held_at st d)) (s.apart i d))))
    (once-of (closing_slots st) (once_by _ _ (λ i. sym (mark-at st i)) s.slot_once))

-- a held slot is one of the kind's
pub held_low : (st : Station) → Sound st → (d : ℕ) → (entry_at st d).id.txn ≢ 0 → d < st.kind.slots
unfolding is_no_entry
held_low st s d n = go (dec_lt d st.kind.slots)
  where
    go : Dec (d < st.kind.slots) → d < st.kind.slots
    go (yes o) = o
    go (no o) = absurd (n (ap (λ (i : Id). i.txn) (same_id_lem _ _ (and_left _ _ (s.beyond d (omega arith))))))

-- ── a live transaction, sentence by sentence ──
pub record Used (κ : Kind) (es : List Entry) (l : Live) : Type 0 where
  pub numbered : l.txn ≢ 0
  pub sets : sets_right κ l ≡ true
  pub named : all (names es) (reads_of l) ≡ true
  pub zeros : zero_past_counts l ≡ true

pub used-at : (κ : Kind) (es : List Entry) (l : Live) → in_use κ es l ≡ true → Used κ es l
unfolding in_use
used-at κ es l h = record {
  numbered = λ e. lt_irrefl 0 (omega (arith, e, leb-true 1 l.txn (and_left _ _ (and_left _ _ (and_left _ _ h)))));
  sets = and_right _ _ (and_left _ _ (and_left _ _ h));
  named = and_right _ _ (and_left _ _ h);
  zeros = and_right _ _ h;
}

pub used-of : (κ : Kind) (es : List Entry) (l : Live) → Used κ es l → in_use κ es l ≡ true
unfolding in_use
used-of κ es l u = and_intro _ _ (and_intro _ _ (and_intro _ _ (le-leb 1 l.txn (omega (arith, u.numbered))) u.sets) u.named) u.zeros

-- among other entries, where its reads still name one
pub used-in : (κ : Kind) (es es' : List Entry) (l : Live) → ((r : Read) → Memᴰ r (reads_of l) → names es r ≡ true → names es' r ≡ true) → Used κ es l → Used κ es' l
used-in κ es es' l f u = record { numbered = u.numbered; sets = u.sets; named = all-by _ _ (reads_of l) f u.named; zeros = u.zeros }

module _ (κ : Kind) (l : Live) (h : sets_right κ l ≡ true) where
  pub write-limit : l.write_count ≤ κ.write_limit
  unfolding sets_right
  write-limit = leb-true _ _ (and_left _ _ (and_left _ _ (and_left _ _ h)))

  pub read-limit : l.read_count ≤ read_limit
  unfolding sets_right
  read-limit = leb-true _ _ (and_right _ _ (and_left _ _ (and_left _ _ h)))

  pub writes-ascending : ascending 0 keys (map write_key (writes_of l)) ≡ true
  unfolding sets_right
  writes-ascending = and_right _ _ (and_left _ _ h)

  pub reads-ascending : ascending 0 keys (map read_key (reads_of l)) ≡ true
  unfolding sets_right
  reads-ascending = and_right _ _ h

pub sets_of : (κ : Kind) (l : Live) → l.write_count ≤ κ.write_limit → l.read_count ≤ read_limit → ascending 0 keys (map write_key (writes_of l)) ≡ true
    → ascending 0 keys (map read_key (reads_of l)) ≡ true → sets_right κ l ≡ true
unfolding sets_right
sets_of κ l w r aw ar = and_intro _ _ (and_intro _ _ (and_intro _ _ (le-leb _ _ w) (le-leb _ _ r)) aw) ar

module _ (l : Live) (h : zero_past_counts l ≡ true) where
  pub writes-zero : all is_no_write (drop l.write_count l.writes) ≡ true
  unfolding zero_past_counts
  writes-zero = and_left _ _ h

  pub reads-zero : all is_no_read (drop l.read_count l.reads) ≡ true
  unfolding zero_past_counts
  reads-zero = and_right _ _ h

pub zeros_of : (l : Live) → all is_no_write (drop l.write_count l.writes) ≡ true → all is_no_read (drop l.read_count l.reads) ≡ true → zero_past_counts l ≡ true
unfolding zero_past_counts
zeros_of l w r = and_intro _ _ w r

pub no_write-zero : is_no_write no_write ≡ true
unfolding is_no_write ◌and◌
no_write-zero = refl

pub no_read-zero : is_no_read no_read ≡ true
unfolding is_no_read same_id ◌and◌
no_read-zero = refl

pub writes-length : (l : Live) → length (writes_of l) ≤ l.write_count
unfolding writes_of
writes-length l = omega (arith, length-take l.write_count l.writes)

pub reads-length : (l : Live) → length (reads_of l) ≤ l.read_count
unfolding reads_of
reads-length l = omega (arith, length-take l.read_count l.reads)

-- a closing one
pub record Shut (st : Station) (l : Live) : Type 0 where
  pub keyed : 1 ≤ write_count l
  pub clocked : 1 ≤ closing_clock l.phase
  pub within : records_stored l.phase ≤ write_count l + 1
  pub low : closing_slot l.phase < st.kind.slots
  pub unheld : holds st (closing_slot l.phase) ≡ false

pub shut_at : (st : Station) (l : Live) → closing_right st l ≡ true → Shut st l
unfolding closing_right
shut_at st l h = record {
  keyed = leb-true _ _ (and_left _ _ (and_left _ _ (and_left _ _ (and_left _ _ h))));
  clocked = leb-true _ _ (and_right _ _ (and_left _ _ (and_left _ _ (and_left _ _ h))));
  within = leb-true _ _ (and_right _ _ (and_left _ _ (and_left _ _ h)));
  low = ltb-true _ _ (and_right _ _ (and_left _ _ h));
  unheld = not-true _ (and_right _ _ h);
}

pub shut-of : (st : Station) (l : Live) → Shut st l → closing_right st l ≡ true
unfolding closing_right
shut-of st l u =
    and_intro _ _ (and_intro _ _ (and_intro _ _ (and_intro _ _ (le-leb _ _ u.keyed) (le-leb _ _ u.clocked)) (le-leb _ _ u.within)) (lt-ltb _ _ u.low))
    (not_of_false _ u.unheld)

-- a place by its phase
module _ (st : Station) (l : Live) where
  no-live-txn : is_no_live l ≡ true → l.txn ≡ 0
  unfolding is_no_live
  no-live-txn h = eqb-true _ _ (and_left _ _ (and_left _ _ (and_left _ _ (and_left _ _ h))))

  pub place-used : (p : Phase) → place_right st p l ≡ true → l.txn ≢ 0 → Used st.kind st.entries l
  unfolding place_right
  place-used Unused h n = absurd (n (no-live-txn h))
  place-used Open h n = used-at _ _ l h
  place-used (Closing d c k) h n = used-at _ _ l (and_left _ _ h)

  pub closing-used : (p : Phase) → place_right st p l ≡ true → is_closing p ≡ true → Used st.kind st.entries l
  unfolding place_right is_closing
  closing-used Unused h e = absurd (false≢true e)
  closing-used Open h e = absurd (false≢true e)
  closing-used (Closing d c k) h e = used-at _ _ l (and_left _ _ h)

  pub place-shut : (p : Phase) → place_right st p l ≡ true → is_closing p ≡ true → Shut st l
  unfolding place_right is_closing
  place-shut Unused h e = absurd (false≢true e)
  place-shut Open h e = absurd (false≢true e)
  place-shut (Closing d c k) h e = shut_at st l (and_right _ _ h)

  pub place-is-open : (p : Phase) → place_right st p l ≡ true → is_closing p ≡ false → l.txn ≢ 0 → p ≡ Open
  unfolding place_right is_closing
  place-is-open Unused h e n = absurd (n (no-live-txn h))
  place-is-open Open h e n = refl
  place-is-open (Closing d c k) h e n = absurd (true≢false e)

  pub place-open : (p : Phase) → p ≡ Open → Used st.kind st.entries l → place_right st p l ≡ true
  unfolding place_right
  place-open p e u = subst (λ (q : Phase). place_right st q l ≡ true) (sym e) (used-of _ _ l u)

  pub place-closing : (p : Phase) → is_closing p ≡ true → Used st.kind st.entries l → Shut st l → place_right st p l ≡ true
  unfolding place_right is_closing
  place-closing Unused e u s = absurd (false≢true e)
  place-closing Open e u s = absurd (false≢true e)
  place-closing (Closing d c k) e u s = and_intro _ _ (used-of _ _ l u) (shut-of st l s)

  -- in another station: the reads still name entries, and a closing transaction's slot is not held
  pub place_in : (st' : Station) → st'.kind ≡ st.kind → ((r : Read) → Memᴰ r (reads_of l) → names st.entries r ≡ true → names st'.entries r ≡ true)
      → (p : Phase) → (is_closing p ≡ true → holds st (closing_slot l.phase) ≡ false → holds st' (closing_slot l.phase) ≡ false)
      → place_right st p l ≡ true → place_right st' p l ≡ true
  unfolding place_right is_closing
  place_in st' κ f Unused g h = h
  place_in st' κ f Open g h = used-of _ _ l (used-in _ _ _ l f (used-at _ _ l (subst (λ (x : Kind). in_use x st.entries l ≡ true) (sym κ) h)))
  place_in st' κ f (Closing d c k) g h = and_intro _ _ (used-of _ _ l (used-in _ _ _ l f (used-at _ _ l (subst (λ (x : Kind). in_use x st.entries l ≡ true) (sym κ) (and_left _ _ h))))) (shut-of st' l (shut (shut_at st l (and_right _ _ h))))
    where
      shut : Shut st l → Shut st' l
      shut u = record { keyed = u.keyed; clocked = u.clocked; within = u.within; low = subst (λ (x : Kind). closing_slot l.phase < x.slots) (sym κ) u.low; unheld = g refl u.unheld }

-- ── one place set ──
module _ (st : Station) (i : ℕ) (l : Live) where
  pub place_right-set_live : (p : Phase) (m : Live) → place_right (set_live st i l) p m ≡ place_right st p m
  unfolding place_right closing_right holds entry_at set_live
  place_right-set_live Unused m = refl
  place_right-set_live Open m = refl
  place_right-set_live (Closing d c n) m = refl

  -- a place that is right, with a number and a slot that nothing else has
  pub sound-set_live : Sound st → i < length st.live → place_right st l.phase l ≡ true
      → ((j : ℕ) → j ≢ i → l.txn ≢ 0 → (live_at st j).txn ≢ l.txn)
      → ((d : ℕ) → l.txn ≢ 0 → l.txn ≢ (entry_at st d).id.txn)
      → ((j : ℕ) → j ≢ i → slot_mark l.phase ≢ 0 → slot_mark (live_at st j).phase ≢ slot_mark l.phase)
      → Sound (set_live st i l)
  sound-set_live s o right live held slot = record {
    entry = λ d. rw (set_live-entry st i l d) (unfold set_live in s.entry d);
    beyond = λ d o. rw (set_live-entry st i l d) (s.beyond d (unfold set_live in o));
    place = λ j. rw (place_right-set_live (live_at (set_live st i l) j).phase (live_at (set_live st i l) j)) (set_live-at st i l (λ j m. place_right st m.phase m ≡ true) o right (λ j n. s.place j) j);
    live_once = once-set (λ j. (live_at st j).txn) _ i (λ j n. ap (λ (m : Live). m.txn) (live_at-other st i l j n)) s.live_once (rw (live_at-same st i l o) live);
    held_once = once_by _ _ (λ d. ap (λ (e : Entry). e.id.txn) (sym (set_live-entry st i l d))) s.held_once;
    apart = λ j d. rw (set_live-entry st i l d) (set_live-at st i l (λ j m. m.txn ≢ 0 → m.txn ≢ (entry_at st d).id.txn) o (held d) (λ j n. s.apart j d) j);
    slot_once = once-set (λ j. slot_mark (live_at st j).phase) _ i (λ j n. ap (λ (m : Live). slot_mark m.phase) (live_at-other st i l j n)) s.slot_once (rw (live_at-same st i l o) slot);
  }

  -- with the number and the slot that the place had
  pub sound-relive : Sound st → i < length st.live → place_right st l.phase l ≡ true → l.txn ≡ (live_at st i).txn
      → slot_mark l.phase ≡ slot_mark (live_at st i).phase → Sound (set_live st i l)
  sound-relive s o right et es = sound-set_live s o right
      (λ j n nz e. n (s.live_once j i (e ∙ et) (λ z. nz (sym e ∙ z))))
      (λ d nz e. s.apart i d (λ z. nz (et ∙ z)) (sym et ∙ e))
      (λ j n nz e. n (s.slot_once j i (e ∙ es) (λ z. nz (sym e ∙ z))))

-- a place made unused
pub no_live-right : (st : Station) → place_right st no_live.phase no_live ≡ true
unfolding place_right is_no_live is_no_write is_no_read same_id ◌and◌ all
no_live-right st = refl

pub sound-unlive : (st : Station) (i : ℕ) → Sound st → i < length st.live → Sound (set_live st i no_live)
unfolding slot_mark
sound-unlive st i s o = sound-set_live st i no_live s o (no_live-right st) (λ j n nz e. nz refl) (λ d nz e. nz refl) (λ j n nz e. nz refl)

-- ── one entry set ──
module _ (st : Station) (d : ℕ) (e : Entry) where
  -- past the end there is no slot to set
  pub set_entry-out : length st.entries ≤ d → set_entry st d e ≡ st
  unfolding set_entry
  set_entry-out o = ap (λ (es : List Entry). record { kind = st.kind; live = st.live; entries = es }) (set_out st.entries d e o)

  -- an entry that is right, with a number that nothing else has, where every place stays right
  pub sound-set_entry : Sound st → d < length st.entries → entry_right st.kind e ≡ true → (st.kind.slots ≤ d → is_no_entry e ≡ true)
      → ((i : ℕ) → place_right (set_entry st d e) (live_at st i).phase (live_at st i) ≡ true)
      → ((c : ℕ) → c ≢ d → e.id.txn ≢ 0 → (entry_at st c).id.txn ≢ e.id.txn)
      → ((i : ℕ) → (live_at st i).txn ≢ 0 → (live_at st i).txn ≢ e.id.txn)
      → Sound (set_entry st d e)
  sound-set_entry s o right low places held live = record {
    entry = λ c. unfold set_entry in set_entry-at st d e (λ c f. entry_right st.kind f ≡ true) o right (λ c n. s.entry c) c;
    beyond = λ c p. set_entry-at st d e (λ c f. st.kind.slots ≤ c → is_no_entry f ≡ true) o low (λ c n. s.beyond c) c (unfold set_entry in p);
    place = λ i. rw (set_entry-live st d e i) (places i);
    live_once = once_by _ _ (λ i. ap (λ (m : Live). m.txn) (sym (set_entry-live st d e i))) s.live_once;
    held_once = once-set (λ c. (entry_at st c).id.txn) _ d (λ c n. ap (λ (f : Entry). f.id.txn) (entry_at-other st d e c n)) s.held_once (rw (entry_at-same st d e o) held);
    apart = λ i. rw (set_entry-live st d e i) (λ c. set_entry-at st d e (λ c f. (live_at st i).txn ≢ 0 → (live_at st i).txn ≢ f.id.txn) o (live i) (λ c n. s.apart i c) c);
    slot_once = once_by _ _ (λ i. ap (λ (m : Live). slot_mark m.phase) (sym (set_entry-live st d e i))) s.slot_once;
  }

-- ── write and read sets replaced ──
module _ (ws : List Write) (l : Live) where
  pub writes_of-with_writes : writes_of (with_writes ws l) ≡ ws
  unfolding writes_of with_writes
  writes_of-with_writes = padded-take no_write write_places ws

  pub reads_of-with_writes : reads_of (with_writes ws l) ≡ reads_of l
  unfolding reads_of with_writes
  reads_of-with_writes = refl

  pub with_writes-sets : (κ : Kind) → sets_right κ l ≡ true → ascending 0 keys (map write_key ws) ≡ true → length ws ≤ κ.write_limit → sets_right κ (with_writes ws l) ≡ true
  with_writes-sets κ h up o = sets_of κ (with_writes ws l) (unfold with_writes in o) (unfold with_writes in read-limit κ l h) (rw writes_of-with_writes up) (rw reads_of-with_writes (reads-ascending κ l h))

  pub with_writes-zeros : zero_past_counts l ≡ true → zero_past_counts (with_writes ws l) ≡ true
  unfolding with_writes
  with_writes-zeros h = zeros_of (with_writes ws l) (rw (padded-drop no_write write_places ws) (all_replicate is_no_write (write_places - length ws) no_write no_write-zero)) (reads-zero l h)

module _ (rs : List Read) (l : Live) where
  pub reads_of-with_reads : reads_of (with_reads rs l) ≡ rs
  unfolding reads_of with_reads
  reads_of-with_reads = padded-take no_read read_limit rs

  pub writes_of-with_reads : writes_of (with_reads rs l) ≡ writes_of l
  unfolding writes_of with_reads
  writes_of-with_reads = refl

  pub with_reads-sets : (κ : Kind) → sets_right κ l ≡ true → ascending 0 keys (map read_key rs) ≡ true → length rs ≤ read_limit → sets_right κ (with_reads rs l) ≡ true
  with_reads-sets κ h up o = sets_of κ (with_reads rs l) (unfold with_reads in write-limit κ l h) (unfold with_reads in o) (rw writes_of-with_reads (writes-ascending κ l h)) (rw reads_of-with_reads up)

  pub with_reads-zeros : zero_past_counts l ≡ true → zero_past_counts (with_reads rs l) ≡ true
  unfolding with_reads
  with_reads-zeros h = zeros_of (with_reads rs l) (writes-zero l h) (rw (padded-drop no_read read_limit rs) (all_replicate is_no_read (read_limit - length rs) no_read no_read-zero))

-- a key put into the write set, where there is room
pub used-with_write : (κ : Kind) (es : List Entry) (k v : ℕ) (l : Live) → Used κ es l → k < keys → (not (has_written k l) and leb κ.write_limit l.write_count) ≡ false
    → Used κ es (with_write k v l)
unfolding with_write has_written
used-with_write κ es k v l u o r = record {
  numbered = unfold with_writes in u.numbered;
  sets = with_writes-sets ws l κ u.sets (insert-ascending write_key w 0 keys (writes_of l) (writes-ascending κ l u.sets) (omega arith) o)
      (insert-fits write_key w keys l.write_count κ.write_limit (writes_of l) (writes-ascending κ l u.sets) (writes-length l) (write-limit κ l u.sets) r);
  named = rw (reads_of-with_writes ws l) u.named;
  zeros = with_writes-zeros ws l u.zeros;
}
  where
    w : Write
    w = record { key = k; value = v }

    ws : List Write
    ws = insert write_key (record { key = k; value = v }) (writes_of l)

-- a read joined to the read set, where there is room
pub used-with_read : (κ : Kind) (es : List Entry) (k : ℕ) (i : Id) (l : Live) → Used κ es l → k < keys → (not (has_read k l) and leb read_limit l.read_count) ≡ false
    → wrote_as es i k ≡ true → Used κ es (with_read k i l)
unfolding with_read has_read names
used-with_read κ es k i l u o r n = record {
  numbered = unfold with_reads in u.numbered;
  sets = with_reads-sets rs l κ u.sets (insert-ascending read_key q 0 keys (reads_of l) (reads-ascending κ l u.sets) (omega arith) o)
      (insert-fits read_key q keys l.read_count read_limit (reads_of l) (reads-ascending κ l u.sets) (reads-length l) (read-limit κ l u.sets) r);
  named = rw (reads_of-with_reads rs l) (insert_all read_key q (names es) (reads_of l) u.named n);
  zeros = with_reads-zeros rs l u.zeros;
}
  where
    q : Read
    q = record { key = k; id = i }

    rs : List Read
    rs = insert read_key (record { key = k; id = i }) (reads_of l)

-- ── entries ──
-- the entry that a closing transaction becomes has a write set, and keeps the rules
pub entry_for-set : (κ : Kind) (es : List Entry) (l : Live) → Used κ es l → WriteSet κ (keys_of (entry_for l))
unfolding entry_for
entry_for-set κ es l u = (writes-ascending κ l u.sets, omega (arith, length-map (writes_of l) write_key, writes-length l, write-limit κ l u.sets))

pub entry_for-rules : (κ : Kind) (st : Station) (es : List Entry) (l : Live) → Used κ es l → Shut st l → entry_rules κ (entry_for l) ≡ true
unfolding entry_rules entry_for
entry_for-rules κ st es l u s =
    let n = length-map (writes_of l) write_key in
    and_intro _ _ (and_intro _ _ (and_intro _ _ (and_intro _ _
    (le-leb 1 (length (map write_key (writes_of l))) (omega (arith, n, s.keyed))) (le-leb (length (map write_key (writes_of l))) κ.write_limit (omega (arith, n, writes-length l, write-limit κ l u.sets)))) (le-leb 1 l.txn (omega (arith, u.numbered)))) (le-leb _ _ s.clocked))
    (writes-ascending κ l u.sets)

pub entry_for-sound : (st : Station) → Sound st → (i : ℕ) → is_closing (live_at st i).phase ≡ true → entry_rules st.kind (entry_for (live_at st i)) ≡ true
entry_for-sound st s i c = entry_for-rules st.kind st st.entries (live_at st i) (closing-used st (live_at st i) _ (s.place i) c) (place-shut st (live_at st i) _ (s.place i) c)

pub entry-of-rules : (κ : Kind) (e : Entry) → entry_rules κ e ≡ true → entry_right κ e ≡ true
unfolding entry_right
entry-of-rules κ e h = or-intro-right _ _ h

-- a right entry with number 0 is unused: it wrote nothing, and has no clock
unheld-none : (κ : Kind) (e : Entry) → entry_right κ e ≡ true → e.id.txn ≡ 0 → is_no_entry e ≡ true
unfolding entry_right entry_rules
unheld-none κ e h z = ⊎_elim
    (λ n. n)
    (λ n. absurd (lt_irrefl 0 (omega (arith, z, leb-true 1 e.id.txn (and_right _ _ (and_left _ _ (and_left _ _ n)))))))
    (or_cases _ _ h)

pub unheld-wrote : (κ : Kind) (e : Entry) → entry_right κ e ≡ true → e.id.txn ≡ 0 → (k : ℕ) → wrote e k ≡ false
unfolding is_no_entry
unheld-wrote κ e h z k = unfold wrote member any in rw (none_of (keys_of e) (eqb-true _ _ (and_right _ _ (unheld-none κ e h z))))

pub unheld-clock : (κ : Kind) (e : Entry) → entry_right κ e ≡ true → e.id.txn ≡ 0 → e.id.clock ≡ 0
unfolding is_no_entry same_id
unheld-clock κ e h z = eqb-true _ _ (and_left _ _ (and_left _ _ (unheld-none κ e h z)))

-- a read names what it named, where the entry that is replaced is none that it names
pub names-set_entry : (st : Station) (d : ℕ) (e : Entry) (r : Read) → names st.entries r ≡ true
    → (same_id (entry_at st d).id r.id and wrote (entry_at st d) r.key) ≡ false → names (set_entry st d e).entries r ≡ true
unfolding names wrote_as set_entry entry_at
names-set_entry st d e r h q = any-set (λ f. same_id f.id r.id and wrote f r.key) st.entries d e _ h q
