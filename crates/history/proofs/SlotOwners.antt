-- Whose a slot is: an entry's, a closing transaction's, or nobody's.
use Prim.Native.Nat.{ℕ, suc, ◌<◌, ◌≤◌}
use mathlib.Core.Path.{◌≡◌, refl, sym, ap, ◌∙◌}
use mathlib.Core.Logic.{◌≢◌}
use mathlib.Core.Bool.{Bool, true, false, true≢false}
use mathlib.Core.List.{List}
use lib.Dec.{eqb}
use native.Mathlib.Decide.{ℕ_discrete, dec_lt}
use native.Mathlib.Omega.{arith}
use Rattle.model.specs.Types.{Entry, Live, Station}
use Rattle.model.specs.declared.Phase.TheVariants.{Closing}
use Rattle.model.specs.Lists.{first, member}
use Rattle.model.specs.Kinds.{Kind, width}
use Rattle.model.specs.Lives.{write_count, closing_clock, records_stored}
use Rattle.model.specs.Entries.{entry_for}
use Rattle.model.specs.Stations.{live_at, entry_at, closing_slots}
use Rattle.model.specs.Records.{record_at}
use Rattle.model.specs.Slots.{Seen, free, committed, seen}
use Rattle.model.specs.Sound.{sets_right, sound}
use Rattle.model.proofs.ListLaws.{member-finds}
use Rattle.model.proofs.InsideLaws.{entry_for-txn}
use Rattle.model.proofs.SlotLaws.{committed-injective, committed≢free, seen-frame}
use Rattle.model.proofs.StationLaws.{mark-at, closing_same, marked, slot-marked}
use Rattle.model.proofs.SoundLaws.{write-limit, writes-length}
use Rattle.model.proofs.SoundFacts.{one_place, live-not-held, closing-facts}
use Rattle.history.proofs.Invariant.{Prepared, Slots}

-- a live transaction writes no more keys than its kind may
pub writes-few : (κ : Kind) (l : Live) → sets_right κ l ≡ true → write_count l ≤ κ.write_limit
writes-few κ l h = omega (arith, writes-length l, write-limit κ l h)

-- the same records: the slot is as far as it was
pub prepared-frame : (κ : Kind) (s s' : List ℕ) (l : Live) (d c n : ℕ) → write_count l ≤ κ.write_limit → ((m : ℕ) → m < width κ → record_at κ s' d m ≡ record_at κ s d m) → Prepared κ s l d c n → Prepared κ s' l d c n
prepared-frame κ s s' l d c n o f pr = record {
  low = pr.low;
  versions = λ j a b. f (suc j) (omega arith) ∙ pr.versions j a b;
  unmarked = λ a. seen-frame κ s' s d d f ∙ pr.unmarked a;
  marked = λ a. seen-frame κ s' s d d f ∙ pr.marked a;
}

pub data Held (st : Station) (s : List ℕ) (d : ℕ) : Type 0 where
  entered : (entry_at st d).id.txn ≢ 0 → Held st s d
  closing : (i c n : ℕ) → (live_at st i).phase ≡ Closing d c n → Held st s d
  nobodys : seen st.kind s d ≡ free → Held st s d

pub held : (st : Station) (s : List ℕ) → Slots st.kind st s → (d : ℕ) → d < st.kind.slots → Held st s d
held st s sl d o = go (ℕ_discrete (entry_at st d).id.txn 0)
  where
    find : (entry_at st d).id.txn ≡ 0 → (b : Bool) → member (suc d) (closing_slots st) ≡ b → Held st s d
    find z true h =
        let r = member-finds (suc d) (closing_slots st) h in
        let i : ℕ = first (eqb (suc d)) (closing_slots st) in
        closing i (closing_clock (live_at st i).phase) (records_stored (live_at st i).phase) (marked (live_at st i).phase d (sym (mark-at st i) ∙ r.1))
    find z false h = nobodys (sl.unused d o z λ i c n e. true≢false (sym (slot-marked st i d c n e) ∙ h))

    go : Dec ((entry_at st d).id.txn ≡ 0) → Held st s d
    go (no n) = entered n
    go (yes z) = find z _ refl

-- a committed slot is an entry's, or that of a transaction that has stored its commit record
pub data Owner (st : Station) (d : ℕ) (e : Entry) : Type 0 where
  by-entry : (entry_at st d).id.txn ≢ 0 → e ≡ entry_at st d → Owner st d e
  by-live : (i c n : ℕ) → (live_at st i).phase ≡ Closing d c n → write_count (live_at st i) < n → e ≡ entry_for (live_at st i) → Owner st d e

pub not_free : {A : Type 0} (x : Seen) (e : Entry) → x ≡ committed e → x ≡ free → A
not_free x e h k = absurd (committed≢free e (sym h ∙ k))

pub owner : (st : Station) (s : List ℕ) → Slots st.kind st s → (d : ℕ) (e : Entry) → d < st.kind.slots → seen st.kind s d ≡ committed e → Owner st d e
owner st s sl d e o h = go (held st s sl d o)
  where
    go : Held st s d → Owner st d e
    go (entered n) = by-entry n (committed-injective e _ (sym h ∙ sl.entered d n))
    go (closing i c n q) = full (dec_lt (write_count (live_at st i)) n)
      where
        full : Dec (write_count (live_at st i) < n) → Owner st d e
        full (yes y) = by-live i c n q y (committed-injective e _ (sym h ∙ (sl.closing i d c n q).marked y))
        full (no y) = not_free (seen st.kind s d) e h ((sl.closing i d c n q).unmarked (omega arith))
    go (nobodys f) = not_free (seen st.kind s d) e h f

-- a closing transaction's number stands in no slot but its own
pub unseen : (st : Station) (s : List ℕ) → Slots st.kind st s → sound st ≡ true → (i d c n d' : ℕ) (e : Entry) → (live_at st i).phase ≡ Closing d c n → d' ≢ d → d' < st.kind.slots
    → seen st.kind s d' ≡ committed e → e.id.txn ≡ (live_at st i).txn → ⊥
unseen st s sl h i d c n d' e q nd o hd et = go (owner st s sl d' e o hd)
  where
    real : (live_at st i).txn ≢ 0
    real = (closing-facts st h i d c n q).used.numbered

    go : Owner st d' e → ⊥
    go (by-entry nz ee) = live-not-held st h i d' (sym et ∙ ap (λ (x : Entry). x.id.txn) ee) real
    go (by-live j c' n' qj y ee) = nd (closing_same d' c' n' d c n (sym qj ∙ (ap (λ (k : ℕ). (live_at st k).phase) ji ∙ q))).0
      where
        ji : j ≡ i
        ji = sym (one_place st h i j (sym et ∙ (ap (λ (x : Entry). x.id.txn) ee ∙ entry_for-txn (live_at st j))) real)
