-- Laws of the scan (specs/Scan): what it finds in a store that keeps the rules, and that any other store is refused with its lowest slot.
use Prim.Native.Nat.{ℕ, zero, suc, ◌+◌, ◌<◌, ◌≤◌}
use mathlib.Core.Path.{◌≡◌, refl, sym, ap, subst, ◌∙◌}
use mathlib.Core.Logic.{◌≢◌, ◌⊎◌, inl, inr}
use mathlib.Core.Bool.{Bool, true, false, true≢false}
use mathlib.Core.List.{List, ◌∷◌, map}
use lib.Dec.{eqb}
use lib.ListN.{length, take, get_or, replicate, length-replicate, length-map, get_or-map}
use lib.Seq.{get_or-take, length-take-le}
use native.Mathlib.Decide.{ℕ_discrete, dec_lt}
use native.Mathlib.Omega.{arith}
use borrow.Author.Tests.{lt-ltb, le-ltb, eq-eqb, ne_eqb}
use Rattle.model.specs.Types.{Entry}
use Rattle.model.specs.declared.Answer.TheVariants as A
use Rattle.model.specs.Lists.{first, count, from, member}
use Rattle.model.specs.Limits.{entry_places}
use Rattle.model.specs.Kinds.{Kind, store_size, KindFits}
use Rattle.model.specs.Entries.{no_entry}
use Rattle.model.specs.Stations.{empty_station, entry_at, idle_station}
use Rattle.model.specs.Slots.{Seen, free, committed, damaged, seen}
use Rattle.model.specs.Effects.{says, refusals, wrong_length}
use Rattle.model.specs.Scan.{slots_seen, entry_seen, is_committed, entries_seen, breaks, lowest_broken, scanned, scan}
use Rattle.model.proofs.ListLaws.{first_finds, first-none, first-before, first_passes, get_or-inside, from-length, from_at, member-finds, member-none, count_no}
use Rattle.model.proofs.InsertLaws.{padded-length, padded-inside, padded-beyond, padded-replicate}
use Rattle.model.proofs.SlotLaws.{rules-txn, committed≢free, free≢damaged, committed-rules, zeros-free}

-- ── the lowest slot that breaks the rules ──
-- the first that passes, told by what is before it
first-is : {A : Type 0} (p : A → Bool) (l : List A) (z : A) (d : ℕ) → d < length l → p (get_or l d z) ≡ true → ((j : ℕ) → j < d → p (get_or l j z) ≡ false) → first p l ≡ d
first-is p l z d o h f = go (ℕ_discrete (first p l) d)
  where
    at : first p l < length l
    at = (first_finds p l z d h o).0

    not-before : first p l < d → ⊥
    not-before y = true≢false (sym (first_passes p l z at) ∙ f (first p l) y)

    not_after : d < first p l → ⊥
    not_after y = true≢false (sym h ∙ first-before p l z d y)

    go : Dec (first p l ≡ d) → first p l ≡ d
    go (yes e) = e
    go (no n) = absurd (apart (dec_lt (first p l) d))
      where
        apart : Dec (first p l < d) → ⊥
        apart (yes y) = not-before y
        apart (no y) = not_after (omega arith)

numbers-at : (n j : ℕ) → j < n → get_or (from n 0 (λ d. d)) j 0 ≡ j
numbers-at n j o = from_at (λ d. d) n 0 j 0 o ∙ (omega arith)

module _ (xs : List Seen) where
  -- slot d breaks the rules
  abbrev pub breaks_at : ℕ → Bool
  breaks_at d = breaks (take d xs) (get_or xs d free)

  abbrev numbers : List ℕ
  numbers = from (length xs) 0 (λ d. d)

  inside : (j : ℕ) → j < length numbers → j < length xs
  inside j o = subst (λ (k : ℕ). j < k) (from-length (λ d. d) (length xs) 0) o

  inside' : (j : ℕ) → j < length xs → j < length numbers
  inside' j o = subst (λ (k : ℕ). j < k) (sym (from-length (λ d. d) (length xs) 0)) o

  by_number : (b : Bool) (j : ℕ) → j < length xs → breaks_at j ≡ b → breaks_at (get_or numbers j 0) ≡ b
  by_number b j o h = subst (λ (k : ℕ). breaks_at k ≡ b) (sym (numbers-at (length xs) j o)) h

  of_number : (b : Bool) (j : ℕ) → j < length xs → breaks_at (get_or numbers j 0) ≡ b → breaks_at j ≡ b
  of_number b j o h = subst (λ (k : ℕ). breaks_at k ≡ b) (numbers-at (length xs) j o) h

  pub lowest-none : ((j : ℕ) → j < length xs → breaks_at j ≡ false) → lowest_broken xs ≡ length xs
  unfolding lowest_broken
  lowest-none f = first-none breaks_at numbers 0 (λ j o. by_number false j (inside j o) (f j (inside j o))) ∙ from-length (λ d. d) (length xs) 0

  pub lowest-is : (d : ℕ) → d < length xs → breaks_at d ≡ true → ((j : ℕ) → j < d → breaks_at j ≡ false) → lowest_broken xs ≡ d
  unfolding lowest_broken
  lowest-is d o h f = first-is breaks_at numbers 0 d (inside' d o) (by_number true d o h) (λ j oj. by_number false j (omega arith) (f j oj))

  pub lowest-breaks : lowest_broken xs < length xs → breaks_at (lowest_broken xs) ≡ true
  unfolding lowest_broken
  lowest-breaks o = of_number true (first breaks_at numbers) o (first_passes breaks_at numbers 0 (inside' (first breaks_at numbers) o))

  pub lowest-before : (j : ℕ) → j < length xs → j < lowest_broken xs → breaks_at j ≡ false
  unfolding lowest_broken
  lowest-before j o h = of_number false j o (first-before breaks_at numbers 0 j h)

  scanned-found : (κ : Kind) → lowest_broken xs ≡ length xs → scanned κ xs ≡ says (A.Found (count is_committed xs)) (idle_station κ (entries_seen xs))
  unfolding scanned
  scanned-found κ h = rw (le-ltb (lowest_broken xs) (length xs) (omega arith))

  scanned-refused : (κ : Kind) (d : ℕ) → d < length xs → lowest_broken xs ≡ d → scanned κ xs ≡ says (A.Refused 18 d) (empty_station κ)
  unfolding scanned
  scanned-refused κ d o h = rw (h, lt-ltb d (length xs) o)

-- ── what is read of the slots ──
pub seen-length : (κ : Kind) (s : List ℕ) → length (slots_seen κ s) ≡ κ.slots
unfolding slots_seen
seen-length κ s = from-length (seen κ s) κ.slots 0

pub seen_at : (κ : Kind) (s : List ℕ) (d : ℕ) (z : Seen) → d < κ.slots → get_or (slots_seen κ s) d z ≡ seen κ s d
unfolding slots_seen
seen_at κ s d z o = from_at (seen κ s) κ.slots 0 d z o ∙ ap (seen κ s) (omega arith)

-- the transaction of each slot
abbrev pub txn_seen : Seen → ℕ
txn_seen x = (entry_seen x).id.txn

lower-txn : (κ : Kind) (s : List ℕ) (d j : ℕ) → j < d → j < κ.slots → get_or (map txn_seen (take d (slots_seen κ s))) j 0 ≡ txn_seen (seen κ s j)
unfolding entry_seen
lower-txn κ s d j o oj = get_or-map txn_seen (take d (slots_seen κ s)) j free ∙ ap txn_seen (get_or-take d (slots_seen κ s) j free o ∙ seen_at κ s j free oj)

-- ── a store that keeps the rules ──
-- no slot is damaged, and no two hold one transaction
pub record KeepsRules (κ : Kind) (s : List ℕ) : Type 0 where
  pub undamaged : (d : ℕ) → d < κ.slots → seen κ s d ≢ damaged
  pub single : (d d' : ℕ) (e e' : Entry) → d < κ.slots → d' < κ.slots → d ≢ d' → seen κ s d ≡ committed e → seen κ s d' ≡ committed e' → e.id.txn ≢ e'.id.txn

lower-length : (κ : Kind) (s : List ℕ) (d : ℕ) → d ≤ κ.slots → length (map txn_seen (take d (slots_seen κ s))) ≡ d
lower-length κ s d o = length-map (take d (slots_seen κ s)) txn_seen ∙ length-take-le d (slots_seen κ s) (omega (arith, seen-length κ s))

-- a slot with a transaction is seen as committed
pub txn-seen : (x : Seen) → txn_seen x ≢ 0 → x ≡ committed (entry_seen x)
unfolding entry_seen
txn-seen free n = absurd (n refl)
txn-seen damaged n = absurd (n refl)
txn-seen (committed e) n = refl

-- no slot of it breaks the rules
pub keeps-none : (κ : Kind) (s : List ℕ) → KeepsRules κ s → (d : ℕ) → d < κ.slots → breaks (take d (slots_seen κ s)) (seen κ s d) ≡ false
unfolding breaks
keeps-none κ s k d o = go (seen κ s d) refl
  where
    lower : List ℕ
    lower = map txn_seen (take d (slots_seen κ s))

    repeated : (e : Entry) → seen κ s d ≡ committed e → (j : ℕ) → j < d → txn_seen (seen κ s j) ≡ e.id.txn → ⊥
    repeated e h j oj q =
        k.single j d (entry_seen (seen κ s j)) e (omega arith) o (omega arith) (txn-seen (seen κ s j) (λ z. rules-txn κ e (committed-rules κ s d e h) (sym q ∙ z))) h q

    fresh : (e : Entry) → seen κ s d ≡ committed e → (b : Bool) → member e.id.txn lower ≡ b → member e.id.txn lower ≡ false
    fresh e h false q = q
    fresh e h true q = absurd (repeated e h j oj (sym (lower-txn κ s d j oj (omega (arith, oj))) ∙ r.1))
      where
        j : ℕ
        j = first (eqb e.id.txn) lower

        r : (j < length lower) × (get_or lower j 0 ≡ e.id.txn)
        r = member-finds e.id.txn lower q

        oj : j < d
        oj = omega (arith, r.0, lower-length κ s d (omega arith))

    go : (x : Seen) → seen κ s d ≡ x → breaks (take d (slots_seen κ s)) x ≡ false
    go free h = refl
    go damaged h = absurd (k.undamaged d o h)
    go (committed e) h = fresh e h (member e.id.txn lower) refl

-- and a store of which none does keeps them
pub none-keeps : (κ : Kind) (s : List ℕ) → ((d : ℕ) → d < κ.slots → breaks (take d (slots_seen κ s)) (seen κ s d) ≡ false) → KeepsRules κ s
unfolding breaks
none-keeps κ s f = record {
  undamaged = λ d o h. true≢false (subst (λ (x : Seen). breaks (take d (slots_seen κ s)) x ≡ false) h (f d o));
  single = λ d d' e e' o o' n h h' q. which d d' e e' o o' n h h' q (dec_lt d d');
}
  where
    clash : (d d' : ℕ) (e e' : Entry) → d < d' → d' < κ.slots → seen κ s d ≡ committed e → seen κ s d' ≡ committed e' → e.id.txn ≡ e'.id.txn → ⊥
    clash d d' e e' y o h h' q =
        member-none e'.id.txn (map txn_seen (take d' (slots_seen κ s))) (subst (λ (x : Seen). breaks (take d' (slots_seen κ s)) x ≡ false) h' (f d' o)) d
        (omega (arith, lower-length κ s d' (omega arith))) (lower-txn κ s d' d y (omega arith) ∙ (ap txn_seen h ∙ (unfold entry_seen in q)))

    which : (d d' : ℕ) (e e' : Entry) → d < κ.slots → d' < κ.slots → d ≢ d' → seen κ s d ≡ committed e → seen κ s d' ≡ committed e' → e.id.txn ≡ e'.id.txn → Dec (d < d') → ⊥
    which d d' e e' o o' n h h' q (yes y) = clash d d' e e' y o' h h' q
    which d d' e e' o o' n h h' q (no y) = clash d' d e' e (omega arith) o h' h (sym q)

-- by the lowest slot that breaks the rules
at_slot : (κ : Kind) (s : List ℕ) (b : Bool) (j : ℕ) → j < κ.slots → breaks (take j (slots_seen κ s)) (seen κ s j) ≡ b → breaks_at (slots_seen κ s) j ≡ b
at_slot κ s b j o h = subst (λ (x : Seen). breaks (take j (slots_seen κ s)) x ≡ b) (sym (seen_at κ s j free o)) h

of-slot : (κ : Kind) (s : List ℕ) (b : Bool) (j : ℕ) → j < κ.slots → breaks_at (slots_seen κ s) j ≡ b → breaks (take j (slots_seen κ s)) (seen κ s j) ≡ b
of-slot κ s b j o h = subst (λ (x : Seen). breaks (take j (slots_seen κ s)) x ≡ b) (seen_at κ s j free o) h

pub keeps-lowest : (κ : Kind) (s : List ℕ) → KeepsRules κ s → lowest_broken (slots_seen κ s) ≡ length (slots_seen κ s)
keeps-lowest κ s k = lowest-none (slots_seen κ s) (λ j o. let oj : j < κ.slots = omega (arith, seen-length κ s) in at_slot κ s false j oj (keeps-none κ s k j oj))

before-lowest : (κ : Kind) (s : List ℕ) (j : ℕ) → j < κ.slots → j < lowest_broken (slots_seen κ s) → breaks (take j (slots_seen κ s)) (seen κ s j) ≡ false
before-lowest κ s j o oj = of-slot κ s false j o (lowest-before (slots_seen κ s) j (omega (arith, seen-length κ s)) oj)

pub lowest-keeps : (κ : Kind) (s : List ℕ) → κ.slots ≤ lowest_broken (slots_seen κ s) → KeepsRules κ s
lowest-keeps κ s h = none-keeps κ s (λ j o. before-lowest κ s j o (omega arith))

-- ── the scan ──
pub scan-length : (κ : Kind) (s : List ℕ) → length s ≢ store_size κ → scan κ s ≡ says (A.Refused 1 0) (empty_station κ)
unfolding scan refusals wrong_length
scan-length κ s h = rw (ne_eqb (length s) (store_size κ) h)

module _ (κ : Kind) (s : List ℕ) (l : length s ≡ store_size κ) where
  scan-judged : scan κ s ≡ scanned κ (slots_seen κ s)
  unfolding scan refusals wrong_length
  scan-judged = rw (eq-eqb (length s) (store_size κ) l)

  -- a store that keeps the rules: one entry for each committed slot
  pub scan-finds : KeepsRules κ s → scan κ s ≡ says (A.Found (count is_committed (slots_seen κ s))) (idle_station κ (entries_seen (slots_seen κ s)))
  scan-finds k = scan-judged ∙ scanned-found (slots_seen κ s) κ (keeps-lowest κ s k)

  -- any other: the lowest slot that breaks them
  pub scan-refused : (d : ℕ) → d < κ.slots → breaks (take d (slots_seen κ s)) (seen κ s d) ≡ true → ((j : ℕ) → j < d → breaks (take j (slots_seen κ s)) (seen κ s j) ≡ false)
      → scan κ s ≡ says (A.Refused 18 d) (empty_station κ)
  scan-refused d o h f =
      let od : d < length (slots_seen κ s) = omega (arith, seen-length κ s) in
      scan-judged ∙ scanned-refused (slots_seen κ s) κ d od (lowest-is (slots_seen κ s) d od (at_slot κ s true d o h) (λ j oj. at_slot κ s false j (omega arith) (f j oj)))

  pub scan-or : KeepsRules κ s ⊎ ((d : ℕ) × (d < κ.slots) × (scan κ s ≡ says (A.Refused 18 d) (empty_station κ)) × (breaks (take d (slots_seen κ s)) (seen κ s d) ≡ true) × ((j : ℕ) → j < d → breaks (take j (slots_seen κ s)) (seen κ s j) ≡ false))
  scan-or = go (dec_lt (lowest_broken (slots_seen κ s)) κ.slots)
    where
      d : ℕ
      d = lowest_broken (slots_seen κ s)

      go : Dec (d < κ.slots) → KeepsRules κ s ⊎ ((d : ℕ) × (d < κ.slots) × (scan κ s ≡ says (A.Refused 18 d) (empty_station κ)) × (breaks (take d (slots_seen κ s)) (seen κ s d) ≡ true) × ((j : ℕ) → j < d → breaks (take j (slots_seen κ s)) (seen κ s j) ≡ false))
      go (yes y) =
          let h : breaks (take d (slots_seen κ s)) (seen κ s d) ≡ true = of-slot κ s true d y (lowest-breaks (slots_seen κ s) (omega (arith, seen-length κ s))) in
          let f : (j : ℕ) → j < d → breaks (take j (slots_seen κ s)) (seen κ s j) ≡ false = λ j oj. before-lowest κ s j (omega arith) oj in
          inr (d, y, scan-refused d y h f, h, f)
      go (no y) = inl (lowest-keeps κ s (omega arith))

-- the entries of the station found: of the slots seen, and unused ones after them
pub entries-length : (κ : Kind) (s : List ℕ) → KindFits κ → length (entries_seen (slots_seen κ s)) ≡ entry_places
unfolding entries_seen
entries-length κ s φ = padded-length no_entry entry_places (map entry_seen (slots_seen κ s)) (omega (arith, length-map (slots_seen κ s) entry_seen, seen-length κ s, φ.slots-fit))

pub scan-entry : (κ : Kind) (s : List ℕ) (d : ℕ) → d < κ.slots → entry_at (idle_station κ (entries_seen (slots_seen κ s))) d ≡ entry_seen (seen κ s d)
unfolding entry_at entries_seen
scan-entry κ s d o = padded-inside no_entry entry_places (map entry_seen (slots_seen κ s)) d no_entry inside
    ∙ (get_or-inside (map entry_seen (slots_seen κ s)) d _ (entry_seen free) inside ∙ (get_or-map entry_seen (slots_seen κ s) d free ∙ ap entry_seen (seen_at κ s d free o)))
  where
    inside : d < length (map entry_seen (slots_seen κ s))
    inside = omega (arith, o, length-map (slots_seen κ s) entry_seen, seen-length κ s)

-- past the kind's slots
pub scan-beyond : (κ : Kind) (s : List ℕ) (d : ℕ) → κ.slots ≤ d → entry_at (idle_station κ (entries_seen (slots_seen κ s))) d ≡ no_entry
unfolding entry_at entries_seen
scan-beyond κ s d o = padded-beyond no_entry entry_places (map entry_seen (slots_seen κ s)) d (omega (arith, o, length-map (slots_seen κ s) entry_seen, seen-length κ s))

-- ── all zeros ──
from-same : {A : Type 0} (f g : ℕ → A) (n i : ℕ) → ((j : ℕ) → i ≤ j → j < i + n → f j ≡ g j) → from n i f ≡ from n i g
unfolding from
from-same f g zero i h = refl
from-same f g (suc n) i h = rw (h i (omega arith) (omega arith), from-same f g n (suc i) (λ j a b. h j (omega arith) (omega arith)))

from-replicate : {A : Type 0} (x : A) (n i : ℕ) → from n i (λ d. x) ≡ replicate n x
unfolding from
from-replicate x zero i = refl
from-replicate {A = A} x (suc n) i = ap (λ (xs : List A). x ∷ xs) (from-replicate x n (suc i))

-- slots that look the same, one by one
pub slots_same : (κ : Kind) (s s' : List ℕ) → ((d : ℕ) → d < κ.slots → seen κ s d ≡ seen κ s' d) → slots_seen κ s ≡ slots_seen κ s'
unfolding slots_seen
slots_same κ s s' f = from-same (seen κ s) (seen κ s') κ.slots 0 (λ j a b. f j (omega arith))

-- where all slots are free the empty station is found
map-replicate : (n : ℕ) → map entry_seen (replicate n free) ≡ replicate n no_entry
unfolding entry_seen
map-replicate zero = refl
map-replicate (suc n) = ap (λ (es : List Entry). no_entry ∷ es) (map-replicate n)

pub count-free : (n : ℕ) → count is_committed (replicate n free) ≡ 0
count-free zero = unfold count in refl
count-free (suc n) = count_no is_committed free (replicate n free) (unfold is_committed in refl) ∙ count-free n

pub scan-empty : (κ : Kind) (s : List ℕ) → KindFits κ → length s ≡ store_size κ → ((d : ℕ) → d < κ.slots → seen κ s d ≡ free) → scan κ s ≡ says (A.Found 0) (empty_station κ)
unfolding entries_seen empty_station
scan-empty κ s φ l f = scan-finds κ s l keeps ∙ (rw (all-free, count-free κ.slots, map-replicate κ.slots, padded-replicate no_entry κ.slots entry_places φ.slots-fit))
  where
    keeps : KeepsRules κ s
    keeps = record { undamaged = λ d o h. free≢damaged (sym (f d o) ∙ h); single = λ d d' e e' o o' n h h' q. committed≢free e (sym h ∙ f d o) }

    all-free : slots_seen κ s ≡ replicate κ.slots free
    all-free = unfold slots_seen in (from-same (seen κ s) (λ d. free) κ.slots 0 (λ j a b. f j (omega arith)) ∙ from-replicate free κ.slots 0)

-- "All zeros scan to the empty station."
pub scan-zeros : (κ : Kind) → KindFits κ → scan κ (replicate (store_size κ) 0) ≡ says (A.Found 0) (empty_station κ)
scan-zeros κ φ = scan-empty κ (replicate (store_size κ) 0) φ (length-replicate {A = ℕ} (store_size κ) 0) (λ d o. zeros-free κ (store_size κ) d)
