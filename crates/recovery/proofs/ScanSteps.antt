-- A scan, slot by slot: what holds of the slots passed, one slot more, and what is answered.
use Prim.Native.Nat.{ℕ, suc, ◌+◌, ◌*◌, ◌-◌, ◌<◌, ◌≤◌, ◌^◌}
use mathlib.Core.Path.{◌≡◌, refl, sym, ap, ap₂, subst, ◌∙◌}
use mathlib.Core.Bool.{Bool, true, false}
use mathlib.Core.List.{List, [], ◌∷◌, ◌++◌, map, append_assoc}
use lib.ListN.{length, take, drop, replicate, set, length-set, length-map}
use lib.Dec.{lit<}
use lib.Seq.{take_all, take-suc, take_at, length-take-le}
use native.Mathlib.Nat.{not-suc-le-zero}
use native.Mathlib.Decide.{ℕ_discrete}
use native.Mathlib.Omega.{arith}
use native.Mathlib.Numerals.{add-one}
use borrow.Rule.Slice.PartMut.{mid_len}
use Rattle.model.specs.declared as machine
use Rattle.model.specs.Types.{Entry}
use Rattle.model.specs.declared.Answer.TheVariants as A
use Rattle.model.specs.Lists.{padded, count, member}
use Rattle.model.specs.Limits.{entry_places}
use Rattle.model.specs.Kinds.{Kind, slot_size, store_size, slot_start, KindFits}
use Rattle.model.specs.declared.Kind.TheVariants.{Narrow, Wide}
use Rattle.model.specs.Listed.{kind_of, listed_entry, listed_entries}
use Rattle.model.specs.Entries.{no_entry}
use Rattle.model.specs.Stations.{empty_station, idle_station}
use Rattle.model.specs.Slots.{Seen, free, committed, damaged, seen}
use Rattle.model.specs.Effects.{says}
use Rattle.model.specs.Scan.{slots_seen, entry_seen, entries_seen, is_committed, breaks, scan}
use Rattle.model.proofs.ListLaws.{count_yes, count_no}
use Rattle.model.proofs.ListedLaws.{listed-set, kind_fits}
use Rattle.model.proofs.RecordLaws.{slot-start, slot-inside}
use Rattle.model.proofs.SlotLaws.{slot-part}
use Rattle.model.proofs.ScanLaws.{seen-length, seen_at, txn_seen, none-keeps, scan-finds, scan-refused}
use Rattle.records.specs.declared.Slot.{Slot}
use Rattle.records.specs.SlotView.{seen_as}

-- ── a slot's bytes, z of them ──
module _ (κ : Kind) (s : List ℕ) (z d : ℕ) (q : z ≡ slot_size κ) where
  abbrev slot_part : List ℕ
  slot_part = take (z * d + z - z * d) (drop (z * d) s)

  -- where they end
  pub slot-ends : d < κ.slots → z * d + z ≤ store_size κ
  slot-ends o = subst (λ (k : ℕ). k * d + k ≤ store_size κ) (sym q) (omega (arith, slot-start κ d, slot-inside κ d o))

  pub part_length : length s ≡ store_size κ → d < κ.slots → length slot_part ≡ slot_size κ
  part_length l o = mid_len (z * d) (z * d + z) s (omega (arith, l, slot-ends o)) ∙ omega arith

  part-slot : seen κ slot_part 0 ≡ seen κ s d
  part-slot =
      let e : z * d + z - z * d ≡ z = omega arith in
      ap (λ (k : ℕ). seen κ (take k (drop (z * d) s)) 0) e
      ∙ ap (λ (k : ℕ). seen κ (take k (drop (k * d) s)) 0) q
      ∙ (unfold slot_start in slot-part κ s d)

  pub slot_seen : (r x : Slot) → seen_as r ≡ seen κ slot_part 0 → r ≡ x → seen κ s d ≡ seen_as x
  slot_seen r x p h = sym part-slot ∙ sym p ∙ ap seen_as h

-- a store has no more slots than a station has entries
pub slots_fit : (k : machine.Kind.Kind) → (kind_of k).slots ≤ 64
slots_fit k = (kind_fits k).slots-fit

-- a store is short enough for its places to be numbers
pub store-short : (k : machine.Kind.Kind) → store_size (kind_of k) < 2 ^ 16
unfolding kind_of
store-short Narrow = lit< tt
store-short Wide = lit< tt

-- ── one slot more ──
count-more : (xs : List Seen) (x : Seen) → count is_committed (xs ++ (x ∷ [])) ≡ count is_committed xs + count is_committed (x ∷ [])
unfolding count
count-more [] x = omega arith
count-more (y ∷ ys) x = go (is_committed y) refl (count-more ys x)
  where
    go : (b : Bool) → is_committed y ≡ b → count is_committed (ys ++ (x ∷ [])) ≡ count is_committed ys + count is_committed (x ∷ []) → count is_committed (y ∷ (ys ++ (x ∷ []))) ≡ count is_committed (y ∷ ys) + count is_committed (x ∷ [])
    go true h f = omega (arith, f, count_yes is_committed y (ys ++ (x ∷ [])) h, count_yes is_committed y ys h)
    go false h f = omega (arith, f, count_no is_committed y (ys ++ (x ∷ [])) h, count_no is_committed y ys h)

map_more : {A : Type 0} (f : Seen → A) (xs : List Seen) (x : Seen) → map f (xs ++ (x ∷ [])) ≡ map f xs ++ (f x ∷ [])
map_more f [] x = refl
map_more f (y ∷ ys) x = ap (λ l. f y ∷ l) (map_more f ys x)

set_after : {A : Type 0} (xs ys : List A) (z y : A) → set (xs ++ (z ∷ ys)) (length xs) y ≡ xs ++ (y ∷ ys)
set_after [] ys z y = refl
set_after (x ∷ xs) ys z y = ap (λ l. x ∷ l) (set_after xs ys z y)

module _ (κ : Kind) (s : List ℕ) where
  -- the slots passed, d of them
  abbrev passed : ℕ → List Seen
  passed d = take d (slots_seen κ s)

  slots-more : (d : ℕ) → d < κ.slots → passed (d + 1) ≡ passed d ++ (seen κ s d ∷ [])
  slots-more d o =
      let h : d < length (slots_seen κ s) = omega (arith, seen-length κ s) in
      rw (add-one d, take-suc (slots_seen κ s) d free h, seen_at κ s d free o)

  -- ── a column: what f reads of the slots passed, and the unused value in the others ──
  module _ {A : Type 0} (f : Seen → A) (z : A) where
    unfoldable pub column : ℕ → List A
    column d = map f (passed d) ++ replicate (entry_places - d) z

    column-length : (d : ℕ) → d ≤ κ.slots → length (map f (passed d)) ≡ d
    column-length d o = length-map (passed d) f ∙ length-take-le d (slots_seen κ s) (omega (arith, o, seen-length κ s))

    column-take : (d : ℕ) → d ≤ κ.slots → take d (column d) ≡ map f (passed d)
    unfolding column
    column-take d o = take_at (map f (passed d)) (replicate (entry_places - d) z) d (column-length d o)

    module _ (φ : KindFits κ) (d : ℕ) (o : d < κ.slots) where
      abbrev rest : List A
      rest = replicate (entry_places - (d + 1)) z

      column-here : column d ≡ map f (passed d) ++ (z ∷ rest)
      unfolding column
      column-here =
          let e : entry_places - d ≡ suc (entry_places - (d + 1)) = omega (arith, o, φ.slots-fit) in
          ap (λ (n : ℕ). map f (passed d) ++ replicate n z) e

      column-next : map f (passed d) ++ (f (seen κ s d) ∷ rest) ≡ column (d + 1)
      unfolding column
      column-next =
          sym (append_assoc (map f (passed d)) (f (seen κ s d) ∷ []) rest)
          ∙ ap (λ (l : List A). l ++ rest) (sym (map_more f (passed d) (seen κ s d)) ∙ ap (map f) (sym (slots-more d o)))

      -- the slot at hand is stored, or is left unused
      column-set : set (column d) d (f (seen κ s d)) ≡ column (d + 1)
      column-set =
          ap₂ (λ (l : List A) (n : ℕ). set l n (f (seen κ s d))) column-here (sym (column-length d (omega arith)))
          ∙ set_after (map f (passed d)) rest z (f (seen κ s d))
          ∙ column-next

      column-left : f (seen κ s d) ≡ z → column d ≡ column (d + 1)
      column-left h = column-here ∙ ap (λ (y : A). map f (passed d) ++ (y ∷ rest)) (sym h) ∙ column-next

  -- all of them
  column-all : (d : ℕ) → d ≡ κ.slots → column entry_seen no_entry d ≡ entries_seen (slots_seen κ s)
  unfolding column entries_seen padded
  column-all d o =
      let e : entry_places - d ≡ entry_places - length (map entry_seen (slots_seen κ s)) = omega (arith, o, length-map (slots_seen κ s) entry_seen, seen-length κ s) in
      ap₂ (λ (xs : List Seen) (n : ℕ). map entry_seen xs ++ replicate n no_entry) (take_all d (slots_seen κ s) (omega (arith, o, seen-length κ s))) e

  -- ── what holds of the first d slots: the entries, the column of numbers, the figure; and none breaks the rules ──
  pub record Passed (es : List machine.Entry.Entry) (ts : List ℕ) (n d : ℕ) : Type 0 where
    pub below : d ≤ κ.slots
    pub few : n ≤ d
    pub txn-places : length ts ≡ entry_places
    pub figure : n ≡ count is_committed (passed d)
    pub entries : listed_entries es ≡ column entry_seen no_entry d
    pub txns : ts ≡ column txn_seen 0 d
    pub unbroken : (j : ℕ) → j < d → breaks (passed j) (seen κ s j) ≡ false

  -- no slot passed yet
  pub passed_none : (es : List machine.Entry.Entry) → listed_entries es ≡ (empty_station κ).entries → Passed es (replicate entry_places 0) 0 0
  unfolding count empty_station column
  passed_none es q = record {
    below = omega arith;
    few = omega arith;
    txn-places = refl;
    figure = refl;
    entries = q;
    txns = refl;
    unbroken = λ j o. absurd (not-suc-le-zero o);
  }

  module _ (φ : KindFits κ) (es : List machine.Entry.Entry) (ts : List ℕ) (n d : ℕ) (p : Passed es ts n d) (o : d < κ.slots) where
    -- a slot that keeps the rules and counts for m
    more : (es' : List machine.Entry.Entry) (ts' : List ℕ) (m : ℕ) → m ≤ 1 → breaks (passed d) (seen κ s d) ≡ false → count is_committed (seen κ s d ∷ []) ≡ m → length ts' ≡ entry_places
        → listed_entries es' ≡ column entry_seen no_entry (d + 1) → ts' ≡ column txn_seen 0 (d + 1) → Passed es' ts' (n + m) (d + 1)
    more es' ts' m om h g l a b = record {
      below = omega arith;
      few = omega arith;
      txn-places = l;
      figure = omega (arith, ap (count is_committed) (slots-more d o), count-more (passed d) (seen κ s d));
      entries = a;
      txns = b;
      unbroken = λ j oj. upto j oj (ℕ_discrete j d);
    }
      where
        upto : (j : ℕ) → j < d + 1 → Dec (j ≡ d) → breaks (passed j) (seen κ s j) ≡ false
        upto j oj (yes e) = subst (λ (k : ℕ). breaks (passed k) (seen κ s k) ≡ false) (sym e) h
        upto j oj (no f) = p.unbroken j (omega arith)

    -- a free slot
    pub passed-free : seen κ s d ≡ free → Passed es ts n (d + 1)
    unfolding breaks count is_committed entry_seen
    passed-free x =
        subst (λ (k : ℕ). Passed es ts k (d + 1)) (omega arith)
        (more es ts 0 (omega arith) (ap (breaks (passed d)) x) (ap (λ y. count is_committed (y ∷ [])) x) p.txn-places
        (p.entries ∙ column-left entry_seen no_entry φ d o (ap entry_seen x))
        (p.txns ∙ column-left txn_seen 0 φ d o (ap txn_seen x)))

    -- a committed one, whose number no lower slot has
    module _ (e : machine.Entry.Entry) (x : seen κ s d ≡ committed (listed_entry e)) where
      repeated : breaks (passed d) (seen κ s d) ≡ member e.id.txn (take d ts)
      unfolding breaks
      repeated = ap (breaks (passed d)) x ∙ ap (member e.id.txn) (sym (ap (take d) p.txns ∙ column-take txn_seen 0 d p.below))

      pub passed-committed : member e.id.txn (take d ts) ≡ false → Passed (set es d e) (set ts d e.id.txn) (n + 1) (d + 1)
      unfolding count is_committed entry_seen
      passed-committed g =
          more (set es d e) (set ts d e.id.txn) 1 (omega arith) (repeated ∙ g) (ap (λ y. count is_committed (y ∷ [])) x) (length-set ts d e.id.txn ∙ p.txn-places)
          (listed-set es d e ∙ ap₂ (λ (l : List Entry) (y : Entry). set l d y) p.entries (sym (ap entry_seen x)) ∙ column-set entry_seen no_entry φ d o)
          (ap₂ (λ (l : List ℕ) (y : ℕ). set l d y) p.txns (sym (ap txn_seen x)) ∙ column-set txn_seen 0 φ d o)

      pub refused-repeated : length s ≡ store_size κ → member e.id.txn (take d ts) ≡ true → scan κ s ≡ says (A.Refused 18 d) (empty_station κ)
      refused-repeated l g = scan-refused κ s l d o (repeated ∙ g) p.unbroken

    pub refused-damaged : length s ≡ store_size κ → seen κ s d ≡ damaged → scan κ s ≡ says (A.Refused 18 d) (empty_station κ)
    unfolding breaks
    refused-damaged l x = scan-refused κ s l d o (ap (breaks (passed d)) x) p.unbroken

  -- all slots passed
  pub found_all : (es : List machine.Entry.Entry) (ts : List ℕ) (n d : ℕ) → Passed es ts n d → κ.slots ≤ d → length s ≡ store_size κ → scan κ s ≡ says (A.Found n) (idle_station κ (listed_entries es))
  found_all es ts n d p o l =
      scan-finds κ s l (none-keeps κ s (λ j oj. p.unbroken j (omega arith)))
      ∙ ap₂ (λ (k : ℕ) (e : List Entry). says (A.Found k) (idle_station κ e))
      (sym (p.figure ∙ ap (count is_committed) (take_all d (slots_seen κ s) (omega (arith, seen-length κ s)))))
      (sym (p.entries ∙ column-all d (omega (arith, o, p.below))))
