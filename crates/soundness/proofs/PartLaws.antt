-- Laws of the parts (specs/Parts), one for each way that a test of the code goes.
use Prim.Native.Nat.{ℕ, zero, suc, ◌+◌, ◌<◌, ◌≤◌}
use mathlib.Core.Path.{◌≡◌, refl, sym, ap, ap₂, subst, ◌∙◌}
use mathlib.Core.Logic.{◌≢◌}
use mathlib.Core.Bool.{Bool, true, false}
use mathlib.Core.List.{List, [], ◌∷◌, ◌++◌, map}
use lib.Dec.{eqb, ltb, leb}
use lib.ListN.{length, take, drop, get_or, set, length-drop, length-map, take-append-drop, drop_of_length-le, get_or-map}
use lib.Seq.{take_all, drop-set-add}
use native.Mathlib.Nat.{zero-lt-suc, suc-ne-zero}
use native.Mathlib.Omega.{arith}
use borrow.Author.Tests.{lt-ltb, le-ltb, le-leb, lt-leb, leb-true, eq-eqb, ne_eqb, eqb-true}
use Rattle.model.specs.declared as machine
use Rattle.model.specs.declared.Read.{Read}
use Rattle.model.specs.Types.{Live}
use Rattle.model.specs.declared.Phase.{Phase}
use Rattle.model.specs.declared.Phase.TheVariants.{Unused, Open, Closing}
use Rattle.model.specs.Types.{Entry}
use Rattle.model.specs.KeySets.{key_set, set_number}
use Rattle.model.specs.Listed.{valued, listed_live, listed_lives, listed_entry, listed_entries}
use Rattle.model.proofs.KeySetLaws.{set-ascends, set-none, set-number}
use Rattle.model.proofs.ValuedLaws.{valued-keys}
use Rattle.model.proofs.ListedLaws.{zero_live, lives-any, zero_entry, listed-any}
use Rattle.std.specs.Prelude.{Option, Some, None, cond}
use Rattle.std.specs.Option.{unwrap_or}
use Rattle.std.specs.List.{position_or_len}
use Rattle.model.proofs.StdWords.{first_from_position, eqb-swap}
use Rattle.model.specs.Lists.{◌and◌, ◌or◌, all, first, member, ascending}
use Rattle.model.specs.Limits.{keys, number_range}
use Rattle.model.specs.Kinds.{Kind}
use Rattle.model.specs.Ids.{same_id}
use Rattle.model.specs.Lives.{no_write, writes_of, write_key, slot_mark}
use Rattle.model.specs.Entries.{no_entry, wrote}
use Rattle.model.proofs.Tests.{and_left, and_right, same_test, and-none-right}
use Rattle.model.proofs.InsideLaws.{right-none, right-some}
use Rattle.model.specs.Sound.{is_no_write, is_no_read, is_no_live, entry_right}
use Rattle.soundness.specs.Parts.{fits, is_zero, set_right, writes_right, reads_right, lists_right, live_column, held_column, txn_column, mark_column, slot_in}
use Rattle.soundness.specs.Parts.{shape_right, shape, is_named, named_by, place_fits, slot_free}
use Rattle.soundness.proofs.Loops.{column-more, column-end}
use Rattle.model.proofs.RestLaws.{all_split}

-- ── a write set within its limit ──
-- past the keys the values alone are left
unkeyed-is : (ks vs : List ℕ) → all is_no_write (drop (length ks) (valued ks vs)) ≡ all is_zero (drop (length ks) vs)
unfolding valued is_no_write all ◌and◌
unkeyed-is [] [] = refl
unkeyed-is [] (v ∷ vs) = all_split is_no_write (valued [] (v ∷ vs)) 0 no_write (zero-lt-suc _) ∙ (ap (λ (b : Bool). eqb v 0 and b) (unkeyed-is [] vs) ∙ sym (all_split is_zero (v ∷ vs) 0 0 (zero-lt-suc _)))
unkeyed-is (k ∷ ks) [] = unkeyed-is ks [] ∙ ap (all is_zero) (drop_of_length-le [] {i = length ks} (omega arith))
unkeyed-is (k ∷ ks) (v ∷ vs) = unkeyed-is ks vs

module _ (κ : Kind) (l : machine.Live.Live) (n : ℕ) (e : n ≡ length (key_set l.keys)) where
  pub writes-is : n ≤ κ.write_limit → writes_right κ (listed_live l) ≡ all is_zero (drop n l.values)
  unfolding writes_right writes_of ◌and◌
  writes-is h =
      let ks = key_set l.keys in
      let a : leb (length ks) κ.write_limit ≡ true = subst (λ (m : ℕ). leb m κ.write_limit ≡ true) e (le-leb n κ.write_limit h) in
      let b : ascending 0 keys (map write_key (take (length ks) (valued ks l.values))) ≡ true = subst (λ (xs : List ℕ). ascending 0 keys xs ≡ true) (sym (valued-keys ks l.values)) (set-ascends l.keys) in
      ap₂ (λ (x y : Bool). x and y and all is_no_write (drop (length ks) (valued ks l.values))) a b
      ∙ (unkeyed-is ks l.values ∙ ap (λ (m : ℕ). all is_zero (drop m l.values)) (sym e))

  pub writes-long : κ.write_limit < n → writes_right κ (listed_live l) ≡ false
  unfolding writes_right ◌and◌
  writes-long h = rw (← e, lt-leb n κ.write_limit h)

-- a set is empty where its number is 0
empty-is : (n : ℕ) → n < number_range → eqb (length (key_set n)) 0 ≡ eqb n 0
empty-is n h = same_test _ _ (λ q. eq-eqb n 0 (go (key_set n) refl (eqb-true _ 0 q))) (λ q. eq-eqb _ 0 (ap (λ (m : ℕ). length (key_set m)) (eqb-true n 0 q) ∙ ap length set-none))
  where
    go : (ks : List ℕ) → key_set n ≡ ks → length ks ≡ 0 → n ≡ 0
    go [] e z = let none : set_number [] ≡ 0 = unfold set_number in refl in sym (set-number n h) ∙ (ap set_number e ∙ none)
    go (k ∷ ks) e z = absurd (suc-ne-zero _ z)

unused-values : (l : machine.Live.Live) → l.keys ≡ 0 → all is_no_write (listed_live l).writes ≡ all is_zero l.values
unused-values l e = ap (λ (ks : List ℕ). all is_no_write (valued ks l.values)) (ap key_set e ∙ set-none) ∙ unkeyed-is [] l.values

pub unused-is : (l : machine.Live.Live) → l.keys < number_range
    → is_no_live (listed_live l) ≡ (eqb l.txn 0 and eqb l.keys 0 and eqb l.read_count 0 and all is_zero l.values and all is_no_read l.reads)
unfolding is_no_live ◌and◌
unused-is l h = ap (λ (a : Bool). eqb l.txn 0 and a and eqb l.read_count 0 and all is_no_write (listed_live l).writes and all is_no_read l.reads) (empty-is l.keys h) ∙ go (eqb l.keys 0) refl
  where
    go : (b : Bool) → eqb l.keys 0 ≡ b → (eqb l.txn 0 and eqb l.keys 0 and eqb l.read_count 0 and all is_no_write (listed_live l).writes and all is_no_read l.reads)
        ≡ (eqb l.txn 0 and eqb l.keys 0 and eqb l.read_count 0 and all is_zero l.values and all is_no_read l.reads)
    go true e = ap (λ (a : Bool). eqb l.txn 0 and eqb l.keys 0 and eqb l.read_count 0 and a and all is_no_read l.reads) (unused-values l (eqb-true l.keys 0 e))
    go false e =
        let z : (eqb l.txn 0 and eqb l.keys 0) ≡ false = and-none-right (eqb l.txn 0) (eqb l.keys 0) e in
        ap (λ (a : Bool). a and eqb l.read_count 0 and all is_no_write (listed_live l).writes and all is_no_read l.reads) z
        ∙ sym (ap (λ (a : Bool). a and eqb l.read_count 0 and all is_zero l.values and all is_no_read l.reads) z)

-- ── slots ──
module _ (n : ℕ) (ts : List ℕ) (m : ℕ) where
  pub free-none : m ≡ 0 → slot_free n ts m ≡ true
  unfolding slot_free ◌or◌
  free-none e = rw (eq-eqb m 0 e)

  pub free-high : m ≢ 0 → n < m → slot_free n ts m ≡ false
  unfolding slot_free ◌or◌ ◌and◌
  free-high k h = rw (ne_eqb m 0 k, lt-leb m n h)

  pub free-is : m ≢ 0 → m ≤ n → slot_free n ts m ≡ eqb (get_or ts (m + 7) 0) 0
  unfolding slot_free ◌or◌ ◌and◌
  free-is k h = rw (ne_eqb m 0 k, le-leb m n h)

-- ── a read, by the slot of its transaction ──
module _ (es : List Entry) (ts : List ℕ) (r : Read) (d : ℕ) (e : d ≡ slot_in ts r.id.txn) where
  pub unnamed : 63 < d → named_by es ts r ≡ false
  unfolding named_by ◌and◌
  unnamed h = rw (← e, le-ltb d 64 (omega arith))

  pub named-is : d ≤ 63 → named_by es ts r ≡ is_named (get_or es d no_entry) r
  unfolding named_by ◌and◌
  named-is h = rw (← e, lt-ltb d 64 (omega arith))

-- what a search of the held transactions comes to
pub found-slot : (ts : List ℕ) (t : ℕ) (r : Option ℕ) → length ts ≡ 72
    → r ≡ cond (ltb (position_or_len (λ x. eqb x t) (drop 8 ts)) (length (drop 8 ts))) (Some (position_or_len (λ x. eqb x t) (drop 8 ts))) None → unwrap_or r 64 ≡ slot_in ts t
unfolding slot_in
found-slot ts t r l e = first_from_position (λ x. eqb x t) (drop 8 ts) r 64 e (omega (arith, l, length-drop 8 ts)) ∙ (λ i. first (λ x. eqb-swap x t i) (drop 8 ts))

-- the entry at the slot, as the machine has it: a says whether it has the read's id, b whether it wrote the key
pub named-at : (es : List machine.Entry.Entry) (ts : List ℕ) (r : Read) (d : ℕ) → d ≡ slot_in ts r.id.txn → d ≤ 63 → (a b : Bool)
    → a ≡ same_id (get_or es d zero_entry).id r.id → b ≡ member r.key (key_set (get_or es d zero_entry).keys) → named_by (listed_entries es) ts r ≡ (a and b)
unfolding is_named wrote
named-at es ts r d e h a b p q =
    named-is (listed_entries es) ts r d e h ∙ ap (λ (x : Entry). is_named x r) (listed-any es d) ∙ sym (ap₂ (λ (x y : Bool). x and y) p q)

-- a place that is wrong but for its reads; a place that is right so
module _ (κ : Kind) (es : List Entry) (ts : List ℕ) (l : Live) where
  pub place-wrong : shape κ l ≡ false → place_fits κ es ts l ≡ false
  unfolding place_fits ◌and◌
  place-wrong e = rw e

  pub place-reads : shape κ l ≡ true → place_fits κ es ts l ≡ reads_right (named_by es ts) l
  unfolding place_fits ◌and◌
  place-reads e = rw e

-- a place that is right but for its reads has few enough
pub few-reads : (κ : Kind) (p : Phase) (l : Live) → shape_right κ p l ≡ true → l.read_count ≤ 16
unfolding shape_right is_no_live lists_right
few-reads κ Unused l h = omega (arith, eqb-true l.read_count 0 (and_right _ _ (and_left _ _ (and_left _ _ h))))
few-reads κ Open l h = leb-true l.read_count 16 (and_right _ _ (and_left _ _ h))
few-reads κ (Closing d c n) l h = leb-true l.read_count 16 (and_right _ _ (and_left _ _ (and_right _ _ h)))

-- the machine's places, all of them
pub all-map-is : {A B : Type 0} (f : A → B) (p : B → Bool) (xs : List A) → all (λ x. p (f x)) xs ≡ all p (map f xs)
unfolding all
all-map-is f p [] = refl
all-map-is f p (x ∷ xs) = ap (λ (b : Bool). elim (p (f x)) [ true ↦ b | false ↦ false ]) (all-map-is f p xs)

-- ── columns ──
mark-at : (ls : List machine.Live.Live) (i : ℕ) → get_or (mark_column (listed_lives ls)) i 0 ≡ slot_mark (get_or ls i zero_live).phase
unfolding slot_mark
mark-at ls i = get_or-map (λ (l : Live). slot_mark l.phase) (listed_lives ls) i (listed_live zero_live) ∙ ap (λ (l : Live). slot_mark l.phase) (lives-any ls i)

live_at : (ls : List machine.Live.Live) (i : ℕ) → get_or (live_column (listed_lives ls)) i 0 ≡ (get_or ls i zero_live).txn
live_at ls i = get_or-map (λ (l : Live). l.txn) (listed_lives ls) i (listed_live zero_live) ∙ ap (λ (l : Live). l.txn) (lives-any ls i)

pub held-txn-at : (es : List Entry) (d : ℕ) → get_or (held_column es) d 0 ≡ (get_or es d no_entry).id.txn
held-txn-at es d = get_or-map (λ (e : Entry). e.id.txn) es d no_entry

pub held-listed : (es : List machine.Entry.Entry) (d : ℕ) → get_or (held_column (listed_entries es)) d 0 ≡ (get_or es d zero_entry).id.txn
held-listed es d = held-txn-at (listed_entries es) d ∙ ap (λ (e : Entry). e.id.txn) (listed-any es d)

-- the column of transactions as it is filled: from place 8 on with those of the entries, below it with those of the live places
pub held_more : (xs : List ℕ) (es : List machine.Entry.Entry) (d : ℕ) → length xs ≡ 72 → length (listed_entries es) ≡ 64 → d < 64
    → take d (drop 8 xs) ≡ take d (held_column (listed_entries es)) → take (d + 1) (drop 8 (set xs (8 + d) (get_or es d zero_entry).id.txn)) ≡ take (d + 1) (held_column (listed_entries es))
held_more xs es d hx he o e =
    ap (take (d + 1)) (drop-set-add 8 xs d (get_or es d zero_entry).id.txn)
    ∙ column-more [] (drop 8 xs) (held_column (listed_entries es)) d d (get_or es d zero_entry).id.txn (omega (arith, length-drop 8 xs)) (omega (arith, length-map (listed_entries es) (λ (x : Entry). x.id.txn))) (sym (held-listed es d)) e

pub held-end : (xs : List ℕ) (es : List Entry) (d : ℕ) → length xs ≡ 72 → length es ≡ 64 → 64 ≤ d → take d (drop 8 xs) ≡ take d (held_column es) → drop 8 xs ≡ held_column es
held-end xs es d hx he o e = column-end (drop 8 xs) (held_column es) 64 d (omega (arith, length-drop 8 xs)) (omega (arith, length-map es (λ (x : Entry). x.id.txn))) o e

pub live_more : (xs : List ℕ) (ls : List machine.Live.Live) (k : ℕ) → length xs ≡ 72 → length (listed_lives ls) ≡ 8 → k < 8
    → take k xs ≡ take k (live_column (listed_lives ls)) → take (k + 1) (set xs k (get_or ls k zero_live).txn) ≡ take (k + 1) (live_column (listed_lives ls))
live_more xs ls k hx hl o e =
    column-more [] xs (live_column (listed_lives ls)) k k (get_or ls k zero_live).txn (omega arith) (omega (arith, length-map (listed_lives ls) (λ (l : Live). l.txn))) (sym (live_at ls k)) e

pub txns-end : (xs : List ℕ) (ls : List Live) (es : List Entry) (k : ℕ) → length ls ≡ 8 → k ≡ 8 → take k xs ≡ take k (live_column ls) → drop 8 xs ≡ held_column es → xs ≡ txn_column ls es
txns-end xs ls es k hl ek el ee =
    sym (take-append-drop 8 xs)
    ∙ ap₂ (λ (a b : List ℕ). a ++ b) (subst (λ (m : ℕ). take m xs ≡ take m (live_column ls)) ek el ∙ take_all 8 (live_column ls) (omega (arith, length-map ls (λ (l : Live). l.txn)))) ee

-- the column of marks
pub marks-more : (xs : List ℕ) (ls : List machine.Live.Live) (k m : ℕ) → length xs ≡ 8 → length (listed_lives ls) ≡ 8 → k < 8 → m ≡ slot_mark (get_or ls k zero_live).phase
    → take k xs ≡ take k (mark_column (listed_lives ls)) → take (k + 1) (set xs k m) ≡ take (k + 1) (mark_column (listed_lives ls))
marks-more xs ls k m hx hl o q e =
    column-more [] xs (mark_column (listed_lives ls)) k k m (omega arith) (omega (arith, length-map (listed_lives ls) (λ (l : Live). slot_mark l.phase))) (q ∙ sym (mark-at ls k)) e

pub marks-end : (xs : List ℕ) (ls : List Live) (k : ℕ) → length xs ≡ 8 → length ls ≡ 8 → 8 ≤ k → take k xs ≡ take k (mark_column ls) → xs ≡ mark_column ls
marks-end xs ls k hx hl o e = column-end xs (mark_column ls) 8 k hx (omega (arith, length-map ls (λ (l : Live). slot_mark l.phase))) o e

-- ── a set is right: model's tests of it ──
-- two pairs, the firsts together and the seconds together
both : (f g a b z : Bool) → (f and g and (a and b and z)) ≡ (f and a and (g and b) and z)
unfolding ◌and◌
both false g a b z = refl
both true false true b z = refl
both true false false b z = refl
both true true a b z = refl

module _ {A : Type 0} (key : A → ℕ) (good is_zero : A → Bool) where
  all-cons-is : (p : A → Bool) (x : A) (xs : List A) → all p (x ∷ xs) ≡ (p x and all p xs)
  all-cons-is p x xs = all_split p (x ∷ xs) 0 x (zero-lt-suc _)

  ascending-cons-is : (lo hi n : ℕ) (ns : List ℕ) → ascending lo hi (n ∷ ns) ≡ (leb lo n and ltb n hi and ascending (suc n) hi ns)
  unfolding ascending ◌and◌
  ascending-cons-is lo hi n ns = go (leb lo n and ltb n hi) refl
    where
      go : (b : Bool) → (leb lo n and ltb n hi) ≡ b → ascending lo hi (n ∷ ns) ≡ (leb lo n and ltb n hi and ascending (suc n) hi ns)
      go true e = rw (e, ascending)
      go false e = rw (e, ascending)

  pub set_is : (lo n : ℕ) (xs : List A) → set_right key good is_zero lo n xs ≡ (ascending lo keys (map key (take n xs)) and all good (take n xs) and all is_zero (drop n xs))
  unfolding set_right fits all ascending ◌and◌
  set_is lo zero [] = refl
  set_is lo (suc n) [] = refl
  set_is lo zero (x ∷ xs) = ap (λ (b : Bool). is_zero x and b) (set_is lo zero xs) ∙ sym (all-cons-is is_zero x xs)
  set_is lo (suc n) (x ∷ xs) =
      ap (λ (b : Bool). fits lo (key x) and good x and b) (set_is (suc (key x)) n xs)
      ∙ both (fits lo (key x)) (good x) (ascending (suc (key x)) keys (map key (take n xs))) (all good (take n xs)) (all is_zero (drop n xs))
      ∙ ap₂ (λ (a b : Bool). a and b and all is_zero (drop n xs)) (sym (ascending-cons-is lo keys (key x) (map key (take n xs)))) (sym (all-cons-is good x (take n xs)))

-- ── entries: the machine's, by how many keys it has ──
module _ (κ : Kind) (e : machine.Entry.Entry) (n : ℕ) (q : n ≡ length (key_set e.keys)) where
  pub entry-none : n ≡ 0 → entry_right κ (listed_entry e) ≡ (eqb e.id.clock 0 and eqb e.id.txn 0)
  unfolding same_id
  entry-none h = right-none κ (listed_entry e) (omega (arith, q, h))

  pub entry-some : n ≢ 0 → entry_right κ (listed_entry e) ≡ (leb n κ.write_limit and leb 1 e.id.txn and leb 1 e.id.clock)
  entry-some h = rw q (right-some κ (listed_entry e) (λ z. h (q ∙ z)) (set-ascends e.keys))

pub right-listed : (κ : Kind) (es : List machine.Entry.Entry) (d : ℕ) → entry_right κ (get_or (listed_entries es) d no_entry) ≡ entry_right κ (listed_entry (get_or es d zero_entry))
right-listed κ es d = ap (entry_right κ) (listed-any es d)
