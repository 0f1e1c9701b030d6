-- What stands inside an entry and a live transaction, as code has it: a live transaction's set is an array, and how many of it count; an entry's
-- rules go by how many keys it has, a closing transaction's mark by its phase.
use Prim.Native.Nat.{ℕ, ◌+◌, ◌<◌, ◌≤◌, min}
use mathlib.Core.Path.{◌≡◌, refl, sym, ap, ◌∙◌}
use mathlib.Core.Logic.{◌≢◌, ⊎_elim}
use mathlib.Core.Bool.{Bool, true, false}
use mathlib.Core.List.{List, [], ◌∷◌, map}
use lib.Dec.{eqb, leb}
use lib.ListN.{length, take, get_or, length-take}
use lib.Seq.{get_or-take}
use native.Mathlib.Nat.{lt_irrefl, suc-ne-zero}
use native.Mathlib.Omega.{arith}
use native.Mathlib.Numerals.{add-one}
use borrow.Author.Tests.{eqb-true, leb-true, le-leb, lt-leb, eq-eqb, ne_eqb}
use Rattle.model.specs.declared.Id.{Id}
use Rattle.model.specs.declared.Read.{Read}
use Rattle.model.specs.Types.{Entry, Live}
use Rattle.model.specs.declared.Phase.{Phase}
use Rattle.model.specs.declared.Phase.TheVariants.{Unused, Open, Closing}
use Rattle.model.specs.Lists.{◌and◌, ◌or◌, any, member, ascending}
use Rattle.model.specs.Limits.{keys, read_limit}
use Rattle.model.specs.Kinds.{Kind}
use Rattle.model.specs.Ids.{same_id, no_id}
use Rattle.model.specs.Lives.{write_key, reads_of, closing_clock, slot_mark, with_phase, writes_of}
use Rattle.model.specs.Entries.{keys_of, wrote, no_entry, entry_rules, is_no_entry, entry_for}
use Rattle.model.specs.Sound.{entry_right}
use Rattle.model.proofs.Tests.{and_left, and_right, and-true, or_cases}
use Rattle.model.proofs.ListLaws.{any_at, member-finds}
use Rattle.model.proofs.IdLaws.{same_id_lem}

-- ── the first n of an array ──
first_of : {A : Type 0} (n : ℕ) (xs : List A) (j : ℕ) (d : A) → j < length (take n xs) → get_or (take n xs) j d ≡ get_or xs j d
first_of n xs j d o = get_or-take n xs j d (omega (arith, length-take n xs))

-- the reads of a live transaction, how many and the nth of them
module _ (l : Live) where
  pub reads-are : length (reads_of l) ≡ min l.read_count (length l.reads)
  unfolding reads_of
  reads-are = length-take l.read_count l.reads

  pub read-nth : (j : ℕ) (d : Read) → j < length (reads_of l) → get_or (reads_of l) j d ≡ get_or l.reads j d
  unfolding reads_of
  read-nth j d o = first_of l.read_count l.reads j d o

  -- n is how many, as code counts them
  pub reads-counted : (n : ℕ) → length l.reads ≡ read_limit → n ≡ min l.read_count read_limit → (n ≤ read_limit) × (n ≡ length (reads_of l))
  reads-counted n h e = (omega arith, omega (arith, reads-are))

-- ── whether an entry wrote a key ──
module _ (e : Entry) (k : ℕ) where
  pub wrote-nth : (j : ℕ) → j < length (keys_of e) → get_or (keys_of e) j 0 ≡ k → wrote e k ≡ true
  unfolding wrote member
  wrote-nth j o q = any_at (eqb k) (keys_of e) 0 j o (eq-eqb k (get_or (keys_of e) j 0) (sym q))

  pub wrote_one : wrote e k ≡ true → (j : ℕ) × (j < length (keys_of e)) × (get_or (keys_of e) j 0 ≡ k)
  unfolding wrote
  wrote_one h = let r = member-finds k (keys_of e) h in (_, r.0, r.1)

-- the unused entry, as what lies past the last slot, wrote nothing
pub no_entry-wrote : (k : ℕ) → wrote no_entry k ≡ false
unfolding wrote member any
no_entry-wrote k = refl

-- ── its rules ──
-- a right entry with a number has a clock
pub right-clock : (κ : Kind) (e : Entry) → entry_right κ e ≡ true → e.id.txn ≢ 0 → e.id.clock ≢ 0
unfolding entry_right is_no_entry entry_rules
right-clock κ e h n z = ⊎_elim
    (λ x. n (ap (λ (i : Id). i.txn) (same_id_lem _ _ (and_left _ _ x))))
    (λ x. lt_irrefl 0 (omega (arith, z, leb-true 1 e.id.clock (and_right _ _ (and_left _ _ x)))))
    (or_cases _ _ h)

-- no key is none
pub none_of : (ks : List ℕ) → length ks ≡ 0 → ks ≡ []
none_of [] h = refl
none_of (k ∷ ks) h = absurd (suc-ne-zero _ h)

-- the keys of a right entry ascend
pub right-ascending : (κ : Kind) (e : Entry) → entry_right κ e ≡ true → ascending 0 keys (keys_of e) ≡ true
unfolding entry_right is_no_entry entry_rules ascending
right-ascending κ e h = ⊎_elim
    (λ x. rw (none_of (keys_of e) (eqb-true (length (keys_of e)) 0 (and_right (same_id e.id no_id) _ x))))
    (λ x. and_right _ _ x)
    (or_cases _ _ h)

-- whether it is right, by how many keys it has
one_of : (a : Bool) → ((a and true) or false) ≡ a
unfolding ◌and◌ ◌or◌
one_of true = refl
one_of false = refl

no_one : (a r : Bool) → ((a and false) or r) ≡ r
unfolding ◌and◌ ◌or◌
no_one true r = refl
no_one false r = refl

module _ (κ : Kind) (e : Entry) where
  pub right-none : length (keys_of e) ≡ 0 → entry_right κ e ≡ same_id e.id no_id
  unfolding entry_right is_no_entry entry_rules ◌and◌
  right-none h =
      let r : entry_rules κ e ≡ false = rw (lt-leb 1 (length (keys_of e)) (omega arith)) in
      ap (λ (b : Bool). (same_id e.id no_id and b) or entry_rules κ e) (eq-eqb (length (keys_of e)) 0 h)
      ∙ (ap (λ (b : Bool). (same_id e.id no_id and true) or b) r ∙ one_of (same_id e.id no_id))

  pub right-some : length (keys_of e) ≢ 0 → ascending 0 keys (keys_of e) ≡ true → entry_right κ e ≡ (leb (length (keys_of e)) κ.write_limit and leb 1 e.id.txn and leb 1 e.id.clock)
  unfolding entry_right is_no_entry entry_rules ◌and◌
  right-some h a =
      ap (λ (b : Bool). (same_id e.id no_id and b) or entry_rules κ e) (ne_eqb (length (keys_of e)) 0 h)
      ∙ (no_one (same_id e.id no_id) (entry_rules κ e)
      ∙ (ap (λ (b : Bool). b and leb (length (keys_of e)) κ.write_limit and leb 1 e.id.txn and leb 1 e.id.clock and ascending 0 keys (keys_of e)) (le-leb 1 (length (keys_of e)) (omega (arith, h)))
      ∙ (ap (λ (b : Bool). leb (length (keys_of e)) κ.write_limit and leb 1 e.id.txn and leb 1 e.id.clock and b) a ∙ and-true _)))

-- ── the mark of a closing transaction's slot, by the phase ──
module _ (p : Phase) where
  pub mark-unused : p ≡ Unused → 0 ≡ slot_mark p
  unfolding slot_mark
  mark-unused e = rw e

  pub mark-open : p ≡ Open → 0 ≡ slot_mark p
  unfolding slot_mark
  mark-open e = rw e

  pub mark-closing : (d c n x : ℕ) → p ≡ Closing d c n → x ≡ d → x + 1 ≡ slot_mark p
  unfolding slot_mark
  mark-closing d c n x e q = rw (e, q) (add-one d)

-- ── the entry of a closing transaction ──
pub entry_for-txn : (l : Live) → (entry_for l).id.txn ≡ l.txn
unfolding entry_for
entry_for-txn l = refl

pub entry_for-id : (l : Live) (d c n : ℕ) → l.phase ≡ Closing d c n → (entry_for l).id ≡ record { clock = c; txn = l.txn }
unfolding entry_for closing_clock
entry_for-id l d c n q = ap (λ (p : Phase). record { clock = closing_clock p; txn = l.txn }) q

pub entry_for-phase : (l : Live) (d c n m : ℕ) → l.phase ≡ Closing d c n → entry_for (with_phase (Closing d c m) l) ≡ entry_for l
unfolding entry_for with_phase writes_of closing_clock
entry_for-phase l d c n m q = ap (λ (p : Phase). record { id = record { clock = closing_clock p; txn = l.txn }; keys = map write_key (writes_of l) }) (sym q)
