-- The parts that soundness is tested in, each with a loop of its own; proofs/Whole says that together they are model's `sound`.
use Rattle.std.specs.Prelude.{ℕ, zero, suc, ◌+◌, Bool, true, false, List, [], ◌∷◌, ◌++◌, map, eqb, ltb, leb, drop, get_or}
use Rattle.model.specs.declared.Read.{Read}
use Rattle.model.specs.Types.{Entry, Live}
use Rattle.model.specs.declared.Phase.{Phase}
use Rattle.model.specs.declared.Phase.TheVariants.{Unused, Open, Closing}
use Rattle.model.specs.Lists.{◌and◌, ◌or◌, all, first, distinct, ascending}
use Rattle.model.specs.Limits.{keys, live_places, entry_places, read_limit}
use Rattle.model.specs.Kinds.{Kind}
use Rattle.model.specs.Ids.{same_id}
use Rattle.model.specs.Lives.{writes_of, write_count, write_key, read_key, slot_mark}
use Rattle.model.specs.Entries.{wrote, no_entry}
use Rattle.model.specs.Sound.{is_no_write, is_no_read, is_no_live, entry_right}

-- a key of an ascending set: at least lo, below the limit
unfoldable pub fits : ℕ → ℕ → Bool
fits lo k = leb lo k and ltb k keys

-- the keys of the first n ascend from lo on below the limit, and these are good; the others are zero
module _ {A : Type 0} (key : A → ℕ) (good is_zero : A → Bool) where
  unfoldable pub set_right : ℕ → ℕ → List A → Bool
  set_right lo n [] = true
  set_right lo zero (x ∷ xs) = is_zero x and set_right lo zero xs
  set_right lo (suc n) (x ∷ xs) = fits lo (key x) and good x and set_right (suc (key x)) n xs

unfoldable pub writes_right : Kind → Live → Bool
writes_right κ l = leb l.write_count κ.write_limit and ascending 0 keys (map write_key (writes_of l)) and all is_no_write (drop l.write_count l.writes)

abbrev pub is_zero : ℕ → Bool
is_zero v = eqb v 0

-- its reads, each of them good
abbrev pub reads_right : (Read → Bool) → Live → Bool
reads_right good l = set_right read_key good is_no_read 0 l.read_count l.reads

abbrev pub no_reads : Live → Bool
no_reads l = all is_no_read l.reads

-- a transaction in use: its number, its write set, how many reads
unfoldable pub lists_right : Kind → Live → Bool
lists_right κ l = leb 1 l.txn and leb l.read_count read_limit and writes_right κ l

-- a closing transaction's write set, clock and records stored
unfoldable pub counts_right : ℕ → ℕ → ℕ → Bool
counts_right c n w = leb 1 w and leb 1 c and leb n (w + 1)

unfoldable pub is_unused : Phase → Bool
is_unused Unused = true
is_unused Open = false
is_unused (Closing d c n) = false

-- a live place but for its reads
unfoldable pub shape_right : Kind → Phase → Live → Bool
shape_right κ Unused l = is_no_live l
shape_right κ Open l = lists_right κ l
shape_right κ (Closing d c n) l = counts_right c n (write_count l) and lists_right κ l

abbrev pub shape : Kind → Live → Bool
shape κ l = shape_right κ l.phase l

-- ── columns: the transactions of the live places and then of the entries; the slots of the closing transactions ──
abbrev pub live_column : List Live → List ℕ
live_column ls = map (λ (l : Live). l.txn) ls

abbrev pub held_column : List Entry → List ℕ
held_column es = map (λ (e : Entry). e.id.txn) es

abbrev pub txn_column : List Live → List Entry → List ℕ
txn_column ls es = live_column ls ++ held_column es

abbrev pub mark_column : List Live → List ℕ
mark_column ls = map (λ (l : Live). slot_mark l.phase) ls

-- the slot of a transaction by the column ts
unfoldable pub slot_in : List ℕ → ℕ → ℕ
slot_in ts t = first (eqb t) (drop live_places ts)

unfoldable pub is_named : Entry → Read → Bool
is_named e r = same_id e.id r.id and wrote e r.key

-- the entry that a read names, found by its transaction, has the id and wrote the key
unfoldable pub named_by : List Entry → List ℕ → Read → Bool
named_by es ts r = ltb (slot_in ts r.id.txn) entry_places and is_named (get_or es (slot_in ts r.id.txn) no_entry) r

-- a live place: right but for its reads, and these right and named
unfoldable pub place_fits : Kind → List Entry → List ℕ → Live → Bool
place_fits κ es ts l = shape κ l and reads_right (named_by es ts) l

-- a closing transaction's slot, counted from 1, is one of n and not held
unfoldable pub slot_free : ℕ → List ℕ → ℕ → Bool
slot_free n ts m = eqb m 0 or (leb m n and eqb (get_or ts (m + 7) 0) 0)

-- no slot from the nth on is held
unfoldable pub none_past : ℕ → List ℕ → Bool
none_past n ts = all (eqb 0) (drop (live_places + n) ts)

-- all of it, in the order of the tests
unfoldable pub parts : Kind → List Live → List Entry → Bool
parts κ ls es =
    all (entry_right κ) es and distinct (txn_column ls es) and all (place_fits κ es (txn_column ls es)) ls
    and distinct (mark_column ls) and all (slot_free κ.slots (txn_column ls es)) (mark_column ls) and none_past κ.slots (txn_column ls es)
