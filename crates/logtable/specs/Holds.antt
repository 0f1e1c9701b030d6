-- The table holds what the lines above say.
use Rattle.std.specs.Prelude.{ℕ, ◌<◌, ◌≤◌, ◌≡◌, ◌≢◌, not, true, eqb, length, take}
use mathlib.Core.List.{List, Memᴰ}
use Rattle.model.specs.declared.Read.{Read}
use Rattle.model.specs.Limits.{number_range}
use Rattle.model.specs.Lists.{count, distinct, member}
use Rattle.model.specs.KeySets.{key_set}
use Rattle.shoplog.specs.Lines.{Line}
use Rattle.shoplog.specs.Verdicts.{actors, write_set, read_set, keys_read, is_committed, committed_as, once}
use Rattle.shoplog.specs.Claims.{AllFine}
use Rattle.logtable.specs.Tables.{places, table_size, txn_at, clock_at, written_at, read_at, reads_at, key_of, author_of, read_word, id_at}

-- a clock, 0 before its transaction t commits
pub record ClockHeld (clock : ℕ) (ls : List Line) (t : ℕ) : Type 0 where
  pub open-still : is_committed ls t ≡ not (eqb clock 0)
  pub committed : (c : ℕ) → c ≢ 0 → committed_as ls (record { clock = c; txn = t }) ≡ eqb clock c

-- a number has the keys of a list, as many as differ there, and no bit above them: with no key it is 0
pub record KeysHeld (n : ℕ) (ks : List ℕ) : Type 0 where
  pub has : (k : ℕ) → k < 64 → member k (key_set n) ≡ member k ks
  pub size : length (key_set n) ≡ length (once ks)
  pub fits : n < number_range

-- a read of the lines is a word of the table, its key and its author's place and no more, the author having a number and a clock; and back
pub record ReadsHeld (T : List ℕ) (xs : List ℕ) (rs : List Read) : Type 0 where
  pub listed : (r : Read) → Memᴰ r rs → (x : ℕ) × Memᴰ x xs × (key_of x ≡ r.key) × (id_at T (author_of x) ≡ r.id)
  pub said : (x : ℕ) → Memᴰ x xs → Memᴰ (record { key = key_of x; id = id_at T (author_of x) }) rs
  pub authors : (x : ℕ) → Memᴰ x xs → (txn_at T (author_of x) ≢ 0) × (clock_at T (author_of x) ≢ 0)
  pub words : (x : ℕ) → Memᴰ x xs → x ≡ read_word (key_of x) (author_of x)

-- place p has what the lines say of transaction t
pub record HoldsAt (T : List ℕ) (ls : List Line) (p t : ℕ) : Type 0 where
  pub clock : ClockHeld (clock_at T p) ls t
  pub wrote : KeysHeld (written_at T p) (write_set t ls)
  pub read : KeysHeld (read_at T p) (keys_read t ls)
  pub few : length (key_set (read_at T p)) ≤ 16
  pub reads : ReadsHeld T (reads_at T p) (read_set t ls)

-- an unused place has nothing
pub record BlankAt (T : List ℕ) (p : ℕ) : Type 0 where
  pub clock : clock_at T p ≡ 0
  pub written : written_at T p ≡ 0
  pub read : read_at T p ≡ 0

-- each transaction that writes or reads has one place in the first column, and the others are 0
pub record SeatsHeld (us : List ℕ) (ts : List ℕ) : Type 0 where
  pub single : distinct us ≡ true
  pub seated : (t : ℕ) → t ≢ 0 → member t us ≡ member t ts
  pub used : count (λ t. not (eqb t 0)) us ≡ length (once ts)

pub record Holds (T : List ℕ) (ls : List Line) : Type 0 where
  pub size : length T ≡ table_size
  pub fine : AllFine ls
  pub seats : SeatsHeld (take places T) (actors ls)
  pub blank : (p : ℕ) → p < places → txn_at T p ≡ 0 → BlankAt T p
  pub holds : (p t : ℕ) → p < places → txn_at T p ≡ t → t ≢ 0 → HoldsAt T ls p t
