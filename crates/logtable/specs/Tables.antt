-- What the code keeps of the lines above, as one list of numbers: 64 transactions in the order in which they first wrote or read. It is no part of
-- the verdict's definition (shoplog's specs/Verdicts): that it says the same is `Holds` and the laws about it.
use Rattle.std.specs.Prelude.{ℕ, ◌+◌, ◌*◌, ◌/◌, ◌%◌, min, cond, List, eqb, length, take, drop, get_or, set}
use Rattle.model.specs.declared.Id.{Id}
use Rattle.model.specs.Lists.{first, member, insert}
use Rattle.model.specs.KeySets.{key_set, set_number}

-- columns of 64: the transactions, 0 where a place is unused; their clocks, 0 until they commit; the keys that they wrote and those that they read,
-- as numbers in which bit k stands for key k; after these 16 reads of each
abbrev pub places : ℕ
places = 64

abbrev pub table_size : ℕ
table_size = 1280

abbrev pub txn_at : List ℕ → ℕ → ℕ
txn_at T p = get_or T p 0

abbrev pub clock_at : List ℕ → ℕ → ℕ
clock_at T p = get_or T (64 + p) 0

abbrev pub written_at : List ℕ → ℕ → ℕ
written_at T p = get_or T (128 + p) 0

abbrev pub read_at : List ℕ → ℕ → ℕ
read_at T p = get_or T (192 + p) 0

-- where the reads of a place begin
abbrev pub reads_start : ℕ → ℕ
reads_start p = 256 + 16 * p

-- the reads of a place: as many as keys, 16 at most, each a key and the place of the author
unfoldable pub read_count : List ℕ → ℕ → ℕ
read_count T p = min (length (key_set (read_at T p))) 16

unfoldable pub reads_at : List ℕ → ℕ → List ℕ
reads_at T p = take (read_count T p) (drop (reads_start p) T)

abbrev pub key_of : ℕ → ℕ
key_of r = r % 64

abbrev pub author_of : ℕ → ℕ
author_of r = r / 64 % 64

abbrev pub read_word : ℕ → ℕ → ℕ
read_word k a = k + 64 * a

-- the id of a place
abbrev pub id_at : List ℕ → ℕ → Id
id_at T p = record { clock = clock_at T p; txn = txn_at T p }

-- the place of a number among the transactions; 64 where it is not there
unfoldable pub place_of : List ℕ → ℕ → ℕ
place_of T t = first (eqb t) (take places T)

-- where a transaction is, or would be: the first unused place; 64 where there is none
unfoldable pub seat_of : List ℕ → ℕ → ℕ
seat_of T t = cond (member t (take places T)) (place_of T t) (place_of T 0)

-- a set with one key more, as a number
unfoldable pub with_key : ℕ → ℕ → ℕ
with_key n k = set_number (insert (λ (x : ℕ). x) k (key_set n))

-- ── the table after a line that is fine; p and a are the places of its transaction and of its author ──
unfoldable pub after_write : List ℕ → ℕ → ℕ → ℕ → List ℕ
after_write T p t k = set (set T p t) (128 + p) (with_key (written_at T p) k)

unfoldable pub after_commit : List ℕ → ℕ → ℕ → List ℕ
after_commit T p c = set T (64 + p) c

unfoldable pub after_read : List ℕ → ℕ → ℕ → ℕ → ℕ → List ℕ
after_read T p a t k =
    cond (member k (key_set (read_at T p))) T
    (set (set (set T p t) (192 + p) (with_key (read_at T p) k)) (reads_start p + length (key_set (read_at T p))) (read_word k a))
