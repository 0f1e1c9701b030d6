-- What the code finds of a line, by the table of those above. p is the place of the line's transaction, a that of its author.
use Rattle.std.specs.Prelude.{ℕ, Bool, not, cond, List, eqb, leb, length}
use Rattle.model.specs.Lists.{◌and◌, ◌or◌, any, member}
use Rattle.model.specs.Ids.{older}
use Rattle.model.specs.KeySets.{key_set}
use Rattle.shoplog.specs.Findings.{Finding}
use Rattle.shoplog.specs.Findings.{Fine, Over, Bad}
use Rattle.logtable.specs.Tables.{places, clock_at, written_at, read_at, reads_at, key_of, author_of, read_word, id_at}

-- a key that is not in a set which has so many
unfoldable pub full_for : ℕ → ℕ → ℕ → Bool
full_for most n k = not (member k (key_set n)) and leb most (length (key_set n))

unfoldable pub write_found : List ℕ → ℕ → ℕ → Finding
write_found T p k = cond (leb places p or full_for 8 (written_at T p) k) Over (cond (eqb (clock_at T p) 0) Fine Bad)

unfoldable pub commit_found : List ℕ → ℕ → Finding
commit_found T p = cond (leb places p or not (eqb (clock_at T p) 0) or eqb (written_at T p) 0) Bad Fine

-- two places' ids, the first older
unfoldable pub older_at : List ℕ → ℕ → ℕ → Bool
older_at T a b = older (id_at T a) (id_at T b)

-- an earlier read of key l at place b, and this one of key k at place a, are no Atomic Readset: in either direction
unfoldable pub clash : List ℕ → ℕ → ℕ → ℕ → ℕ → Bool
clash T k a l b =
    (member l (key_set (written_at T a)) and older_at T b a)
    or (member k (key_set (written_at T b)) and older_at T a b)

-- some read of the place is no Atomic Readset with this one
unfoldable pub clashes : List ℕ → ℕ → ℕ → ℕ → Bool
clashes T p k a = any (λ r. clash T k a (key_of r) (author_of r)) (reads_at T p)

-- no read of the place is of this key at this version: the key was read at another
unfoldable pub is_another : List ℕ → ℕ → ℕ → ℕ → Bool
is_another T p k a = not (member (read_word k a) (reads_at T p))

-- this read does not stand together with those of the place. Where the key was read before, it is one of them or has another version
unfoldable pub unfit : List ℕ → ℕ → ℕ → ℕ → Bool
unfit T p k a = cond (member k (key_set (read_at T p))) (is_another T p k a) (clashes T p k a)

-- the author has no commit with that clock, or did not write the key
unfoldable pub is_unknown : List ℕ → ℕ → ℕ → ℕ → Bool
is_unknown T a k c = leb places a or not (eqb (clock_at T a) c) or not (member k (key_set (written_at T a)))

unfoldable pub read_found : List ℕ → ℕ → ℕ → ℕ → ℕ → Finding
read_found T p a k c =
    cond (leb places p or full_for 16 (read_at T p) k) Over
    (cond (not (eqb (clock_at T p) 0) or is_unknown T a k c or member k (key_set (written_at T p)) or unfit T p k a) Bad Fine)
