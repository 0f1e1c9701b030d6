-- 02 §10: what is wrong with a line, by the lines above it. "The verdict goes by the paper's definitions, not our search."
use Rattle.std.specs.Prelude.{ℕ, Bool, false, not, cond, List, [], ◌∷◌, ◌++◌, map, eqb, leb, length}
use Rattle.model.specs.declared.Id.{Id}
use Rattle.model.specs.declared.Read.{Read}
use Rattle.model.specs.Lists.{◌and◌, ◌or◌, all, any, member}
use Rattle.model.specs.Ids.{older, same_id}
use Rattle.shoplog.specs.Findings.{Finding}
use Rattle.shoplog.specs.Findings.{Fine, Over, Bad}
use Rattle.shoplog.specs.Lines.{Line, write, commit, read}

-- ── what lines say; `ls` are always the lines above, the nearest first ──
-- what each line gives, of all lines
unfoldable pub gathered : {A : Type 0} → (Line → List A) → List Line → List A
gathered f [] = []
gathered f (l ∷ ls) = f l ++ gathered f ls

-- the ticket of a line that writes or reads
unfoldable pub actor_in : Line → List ℕ
actor_in (write t k) = t ∷ []
actor_in (commit t c) = []
actor_in (read t k i) = t ∷ []

-- the key that ticket t writes
unfoldable pub written_in : ℕ → Line → List ℕ
written_in t (write u k) = cond (eqb t u) (k ∷ []) []
written_in t (commit u c) = []
written_in t (read u k i) = []

-- what ticket t reads: the key, with the id of the version
unfoldable pub read_in : ℕ → Line → List Read
read_in t (write u k) = []
read_in t (commit u c) = []
read_in t (read u k i) = cond (eqb t u) (record { key = k; id = i } ∷ []) []

-- the id that is committed
unfoldable pub commit_in : Line → List Id
commit_in (write t k) = []
commit_in (commit t c) = record { clock = c; txn = t } ∷ []
commit_in (read t k i) = []

-- the tickets that write or read; the write set and the read set of a ticket
unfoldable pub actors : List Line → List ℕ
actors ls = gathered actor_in ls

unfoldable pub write_set : ℕ → List Line → List ℕ
write_set t ls = gathered (written_in t) ls

unfoldable pub read_set : ℕ → List Line → List Read
read_set t ls = gathered (read_in t) ls

unfoldable pub keys_read : ℕ → List Line → List ℕ
keys_read t ls = map (λ (r : Read). r.key) (read_set t ls)

-- the ticket wrote the key; "a committed ticket"; "commit line above with that clock"
unfoldable pub has_written : List Line → ℕ → ℕ → Bool
has_written ls t k = member k (write_set t ls)

unfoldable pub is_committed : List Line → ℕ → Bool
is_committed ls t = any (λ (i : Id). eqb t i.txn) (gathered commit_in ls)

unfoldable pub committed_as : List Line → Id → Bool
committed_as ls i = any (same_id i) (gathered commit_in ls)

-- ── "28: a 65th ticket that writes or reads, a 9th key written or 17th key read by one ticket." ──
-- each number of a list once
unfoldable pub once : List ℕ → List ℕ
once [] = []
once (n ∷ ns) = cond (member n ns) (once ns) (n ∷ once ns)

-- one more, where there are so many different ones already
unfoldable pub one_too_many : ℕ → ℕ → List ℕ → Bool
one_too_many most n ns = not (member n ns) and leb most (length (once ns))

abbrev pub ticket_limit : ℕ
ticket_limit = 64

abbrev pub keys_written_limit : ℕ
keys_written_limit = 8

abbrev pub keys_read_limit : ℕ
keys_read_limit = 16

unfoldable pub is_over : List Line → Line → Bool
is_over ls (write t k) = one_too_many ticket_limit t (actors ls) or one_too_many keys_written_limit k (write_set t ls)
is_over ls (commit t c) = false
is_over ls (read t k i) = one_too_many ticket_limit t (actors ls) or one_too_many keys_read_limit k (keys_read t ls)

-- ── bad ──
-- the paper's Definition 1, Atomic Readset: of any two reads r and q, where r's transaction wrote the key of q, q's version is not older than r's
unfoldable pub is_atomic : List Line → List Read → Bool
is_atomic ls rs = all (λ (r : Read). all (λ (q : Read). not (has_written ls r.id.txn q.key and older q.id r.id)) rs) rs

-- the key is among the reads at another version
unfoldable pub at_another : ℕ → Id → List Read → Bool
at_another k i rs = any (λ (r : Read). eqb r.key k and not (same_id r.id i)) rs

unfoldable pub is_bad : List Line → Line → Bool
-- "A write, read or second commit by a committed ticket is bad"
is_bad ls (write t k) = is_committed ls t
-- "and a commit with no write."
is_bad ls (commit t c) = is_committed ls t or eqb (length (write_set t ls)) 0
-- "A read is bad if its author has no commit line above with that clock or never wrote the key, if its reader wrote the key above, if it breaks the
-- reader's Atomic Readset, or if it takes a key at a second version."
is_bad ls (read t k i) =
    is_committed ls t
    or not (committed_as ls i)
    or not (has_written ls i.txn k)
    or has_written ls t k
    or not (is_atomic ls (record { key = k; id = i } ∷ read_set t ls))
    or at_another k i (read_set t ls)

-- "28 before bad"
unfoldable pub finding_of : List Line → Line → Finding
finding_of ls l = cond (is_over ls l) Over (cond (is_bad ls l) Bad Fine)
