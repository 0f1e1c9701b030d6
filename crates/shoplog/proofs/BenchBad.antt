-- 02 §10: what is bad and what is not, a row for each clause and for each reading that is too careless or too strict.
use Prim.Native.Nat.{ℕ}
use mathlib.Core.Path.{◌≡◌, refl}
use mathlib.Core.List.{List, [], ◌∷◌, ◌++◌, map}
use mathlib.Core.Option.{some}
use Rattle.model.specs.declared.Id.{Id}
use Rattle.model.specs.Lists.{◌and◌, ◌or◌, all, any, member}
use Rattle.model.specs.Ids.{older, same_id}
use Rattle.shoplog.specs.Findings as F
use Rattle.shoplog.specs.declared.Verdict.{Verdict}
use Rattle.shoplog.specs.declared.Verdict.TheVariants.{Clean, Bad}
use Rattle.shoplog.specs.Lines.{Line, write, commit, read}
use Rattle.shoplog.specs.Verdicts.{gathered, actor_in, written_in, read_in, commit_in, actors, write_set, read_set, keys_read, has_written, is_committed, committed_as, once, one_too_many, is_over, is_atomic, at_another, is_bad, finding_of}
use Rattle.shoplog.specs.Logs.{finding_at, line_verdict, or_else, with_line, verdict_from}

-- a log of lines that are of the form
abbrev pub Case : Type 0
Case = List Line × Verdict

-- its verdict, computed by the definitions
unfoldable pub judged : Case → Verdict
unfolding verdict_from with_line or_else line_verdict finding_at finding_of is_bad is_over is_atomic at_another one_too_many once committed_as is_committed has_written keys_read read_set write_set actors gathered commit_in read_in written_in actor_in all any member ◌and◌ ◌or◌ older same_id
judged x = verdict_from [] 1 (map some x.0)

unfoldable pub expected : Case → Verdict
expected x = x.1

abbrev pub id : ℕ → ℕ → Id
id c t = record { clock = c; txn = t }

-- tickets
pub tickets : List Case
tickets =
    -- "A write, read or second commit by a committed ticket is bad"
    (write 5 1 ∷ commit 5 7 ∷ write 5 2 ∷ [], Bad 3)
    ∷ (write 5 1 ∷ commit 5 7 ∷ write 5 1 ∷ [], Bad 3)
    ∷ (write 5 1 ∷ commit 5 7 ∷ write 6 2 ∷ commit 6 8 ∷ read 6 1 (id 7 5) ∷ [], Bad 5)
    ∷ (write 5 1 ∷ commit 5 7 ∷ commit 5 8 ∷ [], Bad 3)
    ∷ (write 5 1 ∷ commit 5 7 ∷ commit 5 7 ∷ [], Bad 3)
    -- "and a commit with no write": nothing at all, reads alone, a write below it, another's write
    ∷ (commit 5 7 ∷ [], Bad 1)
    ∷ (write 5 1 ∷ commit 5 7 ∷ read 6 1 (id 7 5) ∷ commit 6 8 ∷ [], Bad 4)
    ∷ (commit 5 7 ∷ write 5 1 ∷ [], Bad 1)
    ∷ (write 4 1 ∷ commit 5 7 ∷ [], Bad 2)
    -- a ticket need not commit; clocks need not ascend, and two tickets may have one clock
    ∷ (write 5 1 ∷ write 6 1 ∷ [], Clean)
    ∷ (write 4 1 ∷ commit 4 9 ∷ write 5 1 ∷ commit 5 7 ∷ write 6 1 ∷ commit 6 7 ∷ [], Clean)
    ∷ []

-- one read
pub versions : List Case
versions =
    -- "A read is bad if its author has no commit line above with that clock": none at all, another clock, another ticket with that clock, below alone
    (write 5 1 ∷ read 6 1 (id 7 5) ∷ [], Bad 2)
    ∷ (write 5 1 ∷ commit 5 7 ∷ read 6 1 (id 8 5) ∷ [], Bad 3)
    ∷ (write 4 1 ∷ write 5 1 ∷ commit 5 7 ∷ read 6 1 (id 7 4) ∷ [], Bad 4)
    ∷ (write 5 1 ∷ read 6 1 (id 7 5) ∷ commit 5 7 ∷ [], Bad 2)
    -- "or never wrote the key": another key, another's write of it, below alone
    ∷ (write 5 2 ∷ commit 5 7 ∷ read 6 1 (id 7 5) ∷ [], Bad 3)
    ∷ (write 4 1 ∷ write 5 2 ∷ commit 5 7 ∷ read 6 1 (id 7 5) ∷ [], Bad 4)
    ∷ (write 5 2 ∷ commit 5 7 ∷ read 6 1 (id 7 5) ∷ write 5 1 ∷ [], Bad 3)
    -- "if its reader wrote the key above": not another key, nor below
    ∷ (write 5 1 ∷ commit 5 7 ∷ write 6 1 ∷ read 6 1 (id 7 5) ∷ [], Bad 4)
    ∷ (write 5 1 ∷ commit 5 7 ∷ write 6 2 ∷ read 6 1 (id 7 5) ∷ commit 6 8 ∷ [], Clean)
    ∷ (write 5 1 ∷ commit 5 7 ∷ read 6 1 (id 7 5) ∷ write 6 1 ∷ commit 6 8 ∷ [], Clean)
    -- "not our search": an older version than the newest may be read
    ∷ (write 4 1 ∷ commit 4 3 ∷ write 5 1 ∷ commit 5 7 ∷ read 6 1 (id 3 4) ∷ [], Clean)
    -- "or if it takes a key at a second version": in either order; the same version again is fine, and another reader's other version
    ∷ (write 4 1 ∷ commit 4 3 ∷ write 5 1 ∷ commit 5 7 ∷ read 6 1 (id 3 4) ∷ read 6 1 (id 7 5) ∷ [], Bad 6)
    ∷ (write 4 1 ∷ commit 4 3 ∷ write 5 1 ∷ commit 5 7 ∷ read 6 1 (id 7 5) ∷ read 6 1 (id 3 4) ∷ [], Bad 6)
    ∷ (write 4 1 ∷ commit 4 3 ∷ write 5 1 ∷ commit 5 7 ∷ read 6 1 (id 3 4) ∷ read 6 1 (id 3 4) ∷ [], Clean)
    ∷ (write 4 1 ∷ commit 4 3 ∷ write 5 1 ∷ commit 5 7 ∷ read 6 1 (id 3 4) ∷ read 8 1 (id 7 5) ∷ [], Clean)
    ∷ []

-- 4 writes key 2, and 5 keys 1 and 2
pub two_writers : ℕ → ℕ → List Line
two_writers c d = write 4 2 ∷ commit 4 c ∷ write 5 1 ∷ write 5 2 ∷ commit 5 d ∷ []

-- "if it breaks the reader's Atomic Readset": key 1 of 5 with key 2 of 4
pub readsets : List Case
readsets =
    -- 4 is older: fractured, whichever is read first
    (two_writers 3 7 ++ (read 6 1 (id 7 5) ∷ read 6 2 (id 3 4) ∷ []), Bad 7)
    ∷ (two_writers 3 7 ++ (read 6 2 (id 3 4) ∷ read 6 1 (id 7 5) ∷ []), Bad 7)
    -- so too with other reads between
    ∷ (write 3 9 ∷ commit 3 1 ∷ two_writers 3 7 ++ (read 6 2 (id 3 4) ∷ read 6 9 (id 1 3) ∷ read 6 1 (id 7 5) ∷ []), Bad 10)
    -- of one clock, 4 is older by its ticket
    ∷ (two_writers 7 7 ++ (read 6 1 (id 7 5) ∷ read 6 2 (id 7 4) ∷ []), Bad 7)
    ∷ (two_writers 7 7 ++ (read 6 2 (id 7 4) ∷ read 6 1 (id 7 5) ∷ []), Bad 7)
    -- 4 is newer by its clock, though its ticket is lower and it committed first
    ∷ (two_writers 8 7 ++ (read 6 1 (id 7 5) ∷ read 6 2 (id 8 4) ∷ []), Clean)
    ∷ (two_writers 8 7 ++ (read 6 2 (id 8 4) ∷ read 6 1 (id 7 5) ∷ []), Clean)
    -- both of 5; and by two readers
    ∷ (two_writers 3 7 ++ (read 6 1 (id 7 5) ∷ read 6 2 (id 7 5) ∷ []), Clean)
    ∷ (two_writers 3 7 ++ (read 6 1 (id 7 5) ∷ read 8 2 (id 3 4) ∷ []), Clean)
    ∷ []

pub tickets-hold : map judged tickets ≡ map expected tickets
unfolding tickets judged expected
tickets-hold = refl

pub versions-hold : map judged versions ≡ map expected versions
unfolding versions judged expected
versions-hold = refl

pub readsets-hold : map judged readsets ≡ map expected readsets
unfolding two_writers readsets judged expected
readsets-hold = refl

-- a second version is bad by itself, below lines as no clean log has them, listed from the last: nobody wrote what was read first, so Definition 1 is kept
pub second-version-bad : finding_of (commit 4 3 ∷ write 4 1 ∷ read 6 1 (id 7 5) ∷ []) (read 6 1 (id 3 4)) ≡ F.Bad
unfolding judged
second-version-bad = refl
