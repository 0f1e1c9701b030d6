-- 02 §10: "28: a 65th ticket that writes or reads, a 9th key written or 17th key read by one ticket. 19 before 28, 28 before bad.", at each limit.
use Prim.Native.Nat.{ℕ}
use mathlib.Core.Path.{◌≡◌, refl}
use mathlib.Core.List.{List, [], ◌∷◌, ◌++◌, map}
use mathlib.Core.Option.{some, none}
use Rattle.model.specs.Lists.{from}
use Rattle.shoplog.specs.Findings as F
use Rattle.shoplog.specs.declared.Verdict.TheVariants.{Clean, Bad, Refused}
use Rattle.shoplog.specs.Lines.{Line, write, commit, read}
use Rattle.shoplog.specs.Verdicts.{finding_of}
use Rattle.shoplog.specs.Logs.{verdict_from}
use Rattle.shoplog.proofs.BenchBad.{Case, judged, expected, id}

-- ticket t writes n keys from k on
pub writing : ℕ → ℕ → ℕ → List Line
writing t n k = from n k (λ j. write t j)

-- ticket 1 has written eight keys
pub keys_written : List Case
keys_written =
    (writing 1 8 0 ++ (write 1 8 ∷ []), Refused 28 9)
    -- an old key is no new one; another ticket's are its own
    ∷ (writing 1 8 0 ++ (write 1 3 ∷ []), Clean)
    ∷ (writing 1 8 0 ++ (write 2 8 ∷ []), Clean)
    -- nor does it count twice
    ∷ (write 1 0 ∷ writing 1 7 0 ++ (write 1 8 ∷ []), Clean)
    ∷ (write 1 0 ∷ writing 1 8 0 ++ (write 1 8 ∷ []), Refused 28 10)
    -- "28 before bad": committed, a new key and an old one
    ∷ (writing 1 8 0 ++ (commit 1 7 ∷ write 1 8 ∷ []), Refused 28 10)
    ∷ (writing 1 8 0 ++ (commit 1 7 ∷ write 1 3 ∷ []), Bad 10)
    ∷ []

-- tickets 1, 2 and 3 write keys 0 to 7, 8 to 15 and 16; ticket 9 reads the first n
pub reading : ℕ → List Line
reading n =
    writing 1 8 0 ++ (commit 1 7 ∷ writing 2 8 8) ++ (commit 2 7 ∷ write 3 16 ∷ commit 3 7 ∷ from 8 0 (λ j. read 9 j (id 7 1)))
    ++ from n 8 (λ j. read 9 j (id 7 2))

pub keys_read : List Case
keys_read =
    (reading 8 ++ (read 9 16 (id 7 3) ∷ []), Refused 28 37)
    ∷ (reading 7 ++ (read 9 16 (id 7 3) ∷ []), Clean)
    -- an old key is no new one, nor does it count twice; another ticket's are its own; a key written is no key read
    ∷ (reading 8 ++ (read 9 3 (id 7 1) ∷ []), Clean)
    ∷ (reading 7 ++ (read 9 3 (id 7 1) ∷ read 9 16 (id 7 3) ∷ []), Clean)
    ∷ (reading 8 ++ (read 8 16 (id 7 3) ∷ []), Clean)
    ∷ (reading 8 ++ (write 9 16 ∷ []), Clean)
    -- "28 before bad": of nobody's version, a new key and an old one
    ∷ (reading 8 ++ (read 9 16 (id 7 4) ∷ []), Refused 28 37)
    ∷ (reading 8 ++ (read 9 3 (id 7 4) ∷ []), Bad 37)
    ∷ []

-- tickets 1 to n write key 0
pub acting : ℕ → List Line
acting n = from n 1 (λ t. write t 0)

pub tickets_acting : List Case
tickets_acting =
    (acting 64 ++ (write 65 0 ∷ []), Refused 28 65)
    ∷ (acting 64 ++ (commit 1 7 ∷ read 65 0 (id 7 1) ∷ []), Refused 28 66)
    -- the 64th may be a reader
    ∷ (acting 63 ++ (commit 1 7 ∷ read 64 0 (id 7 1) ∷ write 65 1 ∷ []), Refused 28 66)
    -- an old ticket goes on, and does not count twice
    ∷ (acting 64 ++ (write 64 1 ∷ commit 64 7 ∷ []), Clean)
    ∷ (acting 63 ++ (write 63 1 ∷ write 64 0 ∷ []), Clean)
    -- a commit adds no ticket, nor does an author named: such lines are bad
    ∷ (acting 64 ++ (commit 65 7 ∷ []), Bad 65)
    ∷ (acting 64 ++ (read 64 1 (id 7 65) ∷ []), Bad 65)
    -- "28 before bad": of nobody's version
    ∷ (acting 64 ++ (read 65 0 (id 7 99) ∷ []), Refused 28 65)
    ∷ []

pub keys-written-hold : map judged keys_written ≡ map expected keys_written
unfolding keys_written writing from judged expected
keys-written-hold = refl

pub keys-read-hold : map judged keys_read ≡ map expected keys_read
unfolding keys_read reading writing from judged expected
keys-read-hold = refl

pub tickets-acting-hold : map judged tickets_acting ≡ map expected tickets_acting
unfolding tickets_acting acting from judged expected
tickets-acting-hold = refl

-- "19 before 28": a line that is none has no ticket to be the 65th
pub no-line-holds : verdict_from [] 1 (map some (acting 64) ++ (none ∷ [])) ≡ Refused 19 65
unfolding acting from judged
no-line-holds = refl

-- ── one line, below lines as no clean log has them; those are listed from the last ──
-- 64 tickets commit and have written nothing, or are named as authors: neither adds one
pub commits-add-none : finding_of (from 64 1 (λ t. commit t 7)) (write 65 0) ≡ F.Fine
unfolding from judged
commits-add-none = refl

pub authors-add-none : finding_of (from 64 1 (λ t. read 1 0 (id 7 t))) (write 65 0) ≡ F.Fine
unfolding from judged
authors-add-none = refl
