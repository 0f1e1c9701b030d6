-- 02 §10: the verdict on some logs, computed from their bytes: the form of a line, and which line is named.
use Prim.Native.Nat.{ℕ}
use mathlib.Core.Path.{◌≡◌, refl}
use mathlib.Core.List.{List, [], ◌∷◌, map}
use Rattle.model.specs.Lists.{◌and◌, ◌or◌, all, any, member, same}
use Rattle.model.specs.Ids.{older, same_id}
use Rattle.decimal.specs.Digits.{is_digit, number_from, is_decimal, number_below}
use Rattle.decimal.specs.Fields.{field, after_field}
use Rattle.lines.specs.Lines.{first_line, other_lines}
use Rattle.shoplog.specs.declared.Verdict.{Verdict}
use Rattle.shoplog.specs.declared.Verdict.TheVariants.{Clean, Bad, Refused}
use Rattle.shoplog.specs.Lines.{kind_bytes, kind_in, line_if, line_named, of_fields, fifth, fourth, third, second, line_in}
use Rattle.shoplog.specs.Verdicts.{gathered, actor_in, written_in, read_in, commit_in, actors, write_set, read_set, keys_read, has_written, is_committed, committed_as, once, one_too_many, is_over, is_atomic, at_another, is_bad, finding_of}
use Rattle.lines.specs.Lines.{lines_from, lines_in}
use Rattle.shoplog.specs.Logs.{finding_at, line_verdict, or_else, with_line, verdict_from, verdict_of}

-- lines that begin with `write,`, `commit,` and `read,`
abbrev writes : List ℕ → List ℕ
writes bs = 119 ∷ 114 ∷ 105 ∷ 116 ∷ 101 ∷ 44 ∷ bs

abbrev commits : List ℕ → List ℕ
commits bs = 99 ∷ 111 ∷ 109 ∷ 109 ∷ 105 ∷ 116 ∷ 44 ∷ bs

abbrev reads : List ℕ → List ℕ
reads bs = 114 ∷ 101 ∷ 97 ∷ 100 ∷ 44 ∷ bs

-- logs, each with its verdict
pub logs : List (List ℕ × Verdict)
logs =
    -- nothing
    ([], Clean)
    -- a transaction, and a read of it: `write,5,2,0,0`, `commit,5,0,7,0`, `read,6,2,7,5`
    ∷ (writes (53 ∷ 44 ∷ 50 ∷ 44 ∷ 48 ∷ 44 ∷ 48 ∷ 10 ∷ commits (53 ∷ 44 ∷ 48 ∷ 44 ∷ 55 ∷ 44 ∷ 48 ∷ 10 ∷ reads (54 ∷ 44 ∷ 50 ∷ 44 ∷ 55 ∷ 44 ∷ 53 ∷ 10 ∷ []))), Clean)
    -- no last newline: `write,5,2,0,0`, `commit,5,0,7,0`, `read,6,2,7,5`
    ∷ (writes (53 ∷ 44 ∷ 50 ∷ 44 ∷ 48 ∷ 44 ∷ 48 ∷ 10 ∷ commits (53 ∷ 44 ∷ 48 ∷ 44 ∷ 55 ∷ 44 ∷ 48 ∷ 10 ∷ reads (54 ∷ 44 ∷ 50 ∷ 44 ∷ 55 ∷ 44 ∷ 53 ∷ []))), Clean)
    -- the ends of the ranges: `write,4294967295,63,0,0`, `commit,4294967295,0,18446744073709551615,0`, `read,1,63,18446744073709551615,4294967295`
    ∷ (writes (52 ∷ 50 ∷ 57 ∷ 52 ∷ 57 ∷ 54 ∷ 55 ∷ 50 ∷ 57 ∷ 53 ∷ 44 ∷ 54 ∷ 51 ∷ 44 ∷ 48 ∷ 44 ∷ 48 ∷ 10 ∷ commits (52 ∷ 50 ∷ 57 ∷ 52 ∷ 57 ∷ 54 ∷ 55 ∷ 50 ∷ 57 ∷ 53 ∷ 44 ∷ 48 ∷ 44 ∷ 49 ∷ 56 ∷ 52 ∷ 52 ∷ 54 ∷ 55 ∷ 52 ∷ 52 ∷ 48 ∷ 55 ∷ 51 ∷ 55 ∷ 48 ∷ 57 ∷ 53 ∷ 53 ∷ 49 ∷ 54 ∷ 49 ∷ 53 ∷ 44 ∷ 48 ∷ 10 ∷ reads (49 ∷ 44 ∷ 54 ∷ 51 ∷ 44 ∷ 49 ∷ 56 ∷ 52 ∷ 52 ∷ 54 ∷ 55 ∷ 52 ∷ 52 ∷ 48 ∷ 55 ∷ 51 ∷ 55 ∷ 48 ∷ 57 ∷ 53 ∷ 53 ∷ 49 ∷ 54 ∷ 49 ∷ 53 ∷ 44 ∷ 52 ∷ 50 ∷ 57 ∷ 52 ∷ 57 ∷ 54 ∷ 55 ∷ 50 ∷ 57 ∷ 53 ∷ 10 ∷ []))), Clean)
    -- key 64 is 19 here, not 4: `write,5,64,0,0`
    ∷ (writes (53 ∷ 44 ∷ 54 ∷ 52 ∷ 44 ∷ 48 ∷ 44 ∷ 48 ∷ 10 ∷ []), Refused 19 1)
    -- ticket 2^32, clock 2^64: `write,4294967296,2,0,0`
    ∷ (writes (52 ∷ 50 ∷ 57 ∷ 52 ∷ 57 ∷ 54 ∷ 55 ∷ 50 ∷ 57 ∷ 54 ∷ 44 ∷ 50 ∷ 44 ∷ 48 ∷ 44 ∷ 48 ∷ 10 ∷ []), Refused 19 1)
    -- `commit,5,0,18446744073709551616,0`
    ∷ (commits (53 ∷ 44 ∷ 48 ∷ 44 ∷ 49 ∷ 56 ∷ 52 ∷ 52 ∷ 54 ∷ 55 ∷ 52 ∷ 52 ∷ 48 ∷ 55 ∷ 51 ∷ 55 ∷ 48 ∷ 57 ∷ 53 ∷ 53 ∷ 49 ∷ 54 ∷ 49 ∷ 54 ∷ 44 ∷ 48 ∷ 10 ∷ []), Refused 19 1)
    -- ticket, clock and author 0 where they are named: `write,0,2,0,0`
    ∷ (writes (48 ∷ 44 ∷ 50 ∷ 44 ∷ 48 ∷ 44 ∷ 48 ∷ 10 ∷ []), Refused 19 1)
    -- `commit,0,0,7,0`
    ∷ (commits (48 ∷ 44 ∷ 48 ∷ 44 ∷ 55 ∷ 44 ∷ 48 ∷ 10 ∷ []), Refused 19 1)
    -- `commit,5,0,0,0`
    ∷ (commits (53 ∷ 44 ∷ 48 ∷ 44 ∷ 48 ∷ 44 ∷ 48 ∷ 10 ∷ []), Refused 19 1)
    -- `read,0,2,7,5`
    ∷ (reads (48 ∷ 44 ∷ 50 ∷ 44 ∷ 55 ∷ 44 ∷ 53 ∷ 10 ∷ []), Refused 19 1)
    -- `read,6,2,0,5`
    ∷ (reads (54 ∷ 44 ∷ 50 ∷ 44 ∷ 48 ∷ 44 ∷ 53 ∷ 10 ∷ []), Refused 19 1)
    -- `read,6,2,7,0`
    ∷ (reads (54 ∷ 44 ∷ 50 ∷ 44 ∷ 55 ∷ 44 ∷ 48 ∷ 10 ∷ []), Refused 19 1)
    -- "unused fields are 0": `write,5,2,7,0`
    ∷ (writes (53 ∷ 44 ∷ 50 ∷ 44 ∷ 55 ∷ 44 ∷ 48 ∷ 10 ∷ []), Refused 19 1)
    -- `write,5,2,0,5`
    ∷ (writes (53 ∷ 44 ∷ 50 ∷ 44 ∷ 48 ∷ 44 ∷ 53 ∷ 10 ∷ []), Refused 19 1)
    -- `commit,5,2,7,0`
    ∷ (commits (53 ∷ 44 ∷ 50 ∷ 44 ∷ 55 ∷ 44 ∷ 48 ∷ 10 ∷ []), Refused 19 1)
    -- `commit,5,0,7,5`
    ∷ (commits (53 ∷ 44 ∷ 48 ∷ 44 ∷ 55 ∷ 44 ∷ 53 ∷ 10 ∷ []), Refused 19 1)
    -- four fields, six, one that is empty, a needless 0, another kind, an empty line: `write,5,2,0`
    ∷ (writes (53 ∷ 44 ∷ 50 ∷ 44 ∷ 48 ∷ 10 ∷ []), Refused 19 1)
    -- `write,5,2,0,0,0`
    ∷ (writes (53 ∷ 44 ∷ 50 ∷ 44 ∷ 48 ∷ 44 ∷ 48 ∷ 44 ∷ 48 ∷ 10 ∷ []), Refused 19 1)
    -- `write,5,,0,0`
    ∷ (writes (53 ∷ 44 ∷ 44 ∷ 48 ∷ 44 ∷ 48 ∷ 10 ∷ []), Refused 19 1)
    -- `write,05,2,0,0`
    ∷ (writes (48 ∷ 53 ∷ 44 ∷ 50 ∷ 44 ∷ 48 ∷ 44 ∷ 48 ∷ 10 ∷ []), Refused 19 1)
    -- `put,5,2,0,0`
    ∷ (112 ∷ 117 ∷ 116 ∷ 44 ∷ 53 ∷ 44 ∷ 50 ∷ 44 ∷ 48 ∷ 44 ∷ 48 ∷ 10 ∷ [], Refused 19 1)
    -- `write,5,2,0,0`, ``, `commit,5,0,7,0`
    ∷ (writes (53 ∷ 44 ∷ 50 ∷ 44 ∷ 48 ∷ 44 ∷ 48 ∷ 10 ∷ 10 ∷ commits (53 ∷ 44 ∷ 48 ∷ 44 ∷ 55 ∷ 44 ∷ 48 ∷ 10 ∷ [])), Refused 19 2)
    -- "the first refused or bad one is the whole answer": a bad line above a refused one, and below: `write,5,2,0,0`, `read,6,2,7,5`, `put`
    ∷ (writes (53 ∷ 44 ∷ 50 ∷ 44 ∷ 48 ∷ 44 ∷ 48 ∷ 10 ∷ reads (54 ∷ 44 ∷ 50 ∷ 44 ∷ 55 ∷ 44 ∷ 53 ∷ 10 ∷ 112 ∷ 117 ∷ 116 ∷ 10 ∷ [])), Bad 2)
    -- `put`, `read,6,2,7,5`
    ∷ (112 ∷ 117 ∷ 116 ∷ 10 ∷ reads (54 ∷ 44 ∷ 50 ∷ 44 ∷ 55 ∷ 44 ∷ 53 ∷ 10 ∷ []), Refused 19 1)
    -- "19 before 28": a ninth key, and it is 64
    ∷ (writes (53 ∷ 44 ∷ 48 ∷ 44 ∷ 48 ∷ 44 ∷ 48 ∷ 10 ∷ writes (53 ∷ 44 ∷ 49 ∷ 44 ∷ 48 ∷ 44 ∷ 48 ∷ 10 ∷ writes (53 ∷ 44 ∷ 50 ∷ 44 ∷ 48 ∷ 44 ∷ 48 ∷ 10 ∷ writes (53 ∷ 44 ∷ 51 ∷ 44 ∷ 48 ∷ 44 ∷ 48 ∷ 10 ∷ writes (53 ∷ 44 ∷ 52 ∷ 44 ∷ 48 ∷ 44 ∷ 48 ∷ 10 ∷ writes (53 ∷ 44 ∷ 53 ∷ 44 ∷ 48 ∷ 44 ∷ 48 ∷ 10 ∷ writes (53 ∷ 44 ∷ 54 ∷ 44 ∷ 48 ∷ 44 ∷ 48 ∷ 10 ∷ writes (53 ∷ 44 ∷ 55 ∷ 44 ∷ 48 ∷ 44 ∷ 48 ∷ 10 ∷ writes (53 ∷ 44 ∷ 54 ∷ 52 ∷ 44 ∷ 48 ∷ 44 ∷ 48 ∷ 10 ∷ []))))))))), Refused 19 9)
    ∷ []

-- The claim: each log has the verdict that stands beside it.
pub logs-hold : map (λ (x : List ℕ × Verdict). verdict_of x.0) logs ≡ map (λ (x : List ℕ × Verdict). x.1) logs
unfolding logs verdict_of lines_in lines_from first_line other_lines line_in second third fourth fifth of_fields line_named line_if kind_in kind_bytes same field after_field number_below is_decimal number_from is_digit all any member ◌and◌ ◌or◌ older same_id verdict_from with_line or_else line_verdict finding_at finding_of is_bad is_over is_atomic at_another one_too_many once committed_as is_committed has_written keys_read read_set write_set actors gathered commit_in read_in written_in actor_in
logs-hold = refl
