-- What the table of the lines above says of a line, and the table after it.
use Rattle.std.specs.Prelude.{ℕ, List}
use Rattle.std.proofs.Math.Option.{Option, some, none}
use Rattle.shoplog.specs.Findings.{Finding}
use Rattle.shoplog.specs.declared.Verdict.{Verdict}
use Rattle.shoplog.specs.declared.Verdict.TheVariants.{Refused}
use Rattle.shoplog.specs.Lines.{Line, write, commit, read}
use Rattle.shoplog.specs.Logs.{finding_at}
use Rattle.logtable.specs.Tables.{seat_of, after_write, after_commit, after_read}
use Rattle.logtable.specs.Findings.{write_found, commit_found, read_found}
use Rattle.logtable.specs.Parts.{if_fine}

unfoldable pub found : List ℕ → Line → Finding
found T (write t k) = write_found T (seat_of T t) k
found T (commit t c) = commit_found T (seat_of T t)
found T (read t k i) = read_found T (seat_of T t) (seat_of T i.txn) k i.clock

unfoldable pub table_with : List ℕ → Line → List ℕ
table_with T (write t k) = after_write T (seat_of T t) t k
table_with T (commit t c) = after_commit T (seat_of T t) c
table_with T (read t k i) = after_read T (seat_of T t) (seat_of T i.txn) t k

-- line n
unfoldable pub verdict_by : List ℕ → ℕ → Option Line → Verdict
verdict_by T n none = Refused 19 n
verdict_by T n (some l) = finding_at n (found T l)

unfoldable pub table_after : List ℕ → Option Line → List ℕ
table_after T none = T
table_after T (some l) = if_fine (found T l) (table_with T l) T
