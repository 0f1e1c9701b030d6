-- What a step that stores a record answers and stores, its transaction having n records stored.
use Rattle.std.specs.Prelude.{ℕ, ◌+◌, cond, List, ltb, get_or}
use Rattle.model.specs.Kinds.{Kind}
use Rattle.model.specs.Types.{Entry, Write, Live}
use Rattle.model.specs.declared.Answer.{Answer}
use Rattle.model.specs.declared.Answer.TheVariants as A
use Rattle.model.specs.Lives.{no_write, write_count}
use Rattle.model.specs.Entries.{commit_record}
use Rattle.model.specs.Records.{version_record, with_record}

unfoldable pub record_answer : Live → ℕ → ℕ → Answer
record_answer l d n = cond (ltb n (write_count l)) (A.Stored (get_or l.writes n no_write).key) (A.Slipped d)

unfoldable pub record_stored : Kind → Live → Entry → ℕ → ℕ → List ℕ → List ℕ
record_stored κ l e d n s =
    let w : Write = get_or l.writes n no_write in
    cond (ltb n (write_count l)) (with_record κ s d (n + 1) (version_record w.key e.id w.value)) (with_record κ s d 0 (commit_record κ e))
