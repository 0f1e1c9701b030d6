-- `storing::store_commit` meets its contract.
use Rattle.model.specs.Entries.{commit_record}
use Rattle.model.specs.Listed.{kind_of, listed_entry}
use Rattle.model.proofs.RecordLaws.{record-written}
use Rattle.storing.proofs.store_commit.Goals as goal

pub returns : goal.returns
returns c =
    let p = c in
    let a = p.args in
    let w = c.write_commit in
    record-written (kind_of a.kind) a.store.now w.new.part (commit_record (kind_of a.kind) (listed_entry a.e)) a.slot 0 p.record_place-at.result p.record_place-at.ensures.0 w.ensures
