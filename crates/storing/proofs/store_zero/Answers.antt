-- `storing::store_zero` meets its contract.
use Rattle.model.specs.Records.{zero_record}
use Rattle.model.specs.Listed.{kind_of}
use Rattle.model.proofs.RecordLaws.{record-written}
use Rattle.storing.proofs.store_zero.Goals as goal

pub returns : goal.returns
returns c =
    let p = c in
    let a = p.args in
    let w = c.write_zero in
    record-written (kind_of a.kind) a.store.now w.new.part zero_record a.slot 0 p.record_place-commit.result p.record_place-commit.ensures.0 w.ensures
