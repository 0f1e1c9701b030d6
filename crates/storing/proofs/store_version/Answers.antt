-- `storing::store_version` meets its contract.
use Rattle.model.specs.Records.{version_record}
use Rattle.model.specs.Listed.{kind_of}
use Rattle.model.proofs.RecordLaws.{record-written}
use Rattle.storing.proofs.store_version.Goals as goal

pub returns : goal.returns
returns c =
    let p = c in
    let a = p.args in
    let w = c.write_version in
    record-written (kind_of a.kind) a.store.now w.new.part (version_record a.key a.id a.value) a.slot a.n p.record_place-at.result p.record_place-at.ensures.0 w.ensures
