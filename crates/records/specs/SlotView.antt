-- What is seen of a slot (drawer), as the code hands it on.
use Rattle.model.specs.Listed.{listed_entry}
use Rattle.model.specs.Slots.{Seen, free, committed, damaged}
use Rattle.records.specs.declared.Slot.{Slot}
use Rattle.records.specs.declared.Slot.TheVariants.{Free, Committed, Damaged}

unfoldable pub seen_as : Slot → Seen
seen_as Free = free
seen_as (Committed e) = committed (listed_entry e)
seen_as Damaged = damaged
