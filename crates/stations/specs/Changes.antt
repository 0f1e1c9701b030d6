-- What a change makes of a station. Every call but a scan alters at most one place and one slot.
use Rattle.std.specs.Prelude.{◌<◌, ◌≡◌, set}
use Rattle.model.specs.declared.Station.{Station}
use Rattle.model.specs.declared.Outcome.{Outcome}
use Rattle.model.specs.Limits.{live_places, entry_places}
use Rattle.model.specs.Listed.{listed_outcome}
use Rattle.model.specs.Effects.{Effect, outcome_of}
use Rattle.stations.specs.declared.Change.{Change}

-- the station with the change made, and its answer
unfoldable pub changed_by : Station → Change → Outcome
changed_by st c = record { answer = c.answer; station = record { kind = st.kind; live = set st.live c.place c.live; entries = set st.entries c.slot c.entry } }

-- the change comes to what the effect hands back, and its place and slot are there
unfoldable pub IsChange : Station → Effect → Change → Type 0
IsChange st e c = (c.place < live_places) × (c.slot < entry_places) × (listed_outcome (changed_by st c) ≡ outcome_of e)
