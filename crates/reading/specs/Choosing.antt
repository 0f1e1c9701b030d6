-- What the code is given of a transaction, and what it answers for what Algorithm 1 chose.
use Rattle.std.specs.Prelude.{ℕ, ◌<◌, ◌≡◌, ◌≢◌, true, List}
use Rattle.model.specs.Types.{Entry, Live, Station}
use Rattle.model.specs.Limits.{live_places}
use Rattle.model.specs.Stations.{live_at}
use Rattle.model.specs.Sound.{sound}
use Rattle.model.specs.Reading.{Choice, own, absent, nofit, version}
use Rattle.reading.specs.declared.Chosen.{Chosen}
use Rattle.reading.specs.declared.Chosen.TheVariants.{Version, Nofit, None}

-- (the transaction's own write is looked for before: Algorithm 1 never gives it)
unfoldable pub chosen_as : Choice → Chosen
chosen_as (own v) = None
chosen_as absent = None
chosen_as (nofit k) = Nofit k
chosen_as (version d) = Version d

-- a live transaction of a sound station that has these entries
unfoldable pub IsReader : List Entry → Live → Type 0
IsReader es l = (st : Station) × (i : ℕ) × (sound st ≡ true) × (st.entries ≡ es) × (i < live_places) × (live_at st i ≡ l) × (l.txn ≢ 0)
