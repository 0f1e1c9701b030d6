-- The entries that a sweep may collect, in the order of their ids.
use Rattle.std.specs.Prelude.{ℕ, ◌<◌, ◌≤◌, ◌≡◌, ◌≢◌, true, false, List, get_or}
use Rattle.model.specs.Kinds.{Kind}
use Rattle.model.specs.Types.{Live, Entry, Station}
use Rattle.model.specs.Limits.{entry_places}
use Rattle.model.specs.Ids.{older}
use Rattle.model.specs.Stations.{entry_at}
use Rattle.model.specs.Sound.{sound}
use Rattle.model.specs.Sweep.{may_collect}
use Rattle.stations.specs.Found.{station_of}

-- the first n of xs are the slots whose entries may be collected, each once, newest first
pub record AreToCollect (st : Station) (n : ℕ) (xs : List ℕ) : Type 0 where
  pub fits : n ≤ entry_places
  pub may : (i : ℕ) → i < n → (get_or xs i 0 < entry_places) × (may_collect st (entry_at st (get_or xs i 0)) ≡ true)
  pub every : (d : ℕ) → d < entry_places → may_collect st (entry_at st d) ≡ true → (i : ℕ) × (i < n) × (get_or xs i 0 ≡ d)
  pub once : (i j : ℕ) → i < j → j < n → get_or xs i 0 ≢ get_or xs j 0
  pub newest-first : (i j : ℕ) → i < j → j < n → older (entry_at st (get_or xs i 0)).id (entry_at st (get_or xs j 0)).id ≡ false

-- of a station that has these, whatever kind it is sound for: which may be collected does not go by the kind
abbrev pub AreToCollectOf : List Live → List Entry → ℕ → List ℕ → Type 0
AreToCollectOf ls es n xs = (κ : Kind) → sound (station_of κ ls es) ≡ true → AreToCollect (station_of κ ls es) n xs
