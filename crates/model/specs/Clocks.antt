-- 02 §3: "A closing ticket's clock is now the greater of the clock given and one more than the greatest clock of any entry or closing ticket."
use Rattle.std.specs.Prelude.{ℕ, ◌+◌, max, List, ◌++◌, map}
use Rattle.model.specs.Types.{Entry, Live, Station}
use Rattle.model.specs.Lists.{maximum}
use Rattle.model.specs.Lives.{closing_clock}

-- the clocks of entries and closing transactions; an unused entry and any other place have 0, which is no clock
abbrev pub entry_clock : Entry → ℕ
entry_clock e = e.id.clock

abbrev pub live_clock : Live → ℕ
live_clock l = closing_clock l.phase

unfoldable pub clocks : Station → List ℕ
clocks st = map entry_clock st.entries ++ map live_clock st.live

-- the clock that a transaction takes which is given c and closes beside these
unfoldable pub clock_above : ℕ → List ℕ → ℕ
clock_above c taken = max c (maximum taken + 1)
