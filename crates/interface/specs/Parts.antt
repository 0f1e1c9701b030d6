-- What is held between two requests, as the code hands it on.
use Rattle.std.specs.Prelude.{ℕ, List}
use Rattle.model.specs.Listed.{listed}
use Rattle.interface.specs.declared.Current.{Current}
use Rattle.interface.specs.Exchange.{Held}

unfoldable pub held_of : Current → List ℕ → Held
held_of c s = record { whole = c.whole; station = listed c.station; store = s }
