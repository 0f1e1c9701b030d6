-- `stations::entry_for` meets its contract.
use mathlib.Core.Path.{sym}
use Rattle.model.specs.Entries.{entry_for}
use Rattle.stations.proofs.Sets.{written-keys}
use Rattle.stations.proofs.entry_for.Goals as goal

pub returns : goal.returns
unfolding entry_for
returns c = let l = c.args.l in λ z. record { id = record { clock = c.closing_clock.ensures z; txn = l.txn }; keys = sym (written-keys l) z }
