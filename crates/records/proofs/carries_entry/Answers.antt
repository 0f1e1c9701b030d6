-- `records::carries_entry` meets its contract.
use Rattle.std.proofs.Common.{arith}
use Rattle.std.proofs.lemmas.Grind.{common_steps}
use Rattle.model.specs.Lists.{◌and◌}
use Rattle.model.specs.Ids.{same_id}
use Rattle.model.specs.Entries.{carries_keys, carries_entry}
use Rattle.records.specs.Fields.{is_commit}
use Rattle.records.proofs.ListSteps.{pointwise-same}
use Rattle.records.proofs.carries_entry.Goals as goal

pub returns-then-r-key_count : goal.returns-then-r-key_count
unfolding carries_entry carries_keys is_commit same_id ◌and◌
returns-then-r-key_count c = grind (arith, common_steps, pointwise-same)

pub returns-else-r-key_count : goal.returns-else-r-key_count
unfolding carries_entry carries_keys is_commit same_id ◌and◌
returns-else-r-key_count c = grind (arith, common_steps)
