use Rattle.std.proofs.Common.{ℕ, rules}
use Rattle.std.proofs.Math.ListN.{length-replicate}
use Rattle.runsheet.proofs.main.Goals as goal

pub run_all-ran-requires : goal.run_all-ran-requires
run_all-ran-requires c = (search rules, search rules, length-replicate {A = ℕ} 475136 0)
