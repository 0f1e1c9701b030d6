use Rattle.std.proofs.Common.{sym, rules}
use lib.Count.{ones-le}
use mir.Facts.{Fits-below}
use Rattle.model.proofs.KeySetLaws.{set-ones}
use Rattle.moving.proofs.key_count.Goals as goal

pub overflow_cast-result : goal.overflow_cast-result
overflow_cast-result c = Fits-below {n = 64} tt (ones-le 64 _ (search rules))

pub returns : goal.returns
returns c = record { within = ones-le 64 _ (search rules); value = sym (set-ones c.args.e.now.keys (search rules)) }
