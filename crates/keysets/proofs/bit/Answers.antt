-- `keysets::bit` meets its contract.
use Rattle.keysets.proofs.SetLaws.{bit_is}
use Rattle.keysets.proofs.bit.Goals as goal

pub returns : goal.returns
returns c = bit_is c.args.key c.requires
