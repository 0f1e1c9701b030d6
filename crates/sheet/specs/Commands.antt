-- What a line, or a host's request, asks, as the code hands it on.
use Rattle.std.proofs.Math.Option.{Option, some, none}
use Rattle.model.specs.Calls.{Call, Start, Put, Get, Commit, Step, Abort, Collect, Scan, Sweep}
use Rattle.sheet.specs.declared.Command.{Command}
use Rattle.sheet.specs.declared.Command.TheVariants as C

-- the call of a line; `cut` is the scan after the station is dropped
unfoldable pub command_of : Option Call → Command
command_of none = C.Malformed
command_of (some (Start t)) = C.Start t
command_of (some (Put t k v)) = C.Put t k v
command_of (some (Get t k)) = C.Get t k
command_of (some (Commit t c)) = C.Commit t c
command_of (some (Step t)) = C.Step t
command_of (some (Abort t)) = C.Abort t
command_of (some (Collect d)) = C.Collect d
command_of (some Scan) = C.Cut
command_of (some (Sweep n)) = C.Sweep n
