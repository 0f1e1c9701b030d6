-- What is found of a line, as the code says it: nothing is wrong with it, or what is.
use Rattle.std.specs.Prelude.{Result, Ok, Err}
use Rattle.shoplog.specs.declared.Fault.{Fault}
use Rattle.shoplog.specs.declared.Fault.TheVariants as F

abbrev pub Finding : Type 0
Finding = Result (Unit {0}) Fault

abbrev pub Fine : Finding
Fine = Ok tt

abbrev pub Over : Finding
Over = Err F.Over

abbrev pub Bad : Finding
Bad = Err F.Bad
