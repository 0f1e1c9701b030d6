-- 02 §10 for hosts in other languages: a verdict as an answer of 32 bytes. 18 clean; 19 bad, with the line in a; 15 refused, with its number in a
-- and the line in b.
use Rattle.std.specs.Prelude.{ℕ, List}
use Rattle.shoplog.specs.declared.Verdict.{Verdict}
use Rattle.shoplog.specs.declared.Verdict.TheVariants.{Clean, Bad, Refused}
use Rattle.interface.specs.Exchange.{four_bytes}

unfoldable pub verdict_bytes : Verdict → List ℕ
verdict_bytes Clean = four_bytes 18 0 0 0
verdict_bytes (Bad n) = four_bytes 19 n 0 0
verdict_bytes (Refused c n) = four_bytes 15 c n 0
