-- 02 §11 for hosts in other languages: what an export or an import comes to, as an answer of 32 bytes. 20 exported, with the stream's length in a; 21
-- imported, with the number of transactions in a; 15 refused, with its number in a and the slot in b.
use Rattle.std.specs.Prelude.{ℕ, List, Result, Ok, Err}
use Rattle.resp.specs.declared.Refused.{Refused}
use Rattle.interface.specs.Exchange.{four_bytes}

unfoldable pub transfer_bytes : ℕ → Result ℕ Refused → List ℕ
transfer_bytes kind (Ok n) = four_bytes kind n 0 0
transfer_bytes kind (Err r) = four_bytes 15 r.number r.slot 0

abbrev pub exported_kind : ℕ
exported_kind = 20

abbrev pub imported_kind : ℕ
imported_kind = 21
