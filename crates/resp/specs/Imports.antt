-- 02 §11: "Import takes only such a stream, checks it, then clears the lent store and fills it for one station, drawers from the top."
use Rattle.std.specs.Prelude.{ℕ, ◌-◌, cond, List, [], ◌∷◌, ◌++◌, map, ltb, length, replicate, Result, Ok}
use Rattle.std.proofs.Math.Option.{Option, some, none}
use Rattle.model.specs.declared.Id.{Id}
use Rattle.model.specs.Types.{Entry, Write}
use Rattle.model.specs.Lists.{padded}
use Rattle.model.specs.Kinds.{narrow_kind, slot_size, store_size}
use Rattle.model.specs.Lives.{write_key}
use Rattle.model.specs.Entries.{commit_record}
use Rattle.model.specs.Records.{version_record}
use Rattle.model.specs.Effects.{wrong_length}
use Rattle.resp.specs.declared.Refused.{Refused}
use Rattle.resp.specs.Streams.{Transaction}
use Rattle.resp.specs.Inverse.{transactions_in}
use Rattle.resp.specs.Exports.{refused}

-- ── the store's bytes ──
unfoldable pub entry_of : Transaction → Entry
entry_of x = record { id = x.id; keys = map write_key x.writes }

unfoldable pub version_records : Id → List Write → List ℕ
version_records i [] = []
version_records i (w ∷ ws) = version_record w.key i w.value ++ version_records i ws

-- a transaction's slot: its commit record, its version records, zeros
unfoldable pub slot_of : Transaction → List ℕ
slot_of x = padded 0 (slot_size narrow_kind) (commit_record narrow_kind (entry_of x) ++ version_records x.id x.writes)

-- the slots of transactions, the first in the last
unfoldable pub slots_down : List Transaction → List ℕ
slots_down [] = []
slots_down (x ∷ xs) = slots_down xs ++ slot_of x

-- "drawers from the top": the oldest in slot 63; all else zero
unfoldable pub filled : List Transaction → List ℕ
filled xs = replicate (store_size narrow_kind - length (slots_down xs)) 0 ++ slots_down xs

-- ── import ──
pub record Import : Type 0 where
  pub answer : Result ℕ Refused
  pub store : List ℕ

-- a refusal alters no byte
abbrev pub unimported : ℕ → List ℕ → Import
unimported n s = record { answer = refused n 0; store = s }

-- "(.. 27: bytes or order not of this form, or a repeated ticket, after 1. 13: more than 64 commits, after 27.)"; else how many there are
unfoldable pub taken : Option (List Transaction) → List ℕ → Import
taken none s = unimported 27 s
taken (some xs) s = cond (ltb narrow_kind.slots (length xs)) (unimported 13 s) (record { answer = Ok (length xs); store = filled xs })

-- "(1: store or target of another length.": of the stream any length is right
unfoldable pub import : List ℕ → List ℕ → Import
import bs s = cond (wrong_length narrow_kind s) (unimported 1 s) (taken (transactions_in bs) s)
