-- 02 §11: "Export a narrow store's committed set, scanned for one station".
use Rattle.std.specs.Prelude.{ℕ, suc, cond, not, List, [], ◌∷◌, ◌++◌, eqb, ltb, length, drop, Result, Ok, Err}
use Rattle.model.specs.Types.{Entry, Write}
use Rattle.model.specs.Lists.{◌or◌}
use Rattle.model.specs.Kinds.{narrow_kind}
use Rattle.model.specs.Ids.{older}
use Rattle.model.specs.Entries.{keys_of}
use Rattle.model.specs.Records.{value_in, record_at}
use Rattle.model.specs.Slots.{Seen, free, committed, damaged}
use Rattle.model.specs.Effects.{wrong_length}
use Rattle.model.specs.Scan.{slots_seen, lowest_broken}
use Rattle.resp.specs.declared.Refused.{Refused}
use Rattle.resp.specs.Streams.{Transaction, stream_of}

-- ── the committed set of a store ──
-- the writes of slot d, from its nth version record on: the keys ks, each with its record's value
unfoldable pub writes_at : List ℕ → ℕ → ℕ → List ℕ → List Write
writes_at s d n [] = []
writes_at s d n (k ∷ ks) = record { key = k; value = value_in (record_at narrow_kind s d n) } ∷ writes_at s d (suc n) ks

unfoldable pub transaction_at : List ℕ → ℕ → Entry → Transaction
transaction_at s d e = record { id = e.id; writes = writes_at s d 1 (keys_of e) }

-- those of the slots seen, counted from d
unfoldable pub transactions_from : List ℕ → ℕ → List Seen → List Transaction
transactions_from s d [] = []
transactions_from s d (free ∷ xs) = transactions_from s (suc d) xs
transactions_from s d (committed e ∷ xs) = transaction_at s d e ∷ transactions_from s (suc d) xs
transactions_from s d (damaged ∷ xs) = transactions_from s (suc d) xs

-- "tickets oldest id first"
unfoldable pub inserted : Transaction → List Transaction → List Transaction
inserted x [] = x ∷ []
inserted x (y ∷ ys) = cond (older x.id y.id) (x ∷ y ∷ ys) (y ∷ inserted x ys)

unfoldable pub by_age : List Transaction → List Transaction
by_age [] = []
by_age (x ∷ xs) = inserted x (by_age xs)

unfoldable pub committed_set : List ℕ → List Transaction
committed_set s = by_age (transactions_from s 0 (slots_seen narrow_kind s))

-- ── export ──
-- "The lent target has 65,536 bytes"
abbrev pub target_size : ℕ
target_size = 65536

-- a refusal by its number and its slot, 0 where it has none
abbrev pub refused : ℕ → ℕ → Result ℕ Refused
refused n d = Err (record { number = n; slot = d })

pub record Export : Type 0 where
  pub answer : Result ℕ Refused
  pub target : List ℕ

-- a refusal alters no byte
abbrev pub unexported : ℕ → ℕ → List ℕ → Export
unexported n d t = record { answer = refused n d; target = t }

-- "those past the stream keep, and its length is the answer"
unfoldable pub exported_to : List ℕ → List ℕ → Export
exported_to bs t = record { answer = Ok (length bs); target = bs ++ drop (length bs) t }

-- "(1: store or target of another length. 18: damage, on export.)": with the slot
unfoldable pub export : List ℕ → List ℕ → Export
export s t =
    let xs : List Seen = slots_seen narrow_kind s in
    cond (wrong_length narrow_kind s or not (eqb (length t) target_size)) (unexported 1 0 t)
    (cond (ltb (lowest_broken xs) (length xs)) (unexported 18 (lowest_broken xs) t)
    (exported_to (stream_of (committed_set s)) t))
