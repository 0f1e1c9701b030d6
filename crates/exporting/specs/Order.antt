-- The transactions of a store in the order of their entries' slots, from the last of them to the first.
use Rattle.std.specs.Prelude.{ℕ, zero, suc, ◌<◌, ◌≤◌, List, [], ◌∷◌, length, get_or}
use Rattle.model.specs.Types.{Entry}
use Rattle.model.specs.Limits.{entry_places}
use Rattle.model.specs.Kinds.{narrow_kind}
use Rattle.model.specs.Entries.{keys_of}
use Rattle.reading.specs.Columns.{nth_entry}
use Rattle.resp.specs.Streams.{Transaction}
use Rattle.resp.specs.Exports.{transaction_at}

-- those of the first n slots of xs, the nth first
unfoldable pub backwards : List ℕ → List Entry → List ℕ → ℕ → List Transaction
backwards s es xs zero = []
backwards s es xs (suc n) = transaction_at s (get_or xs n 0) (nth_entry es (get_or xs n 0)) ∷ backwards s es xs n

-- the first n of xs are slots, whose entries have 1 to 8 keys
pub record AreWritten (es : List Entry) (n : ℕ) (xs : List ℕ) : Type 0 where
  pub fits : n ≤ entry_places
  pub rows : (i : ℕ) → i < n → get_or xs i 0 < entry_places
  pub some_key : (i : ℕ) → i < n → 1 ≤ length (keys_of (nth_entry es (get_or xs i 0)))
  pub keys-fit : (i : ℕ) → i < n → length (keys_of (nth_entry es (get_or xs i 0))) ≤ narrow_kind.write_limit
