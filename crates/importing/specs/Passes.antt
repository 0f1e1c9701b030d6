-- What the functions below `import` say of a stream.
use Rattle.std.specs.Prelude.{ℕ, zero, suc, ◌+◌, ◌*◌, ◌-◌, ◌<◌, ◌≤◌, ◌≡◌, Bool, true, false, not, List, [], ◌∷◌, ◌++◌, map, length, take, drop}
use Rattle.std.proofs.Math.Option.{some, none}
use Rattle.model.specs.declared.Id.{Id}
use Rattle.model.specs.Types.{Write}
use Rattle.model.specs.Lists.{◌and◌, member}
use Rattle.model.specs.Limits.{record_size}
use Rattle.model.specs.Kinds.{narrow_kind, slot_size, store_size}
use Rattle.model.specs.KeySets.{key_set}
use Rattle.model.specs.Lives.{write_key}
use Rattle.resp.specs.Streams.{Transaction, oldest_first}
use Rattle.resp.specs.Inverse as I
use Rattle.resp.specs.Imports.{version_records, slot_of, slots_down}

-- the slots of a store, and one more
abbrev pub room_size : ℕ
room_size = store_size narrow_kind + slot_size narrow_kind

-- ── the versions of a transaction ──
-- the writes of an entry are read, and stand in the slot; what is left to read is the commit
pub record VersionsFound (i : Id) (n : ℕ) (rest bs slot : List ℕ) : Type 0 where
  pub writes : List Write
  pub keys-are : map write_key writes ≡ key_set n
  pub some-write : 1 ≤ length writes
  pub writes-fit : length writes ≤ narrow_kind.write_limit
  pub inside : length rest ≤ length bs
  pub left : I.transaction_in bs ≡ I.closed i writes rest
  pub long : length slot ≡ slot_size narrow_kind
  pub records : take (record_size * length writes) (drop record_size slot) ≡ version_records i writes

-- ── a transaction ──
pub record TakenFound (i : Id) (rest bs slot : List ℕ) : Type 0 where
  pub transaction : Transaction
  pub id-is : transaction.id ≡ i
  pub shorter : length rest < length bs
  pub read : I.transaction_in bs ≡ some (record { transaction = transaction; rest = rest })
  pub slot_is : slot ≡ slot_of transaction

-- ── a stream read once ──
-- none of the first n numbers stands again
unfoldable pub once_among : ℕ → List ℕ → Bool
once_among zero ts = true
once_among (suc n) [] = true
once_among (suc n) (t ∷ ts) = not (member t ts) and once_among n ts

abbrev pub txns_of : List Transaction → List ℕ
txns_of xs = map (λ (x : Transaction). x.id.txn) xs

pub record PassFound (n : ℕ) (rest bs room₀ room : List ℕ) : Type 0 where
  pub transactions : List Transaction
  pub read : I.sequence_in bs ≡ some transactions
  pub ordered : oldest_first transactions ≡ true
  pub once : once_among narrow_kind.slots (txns_of transactions) ≡ true
  pub count : n ≡ length transactions
  pub shorter : 0 < n → length rest < length bs
  pub left : I.sequence_in rest ≡ some (drop narrow_kind.slots transactions)
  pub long : length room ≡ room_size
  pub made : n ≤ narrow_kind.slots → room ≡ take (slot_size narrow_kind * (narrow_kind.slots + 1 - n)) room₀ ++ slots_down transactions

-- whether it is no stream
unfoldable pub BadSays : Bool → List ℕ → Type 0
BadSays r bs = (r ≡ true → I.transactions_in bs ≡ none) × (r ≡ false → (xs : List Transaction) × (I.transactions_in bs ≡ some xs))
