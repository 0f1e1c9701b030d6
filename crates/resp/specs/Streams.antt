-- 02 §11: the stream of a committed set. "in RESP form, each command an array of three bulk strings: SET, a name, a value." Bytes are ASCII.
use Rattle.std.specs.Prelude.{ℕ, ◌<◌, ◌≤◌, ◌≡◌, Bool, true, List, [], ◌∷◌, ◌++◌, map, length}
use Rattle.model.specs.declared.Id.{Id}
use Rattle.model.specs.Types.{Write}
use Rattle.model.specs.Lists.{◌and◌, ascending, distinct}
use Rattle.model.specs.Limits.{keys, txn_range, number_range}
use Rattle.model.specs.Kinds.{narrow_kind}
use Rattle.model.specs.Ids.{older}
use Rattle.model.specs.Lives.{write_key}
use Rattle.model.specs.Ranges.{Every}
use Rattle.decimal.specs.Digits.{digits}
use Rattle.lines.specs.Lines.{comma, newline}

-- a committed transaction (ticket): its id, and its writes, keys ascending, each with its value
pub record Transaction : Type 0 where
  pub id : Id
  pub writes : List Write

-- ── RESP ──
abbrev pub carriage : ℕ
carriage = 13

abbrev pub slash : ℕ
slash = 47

-- what ends each line of it
unfoldable pub line_end : List ℕ
line_end = carriage ∷ newline ∷ []

-- a bulk string: `$`, its length, its bytes
unfoldable pub bulk : List ℕ → List ℕ
bulk w = 36 ∷ digits (length w) ++ (line_end ++ (w ++ line_end))

-- an array of three, `*3`, whose first is SET
unfoldable pub set_begins : List ℕ
set_begins = 42 ∷ 51 ∷ line_end ++ bulk (83 ∷ 69 ∷ 84 ∷ [])

-- "an array of three bulk strings: SET, a name, a value"
unfoldable pub set_command : List ℕ → List ℕ → List ℕ
set_command name value = set_begins ++ (bulk name ++ bulk value)

-- ── names and values ──
-- clock/ticket
unfoldable pub id_text : Id → List ℕ
id_text i = digits i.clock ++ (slash ∷ digits i.txn)

-- "Version names are v/key/clock/ticket with the value in decimal."
unfoldable pub version_name : ℕ → Id → List ℕ
version_name k i = 118 ∷ slash ∷ digits k ++ (slash ∷ id_text i)

unfoldable pub version_command : Id → Write → List ℕ
version_command i w = set_command (version_name w.key i) (digits w.value)

-- "Commit names are c/clock/ticket, the value being the keys ascending parted by commas."
unfoldable pub commit_name : Id → List ℕ
commit_name i = 99 ∷ slash ∷ id_text i

unfoldable pub keys_after : List ℕ → List ℕ
keys_after [] = []
keys_after (k ∷ ks) = comma ∷ digits k ++ keys_after ks

unfoldable pub keys_text : List ℕ → List ℕ
keys_text [] = []
keys_text (k ∷ ks) = digits k ++ keys_after ks

unfoldable pub commit_command : Id → List ℕ → List ℕ
commit_command i ks = set_command (commit_name i) (keys_text ks)

-- ── the stream ──
unfoldable pub versions_text : Id → List Write → List ℕ
versions_text i [] = []
versions_text i (w ∷ ws) = version_command i w ++ versions_text i ws

-- "A ticket's versions, keys ascending, stand right before its commit"
unfoldable pub transaction_text : Transaction → List ℕ
transaction_text x = versions_text x.id x.writes ++ commit_command x.id (map write_key x.writes)

unfoldable pub stream_of : List Transaction → List ℕ
stream_of [] = []
stream_of (x ∷ xs) = transaction_text x ++ stream_of xs

-- ── which transactions a stream may have ──
-- those of a narrow store, by 01's ranges: 1 to 8 keys, ascending and below 64; ticket and clock at least 1
pub record TransactionFits (x : Transaction) : Type 0 where
  pub clock-from : 1 ≤ x.id.clock
  pub clock64 : x.id.clock < number_range
  pub txn-from : 1 ≤ x.id.txn
  pub txn32 : x.id.txn < txn_range
  pub some-write : 1 ≤ length x.writes
  pub writes-fit : length x.writes ≤ narrow_kind.write_limit
  pub ascends : ascending 0 keys (map write_key x.writes) ≡ true
  pub values : Every (λ (w : Write). w.value < number_range) x.writes

-- "tickets oldest id first": each older than the next
unfoldable pub oldest_first : List Transaction → Bool
oldest_first [] = true
oldest_first (x ∷ []) = true
oldest_first (x ∷ y ∷ xs) = older x.id y.id and oldest_first (y ∷ xs)

-- no "repeated ticket"
unfoldable pub none_twice : List Transaction → Bool
none_twice xs = distinct (map (λ (x : Transaction). x.id.txn) xs)

-- a committed set, in the stream's order
pub record CommittedSet (xs : List Transaction) : Type 0 where
  pub fit : Every TransactionFits xs
  pub ordered : oldest_first xs ≡ true
  pub once : none_twice xs ≡ true
