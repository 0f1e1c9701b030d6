-- 02 §11: "Import takes only such a stream": the transactions whose stream the bytes are, if they are one's. (`read-exactly`: no others.)
use Rattle.std.specs.Prelude.{ℕ, zero, suc, ◌-◌, Bool, cond, List, [], ◌∷◌, ◌++◌, map, eqb, ltb, leb, length, take, drop}
use Rattle.std.proofs.Math.Option.{Option, some, none}
use Rattle.model.specs.declared.Id.{Id}
use Rattle.model.specs.Types.{Write}
use Rattle.model.specs.Lists.{◌and◌}
use Rattle.model.specs.Limits.{keys, txn_range, number_range}
use Rattle.model.specs.Kinds.{narrow_kind}
use Rattle.model.specs.Ids.{same_id}
use Rattle.model.specs.Lives.{write_key}
use Rattle.decimal.specs.Digits.{number_below}
use Rattle.decimal.specs.Fields.{field, after_field}
use Rattle.lines.specs.Lines.{newline}
use Rattle.resp.specs.Streams.{Transaction, carriage, slash, line_end, set_begins, commit_command, oldest_first, none_twice}

infixr 20 ◌then◌
-- one thing read, and another after it
unfoldable pub ◌then◌ : {A B : Type 0} → Option A → (A → Option B) → Option B
◌then◌ none f = none
◌then◌ (some x) f = f x

-- what is left after w, where the bytes begin with it
unfoldable pub after : List ℕ → List ℕ → Option (List ℕ)
after [] bs = some bs
after (x ∷ w) [] = none
after (x ∷ w) (b ∷ bs) = cond (eqb x b) (after w bs) none

-- ── RESP ──
-- a bulk string, and what is left after it
pub record Bulk : Type 0 where
  pub content : List ℕ
  pub rest : List ℕ

-- n bytes and the end of their line
unfoldable pub bulk_of : ℕ → List ℕ → Option Bulk
bulk_of n bs = after line_end (drop n bs) then λ r. some (record { content = take n bs; rest = r })

unfoldable pub bulk_in : List ℕ → Option Bulk
bulk_in bs =
    after (36 ∷ []) bs then λ a.
    number_below number_range (field carriage a) then λ n.
    after_field carriage a then λ b.
    after (newline ∷ []) b then λ c. bulk_of n c

-- ── a version ──
-- clock/ticket; neither is 0
unfoldable pub id_from : ℕ → ℕ → Option Id
id_from c t = cond (leb 1 c and leb 1 t) (some (record { clock = c; txn = t })) none

unfoldable pub id_text_in : List ℕ → Option Id
id_text_in bs =
    number_below number_range (field slash bs) then λ c.
    after_field slash bs then λ a.
    number_below txn_range a then λ t. id_from c t

-- v/key/clock/ticket
pub record Name : Type 0 where
  pub key : ℕ
  pub id : Id

unfoldable pub name_in : List ℕ → Option Name
name_in bs =
    after (118 ∷ slash ∷ []) bs then λ a.
    number_below keys (field slash a) then λ k.
    after_field slash a then λ b.
    id_text_in b then λ i. some (record { key = k; id = i })

pub record Version : Type 0 where
  pub id : Id
  pub write : Write
  pub rest : List ℕ

-- a name, and what comes after it: the value
unfoldable pub valued : Name → List ℕ → Option Version
valued n bs =
    bulk_in bs then λ b.
    number_below number_range b.content then λ v. some (record { id = n.id; write = record { key = n.key; value = v }; rest = b.rest })

unfoldable pub version_in : List ℕ → Option Version
version_in bs =
    after set_begins bs then λ a.
    bulk_in a then λ b.
    name_in b.content then λ n. valued n b.rest

-- ── a transaction: "versions, keys ascending, stand right before its commit" ──
pub record Taken : Type 0 where
  pub transaction : Transaction
  pub rest : List ℕ

-- its commit, after all its versions: the same id and the same keys
unfoldable pub closed : Id → List Write → List ℕ → Option Taken
closed i ws bs = after (commit_command i (map write_key ws)) bs then λ r. some (record { transaction = record { id = i; writes = ws }; rest = r })

-- the version v goes on after those of id i whose last key is k
unfoldable pub goes_on : Id → ℕ → Version → Bool
goes_on i k v = same_id v.id i and ltb k v.write.key

-- by the version that comes next: on with it; where none does, the end
unfoldable pub onward : Id → ℕ → Option Version → (Version → Option Taken) → Option Taken → Option Taken
onward i k none next end = end
onward i k (some v) next end = cond (goes_on i k v) (next v) none

-- after the writes ws of id i, the last of key k: at most so many more versions, and the commit
unfoldable pub versions_from : ℕ → Id → ℕ → List Write → List ℕ → Option Taken
versions_from zero i k ws bs = closed i ws bs
versions_from (suc more) i k ws bs = onward i k (version_in bs) (λ v. versions_from more i v.write.key (ws ++ (v.write ∷ [])) v.rest) (closed i ws bs)

-- 1 to 8 versions: after the first at most 7
unfoldable pub transaction_in : List ℕ → Option Taken
transaction_in bs = version_in bs then λ v. versions_from (narrow_kind.write_limit - 1) v.id v.write.key (v.write ∷ []) v.rest

-- ── the stream ──
-- one transaction after the other to the end; there are at most as many as bytes
unfoldable pub sequence_from : ℕ → List ℕ → Option (List Transaction)
sequence_from zero [] = some []
sequence_from zero (b ∷ bs) = none
sequence_from (suc more) [] = some []
sequence_from (suc more) (b ∷ bs) =
    transaction_in (b ∷ bs) then λ t.
    sequence_from more t.rest then λ xs. some (t.transaction ∷ xs)

unfoldable pub sequence_in : List ℕ → Option (List Transaction)
sequence_in bs = sequence_from (length bs) bs

-- "bytes or order not of this form, or a repeated ticket": none
unfoldable pub transactions_in : List ℕ → Option (List Transaction)
transactions_in bs = sequence_in bs then λ xs. cond (oldest_first xs and none_twice xs) (some xs) none
