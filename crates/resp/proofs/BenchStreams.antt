-- 02 §11: which streams are taken, computed from their bytes: how many transactions they have, or 27.
use Prim.Native.Nat.{ℕ, zero, suc, ◌+◌}
use mathlib.Core.Path.{◌≡◌, refl}
use mathlib.Core.List.{List, [], ◌∷◌, ◌++◌, map}
use mathlib.Core.Option.{Option, some, none}
use lib.ListN.{length}
use Rattle.std.specs.Prelude.{Result, Ok}
use Rattle.model.specs.Lists.{◌and◌, ◌or◌, all, any, member, distinct}
use Rattle.model.specs.Ids.{older, same_id}
use Rattle.decimal.specs.Digits.{digits_of, digits, is_digit, number_from, is_decimal, number_below}
use Rattle.decimal.specs.Fields.{field, after_field}
use Rattle.resp.specs.Streams.{Transaction, line_end, bulk, set_begins, set_command, id_text, version_name, version_command, commit_name, keys_after, keys_text, commit_command, versions_text, transaction_text, stream_of, oldest_first, none_twice}
use Rattle.resp.specs.Inverse.{◌then◌, after, bulk_of, bulk_in, id_from, id_text_in, name_in, valued, version_in, closed, goes_on, onward, versions_from, transaction_in, sequence_from, sequence_in, transactions_in}
use Rattle.resp.specs.declared.Refused.{Refused}
use Rattle.resp.specs.Exports.{refused}
use Rattle.resp.specs.Imports.{taken}

-- `*3`, `$3`, `SET` and `$`, each but the last ended by its line's end
abbrev sets : List ℕ → List ℕ
sets bs = 42 ∷ 51 ∷ 13 ∷ 10 ∷ 36 ∷ 51 ∷ 13 ∷ 10 ∷ 83 ∷ 69 ∷ 84 ∷ 13 ∷ 10 ∷ 36 ∷ bs

-- streams, each with the number of its transactions, or 27
pub streams : List (List ℕ × ℕ)
streams =
    -- nothing
    ([], 0)
    -- a transaction: `v/2/7/5 40`, `c/7/5 2`
    ∷ (sets (55 ∷ 13 ∷ 10 ∷ 118 ∷ 47 ∷ 50 ∷ 47 ∷ 55 ∷ 47 ∷ 53 ∷ 13 ∷ 10 ∷ 36 ∷ 50 ∷ 13 ∷ 10 ∷ 52 ∷ 48 ∷ 13 ∷ 10 ∷ sets (53 ∷ 13 ∷ 10 ∷ 99 ∷ 47 ∷ 55 ∷ 47 ∷ 53 ∷ 13 ∷ 10 ∷ 36 ∷ 49 ∷ 13 ∷ 10 ∷ 50 ∷ 13 ∷ 10 ∷ [])), 1)
    -- two of one clock, the lower number first: `v/2/7/5 40`, `c/7/5 2`, `v/2/7/6 41`, `c/7/6 2`
    ∷ (sets (55 ∷ 13 ∷ 10 ∷ 118 ∷ 47 ∷ 50 ∷ 47 ∷ 55 ∷ 47 ∷ 53 ∷ 13 ∷ 10 ∷ 36 ∷ 50 ∷ 13 ∷ 10 ∷ 52 ∷ 48 ∷ 13 ∷ 10 ∷ sets (53 ∷ 13 ∷ 10 ∷ 99 ∷ 47 ∷ 55 ∷ 47 ∷ 53 ∷ 13 ∷ 10 ∷ 36 ∷ 49 ∷ 13 ∷ 10 ∷ 50 ∷ 13 ∷ 10 ∷ sets (55 ∷ 13 ∷ 10 ∷ 118 ∷ 47 ∷ 50 ∷ 47 ∷ 55 ∷ 47 ∷ 54 ∷ 13 ∷ 10 ∷ 36 ∷ 50 ∷ 13 ∷ 10 ∷ 52 ∷ 49 ∷ 13 ∷ 10 ∷ sets (53 ∷ 13 ∷ 10 ∷ 99 ∷ 47 ∷ 55 ∷ 47 ∷ 54 ∷ 13 ∷ 10 ∷ 36 ∷ 49 ∷ 13 ∷ 10 ∷ 50 ∷ 13 ∷ 10 ∷ [])))), 2)
    -- "tickets oldest id first": newest first: `v/2/7/6 41`, `c/7/6 2`, `v/2/7/5 40`, `c/7/5 2`
    ∷ (sets (55 ∷ 13 ∷ 10 ∷ 118 ∷ 47 ∷ 50 ∷ 47 ∷ 55 ∷ 47 ∷ 54 ∷ 13 ∷ 10 ∷ 36 ∷ 50 ∷ 13 ∷ 10 ∷ 52 ∷ 49 ∷ 13 ∷ 10 ∷ sets (53 ∷ 13 ∷ 10 ∷ 99 ∷ 47 ∷ 55 ∷ 47 ∷ 54 ∷ 13 ∷ 10 ∷ 36 ∷ 49 ∷ 13 ∷ 10 ∷ 50 ∷ 13 ∷ 10 ∷ sets (55 ∷ 13 ∷ 10 ∷ 118 ∷ 47 ∷ 50 ∷ 47 ∷ 55 ∷ 47 ∷ 53 ∷ 13 ∷ 10 ∷ 36 ∷ 50 ∷ 13 ∷ 10 ∷ 52 ∷ 48 ∷ 13 ∷ 10 ∷ sets (53 ∷ 13 ∷ 10 ∷ 99 ∷ 47 ∷ 55 ∷ 47 ∷ 53 ∷ 13 ∷ 10 ∷ 36 ∷ 49 ∷ 13 ∷ 10 ∷ 50 ∷ 13 ∷ 10 ∷ [])))), 27)
    -- the same transaction again; "a repeated ticket" with another clock: (7, 5), then (8, 5): `v/2/7/5 40`, `c/7/5 2`, `v/2/7/5 40`, `c/7/5 2`
    ∷ (sets (55 ∷ 13 ∷ 10 ∷ 118 ∷ 47 ∷ 50 ∷ 47 ∷ 55 ∷ 47 ∷ 53 ∷ 13 ∷ 10 ∷ 36 ∷ 50 ∷ 13 ∷ 10 ∷ 52 ∷ 48 ∷ 13 ∷ 10 ∷ sets (53 ∷ 13 ∷ 10 ∷ 99 ∷ 47 ∷ 55 ∷ 47 ∷ 53 ∷ 13 ∷ 10 ∷ 36 ∷ 49 ∷ 13 ∷ 10 ∷ 50 ∷ 13 ∷ 10 ∷ sets (55 ∷ 13 ∷ 10 ∷ 118 ∷ 47 ∷ 50 ∷ 47 ∷ 55 ∷ 47 ∷ 53 ∷ 13 ∷ 10 ∷ 36 ∷ 50 ∷ 13 ∷ 10 ∷ 52 ∷ 48 ∷ 13 ∷ 10 ∷ sets (53 ∷ 13 ∷ 10 ∷ 99 ∷ 47 ∷ 55 ∷ 47 ∷ 53 ∷ 13 ∷ 10 ∷ 36 ∷ 49 ∷ 13 ∷ 10 ∷ 50 ∷ 13 ∷ 10 ∷ [])))), 27)
    -- `v/2/7/5 40`, `c/7/5 2`, `v/2/8/5 40`, `c/8/5 2`
    ∷ (sets (55 ∷ 13 ∷ 10 ∷ 118 ∷ 47 ∷ 50 ∷ 47 ∷ 55 ∷ 47 ∷ 53 ∷ 13 ∷ 10 ∷ 36 ∷ 50 ∷ 13 ∷ 10 ∷ 52 ∷ 48 ∷ 13 ∷ 10 ∷ sets (53 ∷ 13 ∷ 10 ∷ 99 ∷ 47 ∷ 55 ∷ 47 ∷ 53 ∷ 13 ∷ 10 ∷ 36 ∷ 49 ∷ 13 ∷ 10 ∷ 50 ∷ 13 ∷ 10 ∷ sets (55 ∷ 13 ∷ 10 ∷ 118 ∷ 47 ∷ 50 ∷ 47 ∷ 56 ∷ 47 ∷ 53 ∷ 13 ∷ 10 ∷ 36 ∷ 50 ∷ 13 ∷ 10 ∷ 52 ∷ 48 ∷ 13 ∷ 10 ∷ sets (53 ∷ 13 ∷ 10 ∷ 99 ∷ 47 ∷ 56 ∷ 47 ∷ 53 ∷ 13 ∷ 10 ∷ 36 ∷ 49 ∷ 13 ∷ 10 ∷ 50 ∷ 13 ∷ 10 ∷ [])))), 27)
    -- "versions, keys ascending, stand right before its commit": two keys: `v/2/7/5 40`, `v/10/7/5 0`, `c/7/5 2,10`
    ∷ (sets (55 ∷ 13 ∷ 10 ∷ 118 ∷ 47 ∷ 50 ∷ 47 ∷ 55 ∷ 47 ∷ 53 ∷ 13 ∷ 10 ∷ 36 ∷ 50 ∷ 13 ∷ 10 ∷ 52 ∷ 48 ∷ 13 ∷ 10 ∷ sets (56 ∷ 13 ∷ 10 ∷ 118 ∷ 47 ∷ 49 ∷ 48 ∷ 47 ∷ 55 ∷ 47 ∷ 53 ∷ 13 ∷ 10 ∷ 36 ∷ 49 ∷ 13 ∷ 10 ∷ 48 ∷ 13 ∷ 10 ∷ sets (53 ∷ 13 ∷ 10 ∷ 99 ∷ 47 ∷ 55 ∷ 47 ∷ 53 ∷ 13 ∷ 10 ∷ 36 ∷ 52 ∷ 13 ∷ 10 ∷ 50 ∷ 44 ∷ 49 ∷ 48 ∷ 13 ∷ 10 ∷ []))), 1)
    -- the commit first; keys descending; a key twice: `c/7/5 2`, `v/2/7/5 40`
    ∷ (sets (53 ∷ 13 ∷ 10 ∷ 99 ∷ 47 ∷ 55 ∷ 47 ∷ 53 ∷ 13 ∷ 10 ∷ 36 ∷ 49 ∷ 13 ∷ 10 ∷ 50 ∷ 13 ∷ 10 ∷ sets (55 ∷ 13 ∷ 10 ∷ 118 ∷ 47 ∷ 50 ∷ 47 ∷ 55 ∷ 47 ∷ 53 ∷ 13 ∷ 10 ∷ 36 ∷ 50 ∷ 13 ∷ 10 ∷ 52 ∷ 48 ∷ 13 ∷ 10 ∷ [])), 27)
    -- `v/10/7/5 0`, `v/2/7/5 40`, `c/7/5 10,2`
    ∷ (sets (56 ∷ 13 ∷ 10 ∷ 118 ∷ 47 ∷ 49 ∷ 48 ∷ 47 ∷ 55 ∷ 47 ∷ 53 ∷ 13 ∷ 10 ∷ 36 ∷ 49 ∷ 13 ∷ 10 ∷ 48 ∷ 13 ∷ 10 ∷ sets (55 ∷ 13 ∷ 10 ∷ 118 ∷ 47 ∷ 50 ∷ 47 ∷ 55 ∷ 47 ∷ 53 ∷ 13 ∷ 10 ∷ 36 ∷ 50 ∷ 13 ∷ 10 ∷ 52 ∷ 48 ∷ 13 ∷ 10 ∷ sets (53 ∷ 13 ∷ 10 ∷ 99 ∷ 47 ∷ 55 ∷ 47 ∷ 53 ∷ 13 ∷ 10 ∷ 36 ∷ 52 ∷ 13 ∷ 10 ∷ 49 ∷ 48 ∷ 44 ∷ 50 ∷ 13 ∷ 10 ∷ []))), 27)
    -- `v/2/7/5 40`, `v/2/7/5 40`, `c/7/5 2`
    ∷ (sets (55 ∷ 13 ∷ 10 ∷ 118 ∷ 47 ∷ 50 ∷ 47 ∷ 55 ∷ 47 ∷ 53 ∷ 13 ∷ 10 ∷ 36 ∷ 50 ∷ 13 ∷ 10 ∷ 52 ∷ 48 ∷ 13 ∷ 10 ∷ sets (55 ∷ 13 ∷ 10 ∷ 118 ∷ 47 ∷ 50 ∷ 47 ∷ 55 ∷ 47 ∷ 53 ∷ 13 ∷ 10 ∷ 36 ∷ 50 ∷ 13 ∷ 10 ∷ 52 ∷ 48 ∷ 13 ∷ 10 ∷ sets (53 ∷ 13 ∷ 10 ∷ 99 ∷ 47 ∷ 55 ∷ 47 ∷ 53 ∷ 13 ∷ 10 ∷ 36 ∷ 49 ∷ 13 ∷ 10 ∷ 50 ∷ 13 ∷ 10 ∷ []))), 27)
    -- a commit without its version, with a key less, with a key more, in another order: `c/7/5 2`
    ∷ (sets (53 ∷ 13 ∷ 10 ∷ 99 ∷ 47 ∷ 55 ∷ 47 ∷ 53 ∷ 13 ∷ 10 ∷ 36 ∷ 49 ∷ 13 ∷ 10 ∷ 50 ∷ 13 ∷ 10 ∷ []), 27)
    -- `v/2/7/5 40`, `v/10/7/5 0`, `c/7/5 2`
    ∷ (sets (55 ∷ 13 ∷ 10 ∷ 118 ∷ 47 ∷ 50 ∷ 47 ∷ 55 ∷ 47 ∷ 53 ∷ 13 ∷ 10 ∷ 36 ∷ 50 ∷ 13 ∷ 10 ∷ 52 ∷ 48 ∷ 13 ∷ 10 ∷ sets (56 ∷ 13 ∷ 10 ∷ 118 ∷ 47 ∷ 49 ∷ 48 ∷ 47 ∷ 55 ∷ 47 ∷ 53 ∷ 13 ∷ 10 ∷ 36 ∷ 49 ∷ 13 ∷ 10 ∷ 48 ∷ 13 ∷ 10 ∷ sets (53 ∷ 13 ∷ 10 ∷ 99 ∷ 47 ∷ 55 ∷ 47 ∷ 53 ∷ 13 ∷ 10 ∷ 36 ∷ 49 ∷ 13 ∷ 10 ∷ 50 ∷ 13 ∷ 10 ∷ []))), 27)
    -- `v/2/7/5 40`, `c/7/5 2,10`
    ∷ (sets (55 ∷ 13 ∷ 10 ∷ 118 ∷ 47 ∷ 50 ∷ 47 ∷ 55 ∷ 47 ∷ 53 ∷ 13 ∷ 10 ∷ 36 ∷ 50 ∷ 13 ∷ 10 ∷ 52 ∷ 48 ∷ 13 ∷ 10 ∷ sets (53 ∷ 13 ∷ 10 ∷ 99 ∷ 47 ∷ 55 ∷ 47 ∷ 53 ∷ 13 ∷ 10 ∷ 36 ∷ 52 ∷ 13 ∷ 10 ∷ 50 ∷ 44 ∷ 49 ∷ 48 ∷ 13 ∷ 10 ∷ [])), 27)
    -- `v/2/7/5 40`, `v/10/7/5 0`, `c/7/5 10,2`
    ∷ (sets (55 ∷ 13 ∷ 10 ∷ 118 ∷ 47 ∷ 50 ∷ 47 ∷ 55 ∷ 47 ∷ 53 ∷ 13 ∷ 10 ∷ 36 ∷ 50 ∷ 13 ∷ 10 ∷ 52 ∷ 48 ∷ 13 ∷ 10 ∷ sets (56 ∷ 13 ∷ 10 ∷ 118 ∷ 47 ∷ 49 ∷ 48 ∷ 47 ∷ 55 ∷ 47 ∷ 53 ∷ 13 ∷ 10 ∷ 36 ∷ 49 ∷ 13 ∷ 10 ∷ 48 ∷ 13 ∷ 10 ∷ sets (53 ∷ 13 ∷ 10 ∷ 99 ∷ 47 ∷ 55 ∷ 47 ∷ 53 ∷ 13 ∷ 10 ∷ 36 ∷ 52 ∷ 13 ∷ 10 ∷ 49 ∷ 48 ∷ 44 ∷ 50 ∷ 13 ∷ 10 ∷ []))), 27)
    -- no commit; a version of another between: `v/2/7/5 40`
    ∷ (sets (55 ∷ 13 ∷ 10 ∷ 118 ∷ 47 ∷ 50 ∷ 47 ∷ 55 ∷ 47 ∷ 53 ∷ 13 ∷ 10 ∷ 36 ∷ 50 ∷ 13 ∷ 10 ∷ 52 ∷ 48 ∷ 13 ∷ 10 ∷ []), 27)
    -- `v/2/7/5 40`, `v/10/7/6 0`, `c/7/5 2,10`
    ∷ (sets (55 ∷ 13 ∷ 10 ∷ 118 ∷ 47 ∷ 50 ∷ 47 ∷ 55 ∷ 47 ∷ 53 ∷ 13 ∷ 10 ∷ 36 ∷ 50 ∷ 13 ∷ 10 ∷ 52 ∷ 48 ∷ 13 ∷ 10 ∷ sets (56 ∷ 13 ∷ 10 ∷ 118 ∷ 47 ∷ 49 ∷ 48 ∷ 47 ∷ 55 ∷ 47 ∷ 54 ∷ 13 ∷ 10 ∷ 36 ∷ 49 ∷ 13 ∷ 10 ∷ 48 ∷ 13 ∷ 10 ∷ sets (53 ∷ 13 ∷ 10 ∷ 99 ∷ 47 ∷ 55 ∷ 47 ∷ 53 ∷ 13 ∷ 10 ∷ 36 ∷ 52 ∷ 13 ∷ 10 ∷ 50 ∷ 44 ∷ 49 ∷ 48 ∷ 13 ∷ 10 ∷ []))), 27)
    -- a byte after the stream; the last one missing: `v/2/7/5 40`, `c/7/5 2`
    ∷ (sets (55 ∷ 13 ∷ 10 ∷ 118 ∷ 47 ∷ 50 ∷ 47 ∷ 55 ∷ 47 ∷ 53 ∷ 13 ∷ 10 ∷ 36 ∷ 50 ∷ 13 ∷ 10 ∷ 52 ∷ 48 ∷ 13 ∷ 10 ∷ sets (53 ∷ 13 ∷ 10 ∷ 99 ∷ 47 ∷ 55 ∷ 47 ∷ 53 ∷ 13 ∷ 10 ∷ 36 ∷ 49 ∷ 13 ∷ 10 ∷ 50 ∷ 13 ∷ 10 ∷ 10 ∷ [])), 27)
    -- `v/2/7/5 40`, `c/7/5 2`
    ∷ (sets (55 ∷ 13 ∷ 10 ∷ 118 ∷ 47 ∷ 50 ∷ 47 ∷ 55 ∷ 47 ∷ 53 ∷ 13 ∷ 10 ∷ 36 ∷ 50 ∷ 13 ∷ 10 ∷ 52 ∷ 48 ∷ 13 ∷ 10 ∷ sets (53 ∷ 13 ∷ 10 ∷ 99 ∷ 47 ∷ 55 ∷ 47 ∷ 53 ∷ 13 ∷ 10 ∷ 36 ∷ 49 ∷ 13 ∷ 10 ∷ 50 ∷ 13 ∷ [])), 27)
    -- a length that is wrong, or has a needless 0; another command: `v/2/7/5 40`, `c/7/5 2`
    ∷ (sets (56 ∷ 13 ∷ 10 ∷ 118 ∷ 47 ∷ 50 ∷ 47 ∷ 55 ∷ 47 ∷ 53 ∷ 13 ∷ 10 ∷ 36 ∷ 50 ∷ 13 ∷ 10 ∷ 52 ∷ 48 ∷ 13 ∷ 10 ∷ sets (53 ∷ 13 ∷ 10 ∷ 99 ∷ 47 ∷ 55 ∷ 47 ∷ 53 ∷ 13 ∷ 10 ∷ 36 ∷ 49 ∷ 13 ∷ 10 ∷ 50 ∷ 13 ∷ 10 ∷ [])), 27)
    -- `v/2/7/5 40`, `c/7/5 2`
    ∷ (sets (48 ∷ 55 ∷ 13 ∷ 10 ∷ 118 ∷ 47 ∷ 50 ∷ 47 ∷ 55 ∷ 47 ∷ 53 ∷ 13 ∷ 10 ∷ 36 ∷ 50 ∷ 13 ∷ 10 ∷ 52 ∷ 48 ∷ 13 ∷ 10 ∷ sets (53 ∷ 13 ∷ 10 ∷ 99 ∷ 47 ∷ 55 ∷ 47 ∷ 53 ∷ 13 ∷ 10 ∷ 36 ∷ 49 ∷ 13 ∷ 10 ∷ 50 ∷ 13 ∷ 10 ∷ [])), 27)
    -- `v/2/7/5 40`, `c/7/5 2`
    ∷ (42 ∷ 51 ∷ 13 ∷ 10 ∷ 36 ∷ 51 ∷ 13 ∷ 10 ∷ 115 ∷ 101 ∷ 116 ∷ 13 ∷ 10 ∷ 36 ∷ 55 ∷ 13 ∷ 10 ∷ 118 ∷ 47 ∷ 50 ∷ 47 ∷ 55 ∷ 47 ∷ 53 ∷ 13 ∷ 10 ∷ 36 ∷ 50 ∷ 13 ∷ 10 ∷ 52 ∷ 48 ∷ 13 ∷ 10 ∷ sets (53 ∷ 13 ∷ 10 ∷ 99 ∷ 47 ∷ 55 ∷ 47 ∷ 53 ∷ 13 ∷ 10 ∷ 36 ∷ 49 ∷ 13 ∷ 10 ∷ 50 ∷ 13 ∷ 10 ∷ []), 27)
    -- key 64, clock 0, ticket 0, ticket 2^32, value 2^64, a needless 0: `v/64/7/5 40`, `c/7/5 64`
    ∷ (sets (56 ∷ 13 ∷ 10 ∷ 118 ∷ 47 ∷ 54 ∷ 52 ∷ 47 ∷ 55 ∷ 47 ∷ 53 ∷ 13 ∷ 10 ∷ 36 ∷ 50 ∷ 13 ∷ 10 ∷ 52 ∷ 48 ∷ 13 ∷ 10 ∷ sets (53 ∷ 13 ∷ 10 ∷ 99 ∷ 47 ∷ 55 ∷ 47 ∷ 53 ∷ 13 ∷ 10 ∷ 36 ∷ 50 ∷ 13 ∷ 10 ∷ 54 ∷ 52 ∷ 13 ∷ 10 ∷ [])), 27)
    -- `v/2/0/5 40`, `c/0/5 2`
    ∷ (sets (55 ∷ 13 ∷ 10 ∷ 118 ∷ 47 ∷ 50 ∷ 47 ∷ 48 ∷ 47 ∷ 53 ∷ 13 ∷ 10 ∷ 36 ∷ 50 ∷ 13 ∷ 10 ∷ 52 ∷ 48 ∷ 13 ∷ 10 ∷ sets (53 ∷ 13 ∷ 10 ∷ 99 ∷ 47 ∷ 48 ∷ 47 ∷ 53 ∷ 13 ∷ 10 ∷ 36 ∷ 49 ∷ 13 ∷ 10 ∷ 50 ∷ 13 ∷ 10 ∷ [])), 27)
    -- `v/2/7/0 40`, `c/7/0 2`
    ∷ (sets (55 ∷ 13 ∷ 10 ∷ 118 ∷ 47 ∷ 50 ∷ 47 ∷ 55 ∷ 47 ∷ 48 ∷ 13 ∷ 10 ∷ 36 ∷ 50 ∷ 13 ∷ 10 ∷ 52 ∷ 48 ∷ 13 ∷ 10 ∷ sets (53 ∷ 13 ∷ 10 ∷ 99 ∷ 47 ∷ 55 ∷ 47 ∷ 48 ∷ 13 ∷ 10 ∷ 36 ∷ 49 ∷ 13 ∷ 10 ∷ 50 ∷ 13 ∷ 10 ∷ [])), 27)
    -- `v/2/7/4294967296 40`, `c/7/4294967296 2`
    ∷ (sets (49 ∷ 54 ∷ 13 ∷ 10 ∷ 118 ∷ 47 ∷ 50 ∷ 47 ∷ 55 ∷ 47 ∷ 52 ∷ 50 ∷ 57 ∷ 52 ∷ 57 ∷ 54 ∷ 55 ∷ 50 ∷ 57 ∷ 54 ∷ 13 ∷ 10 ∷ 36 ∷ 50 ∷ 13 ∷ 10 ∷ 52 ∷ 48 ∷ 13 ∷ 10 ∷ sets (49 ∷ 52 ∷ 13 ∷ 10 ∷ 99 ∷ 47 ∷ 55 ∷ 47 ∷ 52 ∷ 50 ∷ 57 ∷ 52 ∷ 57 ∷ 54 ∷ 55 ∷ 50 ∷ 57 ∷ 54 ∷ 13 ∷ 10 ∷ 36 ∷ 49 ∷ 13 ∷ 10 ∷ 50 ∷ 13 ∷ 10 ∷ [])), 27)
    -- `v/2/7/5 18446744073709551616`, `c/7/5 2`
    ∷ (sets (55 ∷ 13 ∷ 10 ∷ 118 ∷ 47 ∷ 50 ∷ 47 ∷ 55 ∷ 47 ∷ 53 ∷ 13 ∷ 10 ∷ 36 ∷ 50 ∷ 48 ∷ 13 ∷ 10 ∷ 49 ∷ 56 ∷ 52 ∷ 52 ∷ 54 ∷ 55 ∷ 52 ∷ 52 ∷ 48 ∷ 55 ∷ 51 ∷ 55 ∷ 48 ∷ 57 ∷ 53 ∷ 53 ∷ 49 ∷ 54 ∷ 49 ∷ 54 ∷ 13 ∷ 10 ∷ sets (53 ∷ 13 ∷ 10 ∷ 99 ∷ 47 ∷ 55 ∷ 47 ∷ 53 ∷ 13 ∷ 10 ∷ 36 ∷ 49 ∷ 13 ∷ 10 ∷ 50 ∷ 13 ∷ 10 ∷ [])), 27)
    -- `v/02/7/5 40`, `c/7/5 2`
    ∷ (sets (56 ∷ 13 ∷ 10 ∷ 118 ∷ 47 ∷ 48 ∷ 50 ∷ 47 ∷ 55 ∷ 47 ∷ 53 ∷ 13 ∷ 10 ∷ 36 ∷ 50 ∷ 13 ∷ 10 ∷ 52 ∷ 48 ∷ 13 ∷ 10 ∷ sets (53 ∷ 13 ∷ 10 ∷ 99 ∷ 47 ∷ 55 ∷ 47 ∷ 53 ∷ 13 ∷ 10 ∷ 36 ∷ 49 ∷ 13 ∷ 10 ∷ 50 ∷ 13 ∷ 10 ∷ [])), 27)
    ∷ []

pub count : Option (List Transaction) → ℕ
count none = 27
count (some xs) = length xs

-- The claim: each is taken so.
pub streams-hold : map (λ (x : List ℕ × ℕ). count (transactions_in x.0)) streams ≡ map (λ (x : List ℕ × ℕ). x.1) streams
unfolding streams count transactions_in sequence_in sequence_from transaction_in versions_from onward goes_on closed version_in valued name_in id_text_in id_from bulk_in bulk_of ◌then◌ after oldest_first none_twice distinct older same_id commit_command set_command set_begins bulk line_end commit_name id_text keys_text keys_after digits digits_of field after_field number_below is_decimal number_from is_digit all any member ◌and◌ ◌or◌
streams-hold = refl

-- the stream of two transactions, byte for byte
unfoldable pub first_two : List Transaction
first_two = record { id = record { clock = 7; txn = 5 }; writes = record { key = 2; value = 40 } ∷ record { key = 10; value = 0 } ∷ [] }
    ∷ record { id = record { clock = 7; txn = 6 }; writes = record { key = 2; value = 41 } ∷ [] } ∷ []

pub stream-written : stream_of first_two ≡ sets (55 ∷ 13 ∷ 10 ∷ 118 ∷ 47 ∷ 50 ∷ 47 ∷ 55 ∷ 47 ∷ 53 ∷ 13 ∷ 10 ∷ 36 ∷ 50 ∷ 13 ∷ 10 ∷ 52 ∷ 48 ∷ 13 ∷ 10 ∷ sets (56 ∷ 13 ∷ 10 ∷ 118 ∷ 47 ∷ 49 ∷ 48 ∷ 47 ∷ 55 ∷ 47 ∷ 53 ∷ 13 ∷ 10 ∷ 36 ∷ 49 ∷ 13 ∷ 10 ∷ 48 ∷ 13 ∷ 10 ∷ sets (53 ∷ 13 ∷ 10 ∷ 99 ∷ 47 ∷ 55 ∷ 47 ∷ 53 ∷ 13 ∷ 10 ∷ 36 ∷ 52 ∷ 13 ∷ 10 ∷ 50 ∷ 44 ∷ 49 ∷ 48 ∷ 13 ∷ 10 ∷ sets (55 ∷ 13 ∷ 10 ∷ 118 ∷ 47 ∷ 50 ∷ 47 ∷ 55 ∷ 47 ∷ 54 ∷ 13 ∷ 10 ∷ 36 ∷ 50 ∷ 13 ∷ 10 ∷ 52 ∷ 49 ∷ 13 ∷ 10 ∷ sets (53 ∷ 13 ∷ 10 ∷ 99 ∷ 47 ∷ 55 ∷ 47 ∷ 54 ∷ 13 ∷ 10 ∷ 36 ∷ 49 ∷ 13 ∷ 10 ∷ 50 ∷ 13 ∷ 10 ∷ [])))))
unfolding first_two stream_of transaction_text versions_text version_command commit_command set_command set_begins bulk line_end version_name commit_name id_text keys_text keys_after digits digits_of
stream-written = refl

-- ── "13: more than 64 commits, after 27" ──
-- so many transactions, from clock and number n on
pub several : ℕ → ℕ → List Transaction
several zero n = []
several (suc m) n = record { id = record { clock = n; txn = n }; writes = record { key = 2; value = 40 } ∷ [] } ∷ several m (n + 1)

pub said : List ℕ → Result ℕ Refused
said bs = (taken (transactions_in bs) []).answer

pub sixty-four : said (stream_of (several 64 1)) ≡ Ok 64
unfolding said several taken stream_of transaction_text versions_text version_command version_name transactions_in sequence_in sequence_from transaction_in versions_from onward goes_on closed version_in valued name_in id_text_in id_from bulk_in bulk_of ◌then◌ after oldest_first none_twice distinct older same_id commit_command set_command set_begins bulk line_end commit_name id_text keys_text keys_after digits digits_of field after_field number_below is_decimal number_from is_digit all any member ◌and◌ ◌or◌
sixty-four = refl

pub sixty-five : said (stream_of (several 65 1)) ≡ refused 13 0
unfolding said several taken stream_of transaction_text versions_text version_command version_name transactions_in sequence_in sequence_from transaction_in versions_from onward goes_on closed version_in valued name_in id_text_in id_from bulk_in bulk_of ◌then◌ after oldest_first none_twice distinct older same_id commit_command set_command set_begins bulk line_end commit_name id_text keys_text keys_after digits digits_of field after_field number_below is_decimal number_from is_digit all any member ◌and◌ ◌or◌
sixty-five = refl

-- one bad byte after 65 good ones
pub sixty-five-and-a-byte : said (stream_of (several 65 1) ++ (42 ∷ [])) ≡ refused 27 0
unfolding said several taken stream_of transaction_text versions_text version_command version_name transactions_in sequence_in sequence_from transaction_in versions_from onward goes_on closed version_in valued name_in id_text_in id_from bulk_in bulk_of ◌then◌ after oldest_first none_twice distinct older same_id commit_command set_command set_begins bulk line_end commit_name id_text keys_text keys_after digits digits_of field after_field number_below is_decimal number_from is_digit all any member ◌and◌ ◌or◌
sixty-five-and-a-byte = refl

-- the first ticket again, as the 66th: "27 .. a repeated ticket" over the whole stream
pub again-after-sixty-five : said (stream_of (several 65 1 ++ (record { id = record { clock = 66; txn = 1 }; writes = record { key = 2; value = 40 } ∷ [] } ∷ []))) ≡ refused 27 0
unfolding said several taken stream_of transaction_text versions_text version_command version_name transactions_in sequence_in sequence_from transaction_in versions_from onward goes_on closed version_in valued name_in id_text_in id_from bulk_in bulk_of ◌then◌ after oldest_first none_twice distinct older same_id commit_command set_command set_begins bulk line_end commit_name id_text keys_text keys_after digits digits_of field after_field number_below is_decimal number_from is_digit all any member ◌and◌ ◌or◌
again-after-sixty-five = refl
