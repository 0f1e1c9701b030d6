-- 01 'Words': "Id: the pair (clock, ticket), compared by clock, then ticket. Newer means greater."
use Rattle.std.specs.Prelude.{Bool, cond, List, [], ◌∷◌, eqb, ltb}
use Rattle.model.specs.declared.Id.{Id}
use Rattle.model.specs.Lists.{◌and◌, ◌or◌}

unfoldable pub older : Id → Id → Bool
older i j = ltb i.clock j.clock or eqb i.clock j.clock and ltb i.txn j.txn

unfoldable pub same_id : Id → Id → Bool
same_id i j = eqb i.clock j.clock and eqb i.txn j.txn

-- (0, 0) is no transaction's id, and no id is older
abbrev pub no_id : Id
no_id = record { clock = 0; txn = 0 }

-- the newer of two ids; the greatest of a list, no_id of none
unfoldable pub newer_of : Id → Id → Id
newer_of i j = cond (older i j) j i

unfoldable pub greatest : List Id → Id
greatest [] = no_id
greatest (i ∷ is) = newer_of i (greatest is)
