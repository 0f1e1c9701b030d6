-- `logtable::older_at` meets its contract.
use mathlib.Core.Path.{◌≡◌, refl, ◌∙◌}
use mathlib.Core.Bool.{Bool, true, false, cond}
use lib.Dec.{eqb, ltb}
use Rattle.std.proofs.Common.{Some, Less, Equal, Greater}
use Rattle.std.specs.Ordering.{is_lt, is_some_and, partial_ordering_then}
use Rattle.model.specs.Ids.{older}
use Rattle.model.specs.Lists.{◌and◌, ◌or◌}
use Rattle.logtable.specs.Tables.{clock_at, txn_at}
use Rattle.logtable.specs.Findings.{older_at}
use Rattle.logtable.proofs.older_at.Goals as goal

-- the order of two pairs, by how their first and their second numbers compare
pair-less : (p q r s : Bool) → is_some_and is_lt (partial_ordering_then (Some (cond p Less (cond q Equal Greater))) (Some (cond r Less (cond s Equal Greater)))) ≡ (p or q and r)
unfolding ◌and◌ ◌or◌
pair-less true q r s = refl
pair-less false false r s = refl
pair-less false true true s = refl
pair-less false true false true = refl
pair-less false true false false = refl

pub returns : goal.returns
unfolding older_at older
returns c =
    let a = c.args in
    let T = a.table.now in
    c.lt.ensures
    ∙ pair-less (ltb (clock_at T a.a) (clock_at T a.b)) (eqb (clock_at T a.a) (clock_at T a.b)) (ltb (txn_at T a.a) (txn_at T a.b)) (eqb (txn_at T a.a) (txn_at T a.b))
