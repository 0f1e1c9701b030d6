-- Ids and tests, compared as the code compares them.
use mathlib.Core.Path.{◌≡◌, refl, sym}
use mathlib.Core.Bool.{Bool, true, false, cond}
use lib.Dec.{eqb, ltb}
use Rattle.std.proofs.Common.{Option, Some, Ordering, Less, Equal, Greater}
use Rattle.std.specs.Ordering.{is_lt, is_some_and, partial_ordering_then}
use Rattle.model.specs.declared.Id.{Id}
use Rattle.model.specs.Lists.{◌and◌, ◌or◌}
use Rattle.model.specs.Ids.{older}

-- the order that is derived: of the clocks, and of the transactions where these are one
abbrev compared : Bool → Bool → Bool → Bool → Option Ordering
compared p q r s = partial_ordering_then (Some (cond p Less (cond q Equal Greater))) (Some (cond r Less (cond s Equal Greater)))

less-is : (p q r s : Bool) → is_some_and is_lt (compared p q r s) ≡ (p or q and r)
unfolding ◌and◌ ◌or◌
less-is true q r s = refl
less-is false false r s = refl
less-is false true true s = refl
less-is false true false true = refl
less-is false true false false = refl

module _ (i j : Id) where
  pub less-older : is_some_and is_lt (compared (ltb i.clock j.clock) (eqb i.clock j.clock) (ltb i.txn j.txn) (eqb i.txn j.txn)) ≡ older i j
  unfolding older
  less-older = less-is _ _ _ _

-- a test alone decides, where the other holds
pub and-when : (a b : Bool) → b ≡ true → a ≡ (a and b)
unfolding ◌and◌
and-when true b e = sym e
and-when false b e = refl
