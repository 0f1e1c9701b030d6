-- `stations::with_write` meets its contract.
use Prim.Native.Nat.{◌<◌}
use mathlib.Core.Path.{◌≡◌, sym, ◌∙◌}
use Rattle.model.proofs.Tests.{and_second, not_of_false}
use lib.Dec.{leb}
use lib.ListN.{length}
use native.Mathlib.Omega.{arith}
use borrow.Author.Rules.{rules}
use borrow.Author.Tests.{leb-false}
use Rattle.model.specs.KeySets.{key_set}
use Rattle.stations.proofs.Search.{first-at-most}
use Rattle.stations.proofs.Sets.{has-written, written_below, write-replaced, write-added}
use Rattle.stations.proofs.with_write.Goals as goal

-- the key is there: its position is in the write set
below : (c : goal.Then-has_key) → c.keys_below-at.result < length (key_set c.args.l.keys)
below c =
    let a = c.args in
    written_below a.l a.key _ c.keys_below-at.ensures (sym (has-written a.l a.key) ∙ (sym c.has_key.ensures ∙ c.if-has_key.true))

pub offset_bounds-m-at : goal.offset_bounds-m-at
offset_bounds-m-at c = omega (arith, below c, c.requires.keys_len_bound)

pub bounds-m-at : goal.bounds-m-at
bounds-m-at c = omega (arith, below c, c.requires.keys_len_bound)

pub returns-then-has_key : goal.returns-then-has_key
returns-then-has_key c =
    let long : length c.args.l.values ≡ 16 = search rules in
    write-replaced c.args.l long c.requires.keys_len_bound c.requires.l_value _ _ _ c.requires.key_lt_keys c.keys_below-at.ensures (sym c.has_key.ensures ∙ c.if-has_key.true)

-- the key is not there: there is room for it
pub join-requires : goal.join-requires
join-requires c =
    let long : length c.args.l.values ≡ 16 = search rules in
    let few = leb-false 16 (length (key_set c.args.l.keys)) (and_second _ _ c.requires.keys_value (not_of_false _ (sym (has-written c.args.l c.args.key) ∙ (sym c.has_key.ensures ∙ c.if-has_key.false)))) in
    omega (arith, long, few, c.keys_below-at.ensures, first-at-most (leb c.args.key) (key_set c.args.l.keys))

pub returns-else-has_key : goal.returns-else-has_key
returns-else-has_key c =
    let long : length c.args.l.values ≡ 16 = search rules in
    rw (c.join.ensures, long)
    (write-added c.args.l long c.requires.keys_len_bound c.requires.l_value _ _ _ c.requires.key_lt_keys c.keys_below-at.ensures (sym c.has_key.ensures ∙ c.if-has_key.false) c.requires.keys_value _ c.with_key.ensures)
