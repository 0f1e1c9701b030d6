-- A set with one key more: what `with_key` gives is the number of the list with the key put in.
use Prim.Native.Nat.{ℕ, ◌<◌}
use mathlib.Core.Path.{◌≡◌, sym, ap, subst, ◌∙◌}
use mathlib.Core.Bool.{true}
use mathlib.Core.List.{List, map-id}
use lib.Dec.{eqb}
use native.Mathlib.Omega.{arith}
use Rattle.model.specs.Lists.{◌or◌, member, insert, ascending}
use Rattle.model.specs.Limits.{keys, number_range}
use Rattle.model.specs.KeySets.{key_set, set_number}
use Rattle.model.proofs.InsertLaws.{insert-ascending, insert-member}
use Rattle.model.proofs.KeySetLaws.{ascending-same, set-ascends, set-number}
use Rattle.keysets.specs.Parts.{AlsoHas}
use Rattle.logtable.specs.Tables.{with_key}

abbrev itself : ℕ → ℕ
itself x = x

pub key-put : (n k r : ℕ) → k < keys → r < number_range → AlsoHas n k r → r ≡ with_key n k
unfolding with_key
key-put n k r low small also = sym (set-number r small) ∙ ap set_number (ascending-same keys (key_set r) put (set-ascends r) up each)
  where
    put : List ℕ
    put = insert itself k (key_set n)

    up : ascending 0 keys put ≡ true
    up = subst (λ (xs : List ℕ). ascending 0 keys xs ≡ true) (map-id put)
        (insert-ascending itself k 0 keys (key_set n) (subst (λ (xs : List ℕ). ascending 0 keys xs ≡ true) (sym (map-id (key_set n))) (set-ascends n)) (omega arith) low)

    each : (j : ℕ) → member j (key_set r) ≡ member j put
    each j = also j ∙ sym (ap (member j) (sym (map-id put)) ∙ (insert-member itself k j (key_set n) ∙ ap (λ (xs : List ℕ). eqb j k or member j xs) (map-id (key_set n))))
