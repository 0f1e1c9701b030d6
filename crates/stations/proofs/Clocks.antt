-- The greatest of a list, as `max` answers it, and of two lists.
use Prim.Native.Nat.{ℕ, max}
use mathlib.Core.Path.{◌≡◌, sym, ap, ◌∙◌}
use mathlib.Core.List.{List, [], ◌∷◌, ◌++◌}
use native.Mathlib.Omega.{arith}
use Rattle.std.specs.Prelude.{Option}
use Rattle.std.specs.Option.{unwrap_or, option_map}
use Rattle.std.specs.List.{reduce}
use Rattle.std.proofs.lemmas.Iterator.Adapters.{option_map_id}
use Rattle.model.specs.Lists.{maximum}
use Rattle.model.proofs.StdWords.{maximum_from_max}

pub greatest-is : (xs : List ℕ) (r : ℕ) (o : Option ℕ) → r ≡ unwrap_or o 0 → option_map (λ x. x) o ≡ reduce max xs → r ≡ maximum xs
greatest-is xs r o u e = u ∙ (ap (λ (q : Option ℕ). unwrap_or q 0) (sym (option_map_id o) ∙ e) ∙ maximum_from_max xs)

pub maximum-append : (xs ys : List ℕ) → maximum (xs ++ ys) ≡ max (maximum xs) (maximum ys)
unfolding maximum
maximum-append [] ys = omega arith
maximum-append (x ∷ xs) ys = omega (arith, maximum-append xs ys)
