-- Of the entries that pass a test, the newest and the oldest.
use Rattle.std.specs.Prelude.{ℕ, suc, Bool, true, false, cond, List, [], ◌∷◌, get_or}
use Rattle.std.proofs.Math.Option.{Option, some, none}
use Rattle.model.specs.declared.Id.{Id}
use Rattle.model.specs.Types.{Entry}
use Rattle.model.specs.Ids.{older}
use Rattle.model.specs.Entries.{no_entry}

-- the position of the one that comes first in an order of ids, of equal ids the first in the list; `after i j`: i comes after j
unfoldable pub keep_first : (Id → Id → Bool) → Bool → Entry → List Entry → Option ℕ → Option ℕ
keep_first after false e es none = none
keep_first after false e es (some d) = some (suc d)
keep_first after true e es none = some 0
keep_first after true e es (some d) = cond (after e.id (get_or es d no_entry).id) (some (suc d)) (some 0)

unfoldable pub foremost : (Id → Id → Bool) → (Entry → Bool) → List Entry → Option ℕ
foremost after p [] = none
foremost after p (e ∷ es) = keep_first after (p e) e es (foremost after p es)

-- 01 'Calls', get: "the newest entry that ..": the greatest id comes first
unfoldable pub newest : (Entry → Bool) → List Entry → Option ℕ
newest = foremost older

-- 02 §2: "the oldest id it may": the least id comes first
unfoldable pub newer : Id → Id → Bool
newer i j = older j i

unfoldable pub oldest : (Entry → Bool) → List Entry → Option ℕ
oldest = foremost newer
