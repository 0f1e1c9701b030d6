-- 01 'Calls', get: Algorithm 1 of the paper, over any list of entries es and any list of reads rs; and 02 §1, the key that nofit names.
use Rattle.std.specs.Prelude.{ℕ, ◌≡◌, Bool, true, false, not, get_or}
use mathlib.Core.List.{List, map, Memᴰ}
use Rattle.std.proofs.Math.Option
use Rattle.std.proofs.Math.Option.{Option, some, none, Option-elim}
use Rattle.model.specs.declared.Id.{Id}
use Rattle.model.specs.declared.Read.{Read}
use Rattle.model.specs.Types.{Entry}
use Rattle.model.specs.Lists.{◌and◌, any, filter, least}
use Rattle.model.specs.Ids.{older, greatest}
use Rattle.model.specs.Lives.{read_key}
use Rattle.model.specs.Entries.{no_entry, wrote, wrote_as}
use Rattle.model.specs.Orders.{newest}

-- "The lower bound is the greatest id in the read list whose transaction wrote this key, or none."
unfoldable pub lower_bound : List Entry → List Read → ℕ → Id
lower_bound es rs k = greatest (map (λ (r : Read). r.id) (filter (λ r. wrote_as es r.id k) rs))

-- "An entry conflicts when it wrote some key whose read version is older than the entry."
unfoldable pub conflicts_with : Entry → Read → Bool
conflicts_with e r = wrote e r.key and older r.id e.id

-- 02 §1: "The test of a candidate then gives that key, not yes or no": the lowest on which the entry conflicts, or none
unfoldable pub lowest_conflict : Entry → List Read → Option ℕ
lowest_conflict e rs = least (map read_key (filter (conflicts_with e) rs))

unfoldable pub conflicts : Entry → List Read → Bool
conflicts e rs = Option-elim (lowest_conflict e rs) false (λ k. true)

-- "wrote the key, is not below the bound, and conflicts with no read"
unfoldable pub passes : List Entry → List Read → ℕ → Entry → Bool
passes es rs k e = wrote e k and not (older e.id (lower_bound es rs k)) and not (conflicts e rs)

-- 02 §1: "Answer nofit with a key: the lowest on which the newest entry that wrote the wanted key conflicts." (0 stands for none; a nofit
-- always has one: nofit-has-key)
unfoldable pub newest_writer : List Entry → ℕ → Entry
newest_writer es k = Option-elim (newest (λ e. wrote e k) es) no_entry (λ d. get_or es d no_entry)

unfoldable pub key_in_the_way : List Entry → List Read → ℕ → ℕ
key_in_the_way es rs k = Option.get_or (lowest_conflict (newest_writer es k) rs) 0

-- what a get is answered from: its own write's value, no version, no version that fits and the key in the way, or the version in a slot
pub data Choice : Type 0 where
  own : ℕ → Choice
  absent : Choice
  nofit : ℕ → Choice
  version : ℕ → Choice

-- "If no entry wrote the key: none. If some did but none passes: nofit."
unfoldable pub chosen : Bool → Option ℕ → ℕ → Choice
chosen written (some d) x = version d
chosen true none x = nofit x
chosen false none x = absent

unfoldable pub choose : List Entry → List Read → ℕ → Choice
choose es rs k = chosen (any (λ e. wrote e k) es) (newest (passes es rs k) es) (key_in_the_way es rs k)

-- "Atomic Readset (§3.2): for any read of version i, and any key that i's transaction wrote and that was also read, the version read
-- of that key is not older than i."
abbrev pub Atomic : List Entry → List Read → Type 0
Atomic es rs = (r q : Read) → Memᴰ r rs → Memᴰ q rs → wrote_as es r.id q.key ≡ true → older q.id r.id ≡ false
