-- 01 'Calls', collect: Algorithm 2 of the paper, over any list of entries es.
use Rattle.std.specs.Prelude.{ℕ, Bool, List}
use Rattle.model.specs.Types.{Entry, Live, Station}
use Rattle.model.specs.Lists.{◌and◌, all, any}
use Rattle.model.specs.Ids.{older, same_id}
use Rattle.model.specs.Lives.{reads_of}
use Rattle.model.specs.Entries.{keys_of, wrote}

-- some entry that wrote the key is newer than e
unfoldable pub newer_on : List Entry → Entry → ℕ → Bool
newer_on es e k = any (λ f. wrote f k and older e.id f.id) es

-- "every key it wrote has a newer entry (Algorithm 2)"
unfoldable pub superseded : List Entry → Entry → Bool
superseded es e = all (newer_on es e) (keys_of e)

-- a "live ticket's read list has its id"
unfoldable pub is_read_by : Entry → Live → Bool
is_read_by e l = any (λ r. same_id e.id r.id) (reads_of l)

unfoldable pub is_read : Station → Entry → Bool
is_read st e = any (is_read_by e) st.live
