-- One more read of a place: the key is there already, or it is new.
use Prim.Native.Nat.{ℕ, ◌+◌}
use mathlib.Core.Path.{◌≡◌}
use mathlib.Core.Bool.{true, false}
use mathlib.Core.List.{List}
use lib.ListN.{length, set}
use Rattle.model.specs.Lists.{member}
use Rattle.model.specs.KeySets.{key_set}
use Rattle.logtable.specs.Tables.{read_at, reads_start, read_word, with_key, after_read}

module _ (T : List ℕ) (p a t k : ℕ) where
  pub read_again : member k (key_set (read_at T p)) ≡ true → T ≡ after_read T p a t k
  unfolding after_read
  read_again m = rw m

  pub read-added : (n r : ℕ) → member k (key_set (read_at T p)) ≡ false → n ≡ length (key_set (read_at T p)) → r ≡ with_key (read_at T p) k
      → set (set (set T p t) (192 + p) r) (reads_start p + n) (read_word k a) ≡ after_read T p a t k
  unfolding after_read
  read-added n r m e q = rw (m, e, q)
