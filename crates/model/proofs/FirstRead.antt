-- A get by a transaction that has read nothing and has not written the key: it is answered the newest entry that wrote it.
use Prim.Native.Nat.{ℕ, ◌<◌}
use mathlib.Core.Path.{◌≡◌, refl, sym, ◌∙◌}
use mathlib.Core.Bool.{true, false, true≢false}
use mathlib.Core.List.{List, []}
use mathlib.Core.Option.{Option, some, none, Option-elim}
use lib.ListN.{length, get_or}
use Rattle.model.specs.Types.{Entry}
use Rattle.model.specs.Lists.{filter, least}
use Rattle.model.specs.Ids.{older, greatest}
use Rattle.model.specs.Entries.{no_entry, wrote}
use Rattle.model.specs.Orders.{newest}
use Rattle.model.specs.Reading.{lower_bound, lowest_conflict, conflicts, passes, version, chosen, choose}
use Rattle.model.proofs.Tests.{and_intro, not_of_false}
use Rattle.model.proofs.IdLaws.{none-older}
use Rattle.model.proofs.OrderLaws.{newest-is, newest-none}

module _ (es : List Entry) (k : ℕ) where
  -- no read bounds or is in the way
  unread-passes : (e : Entry) → wrote e k ≡ true → passes es [] k e ≡ true
  unfolding passes lower_bound conflicts lowest_conflict filter least greatest Option-elim
  unread-passes e w = and_intro _ _ (and_intro _ _ w (not_of_false _ (none-older e.id))) refl

  pub first_read : (d : ℕ) → d < length es → wrote (get_or es d no_entry) k ≡ true
      → (c : ℕ) × (choose es [] k ≡ version c) × (c < length es) × (older (get_or es c no_entry).id (get_or es d no_entry).id ≡ false)
  first_read d o w = go (newest (passes es [] k) es) refl
    where
      go : (x : Option ℕ) → newest (passes es [] k) es ≡ x → (c : ℕ) × (choose es [] k ≡ version c) × (c < length es) × (older (get_or es c no_entry).id (get_or es d no_entry).id ≡ false)
      go none e = absurd (true≢false (sym (unread-passes _ w) ∙ newest-none (passes es [] k) es e d o))
      go (some c) e = (c, (unfold choose chosen in rw e), (newest-is (passes es [] k) es c e).low, (newest-is (passes es [] k) es c e).first d o (unread-passes _ w))
