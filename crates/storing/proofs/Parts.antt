-- The change that a call comes to, with the store at exit.
use Prim.Native.Nat.{ℕ}
use mathlib.Core.Path.{◌≡◌, sym, ap, ◌∙◌}
use mathlib.Core.Bool.{false}
use mathlib.Core.List.{List}
use lib.ListN.{length}
use borrow.Author.Tests.{eq-eqb}
use Rattle.model.specs.Kinds.{Kind, store_size}
use Rattle.model.specs.declared.Station as machine
use Rattle.model.specs.Types.{Station}
use Rattle.model.specs.declared.Answer.{Answer}
use Rattle.model.specs.Effects.{Effect, stored, outcome_of, says, says_storing, wrong_length}
use Rattle.model.specs.Records.{with_record}
use Rattle.model.proofs.Tests.{not-of-true}
use Rattle.stations.specs.declared.Change.{Change}
use Rattle.stations.proofs.Changes.{as-outcome, as-effect}
use Rattle.stations.specs.Changes.{IsChange}

-- the change, and the store at exit: with nothing stored, with one record stored
module _ (st : machine.Station) (c : Change) (e : Effect) (a : Answer) (x : Station) where
  pub handed : (s : List ℕ) → e ≡ says a x → IsChange st (says a x) c → IsChange st e c × (s ≡ stored e.stores s)
  unfolding says stored
  handed s q h = (as-effect st e (says a x) c q h, sym (ap (λ (y : Effect). stored y.stores s) q))

  pub handed-storing : (d n : ℕ) (r s z : List ℕ) → e ≡ says_storing a x d n r → IsChange st (says a x) c → z ≡ with_record x.kind s d n r → IsChange st e c × (z ≡ stored e.stores s)
  unfolding outcome_of says says_storing stored
  handed-storing d n r s z q h w = (as-outcome st e (says a x) c (ap outcome_of q) h, w ∙ sym (ap (λ (y : Effect). stored y.stores s) q))

-- a refusal stores nothing
pub refused-stores : (e : Effect) (a : Answer) (x : Station) (s : List ℕ) → e ≡ says a x → s ≡ stored e.stores s
unfolding says stored
refused-stores e a x s q = sym (ap (λ (y : Effect). stored y.stores s) q)

-- row 1 does not apply
pub length-right : (κ : Kind) (s : List ℕ) → length s ≡ store_size κ → wrong_length κ s ≡ false
unfolding wrong_length
length-right κ s z = not-of-true _ (eq-eqb _ _ z)
