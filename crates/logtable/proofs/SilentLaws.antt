-- A transaction that neither writes nor reads: nothing is said of it, and it does not commit.
use Prim.Native.Nat.{ℕ}
use mathlib.Core.Path.{◌≡◌, refl, sym, ap, ◌∙◌}
use mathlib.Core.Bool.{Bool, true, false, true≢false}
use mathlib.Core.List.{List, [], ◌∷◌}
use lib.Dec.{eqb}
use borrow.Author.Tests.{eqb-true}
use Rattle.model.specs.declared.Id.{Id}
use Rattle.model.specs.Lists.{any, member}
use Rattle.model.proofs.Tests.{or_left, or_right}
use Rattle.model.proofs.ListLaws.{any-no, member-cons}
use Rattle.shoplog.specs.Lines.{Line, write, commit, read}
use Rattle.shoplog.specs.Verdicts.{gathered, actor_in, written_in, read_in, commit_in, actors, write_set, read_set, is_committed, committed_as}
use Rattle.shoplog.specs.Claims.{AllFine}
use Rattle.shoplog.proofs.GatheredLaws.{as-is-committed}
use Rattle.shoplog.proofs.FineLaws.{fine-good, commit-written}

-- not among the transactions of one line more
not_there : (t u : ℕ) (ts : List ℕ) → member t (u ∷ ts) ≡ false → (eqb t u ≡ false) × (member t ts ≡ false)
not_there t u ts h = let q = sym (member-cons t u ts) ∙ h in (or_left _ _ q, or_right _ _ q)

pub silent-writes : (ls : List Line) (t : ℕ) → member t (actors ls) ≡ false → write_set t ls ≡ []
unfolding actors write_set gathered actor_in written_in
silent-writes [] t h = refl
silent-writes (write u k ∷ ls) t h = let q = not_there t u (actors ls) h in rw q.0 (silent-writes ls t q.1)
silent-writes (commit u c ∷ ls) t h = silent-writes ls t h
silent-writes (read u k i ∷ ls) t h = silent-writes ls t (not_there t u (actors ls) h).1

pub silent-reads : (ls : List Line) (t : ℕ) → member t (actors ls) ≡ false → read_set t ls ≡ []
unfolding actors read_set gathered actor_in read_in
silent-reads [] t h = refl
silent-reads (write u k ∷ ls) t h = silent-reads ls t (not_there t u (actors ls) h).1
silent-reads (commit u c ∷ ls) t h = silent-reads ls t h
silent-reads (read u k i ∷ ls) t h = let q = not_there t u (actors ls) h in rw q.0 (silent-reads ls t q.1)

-- a commit is of one that wrote
pub silent-commits : (ls : List Line) (t : ℕ) → AllFine ls → member t (actors ls) ≡ false → is_committed ls t ≡ false
unfolding AllFine actors is_committed gathered actor_in commit_in any
silent-commits [] t f h = refl
silent-commits (write u k ∷ ls) t f h = silent-commits ls t f.1 (not_there t u (actors ls) h).1
silent-commits (commit u c ∷ ls) t f h = go (eqb t u) refl (silent-commits ls t f.1 h)
  where
    go : (b : Bool) → eqb t u ≡ b → is_committed ls t ≡ false → is_committed (commit u c ∷ ls) t ≡ false
    go true e ih = absurd ((commit-written ls u c (fine-good ls (commit u c) f.0).1).1 (ap (λ (v : ℕ). write_set v ls) (sym (eqb-true t u e)) ∙ silent-writes ls t h))
    go false e ih = any-no (λ (i : Id). eqb t i.txn) (record { clock = c; txn = u }) (gathered commit_in ls) e ∙ ih
silent-commits (read u k i ∷ ls) t f h = silent-commits ls t f.1 (not_there t u (actors ls) h).1

pub silent-commits-as : (ls : List Line) (i : Id) → AllFine ls → member i.txn (actors ls) ≡ false → committed_as ls i ≡ false
silent-commits-as ls i f h = go (committed_as ls i) refl
  where
    go : (b : Bool) → committed_as ls i ≡ b → committed_as ls i ≡ false
    go true e = absurd (true≢false (sym (as-is-committed ls i e) ∙ silent-commits ls i.txn f h))
    go false e = e
