-- What it says of a line that nothing is wrong with it.
use Prim.Native.Nat.{ℕ}
use mathlib.Core.Path.{◌≡◌, refl, ap}
use mathlib.Core.Logic.{◌≢◌}
use mathlib.Core.Bool.{Bool, true, false, not, cond}
use mathlib.Core.List.{List, [], ◌∷◌, ◌++◌, Memᴰ}
use lib.Dec.{eqb}
use lib.ListN.{length}
use native.Mathlib.Omega.{arith}
use borrow.Author.Tests.{not-false, eqb-false, eq-eqb}
use Rattle.model.specs.declared.Id.{Id}
use Rattle.model.specs.declared.Read.{Read}
use Rattle.model.specs.Lists.{◌and◌, all}
use Rattle.model.specs.Ids.{older, same_id}
use Rattle.model.proofs.Tests.{or_left, or_right, nand, and_second}
use Rattle.model.proofs.ListLaws.{all-mem, any_none}
use Rattle.model.proofs.IdLaws.{same_id_lem}
use Rattle.shoplog.specs.Findings.{Fine, Over, Bad}
use Rattle.shoplog.specs.Lines.{Line, commit, read}
use Rattle.shoplog.specs.Verdicts.{write_set, read_set, has_written, is_committed, committed_as, is_over, is_atomic, at_another, is_bad, finding_of}
use Rattle.shoplog.specs.Claims.{AllFine}

pub fine-good : (ls : List Line) (l : Line) → finding_of ls l ≡ Fine → (is_over ls l ≡ false) × (is_bad ls l ≡ false)
unfolding finding_of
fine-good ls l h = go (is_over ls l) refl (is_bad ls l) refl h
  where
    go : (a : Bool) → is_over ls l ≡ a → (b : Bool) → is_bad ls l ≡ b → cond a Over (cond b Bad Fine) ≡ Fine → (is_over ls l ≡ false) × (is_bad ls l ≡ false)
    go true e b d q = absurd (let z : ◌≡◌ {A = ℕ} 0 1 = cc in omega arith)
    go false e true d q = absurd (let z : ◌≡◌ {A = ℕ} 0 1 = cc in omega arith)
    go false e false d q = (e, d)

pub good-fine : (ls : List Line) (l : Line) → is_over ls l ≡ false → is_bad ls l ≡ false → finding_of ls l ≡ Fine
unfolding finding_of
good-fine ls l o b = rw (o, b)

-- ── a commit ──
pub commit-written : (ls : List Line) (t c : ℕ) → is_bad ls (commit t c) ≡ false → (is_committed ls t ≡ false) × (write_set t ls ≢ [])
unfolding is_bad
commit-written ls t c h = (or_left _ _ h, λ e. eqb-false (length (write_set t ls)) 0 (or_right _ _ h) (ap length e))

-- ── a read ──
pub record ReadFine (ls : List Line) (t k : ℕ) (i : Id) : Type 0 where
  pub open-reader : is_committed ls t ≡ false
  pub committed : committed_as ls i ≡ true
  pub wrote : has_written ls i.txn k ≡ true
  pub not_own : has_written ls t k ≡ false
  pub atomic : is_atomic ls (record { key = k; id = i } ∷ read_set t ls) ≡ true
  pub one-version : at_another k i (read_set t ls) ≡ false

pub read-fine : (ls : List Line) (t k : ℕ) (i : Id) → is_bad ls (read t k i) ≡ false → ReadFine ls t k i
unfolding is_bad
read-fine ls t k i h = record {
  open-reader = or_left _ _ (or_left _ _ (or_left _ _ (or_left _ _ (or_left _ _ h))));
  committed = not-false _ (or_right _ _ (or_left _ _ (or_left _ _ (or_left _ _ (or_left _ _ h)))));
  wrote = not-false _ (or_right _ _ (or_left _ _ (or_left _ _ (or_left _ _ h))));
  not_own = or_right _ _ (or_left _ _ (or_left _ _ h));
  atomic = not-false _ (or_right _ _ (or_left _ _ h));
  one-version = or_right _ _ h;
}

-- Definition 1, of any two of the reads
pub atomic-reads : (ls : List Line) (rs : List Read) → is_atomic ls rs ≡ true → (r q : Read) → Memᴰ r rs → Memᴰ q rs
    → has_written ls r.id.txn q.key ≡ true → older q.id r.id ≡ false
unfolding is_atomic
atomic-reads ls rs h r q mr mq w =
    let each : all (λ (q : Read). not (has_written ls r.id.txn q.key and older q.id r.id)) rs ≡ true =
    all-mem (λ (r : Read). all (λ (q : Read). not (has_written ls r.id.txn q.key and older q.id r.id)) rs) rs h r mr
    in nand _ _ (all-mem (λ (q : Read). not (has_written ls r.id.txn q.key and older q.id r.id)) rs each q mq) w

pub same_version : (k : ℕ) (i : Id) (rs : List Read) → at_another k i rs ≡ false → (r : Read) → Memᴰ r rs → r.key ≡ k → r.id ≡ i
unfolding at_another
same_version k i rs h r m e =
    same_id_lem r.id i (not-false _ (and_second _ _ (any_none (λ (r : Read). eqb r.key k and not (same_id r.id i)) rs h r m) (eq-eqb r.key k e)))

-- ── all lines ──
pub fine-above : (below ls : List Line) → AllFine (below ++ ls) → AllFine ls
unfolding AllFine
fine-above [] ls f = f
fine-above (l ∷ below) ls f = fine-above below ls f.1

pub good-at : (below ls : List Line) (l : Line) → AllFine (below ++ (l ∷ ls)) → is_bad ls l ≡ false
unfolding AllFine
good-at below ls l f = (fine-good ls l (fine-above below (l ∷ ls) f).0).1
