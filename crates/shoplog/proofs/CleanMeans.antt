-- 02 §10: what holds of the lines of a log with which nothing is wrong. "The verdict goes by the paper's definitions."
use Prim.Native.Nat.{ℕ}
use mathlib.Core.Path.{◌≡◌, refl, sym, ap, subst, ◌∙◌}
use mathlib.Core.Logic.{◌⊎◌, inl, inr, ⊎_elim}
use mathlib.Core.Bool.{true, false, true≢false}
use mathlib.Core.List.Memᴰ
use mathlib.Core.List.{List, [], ◌∷◌, ◌++◌, map, Memᴰ}
use lib.Dec.{eqb}
use lib.ListN.{length}
use native.Mathlib.Omega.{arith}
use borrow.Author.Tests.{ne_eqb}
use Rattle.model.specs.declared.Id.{Id}
use Rattle.model.specs.declared.Read.{Read}
use Rattle.model.specs.Lists.{any}
use Rattle.model.specs.Ids.{older}
use Rattle.model.proofs.Tests.{or_left}
use Rattle.model.proofs.ListLaws.{any-no}
use Rattle.model.proofs.IdLaws.{older-irrefl}
use Rattle.shoplog.specs.declared.Verdict.TheVariants.{Clean}
use Rattle.shoplog.specs.Lines.{Line, write, commit, read, line_in}
use Rattle.shoplog.specs.Verdicts.{gathered, written_in, read_in, commit_in, write_set, read_set, has_written, is_committed, committed_as, is_bad}
use Rattle.lines.specs.Lines.{lines_in}
use Rattle.shoplog.specs.Logs.{verdict_of}
use Rattle.shoplog.specs.Claims.{above, AllFine, CleanLog}
use Rattle.shoplog.proofs.GatheredLaws.{gathered_none, written-other, read-other, no_reads, read-cases, write-above, has-written, as-is-committed, committed-as-more, is-committed, is-committed-more}
use Rattle.shoplog.proofs.FineLaws.{fine-good, commit-written, ReadFine, read-fine, atomic-reads, same_version, good-at}
use Rattle.shoplog.proofs.CleanLines.{clean-fine}

-- ── below its commit a ticket does nothing ──
-- a line that is fine below the commit of a ticket is another's
others-line : (ls : List Line) (l : Line) (t : ℕ) → is_bad ls l ≡ false → is_committed ls t ≡ true
    → (below : List Line) → (is_committed (l ∷ below) t ≡ is_committed below t) × (written_in t l ≡ []) × (read_in t l ≡ [])
unfolding is_bad is_committed gathered commit_in written_in read_in
others-line ls l t h c = go l h
  where
    other : (u : ℕ) → is_committed ls u ≡ false → eqb t u ≡ false
    other u q = ne_eqb t u (λ e. true≢false (sym c ∙ (ap (is_committed ls) e ∙ q)))

    go : (l : Line) → is_bad ls l ≡ false → (below : List Line) → (is_committed (l ∷ below) t ≡ is_committed below t) × (written_in t l ≡ []) × (read_in t l ≡ [])
    go (write u k) q below = (refl, written-other t u k (other u q), refl)
    go (commit u k) q below = (any-no (λ (i : Id). eqb t i.txn) _ _ (other u (or_left _ _ q)), refl, refl)
    go (read u k i) q below = (refl, refl, read-other t u k i (other u (read-fine ls u k i q).open-reader))

below-commit : (below ls : List Line) (t : ℕ) → AllFine (below ++ ls) → is_committed ls t ≡ true → (is_committed below t ≡ false) × (write_set t below ≡ []) × (read_set t below ≡ [])
unfolding AllFine is_committed write_set read_set gathered any
below-commit [] ls t f c = (refl, refl, refl)
below-commit (l ∷ below) ls t f c =
    let o = others-line (below ++ ls) l t (fine-good _ l f.0).1 (is-committed-more below ls t c) below in
    let r = below-commit below ls t f.1 c in
    (o.0 ∙ r.0, gathered_none (written_in t) l below o.1 ∙ r.1, gathered_none (read_in t) l below o.2 ∙ r.2)

-- ── reads ──
-- the last line, where it is a read of the ticket
last-read : (ls : List Line) (l : Line) (t : ℕ) (r : Read) → AllFine (l ∷ ls) → l ≡ read t r.key r.id → ReadFine ls t r.key r.id
unfolding AllFine
last-read ls l t r f e = read-fine ls t r.key r.id (subst (λ (x : Line). is_bad ls x ≡ false) e (fine-good ls l f.0).1)

-- the authors of all reads have committed
author-committed : (ls : List Line) → AllFine ls → (t : ℕ) (r : Read) → Memᴰ r (read_set t ls) → committed_as ls r.id ≡ true
unfolding AllFine
author-committed [] f t r m = absurd (no_reads t r m)
author-committed (l ∷ ls) f t r m =
    committed-as-more (l ∷ []) ls r.id (⊎_elim (λ e. (last-read ls l t r f e).committed) (λ m'. author-committed ls f.1 t r m') (read-cases l ls t r m))

-- so what they wrote, they wrote above the last line
author-wrote : (ls : List Line) (l : Line) → AllFine (l ∷ ls) → (t : ℕ) (r : Read) → Memᴰ r (read_set t (l ∷ ls)) → (k : ℕ)
    → has_written (l ∷ ls) r.id.txn k ≡ true → has_written ls r.id.txn k ≡ true
unfolding AllFine is_bad
author-wrote ls l f t r m k h = ⊎_elim (λ e. absurd (go e (read-cases l ls t r m))) (λ w. has-written ls r.id.txn k w) (Memᴰ.cases_cons (write-above (l ∷ ls) r.id.txn k h))
  where
    go : write r.id.txn k ≡ l → (l ≡ read t r.key r.id) ⊎ Memᴰ r (read_set t ls) → ⊥
    go e (inl q) = let z : ◌≡◌ {A = ℕ} 0 1 = cc in omega arith
    go e (inr q) =
        let n : is_committed ls r.id.txn ≡ false = subst (λ (x : Line). is_bad ls x ≡ false) (sym e) (fine-good ls l f.0).1 in
        true≢false (sym (as-is-committed ls r.id (author-committed ls f.1 t r q)) ∙ n)

one-version : (ls : List Line) → AllFine ls → (t : ℕ) (r q : Read) → Memᴰ r (read_set t ls) → Memᴰ q (read_set t ls) → r.key ≡ q.key → r.id ≡ q.id
unfolding AllFine
one-version [] f t r q mr mq e = absurd (no_reads t r mr)
one-version (l ∷ ls) f t r q mr mq e = go (one-version ls f.1 t r q) (read-cases l ls t r mr) (read-cases l ls t q mq)
  where
    go : (Memᴰ r (read_set t ls) → Memᴰ q (read_set t ls) → r.key ≡ q.key → r.id ≡ q.id) → (l ≡ read t r.key r.id) ⊎ Memᴰ r (read_set t ls) → (l ≡ read t q.key q.id) ⊎ Memᴰ q (read_set t ls) → r.id ≡ q.id
    go ih (inl a) (inl b) = cc
    go ih (inl a) (inr b) = sym (same_version r.key r.id _ (last-read ls l t r f a).one-version q b (sym e))
    go ih (inr a) (inl b) = same_version q.key q.id _ (last-read ls l t q f b).one-version r a e
    go ih (inr a) (inr b) = ih a b e

atomic-readset : (ls : List Line) → AllFine ls → (t : ℕ) (r q : Read) → Memᴰ r (read_set t ls) → Memᴰ q (read_set t ls)
    → has_written ls r.id.txn q.key ≡ true → older q.id r.id ≡ false
unfolding AllFine
atomic-readset [] f t r q mr mq w = absurd (no_reads t r mr)
atomic-readset (l ∷ ls) f t r q mr mq w =
    go (atomic-readset ls f.1 t r q) (author-wrote ls l f t r mr q.key w) (read-cases l ls t r mr) (read-cases l ls t q mq)
  where
    go : (Memᴰ r (read_set t ls) → Memᴰ q (read_set t ls) → has_written ls r.id.txn q.key ≡ true → older q.id r.id ≡ false)
        → has_written ls r.id.txn q.key ≡ true → (l ≡ read t r.key r.id) ⊎ Memᴰ r (read_set t ls) → (l ≡ read t q.key q.id) ⊎ Memᴰ q (read_set t ls)
        → older q.id r.id ≡ false
    go ih h (inl a) (inl b) = let e : q.id ≡ r.id = cc in rw e (older-irrefl r.id)
    go ih h (inl a) (inr b) = atomic-reads ls _ (last-read ls l t r f a).atomic r q (Memᴰ.head refl) (Memᴰ.tail b) h
    go ih h (inr a) (inl b) = atomic-reads ls _ (last-read ls l t q f b).atomic r q (Memᴰ.tail a) (Memᴰ.head refl) h
    go ih h (inr a) (inr b) = ih a b h

-- ── the claim ──
pub fine-clean : (ls : List Line) → AllFine ls → CleanLog ls
fine-clean ls f = record {
  reads = λ below ab t k i e. let r = read-fine ab t k i (good-at below ab (read t k i) (subst AllFine e f)) in (r.committed, r.wrote, r.not_own);
  repeatable = one-version ls f;
  atomic = atomic-readset ls f;
  commits = λ below ab t c e.
      let g = subst AllFine e f in
      let w = commit-written ab t c (good-at below ab (commit t c) g) in
      let b = below-commit below (commit t c ∷ ab) t g (is-committed (commit t c ∷ ab) t c (Memᴰ.head refl)) in
      (w.0, w.1, b.0, b.1, b.2);
}

-- of a log's bytes
pub clean-means : (bytes : List ℕ) → verdict_of bytes ≡ Clean → CleanLog (above (length (map line_in (lines_in bytes))) (map line_in (lines_in bytes)))
unfolding verdict_of
clean-means bytes h = fine-clean _ (clean-fine (map line_in (lines_in bytes)) h).0
