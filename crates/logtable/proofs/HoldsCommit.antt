-- A commit: what the table says of it is what the lines say, and the table after it holds it too.
use Prim.Native.Nat.{ℕ, ◌+◌, ◌<◌}
use mathlib.Core.Path.{◌≡◌, refl, sym, ◌∙◌}
use mathlib.Core.Logic.{◌≢◌, ⊎_elim}
use mathlib.Core.Bool.{Bool, true, false, not, cond}
use mathlib.Core.List.{List, [], ◌∷◌}
use lib.Dec.{eqb, leb}
use lib.ListN.{length, take, get_or, length-set}
use lib.Seq.{get_or-set_same, get_or-set_other, take-set-le}
use native.Mathlib.Omega.{arith}
use borrow.Author.Tests.{leb-false, eqb-true, not-false}
use Rattle.model.specs.Lists.{◌or◌}
use Rattle.model.proofs.Tests.{or-intro-right}
use Rattle.shoplog.specs.Findings.{Fine, Bad}
use Rattle.shoplog.specs.Lines.{Line, commit}
use Rattle.shoplog.specs.Verdicts.{write_set, read_set, keys_read, is_committed, is_over, is_bad, finding_of}
use Rattle.shoplog.proofs.FineLaws.{fine-good, commit-written}
use Rattle.logtable.specs.Tables.{places, table_size, txn_at, clock_at, written_at, read_at, reads_at, seat_of, after_commit}
use Rattle.logtable.specs.Findings.{commit_found}
use Rattle.logtable.specs.Holds.{HoldsAt, Holds}
use Rattle.logtable.proofs.KeysHeldLaws.{keys-empty}
use Rattle.logtable.proofs.PlaceLaws.{OnlyAt, reads-set, same_set, other-column, ids-kept}
use Rattle.logtable.proofs.SilentLaws.{silent-writes}
use Rattle.logtable.proofs.SaidLaws.{commit-clock, commit-acts, commit-writes, commit-reads, commit-other}
use Rattle.logtable.proofs.SeatHolds.{seat-none, seat-holds, seat-whose}
use Rattle.logtable.proofs.KeptLaws.{reads_kept, holds-line}

module _ (T : List ℕ) (ls : List Line) (t c : ℕ) (h : Holds T ls) (n : t ≢ 0) where
  pub commit-found : commit_found T (seat_of T t) ≡ finding_of ls (commit t c)
  unfolding commit_found finding_of is_over is_bad ◌or◌
  commit-found = go (leb places (seat_of T t)) refl
    where
      go : (b : Bool) → leb places (seat_of T t) ≡ b
          → cond (leb places (seat_of T t) or not (eqb (clock_at T (seat_of T t)) 0) or eqb (written_at T (seat_of T t)) 0) Bad Fine
          ≡ cond (is_committed ls t or eqb (length (write_set t ls)) 0) Bad Fine
      go true e = rw (e, silent-writes ls t (seat-none T ls t h n e), or-intro-right (is_committed ls t) true refl)
      go false e =
          let s = seat-holds T ls t h n (leb-false places (seat_of T t) e) in
          rw (e, s.clock.open-still, keys-empty (written_at T (seat_of T t)) (write_set t ls) s.wrote)

-- ── the table after it, the place p being that of t ──
module _ (T : List ℕ) (ls : List Line) (p t c : ℕ) (size : length T ≡ table_size) (o : p < 64) (still : clock_at T p ≡ 0) where
  after-only : OnlyAt T (after_commit T p c) p
  unfolding after_commit
  after-only = record {
    others = λ q u d. same_set T (64 + p) c q (other-column (64 + p) 1 p q (omega arith) (omega arith) o u d);
    own = λ a z. absurd (z still);
  }

  after-other : (i : ℕ) → i ≢ 64 + p → get_or (after_commit T p c) i 0 ≡ get_or T i 0
  unfolding after_commit
  after-other i d = get_or-set_other T (64 + p) i c 0 d

  after-clock : clock_at (after_commit T p c) p ≡ c
  unfolding after_commit
  after-clock = get_or-set_same T (64 + p) c 0 (omega (arith, size))

  after-written : written_at (after_commit T p c) p ≡ written_at T p
  after-written = after-other (128 + p) (λ e. absurd (omega arith))

  after_read : read_at (after_commit T p c) p ≡ read_at T p
  after_read = after-other (192 + p) (λ e. absurd (omega arith))

  after-reads : reads_at (after_commit T p c) p ≡ reads_at T p
  unfolding after_commit
  after-reads = reads-set T (64 + p) c p (λ e. absurd (omega arith)) (λ j b e. absurd (omega arith))

  after-column : take places (after_commit T p c) ≡ take places T
  unfolding after_commit
  after-column = take-set-le places T (64 + p) c (omega arith)

  after-size : length (after_commit T p c) ≡ length T
  unfolding after_commit
  after-size = length-set T (64 + p) c

  after_holds : c ≢ 0 → HoldsAt T ls p t → HoldsAt (after_commit T p c) (commit t c ∷ ls) p t
  unfolding keys_read
  after_holds z s = record {
    clock = rw after-clock (commit-clock ls t c z (rw still at s.clock));
    wrote = rw (after-written, commit-writes ls t c t) s.wrote;
    read = rw (after_read, commit-reads ls t c t) s.read;
    few = rw after_read s.few;
    reads = rw (after-reads, commit-reads ls t c t) (reads_kept T (after_commit T p c) (reads_at T p) (read_set t ls) (ids-kept T (after_commit T p c) p after-only) s.reads);
  }

  after-held : Holds T ls → t ≢ 0 → c ≢ 0 → finding_of ls (commit t c) ≡ Fine → txn_at T p ≡ t → HoldsAt T ls p t → Holds (after_commit T p c) (commit t c ∷ ls)
  after-held h n z fine own s =
      holds-line T (after_commit T p c) ls (commit t c) p t h fine after-size o n (after-other p (λ e. absurd (omega arith)) ∙ own) after-only (commit-other ls t c)
      (rw (after-column, commit-acts ls t c) h.seats) (after_holds z s)

pub commit-held : (T : List ℕ) (ls : List Line) (t c : ℕ) → Holds T ls → t ≢ 0 → c ≢ 0 → finding_of ls (commit t c) ≡ Fine
    → Holds (after_commit T (seat_of T t) c) (commit t c ∷ ls)
commit-held T ls t c h n z fine = go (leb places (seat_of T t)) refl
  where
    good : (is_committed ls t ≡ false) × (write_set t ls ≢ [])
    good = commit-written ls t c (fine-good ls (commit t c) fine).1

    -- its place is used: an unused one has no write
    own : seat_of T t < 64 → txn_at T (seat_of T t) ≡ t
    own o = ⊎_elim (λ e. e) (λ e. absurd (good.1 (silent-writes ls t e.1))) (seat-whose T ls t h n o)

    go : (b : Bool) → leb places (seat_of T t) ≡ b → Holds (after_commit T (seat_of T t) c) (commit t c ∷ ls)
    go true e = absurd (good.1 (silent-writes ls t (seat-none T ls t h n e)))
    go false e =
        let o : seat_of T t < 64 = leb-false places (seat_of T t) e in
        let s = seat-holds T ls t h n o in
        after-held T ls (seat_of T t) t c h.size o (eqb-true (clock_at T (seat_of T t)) 0 (not-false _ (sym s.clock.open-still ∙ good.0))) h n z fine
        (own o) s
