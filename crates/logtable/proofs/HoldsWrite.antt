-- A write: what the table says of it is what the lines say, and the table after it holds it too.
use Prim.Native.Nat.{ℕ, ◌+◌, ◌<◌}
use mathlib.Core.Path.{◌≡◌, refl, ◌∙◌}
use mathlib.Core.Logic.{◌≢◌}
use mathlib.Core.Bool.{Bool, true, false, not, cond}
use mathlib.Core.List.{List, ◌∷◌}
use lib.Dec.{eqb, leb}
use lib.ListN.{length, take, get_or, set, length-set}
use lib.Seq.{get_or-set_same, get_or-set_other, take-set-le}
use native.Mathlib.Omega.{arith}
use borrow.Author.Tests.{leb-false}
use Rattle.model.specs.Lists.{◌or◌}
use Rattle.model.proofs.Tests.{or_left}
use Rattle.shoplog.specs.Findings.{Fine, Over, Bad}
use Rattle.shoplog.specs.Lines.{Line, write}
use Rattle.shoplog.specs.Verdicts.{actors, write_set, read_set, keys_read, is_committed, one_too_many, is_over, is_bad, finding_of}
use Rattle.shoplog.proofs.FineLaws.{fine-good}
use Rattle.logtable.specs.Tables.{places, table_size, txn_at, clock_at, written_at, read_at, reads_at, seat_of, with_key, after_write}
use Rattle.logtable.specs.Findings.{full_for, write_found}
use Rattle.logtable.specs.Holds.{HoldsAt, SeatsHeld, Holds}
use Rattle.logtable.proofs.KeysHeldLaws.{full-same, keys-more}
use Rattle.logtable.proofs.PlaceLaws.{OnlyAt, reads-set, other-column, ids-kept, only_set, taken-only, taken-column, taken-reads}
use Rattle.logtable.proofs.SaidLaws.{write-clock, write-acts, write-own, write-reads, write-other}
use Rattle.logtable.proofs.SeatHolds.{seat-over, seat-holds, seat-own, seat-taken}
use Rattle.logtable.proofs.KeptLaws.{reads_kept, holds-line}

cond-not : {A : Type 0} (b : Bool) (x y : A) → cond (not b) x y ≡ cond b y x
cond-not true x y = refl
cond-not false x y = refl

module _ (T : List ℕ) (ls : List Line) (t k : ℕ) (h : Holds T ls) (n : t ≢ 0) (m : k < 64) where
  pub write-found : write_found T (seat_of T t) k ≡ finding_of ls (write t k)
  unfolding write_found finding_of is_over is_bad ◌or◌
  write-found = go (leb places (seat_of T t)) refl
    where
      go : (b : Bool) → leb places (seat_of T t) ≡ b
          → cond (leb places (seat_of T t) or full_for 8 (written_at T (seat_of T t)) k) Over (cond (eqb (clock_at T (seat_of T t)) 0) Fine Bad)
          ≡ cond (one_too_many 64 t (actors ls) or one_too_many 8 k (write_set t ls)) Over (cond (is_committed ls t) Bad Fine)
      go true e = rw (← seat-over T ls t h n, e)
      go false e =
          let s = seat-holds T ls t h n (leb-false places (seat_of T t) e) in
          rw (← seat-over T ls t h n, e, full-same 8 (written_at T (seat_of T t)) k (write_set t ls) m s.wrote, s.clock.open-still, cond-not)

-- ── the table after it, the place p being that of t ──
module _ (T : List ℕ) (ls : List Line) (p t k : ℕ) (size : length T ≡ table_size) (o : p < 64) (m : k < 64) (own : txn_at T p ≢ 0 → txn_at T p ≡ t) where
  after-only : OnlyAt T (after_write T p t k) p
  unfolding after_write
  after-only = only_set T (set T p t) p (128 + p) (with_key (written_at T p) k) (taken-only T p t o own (omega (arith, size)))
      (λ q u d. other-column (128 + p) 2 p q (omega arith) (omega arith) o u d) (λ e. absurd (omega arith)) (λ e. absurd (omega arith))

  -- the cells of the place
  after-other : (i : ℕ) → i ≢ 128 + p → get_or (after_write T p t k) i 0 ≡ get_or (set T p t) i 0
  unfolding after_write
  after-other i d = get_or-set_other (set T p t) (128 + p) i (with_key (written_at T p) k) 0 d

  after-txn : txn_at (after_write T p t k) p ≡ t
  after-txn = after-other p (λ e. absurd (omega arith)) ∙ get_or-set_same T p t 0 (omega (arith, size))

  after-clock : clock_at (after_write T p t k) p ≡ clock_at T p
  after-clock = after-other (64 + p) (λ e. absurd (omega arith)) ∙ taken-column T p t o (64 + p) (omega arith)

  after-written : written_at (after_write T p t k) p ≡ with_key (written_at T p) k
  unfolding after_write
  after-written = get_or-set_same (set T p t) (128 + p) (with_key (written_at T p) k) 0 (rw (length-set T p t) (omega (arith, size)))

  after_read : read_at (after_write T p t k) p ≡ read_at T p
  after_read = after-other (192 + p) (λ e. absurd (omega arith)) ∙ taken-column T p t o (192 + p) (omega arith)

  after-reads : reads_at (after_write T p t k) p ≡ reads_at T p
  unfolding after_write
  after-reads = reads-set (set T p t) (128 + p) (with_key (written_at T p) k) p (λ e. absurd (omega arith)) (λ j b e. absurd (omega arith)) ∙ taken-reads T p t o

  after-column : take places (after_write T p t k) ≡ take places (set T p t)
  unfolding after_write
  after-column = take-set-le places (set T p t) (128 + p) (with_key (written_at T p) k) (omega arith)

  after-size : length (after_write T p t k) ≡ length T
  unfolding after_write
  after-size = length-set (set T p t) (128 + p) (with_key (written_at T p) k) ∙ length-set T p t

  after_holds : HoldsAt T ls p t → HoldsAt (after_write T p t k) (write t k ∷ ls) p t
  unfolding keys_read
  after_holds s = record {
    clock = rw after-clock (write-clock ls t k t (clock_at T p) s.clock);
    wrote = rw (after-written, write-own ls t k) (keys-more (written_at T p) k (write_set t ls) m s.wrote);
    read = rw (after_read, write-reads ls t k t) s.read;
    few = rw after_read s.few;
    reads = rw (after-reads, write-reads ls t k t) (reads_kept T (after_write T p t k) (reads_at T p) (read_set t ls) (ids-kept T (after_write T p t k) p after-only) s.reads);
  }

  after-held : Holds T ls → t ≢ 0 → finding_of ls (write t k) ≡ Fine → HoldsAt T ls p t → SeatsHeld (take places (set T p t)) (t ∷ actors ls)
      → Holds (after_write T p t k) (write t k ∷ ls)
  after-held h n fine s seats =
      holds-line T (after_write T p t k) ls (write t k) p t h fine after-size o n after-txn after-only (write-other ls t k) (rw (after-column, write-acts ls t k) seats) (after_holds s)

pub write-held : (T : List ℕ) (ls : List Line) (t k : ℕ) → Holds T ls → t ≢ 0 → k < 64 → finding_of ls (write t k) ≡ Fine
    → Holds (after_write T (seat_of T t) t k) (write t k ∷ ls)
unfolding is_over
write-held T ls t k h n m fine =
    let o : seat_of T t < 64 = leb-false places (seat_of T t) (seat-over T ls t h n ∙ or_left _ _ (fine-good ls (write t k) fine).0) in
    after-held T ls (seat_of T t) t k h.size o m (seat-own T ls t h n o) h n fine (seat-holds T ls t h n o) (seat-taken T ls t h n o)
