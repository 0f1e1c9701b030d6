-- The place that a transaction has, or would have, holds what the lines say of it.
use Prim.Native.Nat.{ℕ, ◌<◌}
use mathlib.Core.Path.{◌≡◌, sym, ◌∙◌}
use mathlib.Core.Logic.{◌≢◌, ◌⊎◌, inl, inr, ⊎_elim}
use mathlib.Core.Bool.{true, false}
use mathlib.Core.List.Memᴰ
use mathlib.Core.List.{List, ◌∷◌}
use lib.Dec.{leb}
use lib.ListN.{take, set}
use lib.Seq.{take-set-lt}
use native.Mathlib.Omega.{arith}
use borrow.Author.Tests.{ne_eqb}
use Rattle.model.specs.Lists.{member}
use Rattle.model.proofs.KeySetLaws.{set-none}
use Rattle.shoplog.specs.Lines.{Line}
use Rattle.shoplog.specs.Verdicts.{actors, keys_read, one_too_many}
use Rattle.shoplog.specs.Claims.{AllFine}
use Rattle.logtable.specs.Tables.{places, txn_at, reads_at, read_count, seat_of}
use Rattle.logtable.specs.Holds.{BlankAt, HoldsAt, SeatsHeld, Holds}
use Rattle.logtable.proofs.KeysHeldLaws.{keys_none}
use Rattle.logtable.proofs.SilentLaws.{silent-writes, silent-reads, silent-commits, silent-commits-as}
use Rattle.logtable.proofs.SeatedLaws as column
use Rattle.logtable.proofs.SeatedLaws.{IsSeat, seats-more, column-at}

-- an unused place, and a transaction of which nothing is said
blank-holds : (T : List ℕ) (ls : List Line) (p t : ℕ) → AllFine ls → BlankAt T p → member t (actors ls) ≡ false → HoldsAt T ls p t
unfolding keys_read reads_at read_count
blank-holds T ls p t f b m = record {
  clock = rw b.clock (record {
    open-still = silent-commits ls t f m;
    committed = λ c z. silent-commits-as ls (record { clock = c; txn = t }) f m ∙ sym (ne_eqb 0 c (λ e. z (sym e)));
  });
  wrote = rw (b.written, silent-writes ls t m) keys_none;
  read = rw (b.read, silent-reads ls t m) keys_none;
  few = rw (b.read, set-none) (omega arith);
  reads = rw (b.read, set-none, silent-reads ls t m) (record {
    listed = λ r x. absurd (Memᴰ.not-nil x);
    said = λ x y. absurd (Memᴰ.not-nil y);
    authors = λ x y. absurd (Memᴰ.not-nil y);
    words = λ x y. absurd (Memᴰ.not-nil y);
  });
}

module _ (T : List ℕ) (ls : List Line) (t : ℕ) (h : Holds T ls) (n : t ≢ 0) where
  -- there is no place for one more than 64
  pub seat-over : leb places (seat_of T t) ≡ one_too_many 64 t (actors ls)
  seat-over = column.seat-over T (actors ls) t h.size h.seats n

  pub seat-none : leb places (seat_of T t) ≡ true → member t (actors ls) ≡ false
  seat-none e = column.seat-none T (actors ls) t h.size h.seats n e

  module _ (o : seat_of T t < 64) where
    seat : IsSeat (take places T) (actors ls) (seat_of T t) t
    seat = column.seat-is T (actors ls) t h.size h.seats n o

    -- it is its own, or an unused one where nothing is said of t
    pub seat-whose : (txn_at T (seat_of T t) ≡ t) ⊎ ((txn_at T (seat_of T t) ≡ 0) × (member t (actors ls) ≡ false))
    seat-whose = let at = column-at T (seat_of T t) o in ⊎_elim (λ e. inl (sym at ∙ e)) (λ e. inr (sym at ∙ e.0, e.1)) seat.whose

    pub seat-holds : HoldsAt T ls (seat_of T t) t
    seat-holds = ⊎_elim (λ e. h.holds (seat_of T t) t o e n) (λ e. blank-holds T ls (seat_of T t) t h.fine (h.blank (seat_of T t) o e.0) e.1) seat-whose

    pub seat-own : txn_at T (seat_of T t) ≢ 0 → txn_at T (seat_of T t) ≡ t
    seat-own z = ⊎_elim (λ e. e) (λ e. absurd (z e.0)) seat-whose

    -- the column with it taken
    pub seat-taken : SeatsHeld (take places (set T (seat_of T t) t)) (t ∷ actors ls)
    seat-taken = rw (take-set-lt places T (seat_of T t) t o) (seats-more (take places T) (actors ls) (seat_of T t) t h.seats n seat)
