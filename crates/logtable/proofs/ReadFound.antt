-- A read: what the table says of it is what the lines say.
use Prim.Native.Nat.{ℕ, ◌<◌}
use mathlib.Core.Path.{◌≡◌, refl, sym, ap, ◌∙◌}
use mathlib.Core.Logic.{◌≢◌}
use mathlib.Core.Bool.{Bool, true, false, not, true≢false}
use mathlib.Core.List.{List, ◌∷◌}
use lib.Dec.{eqb, leb}
use borrow.Author.Tests.{leb-false, eqb-true, not-false}
use Rattle.model.specs.declared.Id.{Id}
use Rattle.model.specs.Lists.{◌or◌, member}
use Rattle.model.specs.KeySets.{key_set}
use Rattle.model.proofs.Tests.{or_left}
use Rattle.shoplog.specs.Lines.{Line, read}
use Rattle.shoplog.specs.Verdicts.{write_set, read_set, keys_read, has_written, committed_as, is_over, is_atomic, at_another, is_bad, finding_of}
use Rattle.logtable.specs.Tables.{places, txn_at, clock_at, written_at, read_at, id_at, seat_of}
use Rattle.logtable.specs.Findings.{unfit, is_unknown, read_found}
use Rattle.logtable.specs.Holds.{Holds}
use Rattle.logtable.proofs.KeysHeldLaws.{full-same}
use Rattle.logtable.proofs.SilentLaws.{silent-commits-as}
use Rattle.logtable.proofs.AnotherLaws.{unfit-same}
use Rattle.logtable.proofs.SeatHolds.{seat-over, seat-none, seat-holds, seat-own}

module _ (T : List ℕ) (ls : List Line) (i : Id) (h : Holds T ls) (n : i.txn ≢ 0) (z : i.clock ≢ 0) where
  -- ── the author ──
  unknown-same : (k : ℕ) → k < 64 → is_unknown T (seat_of T i.txn) k i.clock ≡ (not (committed_as ls i) or not (has_written ls i.txn k))
  unfolding is_unknown has_written ◌or◌
  unknown-same k m = go (leb places (seat_of T i.txn)) refl
    where
      go : (b : Bool) → leb places (seat_of T i.txn) ≡ b
          → (leb places (seat_of T i.txn) or not (eqb (clock_at T (seat_of T i.txn)) i.clock) or not (member k (key_set (written_at T (seat_of T i.txn)))))
          ≡ (not (committed_as ls i) or not (member k (write_set i.txn ls)))
      go true e = rw (e, silent-commits-as ls i h.fine (seat-none T ls i.txn h n e))
      go false e =
          let s = seat-holds T ls i.txn h n (leb-false places (seat_of T i.txn) e) in
          rw (e, s.wrote.has k m, s.clock.committed i.clock z)

  -- one that committed so has a place, with that id
  pub author-placed : committed_as ls i ≡ true → (seat_of T i.txn < 64) × (id_at T (seat_of T i.txn) ≡ i) × (txn_at T (seat_of T i.txn) ≢ 0)
  author-placed c = go (leb places (seat_of T i.txn)) refl
    where
      go : (b : Bool) → leb places (seat_of T i.txn) ≡ b → (seat_of T i.txn < 64) × (id_at T (seat_of T i.txn) ≡ i) × (txn_at T (seat_of T i.txn) ≢ 0)
      go true e = absurd (true≢false (sym c ∙ silent-commits-as ls i h.fine (seat-none T ls i.txn h n e)))
      go false e =
          let o = leb-false places (seat_of T i.txn) e in
          let s = seat-holds T ls i.txn h n o in
          let clock : clock_at T (seat_of T i.txn) ≡ i.clock = eqb-true _ i.clock (sym (s.clock.committed i.clock z) ∙ c) in
          let used : txn_at T (seat_of T i.txn) ≢ 0 = λ q. z (sym clock ∙ (h.blank (seat_of T i.txn) o q).clock) in
          let txn : txn_at T (seat_of T i.txn) ≡ i.txn = seat-own T ls i.txn h n o used in
          (o, (λ j. record { clock = clock j; txn = txn j }), used)

  -- ── the other reads ──
  unfit-here : (t k : ℕ) → k < 64 → seat_of T t < 64 → t ≢ 0 → committed_as ls i ≡ true
      → unfit T (seat_of T t) k (seat_of T i.txn) ≡ (not (is_atomic ls (record { key = k; id = i } ∷ read_set t ls)) or at_another k i (read_set t ls))
  unfit-here t k m o d c =
      let a = author-placed c in
      unfit-same T ls h k (seat_of T i.txn) m a.0 a.2 (seat_of T t) t (seat-holds T ls t h d o)
      ∙ ap (λ (j : Id). not (is_atomic ls (record { key = k; id = j } ∷ read_set t ls)) or at_another k j (read_set t ls)) a.1

-- ── the tests in their order ──
tests_same : (c u w x a b y z : Bool) → u ≡ (a or b) → (u ≡ false → x ≡ (y or z)) → (c or u or w or x) ≡ (c or a or b or w or y or z)
unfolding ◌or◌
tests_same true u w x a b y z e f = refl
tests_same false u w x true b y z e f = rw e
tests_same false u w x false true y z e f = rw e
tests_same false u true x false false y z e f = rw e
tests_same false u false x false false y z e f = rw e (f e)

module _ (T : List ℕ) (ls : List Line) (t k : ℕ) (i : Id) (h : Holds T ls) (d : t ≢ 0) (m : k < 64) (n : i.txn ≢ 0) (z : i.clock ≢ 0) where
  bad-same : seat_of T t < 64
      → (not (eqb (clock_at T (seat_of T t)) 0) or is_unknown T (seat_of T i.txn) k i.clock or member k (key_set (written_at T (seat_of T t))) or unfit T (seat_of T t) k (seat_of T i.txn))
      ≡ is_bad ls (read t k i)
  unfolding is_bad has_written
  bad-same o =
      let s = seat-holds T ls t h d o in
      rw (s.clock.open-still, s.wrote.has k m)
      (tests_same _ _ _ _ _ _ _ _ (unknown-same T ls i h n z k m)
      (λ e. unfit-here T ls i h n z t k m o d (not-false _ (or_left _ _ (sym (unknown-same T ls i h n z k m) ∙ e)))))

  pub read_found_lem : read_found T (seat_of T t) (seat_of T i.txn) k i.clock ≡ finding_of ls (read t k i)
  unfolding read_found finding_of is_over ◌or◌
  read_found_lem = go (leb places (seat_of T t)) refl
    where
      go : (b : Bool) → leb places (seat_of T t) ≡ b → read_found T (seat_of T t) (seat_of T i.txn) k i.clock ≡ finding_of ls (read t k i)
      go true e = rw (← seat-over T ls t h d, e)
      go false e =
          let o : seat_of T t < 64 = leb-false places (seat_of T t) e in
          rw (← seat-over T ls t h d, e, full-same 16 (read_at T (seat_of T t)) k (keys_read t ls) m (seat-holds T ls t h d o).read, ← bad-same o)
