-- The cells of a place, and a table with one cell changed: each place whose cell it is not is as it was.
use Prim.Native.Nat.{ℕ, ◌+◌, ◌-◌, ◌*◌, ◌<◌, ◌≤◌, min}
use mathlib.Core.Path.{◌≡◌, sym, ap, ◌∙◌}
use mathlib.Core.Logic.{◌≢◌}
use mathlib.Core.List.{List}
use lib.ListN.{length, take, drop, get_or, set}
use lib.Seq.{get_or-set_same, get_or-set_other, drop-set-lt, drop-set-add, take-set-le}
use native.Mathlib.Decide.{ℕ_discrete, dec_lt}
use native.Mathlib.Omega.{arith}
use Rattle.model.specs.KeySets.{key_set}
use Rattle.logtable.specs.Tables.{txn_at, clock_at, written_at, read_at, reads_at, read_count, reads_start, id_at}

-- two tables have the same at place q
pub record SameAt (T U : List ℕ) (q : ℕ) : Type 0 where
  pub txn : txn_at U q ≡ txn_at T q
  pub clock : clock_at U q ≡ clock_at T q
  pub written : written_at U q ≡ written_at T q
  pub read : read_at U q ≡ read_at T q
  pub reads : reads_at U q ≡ reads_at T q

-- cell i is none of place q's
pub record OtherCell (i q : ℕ) : Type 0 where
  pub columns : (i ≢ q) × (i ≢ 64 + q) × (i ≢ 128 + q) × (i ≢ 192 + q)
  pub reads : (j : ℕ) → j < 16 → i ≢ reads_start q + j

-- a part of a list without the cell
part-set : (T : List ℕ) (i x s n : ℕ) → ((j : ℕ) → j < n → i ≢ s + j) → take n (drop s (set T i x)) ≡ take n (drop s T)
part-set T i x s n f = go (dec_lt i s)
  where
    go : Dec (i < s) → take n (drop s (set T i x)) ≡ take n (drop s T)
    go (yes o) = ap (take n) (drop-set-lt s T i x o)
    go (no o) =
        let e : i ≡ s + (i - s) = omega arith in
        ap (λ (k : ℕ). take n (drop s (set T k x))) e ∙ (ap (take n) (drop-set-add s T (i - s) x) ∙ take-set-le n (drop s T) (i - s) x (far (dec_lt (i - s) n)))
      where
        far : Dec (i - s < n) → n ≤ i - s
        far (yes a) = absurd (f (i - s) a (omega arith))
        far (no a) = omega arith

-- the reads of a place, without its cells
pub reads-set : (T : List ℕ) (i x q : ℕ) → i ≢ 192 + q → ((j : ℕ) → j < 16 → i ≢ reads_start q + j) → reads_at (set T i x) q ≡ reads_at T q
unfolding reads_at read_count
reads-set T i x q n f =
    ap (λ (m : ℕ). take (min (length (key_set m)) 16) (drop (reads_start q) (set T i x))) (get_or-set_other T i (192 + q) x 0 (λ e. n (sym e)))
    ∙ part-set T i x (reads_start q) (min (length (key_set (read_at T q))) 16) (λ j o. f j (omega arith))

pub same_set : (T : List ℕ) (i x q : ℕ) → OtherCell i q → SameAt T (set T i x) q
same_set T i x q c = record {
  txn = get_or-set_other T i q x 0 (λ e. c.columns.0 (sym e));
  clock = get_or-set_other T i (64 + q) x 0 (λ e. c.columns.1 (sym e));
  written = get_or-set_other T i (128 + q) x 0 (λ e. c.columns.2 (sym e));
  read = get_or-set_other T i (192 + q) x 0 (λ e. c.columns.3 (sym e));
  reads = reads-set T i x q c.columns.3 c.reads;
}

pub same_then : (T U W : List ℕ) (q : ℕ) → SameAt T U q → SameAt U W q → SameAt T W q
same_then T U W q a b = record {
  txn = b.txn ∙ a.txn;
  clock = b.clock ∙ a.clock;
  written = b.written ∙ a.written;
  read = b.read ∙ a.read;
  reads = b.reads ∙ a.reads;
}

-- ── the cells of another place ──
pub other-column : (i n p q : ℕ) → i ≡ 64 * n + p → n < 4 → p < 64 → q < 64 → q ≢ p → OtherCell i q
other-column i n p q e m o u d = record {
  columns = (λ x. d (omega arith), λ x. d (omega arith), λ x. d (omega arith), λ x. d (omega arith));
  reads = λ j b x. absurd (omega arith);
}

pub other-read : (n p q : ℕ) → n < 16 → p < 64 → q < 64 → q ≢ p → OtherCell (reads_start p + n) q
other-read n p q m o u d = record {
  columns = (λ x. absurd (omega arith), λ x. absurd (omega arith), λ x. absurd (omega arith), λ x. absurd (omega arith));
  reads = λ j b x. d (omega arith);
}

-- ── two tables that differ at one place ──
-- its id stays as well, where it had one
pub record OnlyAt (T U : List ℕ) (p : ℕ) : Type 0 where
  pub others : (q : ℕ) → q < 64 → q ≢ p → SameAt T U q
  pub own : txn_at T p ≢ 0 → clock_at T p ≢ 0 → id_at U p ≡ id_at T p

abbrev pub IdsKept : List ℕ → List ℕ → Type 0
IdsKept T U = (a : ℕ) → a < 64 → txn_at T a ≢ 0 → clock_at T a ≢ 0 → id_at U a ≡ id_at T a

pub ids-kept : (T U : List ℕ) (p : ℕ) → OnlyAt T U p → IdsKept T U
ids-kept T U p h a o t c = go (ℕ_discrete a p)
  where
    go : Dec (a ≡ p) → id_at U a ≡ id_at T a
    go (yes e) = rw e (h.own (λ z. t (ap (λ (x : ℕ). txn_at T x) e ∙ z)) (λ z. c (ap (λ (x : ℕ). clock_at T x) e ∙ z)))
    go (no d) = let s = h.others a o d in λ z. record { clock = s.clock z; txn = s.txn z }

-- one cell more of the place changed, which is not of its id
pub only_set : (T U : List ℕ) (p i x : ℕ) → OnlyAt T U p → ((q : ℕ) → q < 64 → q ≢ p → OtherCell i q) → i ≢ p → i ≢ 64 + p → OnlyAt T (set U i x) p
only_set T U p i x h c a b = record {
  others = λ q o d. same_then T U (set U i x) q (h.others q o d) (same_set U i x q (c q o d));
  own = λ t s. id-set ∙ h.own t s;
}
  where
    id-set : id_at (set U i x) p ≡ id_at U p
    id-set = λ z. record { clock = get_or-set_other U i (64 + p) x 0 (λ e. b (sym e)) z; txn = get_or-set_other U i p x 0 (λ e. a (sym e)) z }

-- ── the place p taken by t ──
module _ (T : List ℕ) (p t : ℕ) (o : p < 64) where
  pub taken-only : (txn_at T p ≢ 0 → txn_at T p ≡ t) → p < length T → OnlyAt T (set T p t) p
  taken-only f u = record {
    others = λ q b d. same_set T p t q (other-column p 0 p q (omega arith) (omega arith) o b d);
    own = λ a c. λ z. record { clock = get_or-set_other T p (64 + p) t 0 (λ e. absurd (omega arith)) z; txn = (get_or-set_same T p t 0 u ∙ sym (f a)) z };
  }

  -- what else it has
  pub taken-column : (i : ℕ) → 64 ≤ i → get_or (set T p t) i 0 ≡ get_or T i 0
  taken-column i u = get_or-set_other T p i t 0 (λ e. absurd (omega arith))

  pub taken-reads : reads_at (set T p t) p ≡ reads_at T p
  taken-reads = reads-set T p t p (λ e. absurd (omega arith)) (λ j b e. absurd (omega arith))
