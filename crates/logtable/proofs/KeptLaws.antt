-- What a table holds of the lines, one line later: a law for the places that are as they were, and one for the table.
use Prim.Native.Nat.{ℕ, ◌<◌}
use mathlib.Core.Path.{◌≡◌, sym, ap, subst, ◌∙◌}
use mathlib.Core.Logic.{◌≢◌}
use mathlib.Core.List.{List, ◌∷◌, Memᴰ}
use lib.ListN.{length, take}
use native.Mathlib.Decide.{ℕ_discrete}
use native.Mathlib.Omega.{arith}
use Rattle.model.specs.declared.Id.{Id}
use Rattle.model.specs.declared.Read.{Read}
use Rattle.shoplog.specs.Findings.{Fine}
use Rattle.shoplog.specs.Lines.{Line}
use Rattle.shoplog.specs.Verdicts.{actors, read_set, keys_read, finding_of}
use Rattle.shoplog.specs.Claims.{AllFine}
use Rattle.logtable.specs.Tables.{places, txn_at, clock_at, reads_at, key_of, author_of, id_at}
use Rattle.logtable.specs.Holds.{ReadsHeld, HoldsAt, BlankAt, SeatsHeld, Holds}
use Rattle.logtable.proofs.SeatedLaws.{one_place}
use Rattle.logtable.proofs.PlaceLaws.{SameAt, OnlyAt, IdsKept, ids-kept}
use Rattle.logtable.proofs.SaidLaws.{SaidSame}

-- the authors' ids are as they were
pub reads_kept : (T U xs : List ℕ) (rs : List Read) → IdsKept T U → ReadsHeld T xs rs → ReadsHeld U xs rs
reads_kept T U xs rs kept h = record {
  listed = λ r m. let x = h.listed r m in (x.0, x.1, x.2, id x.0 x.1 ∙ x.3);
  said = λ x m. subst (λ (i : Id). Memᴰ (record { key = key_of x; id = i }) rs) (sym (id x m)) (h.said x m);
  authors = λ x m. let a = h.authors x m in
      (λ z. a.0 (sym (ap (λ (i : Id). i.txn) (id x m)) ∙ z), λ z. a.1 (sym (ap (λ (i : Id). i.clock) (id x m)) ∙ z));
  words = h.words;
}
  where
    id : (x : ℕ) → Memᴰ x xs → id_at U (author_of x) ≡ id_at T (author_of x)
    id x m = let a = h.authors x m in kept (author_of x) (omega arith) a.0 a.1

pub holds-at-kept : (T U : List ℕ) (ls ms : List Line) (q u : ℕ) → SameAt T U q → IdsKept T U → SaidSame ls ms u → HoldsAt T ls q u → HoldsAt U ms q u
unfolding keys_read
holds-at-kept T U ls ms q u s kept say h = record {
  clock = rw s.clock (say.clock (clock_at T q) h.clock);
  wrote = rw (s.written, say.writes) h.wrote;
  read = rw (s.read, say.reads) h.read;
  few = rw s.read h.few;
  reads = rw (s.reads, say.reads) (reads_kept T U (reads_at T q) (read_set u ls) kept h.reads);
}

-- ── the table after a line of transaction t at place p ──
module _ (T U : List ℕ) (ls : List Line) (l : Line) (p t : ℕ) (h : Holds T ls) (fine : finding_of ls l ≡ Fine) (size : length U ≡ length T) (o : p < 64) (n : t ≢ 0)
    (own : txn_at U p ≡ t) (only : OnlyAt T U p) (say : (u : ℕ) → u ≢ t → SaidSame ls (l ∷ ls) u) (seats : SeatsHeld (take places U) (actors (l ∷ ls)))
    (place : HoldsAt U (l ∷ ls) p t) where
  -- no other place is t's
  other : (q : ℕ) → q < 64 → q ≢ p → txn_at U q ≢ t
  other q u d e = d (one_place U q p seats.single u o (e ∙ sym own) (λ z. n (sym e ∙ z)))

  blank-at : (q : ℕ) → q < 64 → txn_at U q ≡ 0 → Dec (q ≡ p) → BlankAt U q
  blank-at q u e (yes d) = absurd (n (sym own ∙ (ap (λ (r : ℕ). txn_at U r) (sym d) ∙ e)))
  blank-at q u e (no d) =
      let s = only.others q u d in
      let b = h.blank q u (sym s.txn ∙ e) in
      record { clock = s.clock ∙ b.clock; written = s.written ∙ b.written; read = s.read ∙ b.read }

  held_at : (q u : ℕ) → q < 64 → txn_at U q ≡ u → u ≢ 0 → Dec (q ≡ p) → HoldsAt U (l ∷ ls) q u
  held_at q u b e m (yes d) =
      let w : u ≡ t = sym e ∙ (ap (λ (r : ℕ). txn_at U r) d ∙ own) in
      rw (d, w) place
  held_at q u b e m (no d) =
      let s = only.others q b d in
      holds-at-kept T U ls (l ∷ ls) q u s (ids-kept T U p only) (say u (λ w. other q b d (e ∙ w))) (h.holds q u b (sym s.txn ∙ e) m)

  pub holds-line : Holds U (l ∷ ls)
  unfolding AllFine
  holds-line = record {
    size = size ∙ h.size;
    fine = (fine, h.fine);
    seats = seats;
    blank = λ q u e. blank-at q u e (ℕ_discrete q p);
    holds = λ q u b e m. held_at q u b e m (ℕ_discrete q p);
  }
