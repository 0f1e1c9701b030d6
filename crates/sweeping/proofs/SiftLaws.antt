-- Rows sifted one after the other: the keys that the rows before wrote, and the rows kept.
use Prim.Native.Nat.{ℕ, ◌+◌, ◌<◌}
use mathlib.Core.Path.{◌≡◌, refl, sym, ap, ◌∙◌}
use mathlib.Core.Bool.{Bool, true, false, cond, true≢false}
use mathlib.Core.List.{List}
use lib.Dec.{eqb}
use lib.Bits.{bit_or}
use lib.ListN.{length, get_or, set}
use native.Mathlib.Nat.{not-suc-le-zero, lt_irrefl}
use native.Mathlib.Decide.{ℕ_discrete}
use native.Mathlib.Omega.{arith}
use borrow.Author.Tests.{eq-eqb, ne_eqb}
use Rattle.model.specs.Types.{Entry}
use Rattle.model.specs.Lists.{◌or◌, all, member}
use Rattle.model.specs.KeySets.{key_set}
use Rattle.model.specs.Entries.{keys_of, wrote}
use Rattle.model.proofs.ListLaws.{at_set, below_more}
use Rattle.model.proofs.KeySetLaws.{set-or}
use Rattle.reading.specs.Columns.{nth_entry}
use Rattle.reading.proofs.KeyLoop.{Collecting, collecting-more}
use Rattle.sweeping.specs.Sifted.{wrote_before, keeps, AreSifted}

-- ── the keys that the rows before wrote ──
module _ (es : List Entry) (xs : List ℕ) where
  -- the entry of a row wrote a key
  abbrev pub row_wrote : ℕ → ℕ → Bool
  row_wrote x k = wrote (nth_entry es x) k

  module _ (c seen : ℕ) (h : Collecting row_wrote xs c seen) where
    pub seen_more : c < length xs → (set : ℕ) → key_set set ≡ keys_of (nth_entry es (get_or xs c 0)) → Collecting row_wrote xs (c + 1) (bit_or seen set)
    unfolding wrote
    seen_more o set q = collecting-more row_wrote xs c seen h 0 (get_or xs c 0) refl o (bit_or seen set) (λ k. set-or seen set k ∙ ap (λ (ks : List ℕ). member k (key_set seen) or member k ks) q)

    -- so the test of an entry is of them
    pub seen-before : (ks : List ℕ) → all (λ k. member k (key_set seen)) ks ≡ all (wrote_before es xs c) ks
    unfolding wrote_before
    seen-before ks = λ z. all (λ k. h.has k z) ks

-- ── the rows kept ──
module _ (es : List Entry) (xs : List ℕ) (read : List Bool) where
  pub sifted-start : (ys : List ℕ) → AreSifted es xs read 0 0 ys
  sifted-start ys = record {
    row = λ j. 0;
    fits = omega arith;
    inside = λ j o. absurd (not-suc-le-zero o);
    is = λ j o. absurd (not-suc-le-zero o);
    kept = λ j o. absurd (not-suc-le-zero o);
    rises = λ i j o u. absurd (not-suc-le-zero u);
    every = λ i o. absurd (not-suc-le-zero o);
  }

  module _ (c m : ℕ) (ys : List ℕ) (h : AreSifted es xs read c m ys) where
    pub sifted-skip : keeps es xs read c ≡ false → AreSifted es xs read (c + 1) m ys
    sifted-skip e = record {
      row = h.row;
      fits = omega (arith, h.fits);
      inside = λ j o. let u = h.inside j o in omega (arith, u);
      is = h.is;
      kept = h.kept;
      rises = h.rises;
      every = below_more (λ i. keeps es xs read i ≡ true → (j : ℕ) × (j < m) × (h.row j ≡ i)) c h.every (λ k. absurd (true≢false (sym k ∙ e)));
    }

    pub sifted-keep : keeps es xs read c ≡ true → m < length ys → (s : ℕ) → s ≡ get_or xs c 0 → AreSifted es xs read (c + 1) (m + 1) (set ys m s)
    sifted-keep e l s q = record {
      row = row;
      fits = omega (arith, h.fits);
      inside = below_more (λ j. row j < c + 1) m (λ j o. rw (old j o) (let u = h.inside j o in omega (arith, u))) (rw new (omega arith));
      is = λ j o. at_set (λ i y. i < m + 1 → y ≡ get_or xs (row i) 0) ys m s 0 l (λ u. rw new q) (λ i n u. let v : i < m = omega arith in rw (old i v) (h.is i v)) j o;
      kept = below_more (λ j. keeps es xs read (row j) ≡ true) m (λ j o. rw (old j o) (h.kept j o)) (rw new e);
      rises = λ i j o u. up i j o (ℕ_discrete j m) u;
      every = below_more (λ i. keeps es xs read i ≡ true → (j : ℕ) × (j < m + 1) × (row j ≡ i)) c
          (λ i o k. let r = h.every i o k in (r.0, omega (arith, r.1), old r.0 r.1 ∙ r.2))
          (λ k. (m, omega arith, new));
    }
      where
        row : ℕ → ℕ
        row j = cond (eqb j m) c (h.row j)

        new : cond (eqb m m) c (h.row m) ≡ c
        new = rw (eq-eqb m m refl)

        old : (j : ℕ) → j < m → cond (eqb j m) c (h.row j) ≡ h.row j
        old j o = rw (ne_eqb j m (λ z. lt_irrefl j (omega arith)))

        up : (i j : ℕ) → i < j → Dec (j ≡ m) → j < m + 1 → cond (eqb i m) c (h.row i) < cond (eqb j m) c (h.row j)
        up i j o (yes z) u = let v : i < m = omega arith in rw (old i v, z, new) (h.inside i v)
        up i j o (no z) u = let v : j < m = omega arith in let w : i < m = omega arith in rw (old i w, old j v) (h.rises i j o v)
