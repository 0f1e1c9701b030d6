-- The table's test of two reads is that of the lines.
use Prim.Native.Nat.{ℕ, ◌<◌}
use mathlib.Core.Path.{◌≡◌, refl, sym, ap, ◌∙◌}
use mathlib.Core.Logic.{◌≢◌}
use mathlib.Core.List.{List, Memᴰ}
use native.Mathlib.Omega.{arith}
use Rattle.model.specs.Lists.{any, member}
use Rattle.model.specs.KeySets.{key_set}
use Rattle.model.proofs.Tests.{same_test}
use Rattle.shoplog.specs.Lines.{Line}
use Rattle.shoplog.specs.Verdicts.{read_set, has_written}
use Rattle.shoplog.proofs.GatheredLaws.{any-mem, any-one}
use Rattle.logtable.specs.Tables.{txn_at, written_at, reads_at, key_of, author_of, id_at}
use Rattle.logtable.specs.Findings.{older_at, clash, clashes}
use Rattle.logtable.specs.Holds.{Holds, ReadsHeld}
use Rattle.logtable.proofs.PairLaws.{apart}

module _ (T : List ℕ) (ls : List Line) (h : Holds T ls) where
  -- a used place's transaction wrote a key
  wrote_at : (a k : ℕ) → a < 64 → k < 64 → txn_at T a ≢ 0 → member k (key_set (written_at T a)) ≡ has_written ls (txn_at T a) k
  unfolding has_written
  wrote_at a k o m n = (h.holds a (txn_at T a) o refl n).wrote.has k m

  module _ (k a : ℕ) (m : k < 64) (o : a < 64) (n : txn_at T a ≢ 0) where
    clash-same : (l b : ℕ) → l < 64 → b < 64 → txn_at T b ≢ 0 → clash T k a l b ≡ apart ls k (id_at T a) (record { key = l; id = id_at T b })
    unfolding clash apart older_at
    clash-same l b v u d = rw (wrote_at a l o v n, wrote_at b k u m d)

    -- all the reads of a place
    pub clashes-same : (p t : ℕ) → ReadsHeld T (reads_at T p) (read_set t ls) → clashes T p k a ≡ any (apart ls k (id_at T a)) (read_set t ls)
    unfolding clashes
    clashes-same p t s = same_test _ _
        (λ e. let x = any-one (λ r. clash T k a (key_of r) (author_of r)) (reads_at T p) e in
        any-mem (apart ls k (id_at T a)) (read_set t ls) _ (s.said x.0 x.1) (sym (each x.0 x.1) ∙ x.2))
        (λ e. let r = any-one (apart ls k (id_at T a)) (read_set t ls) e in
        let x = s.listed r.0 r.1 in
        let q : record { key = key_of x.0; id = id_at T (author_of x.0) } ≡ r.0 = λ z. record { key = x.2 z; id = x.3 z } in
        any-mem (λ r. clash T k a (key_of r) (author_of r)) (reads_at T p) x.0 x.1 (each x.0 x.1 ∙ (ap (apart ls k (id_at T a)) q ∙ r.2)))
      where
        each : (x : ℕ) → Memᴰ x (reads_at T p) → clash T k a (key_of x) (author_of x) ≡ apart ls k (id_at T a) (record { key = key_of x; id = id_at T (author_of x) })
        each x w = clash-same (key_of x) (author_of x) (omega arith) (omega arith) (s.authors x w).0
