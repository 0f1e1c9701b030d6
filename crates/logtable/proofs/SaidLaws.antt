-- What one more line says of a transaction: its own line, and another's.
use Prim.Native.Nat.{ℕ}
use mathlib.Core.Path.{◌≡◌, refl, sym, ap, ◌∙◌}
use mathlib.Core.Logic.{◌≢◌}
use mathlib.Core.Bool.{Bool, true, false, not}
use mathlib.Core.List.{List, ◌∷◌}
use lib.Dec.{eqb}
use borrow.Author.Tests.{eqb-true, eqb-false, eq-eqb, ne_eqb}
use Rattle.model.specs.declared.Id.{Id}
use Rattle.model.specs.Lists.{◌and◌}
use Rattle.model.specs.Ids.{same_id}
use Rattle.model.proofs.Tests.{and-none-right}
use Rattle.model.proofs.ListLaws.{any-yes, any-no}
use Rattle.shoplog.specs.Lines.{Line, write, commit, read}
use Rattle.shoplog.specs.Verdicts.{gathered, actor_in, written_in, read_in, commit_in, actors, write_set, read_set, is_committed, committed_as}
use Rattle.logtable.specs.Holds.{ClockHeld}

-- ms say of u what ls say
pub record SaidSame (ls ms : List Line) (u : ℕ) : Type 0 where
  pub clock : (n : ℕ) → ClockHeld n ls u → ClockHeld n ms u
  pub writes : write_set u ms ≡ write_set u ls
  pub reads : read_set u ms ≡ read_set u ls

module _ (ls : List Line) (t : ℕ) where
  -- ── a write ──
  pub write-clock : (k u n : ℕ) → ClockHeld n ls u → ClockHeld n (write t k ∷ ls) u
  unfolding is_committed committed_as gathered commit_in
  write-clock k u n h = record { open-still = h.open-still; committed = h.committed }

  pub write-acts : (k : ℕ) → actors (write t k ∷ ls) ≡ t ∷ actors ls
  unfolding actors gathered actor_in
  write-acts k = refl

  pub write-own : (k : ℕ) → write_set t (write t k ∷ ls) ≡ k ∷ write_set t ls
  unfolding write_set gathered written_in
  write-own k = rw (eq-eqb t t refl)

  pub write-reads : (k u : ℕ) → read_set u (write t k ∷ ls) ≡ read_set u ls
  unfolding read_set gathered read_in
  write-reads k u = refl

  pub write-other : (k u : ℕ) → u ≢ t → SaidSame ls (write t k ∷ ls) u
  unfolding write_set gathered written_in
  write-other k u n = record { clock = write-clock k u; writes = rw (ne_eqb u t n); reads = write-reads k u }

  -- ── a commit ──
  pub commit-acts : (c : ℕ) → actors (commit t c ∷ ls) ≡ actors ls
  unfolding actors gathered actor_in
  commit-acts c = refl

  pub commit-writes : (c u : ℕ) → write_set u (commit t c ∷ ls) ≡ write_set u ls
  unfolding write_set gathered written_in
  commit-writes c u = refl

  pub commit-reads : (c u : ℕ) → read_set u (commit t c ∷ ls) ≡ read_set u ls
  unfolding read_set gathered read_in
  commit-reads c u = refl

  commit-clock-other : (c u n : ℕ) → u ≢ t → ClockHeld n ls u → ClockHeld n (commit t c ∷ ls) u
  unfolding is_committed committed_as gathered commit_in same_id
  commit-clock-other c u n d h = record {
    open-still = any-no (λ (i : Id). eqb u i.txn) (record { clock = c; txn = t }) (gathered commit_in ls) (ne_eqb u t d) ∙ h.open-still;
    committed = λ b z. any-no (same_id (record { clock = b; txn = u })) (record { clock = c; txn = t }) (gathered commit_in ls) (and-none-right (eqb b c) (eqb u t) (ne_eqb u t d)) ∙ h.committed b z;
  }

  pub commit-other : (c u : ℕ) → u ≢ t → SaidSame ls (commit t c ∷ ls) u
  commit-other c u n = record { clock = λ m. commit-clock-other c u m n; writes = commit-writes c u; reads = commit-reads c u }

  pub commit-clock : (c : ℕ) → c ≢ 0 → ClockHeld 0 ls t → ClockHeld c (commit t c ∷ ls) t
  unfolding is_committed committed_as gathered commit_in same_id ◌and◌
  commit-clock c n h = record {
    open-still = any-yes (λ (i : Id). eqb t i.txn) (record { clock = c; txn = t }) (gathered commit_in ls) (eq-eqb t t refl) ∙ sym (ap not (ne_eqb c 0 n));
    committed = λ b z. go b z (eqb b c) refl;
  }
    where
      go : (b : ℕ) → b ≢ 0 → (x : Bool) → eqb b c ≡ x → committed_as (commit t c ∷ ls) (record { clock = b; txn = t }) ≡ eqb c b
      go b z true e = any-yes (same_id (record { clock = b; txn = t })) (record { clock = c; txn = t }) (gathered commit_in ls) (rw (e, eq-eqb t t refl)) ∙ sym (eq-eqb c b (sym (eqb-true b c e)))
      go b z false e =
          any-no (same_id (record { clock = b; txn = t })) (record { clock = c; txn = t }) (gathered commit_in ls) (rw e)
          ∙ (h.committed b z ∙ (ne_eqb 0 b (λ q. z (sym q)) ∙ sym (ne_eqb c b (λ q. eqb-false b c e (sym q)))))

  -- ── a read ──
  pub read-clock : (k : ℕ) (i : Id) (u n : ℕ) → ClockHeld n ls u → ClockHeld n (read t k i ∷ ls) u
  unfolding is_committed committed_as gathered commit_in
  read-clock k i u n h = record { open-still = h.open-still; committed = h.committed }

  pub read-acts : (k : ℕ) (i : Id) → actors (read t k i ∷ ls) ≡ t ∷ actors ls
  unfolding actors gathered actor_in
  read-acts k i = refl

  pub read-own : (k : ℕ) (i : Id) → read_set t (read t k i ∷ ls) ≡ record { key = k; id = i } ∷ read_set t ls
  unfolding read_set gathered read_in
  read-own k i = rw (eq-eqb t t refl)

  pub read-writes : (k : ℕ) (i : Id) (u : ℕ) → write_set u (read t k i ∷ ls) ≡ write_set u ls
  unfolding write_set gathered written_in
  read-writes k i u = refl

  pub read-other : (k : ℕ) (i : Id) (u : ℕ) → u ≢ t → SaidSame ls (read t k i ∷ ls) u
  unfolding read_set gathered read_in
  read-other k i u n = record { clock = read-clock k i u; writes = read-writes k i u; reads = rw (ne_eqb u t n) }
