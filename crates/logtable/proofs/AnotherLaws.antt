-- A key at another version: the table's test of a read's word is that of the lines, where the key was read before; where it was not, no read has it.
use Prim.Native.Nat.{ℕ, ◌<◌}
use mathlib.Core.Path.{◌≡◌, refl, sym, ap, ap₂, subst, ◌∙◌}
use mathlib.Core.Logic.{◌≢◌, ⊎_elim}
use mathlib.Core.Bool.{Bool, true, false, not, true≢false}
use mathlib.Core.List.{List, ◌∷◌, Memᴰ}
use lib.Dec.{eqb}
use lib.ListN.{get_or}
use native.Mathlib.Omega.{arith}
use borrow.Author.Tests.{eq-eqb, ne_eqb, eqb-true}
use Rattle.model.specs.declared.Id.{Id}
use Rattle.model.specs.declared.Read.{Read}
use Rattle.model.specs.Lists.{◌and◌, ◌or◌, member}
use Rattle.model.specs.Ids.{same_id}
use Rattle.model.specs.KeySets.{key_set}
use Rattle.model.proofs.Tests.{and_intro, or-none, or-false, or-intro-right, not-of-true, not_of_false, bool_cases, same_test}
use Rattle.model.proofs.ListLaws.{any-none-of, get_or-mem, mem-map, map-mem}
use Rattle.model.proofs.IdLaws.{same_id_lem, id_same}
use Rattle.shoplog.specs.Lines.{Line}
use Rattle.shoplog.specs.Verdicts.{read_set, keys_read, is_atomic, at_another}
use Rattle.shoplog.specs.Claims.{CleanLog}
use Rattle.shoplog.proofs.GatheredLaws.{any-mem, member-mem, mem-member}
use Rattle.shoplog.proofs.CleanMeans.{fine-clean}
use Rattle.logtable.specs.Tables.{txn_at, read_at, reads_at, key_of, author_of, read_word, id_at}
use Rattle.logtable.specs.Findings.{is_another, unfit}
use Rattle.logtable.specs.Holds.{Holds, HoldsAt, ReadsHeld}
use Rattle.logtable.proofs.SeatedLaws.{one_place}
use Rattle.logtable.proofs.ReadsHeldLaws.{word_read}
use Rattle.logtable.proofs.PairLaws.{not-both, apart-same, atomic-again}
use Rattle.logtable.proofs.ClashLaws.{clashes-same}

-- each read of the key has the version
none_other : (k : ℕ) (i : Id) (rs : List Read) → ((r : Read) → Memᴰ r rs → r.key ≡ k → r.id ≡ i) → at_another k i rs ≡ false
unfolding at_another
none_other k i rs f = any-none-of (λ (r : Read). eqb r.key k and not (same_id r.id i)) rs new λ j o.
    not-both _ _ (λ e. not-of-true _ (id_same (get_or rs j new).id i (f (get_or rs j new) (get_or-mem rs j new o) (eqb-true (get_or rs j new).key k e))))
  where
    new : Read
    new = record { key = k; id = i }

module _ (T : List ℕ) (ls : List Line) (h : Holds T ls) where
  -- a used place is told by its id
  same_place : (a b : ℕ) → a < 64 → b < 64 → txn_at T b ≢ 0 → eqb b a ≡ same_id (id_at T b) (id_at T a)
  same_place a b o u n = same_test _ _ (λ e. id_same (id_at T b) (id_at T a) (ap (id_at T) (eqb-true b a e)))
      (λ e. eq-eqb b a (one_place T b a h.seats.single u o (ap (λ (i : Id). i.txn) (same_id_lem (id_at T b) (id_at T a) e)) n))

  module _ (k a : ℕ) (m : k < 64) (o : a < 64) (n : txn_at T a ≢ 0) (p t : ℕ) where
    -- the lines' two tests of the read with the others
    abbrev breaks : Bool
    breaks = not (is_atomic ls (record { key = k; id = id_at T a } ∷ read_set t ls)) or at_another k (id_at T a) (read_set t ls)

    -- ── the key was read before ──
    module _ (s : ReadsHeld T (reads_at T p) (read_set t ls)) where
      -- its word is there: it is one of the reads
      word-there : member (read_word k a) (reads_at T p) ≡ true → breaks ≡ false
      word-there e = or-none _ _ (not-of-true _ (atomic-again ls k (id_at T a) (read_set t ls) (clean.atomic t) w))
          (none_other k (id_at T a) (read_set t ls) (λ r v q. clean.repeatable t r (record { key = k; id = id_at T a }) v w q))
        where
          clean : CleanLog ls
          clean = fine-clean ls h.fine

          w : Memᴰ (record { key = k; id = id_at T a }) (read_set t ls)
          w = subst (λ (r : Read). Memᴰ r (read_set t ls)) (word_read T k a m o (read_word k a) refl) (s.said (read_word k a) (member-mem (read_word k a) (reads_at T p) e))

      -- it is not: the read of the key has another author
      module _ (e : member (read_word k a) (reads_at T p) ≡ false) where
        other-author : (x : ℕ) → Memᴰ x (reads_at T p) → key_of x ≡ k → author_of x ≢ a
        other-author x w q d =
            true≢false (sym (mem-member x (reads_at T p) w) ∙ (ap (λ (y : ℕ). member y (reads_at T p)) (s.words x w ∙ ap₂ read_word q d) ∙ e))

        word-missing : member k (keys_read t ls) ≡ true → at_another k (id_at T a) (read_set t ls) ≡ true
        unfolding keys_read at_another
        word-missing v =
            let r = mem-map (λ (r : Read). r.key) (read_set t ls) k (member-mem k (keys_read t ls) v) in
            let x = s.listed r.0 r.1 in
            let differs : same_id r.0.id (id_at T a) ≡ false =
            ap (λ (j : Id). same_id j (id_at T a)) (sym x.3)
            ∙ (sym (same_place a (author_of x.0) o (omega arith) (s.authors x.0 x.1).0)
            ∙ ne_eqb (author_of x.0) a (other-author x.0 x.1 (x.2 ∙ r.2))) in
            any-mem (λ (r : Read). eqb r.key k and not (same_id r.id (id_at T a))) (read_set t ls) r.0 r.1
            (and_intro _ _ (eq-eqb r.0.key k r.2) (not_of_false _ differs))

      another-same : member k (keys_read t ls) ≡ true → is_another T p k a ≡ breaks
      unfolding is_another
      another-same v = ⊎_elim (λ e. not-of-true _ e ∙ sym (word-there e)) (λ e. not_of_false _ e ∙ sym (or-intro-right _ _ (word-missing e v)))
          (bool_cases (member (read_word k a) (reads_at T p)))

    -- ── it was not ──
    none_read : member k (keys_read t ls) ≡ false → at_another k (id_at T a) (read_set t ls) ≡ false
    unfolding keys_read
    none_read e = none_other k (id_at T a) (read_set t ls) (λ r w q. absurd (true≢false
        (sym (mem-member k (keys_read t ls) (subst (λ (l : ℕ). Memᴰ l (keys_read t ls)) q (map-mem (λ (r : Read). r.key) (read_set t ls) r w))) ∙ e)))

    pub unfit-same : HoldsAt T ls p t → unfit T p k a ≡ (not (is_atomic ls (record { key = k; id = id_at T a } ∷ read_set t ls)) or at_another k (id_at T a) (read_set t ls))
    unfolding unfit
    unfit-same s = go (member k (key_set (read_at T p))) refl
      where
        go : (b : Bool) → member k (key_set (read_at T p)) ≡ b → unfit T p k a ≡ breaks
        go true e = rw e (another-same s.reads (sym (s.read.has k m) ∙ e))
        go false e = rw (e, none_read (sym (s.read.has k m) ∙ e), or-false)
            (clashes-same T ls h k a m o n p t s.reads ∙ apart-same ls k (id_at T a) (read_set t ls) ((fine-clean ls h.fine).atomic t))
