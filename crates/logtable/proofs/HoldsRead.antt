-- The table after a read holds it.
use Prim.Native.Nat.{ℕ, suc, ◌+◌, ◌<◌, min}
use mathlib.Core.Path.{◌≡◌, refl, sym, ap, ap₂, subst, ◌∙◌}
use mathlib.Core.Logic.{◌≢◌, ⊎_elim}
use mathlib.Core.Bool.{Bool, true, false, true≢false}
use mathlib.Core.List.{List, [], ◌∷◌, ◌++◌, Memᴰ}
use lib.ListN.{length, take, drop, get_or, set, length-set, length-drop}
use lib.Seq.{get_or-set_same, get_or-set_other, take-set-le, take-suc-set, drop-set-lt, drop-set-add, set-get_or}
use native.Mathlib.Omega.{arith}
use borrow.Author.Tests.{leb-false}
use Rattle.model.specs.declared.Id.{Id}
use Rattle.model.specs.declared.Read.{Read}
use Rattle.model.specs.Lists.{any, member}
use Rattle.model.specs.KeySets.{key_set}
use Rattle.model.proofs.Tests.{or_left, or_right, and_second, not_of_false}
use Rattle.model.proofs.ListLaws.{mem-map}
use Rattle.shoplog.specs.Findings.{Fine}
use Rattle.shoplog.specs.Lines.{Line, read}
use Rattle.shoplog.specs.Verdicts.{actors, read_set, keys_read, one_too_many, is_over, finding_of}
use Rattle.shoplog.proofs.GatheredLaws.{member-mem}
use Rattle.shoplog.proofs.FineLaws.{fine-good, read-fine, same_version}
use Rattle.logtable.specs.Tables.{places, table_size, txn_at, clock_at, written_at, read_at, read_count, reads_at, reads_start, read_word, id_at, seat_of, with_key, after_read}
use Rattle.logtable.specs.Findings.{full_for}
use Rattle.logtable.specs.Holds.{ReadsHeld, HoldsAt, SeatsHeld, Holds}
use Rattle.logtable.proofs.KeysHeldLaws.{full-same, keys-more, keys-again, with-key-new}
use Rattle.logtable.proofs.PlaceLaws.{OnlyAt, other-column, other-read, ids-kept, only_set, taken-only, taken-column}
use Rattle.logtable.proofs.SilentLaws.{silent-reads}
use Rattle.logtable.proofs.SaidLaws.{read-clock, read-acts, read-own, read-writes, read-other}
use Rattle.logtable.proofs.SeatHolds.{seat-over, seat-holds, seat-own, seat-whose, seat-taken}
use Rattle.logtable.proofs.KeptLaws.{reads_kept, holds-line}
use Rattle.logtable.proofs.ReadsHeldLaws.{reads-again, reads_more}
use Rattle.logtable.proofs.ReadFound.{author-placed}

-- ── a key that is read again: the table stays ──
module _ (T : List ℕ) (ls : List Line) (p t k : ℕ) (i : Id) (h : Holds T ls) (n : t ≢ 0) (o : p < 64) (own : txn_at T p ≡ t)
    (fine : finding_of ls (read t k i) ≡ Fine) (m : member k (keys_read t ls) ≡ true) (s : HoldsAt T ls p t) where
  -- the earlier read has the version
  read-before : Memᴰ (record { key = k; id = i }) (read_set t ls)
  unfolding keys_read
  read-before =
      let r = mem-map (λ (r : Read). r.key) (read_set t ls) k (member-mem k (keys_read t ls) m) in
      let v : r.0.id ≡ i = same_version k i (read_set t ls) (read-fine ls t k i (fine-good ls (read t k i) fine).1).one-version r.0 r.1 r.2 in
      let e : r.0 ≡ record { key = k; id = i } = λ j. record { key = r.2 j; id = v j } in
      subst (λ (q : Read). Memᴰ q (read_set t ls)) e r.1

  again-holds : HoldsAt T (read t k i ∷ ls) p t
  unfolding keys_read
  again-holds = record {
    clock = read-clock ls t k i t (clock_at T p) s.clock;
    wrote = rw (read-writes ls t k i t) s.wrote;
    read = rw (read-own ls t k i) (keys-again (read_at T p) k (keys_read t ls) m s.read);
    few = s.few;
    reads = rw (read-own ls t k i) (reads-again T (reads_at T p) (read_set t ls) (record { key = k; id = i }) read-before s.reads);
  }

  again-only : OnlyAt T T p
  again-only = record { others = λ q u d. record { txn = refl; clock = refl; written = refl; read = refl; reads = refl }; own = λ a z. refl }

  again-held : SeatsHeld (take places (set T p t)) (t ∷ actors ls) → Holds T (read t k i ∷ ls)
  again-held seats = holds-line T T ls (read t k i) p t h fine refl o n own again-only (read-other ls t k i)
      (rw (read-acts ls t k i) (subst (λ (U : List ℕ). SeatsHeld (take places U) (t ∷ actors ls)) stays seats)) again-holds
    where
      stays : set T p t ≡ T
      stays = ap (set T p) (sym own) ∙ set-get_or T p 0

-- ── a key that is new: the place p has it at the end, with the author's place a ──
module _ (T : List ℕ) (ls : List Line) (p a t k : ℕ) (size : length T ≡ table_size) (o : p < 64) (u : a < 64) (m : k < 64)
    (own : txn_at T p ≢ 0 → txn_at T p ≡ t) (fresh : member k (key_set (read_at T p)) ≡ false) (room : length (key_set (read_at T p)) < 16) where
  after_is : after_read T p a t k ≡ set (set (set T p t) (192 + p) (with_key (read_at T p) k)) (reads_start p + length (key_set (read_at T p))) (read_word k a)
  unfolding after_read
  after_is = rw fresh

  after-only : OnlyAt T (after_read T p a t k) p
  after-only = rw after_is
      (only_set T (set (set T p t) (192 + p) (with_key (read_at T p) k)) p (reads_start p + length (key_set (read_at T p))) (read_word k a)
      (only_set T (set T p t) p (192 + p) (with_key (read_at T p) k) (taken-only T p t o own (omega (arith, size)))
      (λ q v d. other-column (192 + p) 3 p q (omega arith) (omega arith) o v d) (λ e. absurd (omega arith)) (λ e. absurd (omega arith)))
      (λ q v d. other-read (length (key_set (read_at T p))) p q room o v d) (λ e. absurd (omega arith)) (λ e. absurd (omega arith)))

  -- the cells of the place
  after-other : (i : ℕ) → i ≢ 192 + p → i < 256 → get_or (after_read T p a t k) i 0 ≡ get_or (set T p t) i 0
  after-other i d v = rw after_is
      (get_or-set_other (set (set T p t) (192 + p) (with_key (read_at T p) k)) (reads_start p + length (key_set (read_at T p))) i (read_word k a) 0 (λ e. absurd (omega arith))
      ∙ get_or-set_other (set T p t) (192 + p) i (with_key (read_at T p) k) 0 d)

  after-txn : txn_at (after_read T p a t k) p ≡ t
  after-txn = after-other p (λ e. absurd (omega arith)) (omega arith) ∙ get_or-set_same T p t 0 (omega (arith, size))

  after-clock : clock_at (after_read T p a t k) p ≡ clock_at T p
  after-clock = after-other (64 + p) (λ e. absurd (omega arith)) (omega arith) ∙ taken-column T p t o (64 + p) (omega arith)

  after-written : written_at (after_read T p a t k) p ≡ written_at T p
  after-written = after-other (128 + p) (λ e. absurd (omega arith)) (omega arith) ∙ taken-column T p t o (128 + p) (omega arith)

  after_read_lem : read_at (after_read T p a t k) p ≡ with_key (read_at T p) k
  after_read_lem = rw after_is
      (get_or-set_other (set (set T p t) (192 + p) (with_key (read_at T p) k)) (reads_start p + length (key_set (read_at T p))) (192 + p) (read_word k a) 0 (λ e. absurd (omega arith))
      ∙ get_or-set_same (set T p t) (192 + p) (with_key (read_at T p) k) 0 (rw (length-set T p t) (omega (arith, size))))

  after-column : take places (after_read T p a t k) ≡ take places (set T p t)
  after-column = rw after_is
      (take-set-le places (set (set T p t) (192 + p) (with_key (read_at T p) k)) (reads_start p + length (key_set (read_at T p))) (read_word k a) (omega arith)
      ∙ take-set-le places (set T p t) (192 + p) (with_key (read_at T p) k) (omega arith))

  after-size : length (after_read T p a t k) ≡ length T
  after-size = rw after_is
      (length-set (set (set T p t) (192 + p) (with_key (read_at T p) k)) (reads_start p + length (key_set (read_at T p))) (read_word k a)
      ∙ (length-set (set T p t) (192 + p) (with_key (read_at T p) k) ∙ length-set T p t))

  after-count : length (key_set (with_key (read_at T p) k)) ≡ suc (length (key_set (read_at T p)))
  after-count = with-key-new (read_at T p) k m fresh

  after-reads : reads_at (after_read T p a t k) p ≡ reads_at T p ++ (read_word k a ∷ [])
  unfolding reads_at read_count
  after-reads =
      ap₂ (λ (j : ℕ) (U : List ℕ). take j (drop (reads_start p) U)) many after_is
      ∙ (ap (take (suc (length (key_set (read_at T p))))) (drop-set-add (reads_start p) W (length (key_set (read_at T p))) (read_word k a))
      ∙ (take-suc-set (drop (reads_start p) W) (length (key_set (read_at T p))) (read_word k a) inside
      ∙ ap₂ (λ (j : ℕ) (U : List ℕ). take j U ++ (read_word k a ∷ [])) few rest))
    where
      W : List ℕ
      W = set (set T p t) (192 + p) (with_key (read_at T p) k)

      many : min (length (key_set (read_at (after_read T p a t k) p))) 16 ≡ suc (length (key_set (read_at T p)))
      many = ap (λ (x : ℕ). min (length (key_set x)) 16) after_read_lem ∙ (ap (λ (x : ℕ). min x 16) after-count ∙ omega arith)

      few : length (key_set (read_at T p)) ≡ min (length (key_set (read_at T p))) 16
      few = omega arith

      rest : drop (reads_start p) W ≡ drop (reads_start p) T
      rest =
          drop-set-lt (reads_start p) (set T p t) (192 + p) (with_key (read_at T p) k) (omega arith)
          ∙ drop-set-lt (reads_start p) T p t (omega arith)

      inside : length (key_set (read_at T p)) < length (drop (reads_start p) W)
      inside = rw rest (rw (length-drop (reads_start p) T) (omega (arith, size)))

  -- the author's id, and what the place holds
  module _ (i : Id) (id : id_at T a ≡ i) (named : txn_at T a ≢ 0) (clocked : clock_at T a ≢ 0) where
    id-after : id_at (after_read T p a t k) a ≡ id_at T a
    id-after = ids-kept T (after_read T p a t k) p after-only a u named clocked

    after_holds : HoldsAt T ls p t → HoldsAt (after_read T p a t k) (read t k i ∷ ls) p t
    unfolding keys_read
    after_holds s = record {
      clock = rw after-clock (read-clock ls t k i t (clock_at T p) s.clock);
      wrote = rw (after-written, read-writes ls t k i t) s.wrote;
      read = rw (after_read_lem, read-own ls t k i) (keys-more (read_at T p) k (keys_read t ls) m s.read);
      few = rw (after_read_lem, after-count) room;
      reads = rw (after-reads, read-own ls t k i)
          (subst (λ (j : Id). ReadsHeld (after_read T p a t k) (reads_at T p ++ (read_word k a ∷ [])) (record { key = k; id = j } ∷ read_set t ls)) (id-after ∙ id)
          (reads_more (after_read T p a t k) (reads_at T p) (read_set t ls) k a m u
          (λ z. named (sym (ap (λ (j : Id). j.txn) id-after) ∙ z))
          (λ z. clocked (sym (ap (λ (j : Id). j.clock) id-after) ∙ z))
          (reads_kept T (after_read T p a t k) (reads_at T p) (read_set t ls) (ids-kept T (after_read T p a t k) p after-only) s.reads)));
    }

    after-held : Holds T ls → t ≢ 0 → finding_of ls (read t k i) ≡ Fine → HoldsAt T ls p t → SeatsHeld (take places (set T p t)) (t ∷ actors ls)
        → Holds (after_read T p a t k) (read t k i ∷ ls)
    after-held h n fine s seats =
        holds-line T (after_read T p a t k) ls (read t k i) p t h fine after-size o n after-txn after-only (read-other ls t k i) (rw (after-column, read-acts ls t k i) seats) (after_holds s)

pub read_held : (T : List ℕ) (ls : List Line) (t k : ℕ) (i : Id) → Holds T ls → t ≢ 0 → k < 64 → i.txn ≢ 0 → i.clock ≢ 0 → finding_of ls (read t k i) ≡ Fine
    → Holds (after_read T (seat_of T t) (seat_of T i.txn) t k) (read t k i ∷ ls)
unfolding is_over after_read full_for keys_read member any
read_held T ls t k i h d m n z fine = go (member k (key_set (read_at T (seat_of T t)))) refl
  where
    over : (one_too_many 64 t (actors ls) ≡ false) × (one_too_many 16 k (keys_read t ls) ≡ false)
    over = let e = (fine-good ls (read t k i) fine).0 in (or_left _ _ e, or_right _ _ e)

    o : seat_of T t < 64
    o = leb-false places (seat_of T t) (seat-over T ls t h d ∙ over.0)

    s : HoldsAt T ls (seat_of T t) t
    s = seat-holds T ls t h d o

    none_read : member t (actors ls) ≡ false → member k (keys_read t ls) ≡ false
    none_read q = rw (silent-reads ls t q)

    author : (seat_of T i.txn < 64) × (id_at T (seat_of T i.txn) ≡ i) × (txn_at T (seat_of T i.txn) ≢ 0)
    author = author-placed T ls i h n z (read-fine ls t k i (fine-good ls (read t k i) fine).1).committed

    go : (b : Bool) → member k (key_set (read_at T (seat_of T t))) ≡ b → Holds (after_read T (seat_of T t) (seat_of T i.txn) t k) (read t k i ∷ ls)
    go true e = rw e (again-held T ls (seat_of T t) t k i h d o own fine (sym (s.read.has k m) ∙ e) s (seat-taken T ls t h d o))
      where
        -- an unused place has no read
        own : txn_at T (seat_of T t) ≡ t
        own = ⊎_elim (λ q. q) (λ q. absurd (true≢false (sym e ∙ (s.read.has k m ∙ none_read q.1)))) (seat-whose T ls t h d o)
    go false e =
        after-held T ls (seat_of T t) (seat_of T i.txn) t k h.size o author.0 m (seat-own T ls t h d o) e room i author.1 author.2
        (λ q. z (sym (ap (λ (j : Id). j.clock) author.1) ∙ q)) h d fine s (seat-taken T ls t h d o)
      where
        room : length (key_set (read_at T (seat_of T t))) < 16
        room = leb-false 16 _ (and_second _ _ (full-same 16 (read_at T (seat_of T t)) k (keys_read t ls) m s.read ∙ over.1) (not_of_false _ e))
