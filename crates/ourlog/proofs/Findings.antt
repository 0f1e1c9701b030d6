-- What makes a line not bad, by the lines above it.
use Prim.Native.Nat.{ℕ}
use mathlib.Core.Path.{◌≡◌, refl, sym, ◌∙◌}
use mathlib.Core.Bool.{Bool, true, false, not, true≢false}
use mathlib.Core.List.Memᴰ
use mathlib.Core.List.{List, [], ◌∷◌, Memᴰ}
use lib.ListN.{length}
use native.Mathlib.Omega.{arith}
use borrow.Author.Tests.{eqb-true, ne_eqb, not-true}
use Rattle.model.specs.declared.Id.{Id}
use Rattle.model.specs.declared.Read.{Read}
use Rattle.model.specs.Lists.{◌and◌, all}
use Rattle.model.specs.Ids.{older}
use Rattle.model.proofs.Tests.{and_left, and_right, or-none, not-of-true, not_of_false}
use Rattle.model.proofs.ListLaws.{all_cons}
use Rattle.model.proofs.IdLaws.{id_same}
use Rattle.shoplog.specs.Lines.{Line, write, commit, read}
use Rattle.shoplog.specs.Verdicts.{written_in, write_set, read_set, has_written, is_committed, is_atomic, at_another, is_bad}
use Rattle.shoplog.proofs.GatheredLaws.{any-one, mem-gathered, written-own, has-written, write-above, committed-clock, committed-as}
use Rattle.ourlog.proofs.Agrees.{Uncommitted}

-- a test that cannot be true
pub refuted : (a : Bool) → (a ≡ true → ⊥) → a ≡ false
refuted true f = absurd (f refl)
refuted false f = refl

all-each : {A : Type 0} (p : A → Bool) (xs : List A) → ((x : A) → Memᴰ x xs → p x ≡ true) → all p xs ≡ true
all-each p [] f = unfold all in refl
all-each p (x ∷ xs) f = all_cons p x xs (f x (Memᴰ.head refl)) (all-each p xs (λ y m. f y (Memᴰ.tail m)))

not-committed : (ls : List Line) (t : ℕ) → Uncommitted ls t → is_committed ls t ≡ false
not-committed ls t un = refuted _ (λ h. let r = committed-clock ls t h in un r.0 r.1)

pub write-good : (ls : List Line) (t k : ℕ) → Uncommitted ls t → is_bad ls (write t k) ≡ false
unfolding is_bad
write-good ls t k un = not-committed ls t un

pub commit-good : (ls : List Line) (t c k : ℕ) → Uncommitted ls t → Memᴰ (write t k) ls → is_bad ls (commit t c) ≡ false
unfolding is_bad
commit-good ls t c k un m = or-none _ _ (not-committed ls t un) (ne_eqb _ 0 (some_one (write_set t ls) (unfold write_set in mem-gathered (written_in t) ls (write t k) k m (rw (written-own t k) (Memᴰ.head refl)))))
  where
    some_one : (xs : List ℕ) → Memᴰ k xs → length xs ≡ 0 → ⊥
    some_one [] h e = Memᴰ.not-nil h
    some_one (x ∷ xs) h e = absurd (omega (arith, e))

-- the reader's reads with the new one: no two break the Atomic Readset, and of its key there is one version
pub read-good : (ls : List Line) (t k : ℕ) (i : Id) → Uncommitted ls t → Memᴰ (commit i.txn i.clock) ls → Memᴰ (write i.txn k) ls
    → (Memᴰ (write t k) ls → ⊥)
    → ((r q : Read) → Memᴰ r (record { key = k; id = i } ∷ read_set t ls) → Memᴰ q (record { key = k; id = i } ∷ read_set t ls) → Memᴰ (write r.id.txn q.key) ls → older q.id r.id ≡ true → ⊥)
    → ((r : Read) → Memᴰ r (read_set t ls) → r.key ≡ k → r.id ≡ i) → is_bad ls (read t k i) ≡ false
unfolding is_bad at_another is_atomic
read-good ls t k i un co wr unwritten atomic one =
    or-none _ _
    (or-none _ _
    (or-none _ _
    (or-none _ _
    (or-none _ _ (not-committed ls t un) (not-of-true _ (committed-as ls i co)))
    (not-of-true _ (has-written ls i.txn k wr)))
    (refuted _ (λ h. unwritten (write-above ls t k h))))
    (not-of-true _ (all-each _ rs (λ r mr. all-each _ rs (λ q mq. not_of_false _ (unbroken r q mr mq))))))
    (refuted _ different)
  where
    rs : List Read
    rs = record { key = k; id = i } ∷ read_set t ls

    unbroken : (r q : Read) → Memᴰ r rs → Memᴰ q rs → (has_written ls r.id.txn q.key and older q.id r.id) ≡ false
    unbroken r q mr mq = refuted (has_written ls r.id.txn q.key and older q.id r.id) (λ h. atomic r q mr mq (write-above ls r.id.txn q.key (and_left _ _ h)) (and_right _ _ h))

    different : at_another k i (read_set t ls) ≡ true → ⊥
    different h =
        let x = any-one _ (read_set t ls) h in
        true≢false (sym (id_same x.0.id i (one x.0 x.1 (eqb-true _ _ (and_left _ _ x.2)))) ∙ not-true _ (and_right _ _ x.2))
