-- What lines say of tickets (specs/Verdicts), line by line: a write, a read or a commit is found in what is gathered exactly where its line is.
use Prim.Native.Nat.{ℕ}
use mathlib.Core.Path.{◌≡◌, refl, sym, ap, subst, ◌∙◌}
use mathlib.Core.Logic.{◌⊎◌, inl, inr, ⊎_elim}
use mathlib.Core.Bool.{Bool, true, false, true≢false, false≢true, cond}
use mathlib.Core.List.Memᴰ
use mathlib.Core.List.{List, [], ◌∷◌, ◌++◌, append_assoc, Memᴰ}
use lib.Dec.{eqb}
use borrow.Author.Tests.{eqb-true, eq-eqb}
use Rattle.model.specs.declared.Id.{Id}
use Rattle.model.specs.declared.Read.{Read}
use Rattle.model.specs.Lists.{any, member}
use Rattle.model.specs.Ids.{same_id}
use Rattle.model.proofs.ListLaws.{any_none}
use Rattle.model.proofs.IdLaws.{same_id_lem, id_same}
use Rattle.shoplog.specs.Lines.{Line, write, commit, read}
use Rattle.shoplog.specs.Verdicts.{gathered, actor_in, written_in, read_in, commit_in, actors, write_set, read_set, has_written, is_committed, committed_as}

-- ── searches and membership ──
module _ {A : Type 0} (p : A → Bool) where
  pub any-mem : (l : List A) (x : A) → Memᴰ x l → p x ≡ true → any p l ≡ true
  any-mem l x m h = go (any p l) refl
    where
      go : (b : Bool) → any p l ≡ b → any p l ≡ true
      go true e = e
      go false e = absurd (true≢false (sym h ∙ any_none p l e x m))

  pub any-one : (l : List A) → any p l ≡ true → (x : A) × Memᴰ x l × (p x ≡ true)
  unfolding any
  any-one [] h = absurd (false≢true h)
  any-one (y ∷ ys) h = go (p y) refl (any-one ys)
    where
      go : (b : Bool) → p y ≡ b → (any p ys ≡ true → (x : A) × Memᴰ x ys × (p x ≡ true)) → (x : A) × Memᴰ x (y ∷ ys) × (p x ≡ true)
      go true e ih = (y, Memᴰ.head refl, e)
      go false e ih = let r = ih (rw (e, any) at h) in (r.0, Memᴰ.tail r.1, r.2)

pub member-mem : (n : ℕ) (l : List ℕ) → member n l ≡ true → Memᴰ n l
unfolding member
member-mem n l h = let r = any-one (eqb n) l h in subst (λ (m : ℕ). Memᴰ m l) (sym (eqb-true n r.0 r.2)) r.1

pub mem-member : (n : ℕ) (l : List ℕ) → Memᴰ n l → member n l ≡ true
unfolding member
mem-member n l m = any-mem (eqb n) l n m (eq-eqb n n refl)

-- ── what is gathered ──
module _ {A : Type 0} (f : Line → List A) where
  pub gathered-append : (xs ys : List Line) → gathered f (xs ++ ys) ≡ gathered f xs ++ gathered f ys
  unfolding gathered
  gathered-append [] ys = refl
  gathered-append (x ∷ xs) ys = rw (gathered-append xs ys, append_assoc)

  pub gathered_none : (l : Line) (ls : List Line) → f l ≡ [] → gathered f (l ∷ ls) ≡ gathered f ls
  unfolding gathered
  gathered_none l ls e = ap (λ (xs : List A). xs ++ gathered f ls) e

  pub mem-gathered : (ls : List Line) (l : Line) (x : A) → Memᴰ l ls → Memᴰ x (f l) → Memᴰ x (gathered f ls)
  unfolding gathered
  mem-gathered [] l x m h = absurd (Memᴰ.not-nil m)
  mem-gathered (y ∷ ys) l x m h =
      ⊎_elim (λ e. Memᴰ.append_left (gathered f ys) (subst (λ (z : Line). Memᴰ x (f z)) e h)) (λ m'. Memᴰ.append_right (f y) (mem-gathered ys l x m' h)) (Memᴰ.cases_cons m)

  pub gathered-mem : (ls : List Line) (x : A) → Memᴰ x (gathered f ls) → (l : Line) × Memᴰ l ls × Memᴰ x (f l)
  unfolding gathered
  gathered-mem [] x m = absurd (Memᴰ.not-nil m)
  gathered-mem (y ∷ ys) x m =
      ⊎_elim (λ h. (y, Memᴰ.head refl, h)) (λ m'. let r = gathered-mem ys x m' in (r.0, Memᴰ.tail r.1, r.2)) (Memᴰ.append_cases (f y) m)

  -- more lines below
  pub gathered-more : (below ls : List Line) (x : A) → Memᴰ x (gathered f ls) → Memᴰ x (gathered f (below ++ ls))
  gathered-more below ls x m = rw (gathered-append below ls) (Memᴰ.append_right (gathered f below) m)

-- ── writes ──
-- what a line of the ticket itself gives, and of another
pub written-own : (t k : ℕ) → written_in t (write t k) ≡ k ∷ []
unfolding written_in
written-own t k = rw (eq-eqb t t refl)

pub written-other : (t u k : ℕ) → eqb t u ≡ false → written_in t (write u k) ≡ []
unfolding written_in
written-other t u k e = rw e

-- a line that gives a write
pub written-line : (t k : ℕ) (l : Line) → Memᴰ k (written_in t l) → l ≡ write t k
unfolding written_in
written-line t k (write u j) m = go (eqb t u) refl m
  where
    go : (b : Bool) → eqb t u ≡ b → Memᴰ k (cond b (j ∷ []) []) → write u j ≡ write t k
    go true e h = cc (eqb-true t u e, Memᴰ.eq_of_singleton h)
    go false e h = absurd (Memᴰ.not-nil h)
written-line t k (commit u c) m = absurd (Memᴰ.not-nil m)
written-line t k (read u j i) m = absurd (Memᴰ.not-nil m)

pub has-written : (ls : List Line) (t k : ℕ) → Memᴰ (write t k) ls → has_written ls t k ≡ true
unfolding has_written write_set
has-written ls t k m = mem-member k _ (mem-gathered (written_in t) ls (write t k) k m (rw (written-own t k) (Memᴰ.head refl)))

pub write-above : (ls : List Line) (t k : ℕ) → has_written ls t k ≡ true → Memᴰ (write t k) ls
unfolding has_written write_set
write-above ls t k h =
    let r = gathered-mem (written_in t) ls k (member-mem k _ h) in
    subst (λ (l : Line). Memᴰ l ls) (written-line t k r.0 r.2) r.1

pub has-written-more : (below ls : List Line) (t k : ℕ) → has_written ls t k ≡ true → has_written (below ++ ls) t k ≡ true
has-written-more below ls t k h = has-written (below ++ ls) t k (Memᴰ.append_right below (write-above ls t k h))

-- a line that is no write of the ticket
pub written_same : (l : Line) (ls : List Line) (t k : ℕ) → written_in t l ≡ [] → has_written (l ∷ ls) t k ≡ has_written ls t k
unfolding has_written write_set
written_same l ls t k e = ap (member k) (gathered_none (written_in t) l ls e)

-- ── reads ──
pub read-own : (t k : ℕ) (i : Id) → read_in t (read t k i) ≡ record { key = k; id = i } ∷ []
unfolding read_in
read-own t k i = rw (eq-eqb t t refl)

pub read-other : (t u k : ℕ) (i : Id) → eqb t u ≡ false → read_in t (read u k i) ≡ []
unfolding read_in
read-other t u k i e = rw e

pub read-line : (t : ℕ) (r : Read) (l : Line) → Memᴰ r (read_in t l) → l ≡ read t r.key r.id
unfolding read_in
read-line t r (write u j) m = absurd (Memᴰ.not-nil m)
read-line t r (commit u c) m = absurd (Memᴰ.not-nil m)
read-line t r (read u j i) m = go (eqb t u) refl m
  where
    go : (b : Bool) → eqb t u ≡ b → Memᴰ r (cond b (record { key = j; id = i } ∷ []) []) → read u j i ≡ read t r.key r.id
    go true e h =
        let q = Memᴰ.eq_of_singleton h in
        cc (eqb-true t u e, ap (λ (x : Read). x.key) q, ap (λ (x : Read). x.id) q)
    go false e h = absurd (Memᴰ.not-nil h)

pub has-read : (ls : List Line) (t k : ℕ) (i : Id) → Memᴰ (read t k i) ls → Memᴰ (record { key = k; id = i }) (read_set t ls)
unfolding read_set
has-read ls t k i m = mem-gathered (read_in t) ls (read t k i) _ m (rw (read-own t k i) (Memᴰ.head refl))

pub read_above : (ls : List Line) (t : ℕ) (r : Read) → Memᴰ r (read_set t ls) → Memᴰ (read t r.key r.id) ls
unfolding read_set
read_above ls t r m =
    let q = gathered-mem (read_in t) ls r m in
    subst (λ (l : Line). Memᴰ l ls) (read-line t r q.0 q.2) q.1

pub has-read-more : (below ls : List Line) (t : ℕ) (r : Read) → Memᴰ r (read_set t ls) → Memᴰ r (read_set t (below ++ ls))
unfolding read_set
has-read-more below ls t r m = gathered-more (read_in t) below ls r m

pub no_reads : (t : ℕ) (r : Read) → Memᴰ r (read_set t []) → ⊥
unfolding read_set gathered
no_reads t r m = Memᴰ.not-nil m

-- a read by the last line, or by one above
pub read-cases : (l : Line) (ls : List Line) (t : ℕ) (r : Read) → Memᴰ r (read_set t (l ∷ ls)) → (l ≡ read t r.key r.id) ⊎ Memᴰ r (read_set t ls)
unfolding read_set gathered
read-cases l ls t r m = ⊎_elim (λ h. inl (read-line t r l h)) (λ h. inr h) (Memᴰ.append_cases (read_in t l) m)

-- ── commits ──
pub committed-line : (i : Id) (l : Line) → Memᴰ i (commit_in l) → l ≡ commit i.txn i.clock
unfolding commit_in
committed-line i (write u j) m = absurd (Memᴰ.not-nil m)
committed-line i (commit u c) m =
    let q = Memᴰ.eq_of_singleton m in
    cc (ap (λ (x : Id). x.txn) q, ap (λ (x : Id). x.clock) q)
committed-line i (read u j k) m = absurd (Memᴰ.not-nil m)

pub has-committed : (ls : List Line) (t c : ℕ) → Memᴰ (commit t c) ls → Memᴰ (record { clock = c; txn = t }) (gathered commit_in ls)
unfolding commit_in
has-committed ls t c m = mem-gathered commit_in ls (commit t c) _ m (Memᴰ.head refl)

pub commit-above : (ls : List Line) (i : Id) → Memᴰ i (gathered commit_in ls) → Memᴰ (commit i.txn i.clock) ls
commit-above ls i m =
    let q = gathered-mem commit_in ls i m in
    subst (λ (l : Line). Memᴰ l ls) (committed-line i q.0 q.2) q.1

pub committed-as : (ls : List Line) (i : Id) → Memᴰ (commit i.txn i.clock) ls → committed_as ls i ≡ true
unfolding committed_as
committed-as ls i m = any-mem (same_id i) _ i (has-committed ls i.txn i.clock m) (id_same i i refl)

pub as-committed : (ls : List Line) (i : Id) → committed_as ls i ≡ true → Memᴰ (commit i.txn i.clock) ls
unfolding committed_as
as-committed ls i h =
    let r = any-one (same_id i) _ h in
    commit-above ls i (subst (λ (j : Id). Memᴰ j (gathered commit_in ls)) (sym (same_id_lem i r.0 r.2)) r.1)

pub is-committed : (ls : List Line) (t c : ℕ) → Memᴰ (commit t c) ls → is_committed ls t ≡ true
unfolding is_committed
is-committed ls t c m = any-mem (λ (i : Id). eqb t i.txn) _ (record { clock = c; txn = t }) (has-committed ls t c m) (eq-eqb t t refl)

pub committed-clock : (ls : List Line) (t : ℕ) → is_committed ls t ≡ true → (c : ℕ) × Memᴰ (commit t c) ls
unfolding is_committed
committed-clock ls t h =
    let r = any-one (λ (i : Id). eqb t i.txn) _ h in
    (r.0.clock, subst (λ (u : ℕ). Memᴰ (commit u r.0.clock) ls) (sym (eqb-true t r.0.txn r.2)) (commit-above ls r.0 r.1))

pub as-is-committed : (ls : List Line) (i : Id) → committed_as ls i ≡ true → is_committed ls i.txn ≡ true
as-is-committed ls i h = is-committed ls i.txn i.clock (as-committed ls i h)

pub committed-as-more : (below ls : List Line) (i : Id) → committed_as ls i ≡ true → committed_as (below ++ ls) i ≡ true
committed-as-more below ls i h = committed-as (below ++ ls) i (Memᴰ.append_right below (as-committed ls i h))

pub is-committed-more : (below ls : List Line) (t : ℕ) → is_committed ls t ≡ true → is_committed (below ++ ls) t ≡ true
is-committed-more below ls t h = let r = committed-clock ls t h in is-committed (below ++ ls) t r.0 (Memᴰ.append_right below r.1)

-- ── the tickets that write or read ──
pub write-acts : (ls : List Line) (t k : ℕ) → Memᴰ (write t k) ls → Memᴰ t (actors ls)
unfolding actors actor_in
write-acts ls t k m = mem-gathered actor_in ls (write t k) t m (Memᴰ.head refl)

pub read-acts : (ls : List Line) (t k : ℕ) (i : Id) → Memᴰ (read t k i) ls → Memᴰ t (actors ls)
unfolding actors actor_in
read-acts ls t k i m = mem-gathered actor_in ls (read t k i) t m (Memᴰ.head refl)

pub actor-line : (t : ℕ) (l : Line) → Memᴰ t (actor_in l) → ((k : ℕ) × (l ≡ write t k)) ⊎ ((k : ℕ) × (i : Id) × (l ≡ read t k i))
unfolding actor_in
actor-line t (write u k) m = inl (k, ap (λ (x : ℕ). write x k) (sym (Memᴰ.eq_of_singleton m)))
actor-line t (commit u c) m = absurd (Memᴰ.not-nil m)
actor-line t (read u k i) m = inr (k, i, ap (λ (x : ℕ). read x k i) (sym (Memᴰ.eq_of_singleton m)))

pub actor-above : (ls : List Line) (t : ℕ) → Memᴰ t (actors ls)
    → ((k : ℕ) × Memᴰ (write t k) ls) ⊎ ((k : ℕ) × (i : Id) × Memᴰ (read t k i) ls)
unfolding actors
actor-above ls t m =
    let q = gathered-mem actor_in ls t m in
    ⊎_elim (λ w. inl (w.0, subst (λ (l : Line). Memᴰ l ls) w.1 q.1))
    (λ w. inr (w.0, w.1, subst (λ (l : Line). Memᴰ l ls) w.2 q.1))
    (actor-line t q.0 q.2)
