-- The transactions' column: which place a transaction has or would have, and the column with that place taken.
use Prim.Native.Nat.{ℕ, zero, suc, ◌<◌, ◌≤◌, suc-le-suc}
use mathlib.Core.Path.{◌≡◌, refl, sym, ap, subst, ◌∙◌}
use mathlib.Core.Logic.{◌≢◌, ◌⊎◌, inl, inr, ⊎_elim}
use mathlib.Core.Bool.{Bool, true, false, not, true≢false, false≢true}
use mathlib.Core.List.{List, [], ◌∷◌}
use lib.Dec.{eqb, leb}
use lib.ListN.{length, take, get_or, set}
use lib.Seq.{length-take-le, set-get_or, get_or-take}
use native.Mathlib.Nat.{le_of_suc-le-suc, not-suc-le-zero}
use native.Mathlib.Omega.{arith}
use borrow.Author.Tests.{eqb-true, eqb-false, eq-eqb, ne_eqb, le-leb, lt-leb, leb-true}
use Rattle.model.specs.Lists.{◌and◌, ◌or◌, any, count, member, distinct}
use Rattle.model.proofs.Tests.{or_swap, and-none-right, not-of-true, not_of_false}
use Rattle.model.proofs.ListLaws.{member-yes, member-no, member-cons, member-finds, member-at, member-none, first-none, count_yes, count_no, count_most}
use Rattle.model.proofs.DistinctLaws.{once-at, distinct-set, member-never}
use Rattle.shoplog.specs.Verdicts.{once, one_too_many}
use Rattle.logtable.specs.Tables.{places, table_size, txn_at, place_of, seat_of}
use Rattle.logtable.specs.Holds.{SeatsHeld}
use Rattle.shoplog.proofs.OnceLaws.{once-again, once-new}

abbrev is_used : ℕ → Bool
is_used t = not (eqb t 0)

-- ── one place changed from 0 to t ──
-- the numbers other than 0: t as well
member-taken : (us : List ℕ) (p t u : ℕ) → p < length us → get_or us p 0 ≡ 0 → u ≢ 0 → member u (set us p t) ≡ (eqb u t or member u us)
member-taken [] p t u o e n = absurd (not-suc-le-zero o)
member-taken (x ∷ us) zero t u o e n =
    member-cons u t us ∙ ap (λ (b : Bool). eqb u t or b) (sym (member-no u x us (ne_eqb u x (λ q. n (q ∙ e)))))
member-taken (x ∷ us) (suc p) t u o e n =
    member-cons u x (set us p t)
    ∙ (ap (λ (b : Bool). eqb u x or b) (member-taken us p t u (le_of_suc-le-suc o) e n)
    ∙ (or_swap (eqb u x) (eqb u t) (member u us) ∙ ap (λ (b : Bool). eqb u t or b) (sym (member-cons u x us))))

-- how many: one more
count-taken : (us : List ℕ) (p t : ℕ) → p < length us → get_or us p 0 ≡ 0 → t ≢ 0
    → count is_used (set us p t) ≡ suc (count is_used us)
count-taken [] p t o e n = absurd (not-suc-le-zero o)
count-taken (x ∷ us) zero t o e n =
    count_yes is_used t us (not_of_false _ (ne_eqb t 0 n)) ∙ ap suc (sym (count_no is_used x us (not-of-true _ (eq-eqb x 0 e))))
count-taken (x ∷ us) (suc p) t o e n = go (eqb x 0) refl (count-taken us p t (le_of_suc-le-suc o) e n)
  where
    go : (b : Bool) → eqb x 0 ≡ b → count is_used (set us p t) ≡ suc (count is_used us)
        → count is_used (x ∷ set us p t) ≡ suc (count is_used (x ∷ us))
    go true q ih =
        count_no is_used x (set us p t) (not-of-true _ q) ∙ (ih ∙ ap suc (sym (count_no is_used x us (not-of-true _ q))))
    go false q ih =
        count_yes is_used x (set us p t) (not_of_false _ q) ∙ ap suc (ih ∙ sym (count_yes is_used x us (not_of_false _ q)))

-- all are used: as many as there are; one is not: fewer
count-full : (us : List ℕ) → member 0 us ≡ false → count is_used us ≡ length us
unfolding member any count
count-full [] h = refl
count-full (x ∷ us) h = go (eqb 0 x) refl (count-full us)
  where
    go : (b : Bool) → eqb 0 x ≡ b → (member 0 us ≡ false → count is_used us ≡ length us) → count is_used (x ∷ us) ≡ suc (length us)
    go true e ih = absurd (true≢false (sym (member-yes 0 x us e) ∙ h))
    go false e ih =
        count_yes is_used x us (not_of_false _ (ne_eqb x 0 (λ q. eqb-false 0 x e (sym q)))) ∙ ap suc (ih (sym (member-no 0 x us e) ∙ h))

count_room : (us : List ℕ) → member 0 us ≡ true → count is_used us < length us
unfolding member any count
count_room [] h = absurd (false≢true h)
count_room (x ∷ us) h = go (eqb 0 x) refl (count_room us)
  where
    go : (b : Bool) → eqb 0 x ≡ b → (member 0 us ≡ true → count is_used us < length us) → count is_used (x ∷ us) < suc (length us)
    go true e ih = rw (count_no is_used x us (not-of-true _ (eq-eqb x 0 (sym (eqb-true 0 x e))))) (suc-le-suc (count_most is_used us))
    go false e ih =
        rw (count_yes is_used x us (not_of_false _ (ne_eqb x 0 (λ q. eqb-false 0 x e (sym q))))) (suc-le-suc (ih (sym (member-no 0 x us e) ∙ h)))

-- ── the column with a place for t ──
-- a place that t has, or an unused one where t has none
pub record IsSeat (us ts : List ℕ) (p t : ℕ) : Type 0 where
  pub inside : p < length us
  pub whose : (get_or us p 0 ≡ t) ⊎ ((get_or us p 0 ≡ 0) × (member t ts ≡ false))

pub seats-more : (us ts : List ℕ) (p t : ℕ) → SeatsHeld us ts → t ≢ 0 → IsSeat us ts p t → SeatsHeld (set us p t) (t ∷ ts)
seats-more us ts p t h n s = ⊎_elim has takes s.whose
  where
    there : get_or us p 0 ≡ t → member t us ≡ true
    there e = subst (λ (u : ℕ). member u us ≡ true) e (member-at us p s.inside)

    each : get_or us p 0 ≡ t → (u : ℕ) → u ≢ 0 → (b : Bool) → eqb u t ≡ b → member u us ≡ member u (t ∷ ts)
    each e u m true q = (ap (λ (v : ℕ). member v us) (eqb-true u t q) ∙ there e) ∙ sym (member-yes u t ts q)
    each e u m false q = h.seated u m ∙ sym (member-no u t ts q)

    has : get_or us p 0 ≡ t → SeatsHeld (set us p t) (t ∷ ts)
    has e = rw (ap (set us p) (sym e) ∙ set-get_or us p 0) (record {
      single = h.single;
      seated = λ u m. each e u m (eqb u t) refl;
      used = h.used ∙ sym (once-again t ts (sym (h.seated t n) ∙ there e));
    })

    takes : (get_or us p 0 ≡ 0) × (member t ts ≡ false) → SeatsHeld (set us p t) (t ∷ ts)
    takes (e, f) = record {
      single = distinct-set us p t h.single (λ j m x. member-never t us (h.seated t n ∙ f) n j);
      seated = λ u m. member-taken us p t u s.inside e m ∙ (ap (λ (b : Bool). eqb u t or b) (h.seated u m) ∙ sym (member-cons u t ts));
      used = count-taken us p t s.inside e n ∙ (ap suc h.used ∙ sym (once-new t ts f));
    }

-- ── places ──
pub column-at : (T : List ℕ) (p : ℕ) → p < 64 → get_or (take places T) p 0 ≡ txn_at T p
column-at T p o = get_or-take places T p 0 o

-- one transaction, one place
pub one_place : (T : List ℕ) (p q : ℕ) → distinct (take places T) ≡ true → p < 64 → q < 64 → txn_at T p ≡ txn_at T q → txn_at T p ≢ 0 → p ≡ q
one_place T p q h o u e n = once-at (take places T) h p q (column-at T p o ∙ (e ∙ sym (column-at T q u))) (λ z. n (sym (column-at T p o) ∙ z))

-- ── the place of a transaction ──
module _ (T : List ℕ) (ts : List ℕ) (t : ℕ) (size : length T ≡ table_size) (h : SeatsHeld (take places T) ts) (n : t ≢ 0) where
  length-column : length (take places T) ≡ 64
  length-column = length-take-le places T (omega (arith, size))

  -- it has one, or takes the first unused one, or there is none
  seat-cases : ((seat_of T t < 64) × IsSeat (take places T) ts (seat_of T t) t) ⊎ ((seat_of T t ≡ 64) × (member t ts ≡ false) × (member 0 (take places T) ≡ false))
  unfolding seat_of place_of
  seat-cases = go (member t (take places T)) refl (member 0 (take places T)) refl
    where
      go : (b : Bool) → member t (take places T) ≡ b → (c : Bool) → member 0 (take places T) ≡ c
          → ((seat_of T t < 64) × IsSeat (take places T) ts (seat_of T t) t) ⊎ ((seat_of T t ≡ 64) × (member t ts ≡ false) × (member 0 (take places T) ≡ false))
      go true e c f = let r = member-finds t (take places T) e in rw e (inl (omega (arith, r.0, length-column), record { inside = r.0; whose = inl r.1 }))
      go false e true f =
          let r = member-finds 0 (take places T) f in
          rw e (inl (omega (arith, r.0, length-column), record { inside = r.0; whose = inr (r.1, sym (h.seated t n) ∙ e) }))
      go false e false f =
          rw e (inr (first-none (eqb 0) (take places T) 0 (λ j o. ne_eqb 0 _ (λ q. member-none 0 (take places T) f j o (sym q))) ∙ length-column, sym (h.seated t n) ∙ e, f))

  pub seat-is : seat_of T t < 64 → IsSeat (take places T) ts (seat_of T t) t
  seat-is o = ⊎_elim (λ a. a.1) (λ b. absurd (omega (arith, o, b.0))) seat-cases

  -- no place: a transaction that is not there
  pub seat-none : leb 64 (seat_of T t) ≡ true → member t ts ≡ false
  seat-none e = ⊎_elim (λ a. absurd (omega (arith, a.0, leb-true 64 (seat_of T t) e))) (λ b. b.1) seat-cases

  -- there is none for one more than 64
  pub seat-over : leb 64 (seat_of T t) ≡ one_too_many 64 t ts
  unfolding one_too_many ◌and◌
  seat-over = ⊎_elim sits stands seat-cases
    where
      fewer : get_or (take places T) (seat_of T t) 0 ≡ 0 → seat_of T t < length (take places T) → length (once ts) < 64
      fewer e o =
          let r = count_room (take places T) (subst (λ (u : ℕ). member u (take places T) ≡ true) e (member-at (take places T) (seat_of T t) o)) in
          omega (arith, r, h.used, length-column)

      sits : (seat_of T t < 64) × IsSeat (take places T) ts (seat_of T t) t → leb 64 (seat_of T t) ≡ one_too_many 64 t ts
      sits (o, s) = lt-leb 64 (seat_of T t) o ∙ sym (⊎_elim
          (λ e. ap (λ (b : Bool). not b and leb 64 (length (once ts))) (sym (h.seated t n) ∙ subst (λ (u : ℕ). member u (take places T) ≡ true) e (member-at (take places T) (seat_of T t) s.inside)))
          (λ e. and-none-right (not (member t ts)) _ (lt-leb 64 (length (once ts)) (fewer e.0 s.inside)))
          s.whose)

      stands : (seat_of T t ≡ 64) × (member t ts ≡ false) × (member 0 (take places T) ≡ false) → leb 64 (seat_of T t) ≡ one_too_many 64 t ts
      stands (e, f, g) =
          let r = count-full (take places T) g in
          let q : 64 ≤ length (once ts) = omega (arith, r, h.used, length-column) in
          le-leb 64 (seat_of T t) (omega (arith, e)) ∙ sym (rw f (le-leb 64 (length (once ts)) q))
