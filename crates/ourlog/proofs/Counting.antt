-- How many different numbers a list has: one whose members are all another's has no more.
use Prim.Native.Nat.{ℕ, suc, ◌≤◌}
use mathlib.Core.Path.{◌≡◌, refl, sym, ap, subst, ◌∙◌}
use mathlib.Core.Logic.{◌≢◌, ⊎_elim}
use mathlib.Core.Bool.{Bool, true, false, cond, true≢false}
use mathlib.Core.List.Memᴰ
use mathlib.Core.List.{List, [], ◌∷◌, Memᴰ}
use lib.Dec.{eqb}
use lib.ListN.{length}
use native.Mathlib.Omega.{arith}
use borrow.Author.Tests.{eqb-true, eqb-false}
use Rattle.model.specs.Lists.{any, member}
use Rattle.model.proofs.Tests.{same_test}
use Rattle.model.proofs.ListLaws.{member-yes, member-no}
use Rattle.shoplog.specs.Verdicts.{once}
use Rattle.shoplog.proofs.GatheredLaws.{member-mem, mem-member}
use Rattle.shoplog.proofs.OnceLaws.{once-seen, once-new}

-- all but n
unfoldable others : ℕ → List ℕ → List ℕ
others n [] = []
others n (x ∷ xs) = cond (eqb n x) (others n xs) (x ∷ others n xs)

others-own : (n x : ℕ) (xs : List ℕ) → eqb n x ≡ true → others n (x ∷ xs) ≡ others n xs
unfolding others
others-own n x xs e = rw e

others-other : (n x : ℕ) (xs : List ℕ) → eqb n x ≡ false → others n (x ∷ xs) ≡ x ∷ others n xs
unfolding others
others-other n x xs e = rw e

others-mem : (n : ℕ) (ns : List ℕ) (m : ℕ) → Memᴰ m ns → m ≢ n → Memᴰ m (others n ns)
unfolding others
others-mem n [] m h ne = h
others-mem n (x ∷ xs) m h ne = go (eqb n x) refl (others-mem n xs m)
  where
    go : (t : Bool) → eqb n x ≡ t → (Memᴰ m xs → m ≢ n → Memᴰ m (others n xs)) → Memᴰ m (cond (eqb n x) (others n xs) (x ∷ others n xs))
    go true e ih = rw e (⊎_elim (λ q. absurd (ne (q ∙ sym (eqb-true n x e)))) (λ q. ih q ne) (Memᴰ.cases_cons h))
    go false e ih = rw e (⊎_elim (λ q. Memᴰ.head q) (λ q. Memᴰ.tail (ih q ne)) (Memᴰ.cases_cons h))

mem-others : (n : ℕ) (ns : List ℕ) (m : ℕ) → Memᴰ m (others n ns) → Memᴰ m ns
unfolding others
mem-others n [] m h = h
mem-others n (x ∷ xs) m h = go (eqb n x) refl (mem-others n xs m)
  where
    go : (t : Bool) → eqb n x ≡ t → (Memᴰ m (others n xs) → Memᴰ m xs) → Memᴰ m (x ∷ xs)
    go true e ih = Memᴰ.tail (ih (rw e at h))
    go false e ih = ⊎_elim (λ q. Memᴰ.head q) (λ q. Memᴰ.tail (ih q)) (Memᴰ.cases_cons (rw e at h))

member-others : (n : ℕ) (ns : List ℕ) (m : ℕ) → m ≢ n → member m (others n ns) ≡ member m ns
member-others n ns m ne = same_test _ _ (λ h. mem-member m ns (mem-others n ns m (member-mem m _ h))) (λ h. mem-member m _ (others-mem n ns m (member-mem m ns h) ne))

-- one more with n, where n is there
unfoldable counted : Bool → ℕ → ℕ
counted true m = suc m
counted false m = m

once-others : (n : ℕ) (ns : List ℕ) → length (once ns) ≡ counted (member n ns) (length (once (others n ns)))
once-others n [] = unfold once others member any counted in refl
once-others n (y ∷ ys) = go (eqb n y) (member y ys) refl refl (once-others n ys)
  where
    go : (a s : Bool) → eqb n y ≡ a → member y ys ≡ s → length (once ys) ≡ counted (member n ys) (length (once (others n ys))) → length (once (y ∷ ys)) ≡ counted (member n (y ∷ ys)) (length (once (others n (y ∷ ys))))
    go true true ea es ih =
        let q : member n ys ≡ true = ap (λ (x : ℕ). member x ys) (eqb-true n y ea) ∙ es in
        ap length (once-seen y ys es) ∙ (ih ∙ (rw (q, member-yes n y ys ea, others-own n y ys ea)))
    go true false ea es ih =
        let q : member n ys ≡ false = ap (λ (x : ℕ). member x ys) (eqb-true n y ea) ∙ es in
        once-new y ys es ∙ (ap suc ih ∙ (rw (q, member-yes n y ys ea, others-own n y ys ea) (unfold counted in refl)))
    go false true ea es ih = ap length (once-seen y ys es) ∙ (ih ∙ (rw (member-no n y ys ea, others-other n y ys ea) (ap (λ (x : List ℕ). counted (member n ys) (length x)) (sym (once-seen y (others n ys) (member-others n ys y (λ e. eqb-false n y ea (sym e)) ∙ es))))))
    go false false ea es ih = once-new y ys es ∙ (ap suc ih ∙ (rw (member-no n y ys ea, others-other n y ys ea) (rw (once-new y (others n ys) (member-others n ys y (λ e. eqb-false n y ea (sym e)) ∙ es)) (more (member n ys) (length (once (others n ys)))))))
      where
        more : (b : Bool) (m : ℕ) → suc (counted b m) ≡ counted b (suc m)
        more true m = unfold counted in refl
        more false m = unfold counted in refl

-- members of one list that are all members of another
pub once-most : (xs ys : List ℕ) → ((n : ℕ) → Memᴰ n xs → Memᴰ n ys) → length (once xs) ≤ length (once ys)
once-most [] ys f = unfold once in omega arith
once-most (x ∷ xs) ys f = go (member x xs) refl (once-most xs)
  where
    go : (t : Bool) → member x xs ≡ t → ((zs : List ℕ) → ((n : ℕ) → Memᴰ n xs → Memᴰ n zs) → length (once xs) ≤ length (once zs)) → length (once (x ∷ xs)) ≤ length (once ys)
    go true e ih = rw (once-seen x xs e) (ih ys (λ n m. f n (Memᴰ.tail m)))
    go false e ih =
        let few = ih (others x ys) (λ n m. others-mem x ys n (f n (Memᴰ.tail m)) (λ q. true≢false (sym (mem-member x xs (subst (λ (y : ℕ). Memᴰ y xs) q m)) ∙ e))) in
        let all-of-them : length (once ys) ≡ suc (length (once (others x ys))) = once-others x ys ∙ (rw (mem-member x ys (f x (Memᴰ.head refl))) (unfold counted in refl)) in
        omega (arith, few, all-of-them, once-new x xs e)
