-- Laws of `insert`, `padded` and `ascending` (specs/Lists), over plain lists.
use Prim.Native.Nat.{ℕ, zero, suc, ◌+◌, ◌-◌, ◌<◌, ◌≤◌, suc-le-suc}
use mathlib.Core.Path.{◌≡◌, refl, sym, ap, ◌∙◌}
use mathlib.Core.Logic.{◌≢◌, ◌⊎◌, inl, inr, ⊎_elim}
use mathlib.Core.Bool.{Bool, true, false, not, false≢true}
use mathlib.Core.List.Memᴰ
use mathlib.Core.List.{List, [], ◌∷◌, ◌++◌, map, Memᴰ}
use lib.Dec.{eqb, ltb, leb}
use lib.ListN.{length, take, drop, get_or, replicate, length-append, length-replicate, replicate-append-replicate, get_or-append}
use lib.Seq.{take-append_seam, drop-append_seam, get_or-append-add}
use native.Mathlib.Nat.{lt_irrefl, le_refl, le_of_suc-le-suc, not-suc-le-zero}
use native.Mathlib.Omega.{arith}
use borrow.Author.Tests.{ltb-true, ltb-false, leb-true, leb-false, eqb-true, eqb-false, lt-ltb, le-leb, ne_eqb}
use Rattle.model.specs.Lists.{◌and◌, ◌or◌, all, any, insert, padded, member, ascending}
use Rattle.model.specs.Limits.{keys}
use Rattle.model.specs.Ranges.{Every, IsByte}
use Rattle.model.proofs.Tests.{and_left, and_right, and_intro, and_second, not_of_false, or_swap, or-twice}
use Rattle.model.proofs.ListLaws.{all_head, all_tail, all_cons, member-cons, member-no, member-at, get_or-all, every_append, every-replicate}

-- ── ascending ──
pub ascending-head : (lo hi n : ℕ) (ns : List ℕ) → ascending lo hi (n ∷ ns) ≡ true → (lo ≤ n) × (n < hi)
unfolding ascending
ascending-head lo hi n ns h = go (leb lo n and ltb n hi) refl
  where
    go : (b : Bool) → (leb lo n and ltb n hi) ≡ b → (lo ≤ n) × (n < hi)
    go true e = (leb-true lo n (and_left _ _ e), ltb-true n hi (and_right _ _ e))
    go false e = absurd (false≢true (rw (e, ascending) at h))

ascending-test : (lo hi n : ℕ) → lo ≤ n → n < hi → (leb lo n and ltb n hi) ≡ true
ascending-test lo hi n a b = and_intro _ _ (le-leb lo n a) (lt-ltb n hi b)

pub ascending-tail : (lo hi n : ℕ) (ns : List ℕ) → ascending lo hi (n ∷ ns) ≡ true → ascending (suc n) hi ns ≡ true
unfolding ascending
ascending-tail lo hi n ns h = let r = ascending-head lo hi n ns h in rw (ascending-test lo hi n r.0 r.1, ascending) at h

pub ascending-cons : (lo hi n : ℕ) (ns : List ℕ) → lo ≤ n → n < hi → ascending (suc n) hi ns ≡ true → ascending lo hi (n ∷ ns) ≡ true
unfolding ascending
ascending-cons lo hi n ns a b h = rw (ascending-test lo hi n a b, ascending) h

-- a lower least number
pub ascending-from : (lo lo' hi : ℕ) (ns : List ℕ) → lo' ≤ lo → ascending lo hi ns ≡ true → ascending lo' hi ns ≡ true
unfolding ascending
ascending-from lo lo' hi [] o h = refl
ascending-from lo lo' hi (n ∷ ns) o h =
    let r = ascending-head lo hi n ns h in
    ascending-cons lo' hi n ns (omega (arith, r.0)) r.1 (ascending-tail lo hi n ns h)

-- every number of it lies between
pub ascending-member : (lo hi k : ℕ) (ns : List ℕ) → ascending lo hi ns ≡ true → member k ns ≡ true → (lo ≤ k) × (k < hi)
unfolding member any
ascending-member lo hi k [] h m = absurd (false≢true m)
ascending-member lo hi k (n ∷ ns) h m = go (eqb k n) refl (ascending-member (suc n) hi k ns (ascending-tail lo hi n ns h))
  where
    r : (lo ≤ n) × (n < hi)
    r = ascending-head lo hi n ns h

    go : (b : Bool) → eqb k n ≡ b → (member k ns ≡ true → (suc n ≤ k) × (k < hi)) → (lo ≤ k) × (k < hi)
    go true e ih = rw (eqb-true k n e) r
    go false e ih = let q = ih (sym (member-no k n ns e) ∙ m) in (omega (arith, q.0, r.0), q.1)

-- a later one is not less
pub ascending-order : (lo hi : ℕ) (ns : List ℕ) → ascending lo hi ns ≡ true → (i j : ℕ) → i ≤ j → j < length ns → get_or ns i 0 ≤ get_or ns j 0
ascending-order lo hi [] a i j o u = absurd (not-suc-le-zero u)
ascending-order lo hi (n ∷ ns) a zero zero o u = omega arith
ascending-order lo hi (n ∷ ns) a zero (suc j) o u =
    let b = ascending-member (suc n) hi (get_or ns j 0) ns (ascending-tail lo hi n ns a) (member-at ns j (le_of_suc-le-suc u)) in omega (arith, b.0)
ascending-order lo hi (n ∷ ns) a (suc i) zero o u = absurd (not-suc-le-zero o)
ascending-order lo hi (n ∷ ns) a (suc i) (suc j) o u = ascending-order (suc n) hi ns (ascending-tail lo hi n ns a) i j (le_of_suc-le-suc o) (le_of_suc-le-suc u)

-- keys are bytes
pub ascending-bytes : (lo : ℕ) (ks : List ℕ) → ascending lo keys ks ≡ true → Every IsByte ks
ascending-bytes lo [] h = tt
ascending-bytes lo (k ∷ ks) h = let o = ascending-head lo keys k ks h in (omega (arith, o.1), ascending-bytes (suc k) ks (ascending-tail lo keys k ks h))

module _ {A : Type 0} (key : A → ℕ) (x : A) where
  -- ── insert ──
  -- the three places of x in a list that begins with y
  pub insert-rule : (P : List A → Type 0) (y : A) (ys : List A) → (key y < key x → P (y ∷ insert key x ys)) → (key x ≡ key y → P (x ∷ ys))
      → (key x < key y → P (x ∷ y ∷ ys)) → P (insert key x (y ∷ ys))
  unfolding insert
  insert-rule P y ys f g h = go (ltb (key y) (key x)) refl (eqb (key x) (key y)) refl
    where
      go : (b : Bool) → ltb (key y) (key x) ≡ b → (c : Bool) → eqb (key x) (key y) ≡ c → P (insert key x (y ∷ ys))
      go true e c q = rw (e, insert) (f (ltb-true _ _ e))
      go false e true q = rw (e, q, insert) (g (eqb-true _ _ q))
      go false e false q = rw (e, q, insert) (h (omega (arith, ltb-false (key y) (key x) e, eqb-false (key x) (key y) q)))

  pub insert-ascending : (lo hi : ℕ) (xs : List A) → ascending lo hi (map key xs) ≡ true → lo ≤ key x → key x < hi
      → ascending lo hi (map key (insert key x xs)) ≡ true
  unfolding insert ascending
  insert-ascending lo hi [] h a b = ascending-cons lo hi (key x) [] a b refl
  insert-ascending lo hi (y ∷ ys) h a b = insert-rule (λ l. ascending lo hi (map key l) ≡ true) y ys
      (λ o. ascending-cons lo hi (key y) (map key (insert key x ys)) r.0 r.1 (insert-ascending (suc (key y)) hi ys t o b))
      (λ e. ascending-cons lo hi (key x) (map key ys) a b (rw e t))
      (λ o. ascending-cons lo hi (key x) (key y ∷ map key ys) a b (ascending-cons (suc (key x)) hi (key y) (map key ys) o r.1 t))
    where
      r : (lo ≤ key y) × (key y < hi)
      r = ascending-head lo hi (key y) (map key ys) h

      t : ascending (suc (key y)) hi (map key ys) ≡ true
      t = ascending-tail lo hi (key y) (map key ys) h

  -- its length: at most one more
  pub insert-length : (xs : List A) → length (insert key x xs) ≤ suc (length xs)
  unfolding insert
  insert-length [] = le_refl 1
  insert-length (y ∷ ys) = insert-rule (λ l. length l ≤ suc (suc (length ys))) y ys (λ o. suc-le-suc (insert-length ys)) (λ e. omega arith) (λ o. le_refl _)

  -- the same, where the key is there
  pub insert-length-member : (lo hi : ℕ) (xs : List A) → ascending lo hi (map key xs) ≡ true → member (key x) (map key xs) ≡ true
      → length (insert key x xs) ≡ length xs
  unfolding member any
  insert-length-member lo hi [] h m = absurd (false≢true m)
  insert-length-member lo hi (y ∷ ys) h m = insert-rule (λ l. length l ≡ suc (length ys)) y ys
      (λ o. ap suc (insert-length-member (suc (key y)) hi ys t (later (λ e. lt_irrefl (key y) (omega (arith, e, o))))))
      (λ e. refl)
      (λ o. absurd (lt_irrefl (key x) (omega (arith, o, (ascending-member (suc (key y)) hi (key x) (map key ys) t (later (λ e. lt_irrefl (key y) (omega (arith, e, o))))).0))))
    where
      t : ascending (suc (key y)) hi (map key ys) ≡ true
      t = ascending-tail lo hi (key y) (map key ys) h

      later : key x ≢ key y → member (key x) (map key ys) ≡ true
      later n = sym (member-no (key x) (key y) (map key ys) (ne_eqb (key x) (key y) n)) ∙ m

  -- at least one
  pub insert-length-some : (xs : List A) → 1 ≤ length (insert key x xs)
  unfolding insert
  insert-length-some [] = le_refl 1
  insert-length-some (y ∷ ys) = insert-rule (λ l. 1 ≤ length l) y ys (λ o. omega arith) (λ e. omega arith) (λ o. omega arith)

  -- what is in it: x, and elements of the list
  pub insert-has : (xs : List A) → Memᴰ x (insert key x xs)
  unfolding insert
  insert-has [] = Memᴰ.head refl
  insert-has (y ∷ ys) = insert-rule (λ l. Memᴰ x l) y ys (λ o. Memᴰ.tail (insert-has ys)) (λ e. Memᴰ.head refl) (λ o. Memᴰ.head refl)

  pub insert-mem : (xs : List A) (z : A) → Memᴰ z (insert key x xs) → (z ≡ x) ⊎ Memᴰ z xs
  unfolding insert
  insert-mem [] z = λ m. Memᴰ.cases_cons m
  insert-mem (y ∷ ys) z = insert-rule (λ l. Memᴰ z l → (z ≡ x) ⊎ Memᴰ z (y ∷ ys)) y ys
      (λ o m. ⊎_elim (λ e. inr (Memᴰ.head e)) (λ m'. ⊎_elim (λ e. inl e) (λ q. inr (Memᴰ.tail q)) (insert-mem ys z m')) (Memᴰ.cases_cons m))
      (λ e m. ⊎_elim (λ e. inl e) (λ m'. inr (Memᴰ.tail m')) (Memᴰ.cases_cons m))
      (λ o m. Memᴰ.cases_cons m)

  -- every element with another key
  pub insert-keeps : (xs : List A) (z : A) → Memᴰ z xs → key z ≢ key x → Memᴰ z (insert key x xs)
  insert-keeps [] z m n = absurd (Memᴰ.not-nil m)
  insert-keeps (y ∷ ys) z m n = insert-rule (λ l. Memᴰ z l) y ys
      (λ o. ⊎_elim (λ e. Memᴰ.head e) (λ m'. Memᴰ.tail (insert-keeps ys z m' n)) (Memᴰ.cases_cons m))
      (λ e. ⊎_elim (λ q. absurd (n (ap key q ∙ sym e))) (λ m'. Memᴰ.tail m') (Memᴰ.cases_cons m))
      (λ o. Memᴰ.tail m)

  -- its keys: x's and those of the list
  pub insert-member : (j : ℕ) (xs : List A) → member j (map key (insert key x xs)) ≡ (eqb j (key x) or member j (map key xs))
  unfolding insert
  insert-member j [] = member-cons j (key x) []
  insert-member j (y ∷ ys) = insert-rule (λ l. member j (map key l) ≡ (eqb j (key x) or member j (key y ∷ map key ys))) y ys
      (λ o. member-cons j (key y) (map key (insert key x ys)) ∙ (ap (λ (b : Bool). eqb j (key y) or b) (insert-member j ys) ∙ (or_swap (eqb j (key y)) (eqb j (key x)) _ ∙ again)))
      (λ e. member-cons j (key x) (map key ys) ∙ (sym (or-twice (eqb j (key x)) _) ∙ (ap (λ (n : ℕ). eqb j (key x) or (eqb j n or member j (map key ys))) e ∙ again)))
      (λ o. member-cons j (key x) (key y ∷ map key ys))
    where
      again : (eqb j (key x) or (eqb j (key y) or member j (map key ys))) ≡ (eqb j (key x) or member j (key y ∷ map key ys))
      again = ap (λ (b : Bool). eqb j (key x) or b) (sym (member-cons j (key y) (map key ys)))

  -- within a limit, where the key is there or the list is shorter
  pub insert-fits : (hi n limit : ℕ) (xs : List A) → ascending 0 hi (map key xs) ≡ true → length xs ≤ n → n ≤ limit
      → (not (member (key x) (map key xs)) and leb limit n) ≡ false → length (insert key x xs) ≤ limit
  insert-fits hi n limit xs h a b r = go (member (key x) (map key xs)) refl
    where
      go : (c : Bool) → member (key x) (map key xs) ≡ c → length (insert key x xs) ≤ limit
      go true e = omega (arith, a, b, insert-length-member 0 hi xs h e)
      go false e = omega (arith, a, insert-length xs, leb-false limit n (and_second _ _ r (not_of_false _ e)))

  -- all of it pass
  pub insert_all : (p : A → Bool) (xs : List A) → all p xs ≡ true → p x ≡ true → all p (insert key x xs) ≡ true
  unfolding insert all
  insert_all p [] h q = all_cons p x [] q refl
  insert_all p (y ∷ ys) h q = insert-rule (λ l. all p l ≡ true) y ys
      (λ o. all_cons p y (insert key x ys) (all_head p y ys h) (insert_all p ys (all_tail p y ys h) q))
      (λ e. all_cons p x ys q (all_tail p y ys h))
      (λ o. all_cons p x (y ∷ ys) q h)

  -- all of it have a property (specs/Ranges)
  pub every-insert : (P : A → Type 0) (xs : List A) → Every P xs → P x → Every P (insert key x xs)
  unfolding insert
  every-insert P [] h q = (q, tt)
  every-insert P (y ∷ ys) h q = insert-rule (λ l. Every P l) y ys (λ o. (h.0, every-insert P ys h.1 q)) (λ e. (q, h.1)) (λ o. (q, h))

module _ {A : Type 0} where
  -- ── padded ──
  pub padded-take : (z : A) (n : ℕ) (xs : List A) → take (length xs) (padded z n xs) ≡ xs
  unfolding padded
  padded-take z n xs = take-append_seam xs _

  pub padded-drop : (z : A) (n : ℕ) (xs : List A) → drop (length xs) (padded z n xs) ≡ replicate (n - length xs) z
  unfolding padded
  padded-drop z n xs = drop-append_seam xs _

  pub padded-length : (z : A) (n : ℕ) (xs : List A) → length xs ≤ n → length (padded z n xs) ≡ n
  unfolding padded
  padded-length z n xs o = length-append xs _ ∙ omega (arith, length-replicate (n - length xs) z)

  pub every-padded : (P : A → Type 0) (z : A) (n : ℕ) (xs : List A) → Every P xs → P z → Every P (padded z n xs)
  unfolding padded
  every-padded P z n xs h q = every_append P xs _ h (every-replicate P (n - length xs) z q)

  -- what stands at a place of it: one of the list's, or the filling
  pub padded-inside : (z : A) (n : ℕ) (xs : List A) (i : ℕ) (y : A) → i < length xs → get_or (padded z n xs) i y ≡ get_or xs i y
  unfolding padded
  padded-inside z n xs i y o = get_or-append xs _ y i o

  pub padded-beyond : (z : A) (n : ℕ) (xs : List A) (i : ℕ) → length xs ≤ i → get_or (padded z n xs) i z ≡ z
  unfolding padded
  padded-beyond z n xs i o = ap (λ (j : ℕ). get_or (xs ++ replicate (n - length xs) z) j z) e ∙ (get_or-append-add xs (replicate (n - length xs) z) (i - length xs) z ∙ get_or-all (n - length xs) (i - length xs) z)
    where
      e : i ≡ length xs + (i - length xs)
      e = omega arith

  -- a list of the filling alone
  pub padded-replicate : (z : A) (n m : ℕ) → n ≤ m → padded z m (replicate n z) ≡ replicate m z
  unfolding padded
  padded-replicate z n m o = ap (λ (j : ℕ). replicate n z ++ replicate (m - j) z) (length-replicate n z) ∙ (replicate-append-replicate n (m - n) z ∙ ap (λ (j : ℕ). replicate j z) e)
    where
      e : n + (m - n) ≡ m
      e = omega arith
