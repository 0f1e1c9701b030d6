-- An element put into a list at a position, and `insert` said by the position.
use Prim.Native.Nat.{ℕ, zero, suc, ◌+◌, ◌-◌, ◌<◌, ◌≤◌, suc-le-suc}
use mathlib.Core.Path.{◌≡◌, refl, sym, ap, ap₂, ◌∙◌}
use mathlib.Core.Logic.{◌≢◌}
use mathlib.Core.Bool.{Bool, true}
use mathlib.Core.List.{List, [], ◌∷◌, ◌++◌, map, map-append, append_assoc, append-nil}
use lib.ListN.{length, take, drop, get_or, replicate, set, length-append, take-append-drop, length-drop, length-set, drop_of_length-le}
use Rattle.std.specs.List.{copy_within}
use lib.Seq.{append_snoc, set_at, take-suc, take-append-le, drop-append-le, take-append-add, set-append_left, get_or-take, length-take-le}
use native.Mathlib.Nat.{le_of_suc-le-suc, not-suc-le-zero, zero-lt-suc, lt_irrefl, le_refl}
use native.Mathlib.Omega.{arith}
use native.Mathlib.Numerals.{add-one}
use borrow.Author.Tests.{le-leb, lt-leb}
use Rattle.model.specs.Lists.{all, first, insert, padded}
use Rattle.model.proofs.ListLaws.{first-yes, first-no, all_head, all_tail, take-map, drop-map}
use Rattle.model.proofs.InsertLaws.{insert-rule}
use Rattle.stations.specs.Found.{at_least, joined}
use Rattle.stations.proofs.Search.{first-at-most}

module _ {A : Type 0} where
  -- what a list holds with those from a position on moved up by one, and the element put there
  pub joined-shifted : (m : List A) (i : ℕ) (x : A) → i < length m → set (copy_within m i (length m - 1) (i + 1)) i x ≡ take (length m) (joined i x m)
  unfolding joined
  joined-shifted m i x o =
      let k : i + 1 + (length m - 1 - i) ≡ length m = omega arith in
      let n : length m ≡ length (take i m) + suc (length m - 1 - i) = omega (arith, length-take-le i m (omega arith)) in
      rw (k, add-one i, take-suc m i x o, append_assoc, append_snoc (take i m) (get_or m i x))
      (set_at (take i m) (get_or m i x) _ x i (length-take-le i m (omega arith))
      ∙ (ap (λ (l : List A). take i m ++ (x ∷ (take (length m - 1 - i) (drop i m) ++ l))) (drop_of_length-le m (le_refl (length m)))
      ∙ (ap (λ (l : List A). take i m ++ (x ∷ l)) (append-nil (take (length m - 1 - i) (drop i m)))
      ∙ (sym (take-append-add (take i m) (x ∷ drop i m) (suc (length m - 1 - i))) ∙ ap (λ (j : ℕ). take j (take i m ++ (x ∷ drop i m))) (sym n)))))

  joined_length : (i : ℕ) (x : A) (m : List A) → i ≤ length m → length (joined i x m) ≡ suc (length m)
  unfolding joined
  joined_length i x m o = simp (length-append, length-drop, length-take-le i m o) (omega arith)

  joined-append : (i : ℕ) (x : A) (us rs : List A) → i ≤ length us → joined i x (us ++ rs) ≡ joined i x us ++ rs
  unfolding joined
  joined-append i x us rs o = rw (take-append-le i us rs o, drop-append-le i us rs o) (sym (append_assoc (take i us) (x ∷ drop i us) rs))

  pub joined-map : {B : Type 0} (f : A → B) (i : ℕ) (x : A) (m : List A) → map f (joined i x m) ≡ joined i (f x) (map f m)
  unfolding joined
  joined-map {B = B} f i x m =
      map-append f (take i m) (x ∷ drop i m) ∙ ap₂ (λ (xs ys : List B). xs ++ (f x ∷ ys)) (sym (take-map f i m)) (sym (drop-map f i m))

  take-replicate : (n m : ℕ) (z : A) → n ≤ m → take n (replicate m z) ≡ replicate n z
  take-replicate zero m z o = refl
  take-replicate (suc n) zero z o = absurd (not-suc-le-zero o)
  take-replicate (suc n) (suc m) z o = ap (λ (l : List A). z ∷ l) (take-replicate n m z (le_of_suc-le-suc o))

  -- a list of which all are z
  pub all_same : (p : A → Bool) (z : A) → ((y : A) → p y ≡ true → y ≡ z) → (l : List A) → all p l ≡ true → l ≡ replicate (length l) z
  all_same p z f [] h = refl
  all_same p z f (y ∷ ys) h = ap₂ (λ (a : A) (l : List A). a ∷ l) (f y (all_head p y ys h)) (all_same p z f ys (all_tail p y ys h))

  module _ (key : A → ℕ) (x d : A) where
    -- no element has the key at the position: x joins there
    insert-new : (us : List A) (i : ℕ) → i ≡ first (at_least key (key x)) us → (i < length us → key x ≢ key (get_or us i d)) → insert key x us ≡ joined i x us
    unfolding insert joined first
    insert-new [] i e n = rw e
    insert-new (y ∷ ys) i e n = insert-rule key x (λ l. l ≡ joined i x (y ∷ ys)) y ys
        (λ o. low (e ∙ first-no (at_least key (key x)) y ys (lt-leb (key x) (key y) o)) (insert-new ys (first (at_least key (key x)) ys) refl))
        (λ q. absurd (same q (e ∙ first-yes (at_least key (key x)) y ys (le-leb (key x) (key y) (omega arith)))))
        (λ o. high (e ∙ first-yes (at_least key (key x)) y ys (le-leb (key x) (key y) (omega arith))))
      where
        low : i ≡ suc (first (at_least key (key x)) ys)
            → ((first (at_least key (key x)) ys < length ys → key x ≢ key (get_or ys (first (at_least key (key x)) ys) d)) → insert key x ys ≡ joined (first (at_least key (key x)) ys) x ys)
            → y ∷ insert key x ys ≡ joined i x (y ∷ ys)
        low q ih = rw q (ap (λ (l : List A). y ∷ l) (ih (λ o. (rw q at n) (suc-le-suc o))))

        same : key x ≡ key y → i ≡ 0 → ⊥
        same q z = (rw z at n) (zero-lt-suc _) q

        high : i ≡ 0 → x ∷ y ∷ ys ≡ joined i x (y ∷ ys)
        high z = rw z

    -- one has it: x stands in its place
    insert-old : (us : List A) (i : ℕ) → i ≡ first (at_least key (key x)) us → i < length us → key x ≡ key (get_or us i d) → insert key x us ≡ set us i x
    unfolding insert first
    insert-old [] i e o k = absurd (not-suc-le-zero o)
    insert-old (y ∷ ys) i e o k = insert-rule key x (λ l. l ≡ set (y ∷ ys) i x) y ys
        (λ l. low (e ∙ first-no (at_least key (key x)) y ys (lt-leb (key x) (key y) l)) (insert-old ys (first (at_least key (key x)) ys) refl))
        (λ q. same (e ∙ first-yes (at_least key (key x)) y ys (le-leb (key x) (key y) (omega arith))))
        (λ l. absurd (high l (e ∙ first-yes (at_least key (key x)) y ys (le-leb (key x) (key y) (omega arith)))))
      where
        low : i ≡ suc (first (at_least key (key x)) ys)
            → (first (at_least key (key x)) ys < length ys → key x ≡ key (get_or ys (first (at_least key (key x)) ys) d) → insert key x ys ≡ set ys (first (at_least key (key x)) ys) x)
            → y ∷ insert key x ys ≡ set (y ∷ ys) i x
        low q ih = rw q (ap (λ (l : List A). y ∷ l) (ih (le_of_suc-le-suc (rw q at o)) (rw q at k)))

        same : i ≡ 0 → x ∷ ys ≡ set (y ∷ ys) i x
        same z = rw z

        high : key x < key y → i ≡ 0 → ⊥
        high l z = let k' : key x ≡ key y = rw z at k in lt_irrefl (key x) (omega arith)

    -- ── an array of which the first n are used and the others are z ──
    module _ (z : A) (limit n i : ℕ) (old : List A) (long : length old ≡ limit) (fits : n ≤ limit) (zeros : drop n old ≡ replicate (limit - n) z)
        (place : i ≡ first (at_least key (key x)) (take n old)) where
      used : length (take n old) ≡ n
      used = length-take-le n old (omega arith)

      whole : old ≡ take n old ++ replicate (limit - n) z
      whole = sym (take-append-drop n old) ∙ ap (λ (l : List A). take n old ++ l) zeros

      -- the key is there
      is-old : i < n → key x ≡ key (get_or old i d) → insert key x (take n old) ≡ set (take n old) i x
      is-old o k = insert-old (take n old) i place (rw used o) (rw (get_or-take n old i d o) k)

      pub replaced-length : i < n → key x ≡ key (get_or old i d) → n ≡ length (insert key x (take n old))
      replaced-length o k = rw (is-old o k, length-set) (sym used)

      pub replaced : i < n → key x ≡ key (get_or old i d) → set old i x ≡ padded z limit (insert key x (take n old))
      unfolding padded
      replaced o k = rw (← (replaced-length o k), is-old o k) (ap (λ (l : List A). set l i x) whole ∙ set-append_left (take n old) (replicate (limit - n) z) i x (rw used o))

      -- it is not
      is-new : (i < n → key x ≢ key (get_or old i d)) → insert key x (take n old) ≡ joined i x (take n old)
      is-new f = insert-new (take n old) i place (λ o k. f (rw used at o) (k ∙ ap key (get_or-take n old i d (rw used at o))))

      inside : i ≤ length (take n old)
      inside = rw place (first-at-most (at_least key (key x)) (take n old))

      pub added-length : (i < n → key x ≢ key (get_or old i d)) → n + 1 ≡ length (insert key x (take n old))
      added-length f = rw (is-new f, joined_length i x (take n old) inside, used) (add-one n)

      pub added : (i < n → key x ≢ key (get_or old i d)) → n < limit → take limit (joined i x old) ≡ padded z limit (insert key x (take n old))
      unfolding padded
      added f o =
          rw (← (added-length f), is-new f)
          (ap (λ (l : List A). take limit (joined i x l)) whole
          ∙ (ap (take limit) (joined-append i x (take n old) (replicate (limit - n) z) inside)
          ∙ (ap (λ (m : ℕ). take m (joined i x (take n old) ++ replicate (limit - n) z)) split
          ∙ (take-append-add (joined i x (take n old)) (replicate (limit - n) z) (limit - (n + 1))
          ∙ ap (λ (l : List A). joined i x (take n old) ++ l) (take-replicate (limit - (n + 1)) (limit - n) z (omega arith))))))
        where
          split : limit ≡ length (joined i x (take n old)) + (limit - (n + 1))
          split = rw (joined_length i x (take n old) inside, used) (omega arith)
