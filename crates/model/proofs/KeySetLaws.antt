-- Laws of a set of keys as a number (specs/KeySets).
use Prim.Native.Nat.{ℕ, zero, suc, ◌+◌, ◌-◌, ◌*◌, ◌/◌, ◌%◌, ◌^◌, ◌<◌, ◌≤◌, suc-le-suc, min, max}
use mathlib.Core.Path.{◌≡◌, refl, sym, ap, ap₂, subst, ◌∙◌}
use mathlib.Core.Bool.{Bool, true, false, true≢false, false≢true}
use mathlib.Core.List.{List, [], ◌∷◌, map}
use lib.Dec.{eqb, leb}
use lib.ListN.{length, get_or, length-map}
use lib.Arith.{digits_mod}
use lib.Pow.{pow_pos, shr-shr, mod-pow-add}
use lib.Bits.{bit_and, bit_or, and_step, or_step, and_shr, or_shr, and_le_l}
use lib.Count.{ones, ones_step, under, count_trailing_zeros}
use native.Mathlib.Nat.{suc-ne-zero}
use native.Mathlib.Decide.{ℕ_discrete, dec_lt}
use native.Mathlib.Numerals.{add-one}
use native.Mathlib.Omega.{arith}
use borrow.Author.Tests.{eq-eqb, ne_eqb, eqb-true, eqb-false, le-leb, lt-leb, leb-true, leb-false}
use Rattle.model.specs.Lists.{◌and◌, ◌or◌, all, any, member, ascending, first}
use Rattle.model.specs.Limits.{keys, number_range}
use Rattle.model.specs.KeySets.{with_lowest, keys_below, key_set, set_number}
use Rattle.model.proofs.Tests.{and_left, and_right, and_intro, and-none-left, or-none, same_test}
use Rattle.model.proofs.ListLaws.{all-at, all_of, first-yes, first-no, member-yes, member-no, member-at, member-finds}
use Rattle.model.proofs.InsertLaws.{ascending-head, ascending-tail, ascending-cons, ascending-from, ascending-member}

-- ── every key one greater ──
number_up : (ks : List ℕ) → set_number (map suc ks) ≡ 2 * set_number ks
unfolding set_number
number_up [] = refl
number_up (k ∷ ks) = let e : 2 ^ suc k ≡ 2 * 2 ^ k = omega arith in omega (arith, e, number_up ks)

up-ascending : (lo hi : ℕ) (ks : List ℕ) → ascending lo hi ks ≡ true → ascending (suc lo) (suc hi) (map suc ks) ≡ true
unfolding ascending
up-ascending lo hi [] h = refl
up-ascending lo hi (k ∷ ks) h = let o = ascending-head lo hi k ks h in
    ascending-cons (suc lo) (suc hi) (suc k) (map suc ks) (suc-le-suc o.0) (suc-le-suc o.1) (up-ascending (suc k) hi ks (ascending-tail lo hi k ks h))

down : (lo hi : ℕ) (ks : List ℕ) → ascending (suc lo) (suc hi) ks ≡ true → (js : List ℕ) × (ks ≡ map suc js) × (ascending lo hi js ≡ true)
down lo hi [] h = ([], refl, (unfold ascending in refl))
down lo hi (zero ∷ ks) h = let o = ascending-head (suc lo) (suc hi) zero ks h in absurd (omega (arith, o.0))
down lo hi (suc k ∷ ks) h =
    let o = ascending-head (suc lo) (suc hi) (suc k) ks h in
    let r = down (suc k) hi ks (ascending-tail (suc lo) (suc hi) (suc k) ks h) in
    (k ∷ r.0, ap (λ (x : List ℕ). suc k ∷ x) r.1, ascending-cons lo hi k r.0 (omega (arith, o.0)) (omega (arith, o.1)) r.2)

-- ── there and back ──
pub number-of-keys : (d n : ℕ) → n < 2 ^ d → set_number (keys_below d n) ≡ n
unfolding keys_below with_lowest set_number
number-of-keys zero n h = omega arith
number-of-keys (suc d) n h = go (n % 2) refl (number-of-keys d (n / 2) half)
  where
    half : n / 2 < 2 ^ d
    half = let a : n < 2 ^ suc d = h in omega arith

    go : (b : ℕ) → n % 2 ≡ b → set_number (keys_below d (n / 2)) ≡ n / 2 → set_number (with_lowest b (map suc (keys_below d (n / 2)))) ≡ n
    go zero e ih = omega (arith, e, ih, number_up (keys_below d (n / 2)))
    go (suc zero) e ih = omega (arith, e, ih, number_up (keys_below d (n / 2)))
    go (suc (suc b)) e ih = absurd (omega (arith, e))

pub keys_none : (d : ℕ) → keys_below d 0 ≡ []
unfolding keys_below with_lowest
keys_none zero = refl
keys_none (suc d) = rw (keys_none d)

keys-even : (d m : ℕ) → keys_below (suc d) (2 * m) ≡ map suc (keys_below d m)
unfolding keys_below with_lowest
keys-even d m = let a : 2 * m % 2 ≡ 0 = omega arith in let b : 2 * m / 2 ≡ m = omega arith in rw (a, b)

keys-odd : (d m : ℕ) → keys_below (suc d) (1 + 2 * m) ≡ 0 ∷ map suc (keys_below d m)
unfolding keys_below with_lowest
keys-odd d m = let a : (1 + 2 * m) % 2 ≡ 1 = omega arith in let b : (1 + 2 * m) / 2 ≡ m = omega arith in rw (a, b)

keys-next : (d : ℕ) → ((js : List ℕ) → ascending 0 d js ≡ true → keys_below d (set_number js) ≡ js) → (ks : List ℕ) → ascending 0 (suc d) ks ≡ true → keys_below (suc d) (set_number ks) ≡ ks
unfolding set_number
keys-next d ih [] h = keys_none (suc d)
keys-next d ih (zero ∷ ks) h =
    let r = down 0 d ks (ascending-tail 0 (suc d) 0 ks h) in
    let e : set_number ks ≡ 2 * set_number r.0 = ap set_number r.1 ∙ number_up r.0 in
    ap (λ (x : ℕ). keys_below (suc d) (1 + x)) e ∙ (keys-odd d (set_number r.0) ∙ ap (λ (x : List ℕ). 0 ∷ x) (ap (map suc) (ih r.0 r.2) ∙ sym r.1))
keys-next d ih (suc k ∷ ks) h =
    let o = ascending-head 0 (suc d) (suc k) ks h in
    let r = down 0 d (suc k ∷ ks) (ascending-cons 1 (suc d) (suc k) ks (omega arith) o.1 (ascending-tail 0 (suc d) (suc k) ks h)) in
    ap (keys_below (suc d)) (ap set_number r.1 ∙ number_up r.0) ∙ (keys-even d (set_number r.0) ∙ (ap (map suc) (ih r.0 r.2) ∙ sym r.1))

pub keys-of-number : (d : ℕ) (ks : List ℕ) → ascending 0 d ks ≡ true → keys_below d (set_number ks) ≡ ks
keys-of-number zero ks h = none ks h
  where
    none : (ks : List ℕ) → ascending 0 0 ks ≡ true → keys_below 0 (set_number ks) ≡ ks
    none [] h = unfold keys_below in refl
    none (k ∷ ks) h = let o = ascending-head 0 0 k ks h in absurd (omega (arith, o.1))
keys-of-number (suc d) ks h = keys-next d (λ js g. keys-of-number d js g) ks h

number-next : (d : ℕ) → ((js : List ℕ) → ascending 0 d js ≡ true → set_number js < 2 ^ d) → (ks : List ℕ) → ascending 0 (suc d) ks ≡ true → set_number ks < 2 ^ suc d
unfolding set_number
number-next d ih [] h = pow_pos (suc d)
number-next d ih (zero ∷ ks) h =
    let r = down 0 d ks (ascending-tail 0 (suc d) 0 ks h) in
    let e : set_number ks ≡ 2 * set_number r.0 = ap set_number r.1 ∙ number_up r.0 in
    let q : 2 ^ suc d ≡ 2 * 2 ^ d = omega arith in
    omega (arith, e, q, ih r.0 r.2)
number-next d ih (suc k ∷ ks) h =
    let o = ascending-head 0 (suc d) (suc k) ks h in
    let r = down 0 d (suc k ∷ ks) (ascending-cons 1 (suc d) (suc k) ks (omega arith) o.1 (ascending-tail 0 (suc d) (suc k) ks h)) in
    let e : set_number (suc k ∷ ks) ≡ 2 * set_number r.0 = ap set_number r.1 ∙ number_up r.0 in
    let q : 2 ^ suc d ≡ 2 * 2 ^ d = omega arith in
    omega (arith, e, q, ih r.0 r.2)

pub number-below : (d : ℕ) (ks : List ℕ) → ascending 0 d ks ≡ true → set_number ks < 2 ^ d
number-below zero ks h = none ks h
  where
    none : (ks : List ℕ) → ascending 0 0 ks ≡ true → set_number ks < 1
    none [] h = unfold set_number in omega arith
    none (k ∷ ks) h = let o = ascending-head 0 0 k ks h in absurd (omega (arith, o.1))
number-below (suc d) ks h = number-next d (λ js g. number-below d js g) ks h

-- ── the count ──
pub keys-count : (d n : ℕ) → n < 2 ^ d → length (keys_below d n) ≡ ones n
unfolding keys_below with_lowest
keys-count zero n h = let e : n ≡ 0 = omega arith in rw e (unfold ones in refl)
keys-count (suc d) n h = go (n % 2) refl (keys-count d (n / 2) half) ∙ sym (ones_step n)
  where
    half : n / 2 < 2 ^ d
    half = let a : n < 2 ^ suc d = h in omega arith

    go : (b : ℕ) → n % 2 ≡ b → length (keys_below d (n / 2)) ≡ ones (n / 2) → length (with_lowest b (map suc (keys_below d (n / 2)))) ≡ n % 2 + ones (n / 2)
    go zero e ih = omega (arith, e, ih, length-map (keys_below d (n / 2)) suc)
    go (suc zero) e ih = omega (arith, e, ih, length-map (keys_below d (n / 2)) suc)
    go (suc (suc b)) e ih = absurd (omega (arith, e))

-- ── a key's bit ──
member-up : (k : ℕ) (ks : List ℕ) → member (suc k) (map suc ks) ≡ member k ks
unfolding member any
member-up k [] = refl
member-up k (j ∷ ks) = go (eqb k j) refl (member-up k ks)
  where
    go : (b : Bool) → eqb k j ≡ b → member (suc k) (map suc ks) ≡ member k ks → member (suc k) (suc j ∷ map suc ks) ≡ member k (j ∷ ks)
    go true e ih = member-yes (suc k) (suc j) (map suc ks) (eq-eqb (suc k) (suc j) (ap suc (eqb-true k j e))) ∙ sym (member-yes k j ks e)
    go false e ih = member-no (suc k) (suc j) (map suc ks) (ne_eqb (suc k) (suc j) (λ z. eqb-false k j e (omega (arith, z)))) ∙ (ih ∙ sym (member-no k j ks e))

member-none-up : (ks : List ℕ) → member 0 (map suc ks) ≡ false
unfolding member any
member-none-up [] = refl
member-none-up (j ∷ ks) = member-no 0 (suc j) (map suc ks) (ne_eqb 0 (suc j) (λ z. suc-ne-zero j (sym z))) ∙ member-none-up ks

-- by `% 2` of the number halved k times
unfoldable pub halved : ℕ → ℕ → ℕ
halved zero n = n
halved (suc k) n = halved k (n / 2)

pub key-bit : (d k n : ℕ) → k < d → member k (keys_below d n) ≡ eqb (halved k n % 2) 1
unfolding keys_below with_lowest halved
key-bit zero k n h = absurd (omega (arith, h))
key-bit (suc d) zero n h = go (n % 2) refl
  where
    go : (b : ℕ) → n % 2 ≡ b → member 0 (with_lowest b (map suc (keys_below d (n / 2)))) ≡ eqb b 1
    go zero e = member-none-up (keys_below d (n / 2))
    go (suc zero) e = member-yes 0 0 _ (eq-eqb 0 0 refl)
    go (suc (suc b)) e = absurd (omega (arith, e))
key-bit (suc d) (suc k) n h = go (n % 2) ∙ (member-up k (keys_below d (n / 2)) ∙ key-bit d k (n / 2) (omega (arith, h)))
  where
    go : (b : ℕ) → member (suc k) (with_lowest b (map suc (keys_below d (n / 2)))) ≡ member (suc k) (map suc (keys_below d (n / 2)))
    go zero = refl
    go (suc b) = member-no (suc k) 0 (map suc (keys_below d (n / 2))) (ne_eqb (suc k) 0 (λ z. suc-ne-zero k z))

-- ── the lowest key: d where there is none ──
lowest-up : (d : ℕ) (ks : List ℕ) → get_or (map suc ks) 0 (suc d) ≡ suc (get_or ks 0 d)
lowest-up d [] = refl
lowest-up d (k ∷ ks) = refl

pub lowest-key : (d n : ℕ) → get_or (keys_below d n) 0 d ≡ count_trailing_zeros d n
unfolding keys_below with_lowest count_trailing_zeros
lowest-key zero n = refl
lowest-key (suc d) n = go (n % 2) (lowest-key d (n / 2))
  where
    go : (b : ℕ) → get_or (keys_below d (n / 2)) 0 d ≡ count_trailing_zeros d (n / 2) → get_or (with_lowest b (map suc (keys_below d (n / 2)))) 0 (suc d) ≡ under b (count_trailing_zeros d (n / 2))
    go zero ih = lowest-up d (keys_below d (n / 2)) ∙ ap suc ih
    go (suc b) ih = refl

-- ── keys ascend ──
pub keys-ascend : (d n : ℕ) → ascending 0 d (keys_below d n) ≡ true
unfolding keys_below with_lowest
keys-ascend zero n = unfold ascending in refl
keys-ascend (suc d) n = go (n % 2) (up-ascending 0 d (keys_below d (n / 2)) (keys-ascend d (n / 2)))
  where
    go : (b : ℕ) → ascending 1 (suc d) (map suc (keys_below d (n / 2))) ≡ true → ascending 0 (suc d) (with_lowest b (map suc (keys_below d (n / 2)))) ≡ true
    go zero ih = ascending-from 1 0 (suc d) _ (omega arith) ih
    go (suc b) ih = ascending-cons 0 (suc d) 0 _ (omega arith) (omega arith) ih

-- ── a key's bit by a shift ──
pub halved_is : (k n : ℕ) → halved k n ≡ n / 2 ^ k
unfolding halved
halved_is zero n = omega arith
halved_is (suc k) n = halved_is k (n / 2) ∙ (shr-shr n 1 k ∙ ap (λ (x : ℕ). n / 2 ^ x) e)
  where
    e : 1 + k ≡ suc k
    e = omega arith

pub key-shifted : (d k n : ℕ) → k < d → member k (keys_below d n) ≡ eqb (n / 2 ^ k % 2) 1
key-shifted d k n h = key-bit d k n h ∙ ap (λ (x : ℕ). eqb (x % 2) 1) (halved_is k n)

pub key_below : (d k n : ℕ) → member k (keys_below d n) ≡ true → k < d
key_below d k n m = (ascending-member 0 d k (keys_below d n) (keys-ascend d n) m).1

pub key-beyond : (d k n : ℕ) → d ≤ k → member k (keys_below d n) ≡ false
key-beyond d k n o = go (member k (keys_below d n)) refl
  where
    go : (b : Bool) → member k (keys_below d n) ≡ b → member k (keys_below d n) ≡ false
    go true e = absurd (omega (arith, o, key_below d k n e))
    go false e = e

-- ── the keys of both, the keys of either ──
digit_and : (p q : ℕ) → p < 2 → q < 2 → eqb (min p q) 1 ≡ (eqb p 1 and eqb q 1)
unfolding ◌and◌
digit_and zero zero a b = refl
digit_and zero (suc zero) a b = refl
digit_and (suc zero) zero a b = refl
digit_and (suc zero) (suc zero) a b = refl
digit_and zero (suc (suc q)) a b = absurd (omega (arith, b))
digit_and (suc zero) (suc (suc q)) a b = absurd (omega (arith, b))
digit_and (suc (suc p)) q a b = absurd (omega (arith, a))

digit_or : (p q : ℕ) → p < 2 → q < 2 → eqb (max p q) 1 ≡ (eqb p 1 or eqb q 1)
unfolding ◌or◌
digit_or zero zero a b = refl
digit_or zero (suc zero) a b = refl
digit_or (suc zero) zero a b = refl
digit_or (suc zero) (suc zero) a b = refl
digit_or zero (suc (suc q)) a b = absurd (omega (arith, b))
digit_or (suc zero) (suc (suc q)) a b = absurd (omega (arith, b))
digit_or (suc (suc p)) q a b = absurd (omega (arith, a))

odd-and : (a b : ℕ) → bit_and a b % 2 ≡ min (a % 2) (b % 2)
odd-and a b = omega (arith, and_step a b)

odd-or : (a b : ℕ) → bit_or a b % 2 ≡ max (a % 2) (b % 2)
odd-or a b = omega (arith, or_step a b)

pub and-keys : (d a b k : ℕ) → member k (keys_below d (bit_and a b)) ≡ (member k (keys_below d a) and member k (keys_below d b))
and-keys d a b k = go (dec_lt k d)
  where
    go : Dec (k < d) → member k (keys_below d (bit_and a b)) ≡ (member k (keys_below d a) and member k (keys_below d b))
    go (yes o) =
        key-shifted d k (bit_and a b) o
        ∙ ap (λ (x : ℕ). eqb x 1) (ap (λ (x : ℕ). x % 2) (and_shr a b k) ∙ odd-and (a / 2 ^ k) (b / 2 ^ k))
        ∙ digit_and (a / 2 ^ k % 2) (b / 2 ^ k % 2) (omega arith) (omega arith)
        ∙ ap₂ (λ (x y : Bool). x and y) (sym (key-shifted d k a o)) (sym (key-shifted d k b o))
    go (no o) = key-beyond d k (bit_and a b) (omega arith) ∙ sym (and-none-left _ _ (key-beyond d k a (omega arith)))

pub or-keys : (d a b k : ℕ) → member k (keys_below d (bit_or a b)) ≡ (member k (keys_below d a) or member k (keys_below d b))
or-keys d a b k = go (dec_lt k d)
  where
    go : Dec (k < d) → member k (keys_below d (bit_or a b)) ≡ (member k (keys_below d a) or member k (keys_below d b))
    go (yes o) =
        key-shifted d k (bit_or a b) o
        ∙ ap (λ (x : ℕ). eqb x 1) (ap (λ (x : ℕ). x % 2) (or_shr a b k) ∙ odd-or (a / 2 ^ k) (b / 2 ^ k))
        ∙ digit_or (a / 2 ^ k % 2) (b / 2 ^ k % 2) (omega arith) (omega arith)
        ∙ ap₂ (λ (x y : Bool). x or y) (sym (key-shifted d k a o)) (sym (key-shifted d k b o))
    go (no o) = key-beyond d k (bit_or a b) (omega arith) ∙ sym (or-none _ _ (key-beyond d k a (omega arith)) (key-beyond d k b (omega arith)))

-- ── one key ──
pub one_key : (d k : ℕ) → k < d → keys_below d (2 ^ k) ≡ k ∷ []
unfolding set_number ascending
one_key d k o =
    let e : 2 ^ k ≡ set_number (k ∷ []) = omega arith in
    ap (keys_below d) e ∙ keys-of-number d (k ∷ []) (ascending-cons 0 d k [] (omega arith) o refl)

-- ── the keys below a number: the ones below it ──
first-up : (k : ℕ) (ks : List ℕ) → first (leb (suc k)) (map suc ks) ≡ first (leb k) ks
unfolding first
first-up k [] = refl
first-up k (j ∷ ks) = go (leb k j) refl (first-up k ks)
  where
    go : (b : Bool) → leb k j ≡ b → first (leb (suc k)) (map suc ks) ≡ first (leb k) ks → first (leb (suc k)) (suc j ∷ map suc ks) ≡ first (leb k) (j ∷ ks)
    go true e ih = first-yes (leb (suc k)) (suc j) (map suc ks) (le-leb (suc k) (suc j) (suc-le-suc (leb-true k j e))) ∙ sym (first-yes (leb k) j ks e)
    go false e ih =
        first-no (leb (suc k)) (suc j) (map suc ks) (lt-leb (suc k) (suc j) (suc-le-suc (leb-false k j e)))
        ∙ (ap suc ih ∙ sym (first-no (leb k) j ks e))

first-low : (ks : List ℕ) → first (leb 0) ks ≡ 0
unfolding first
first-low [] = refl
first-low (k ∷ ks) = first-yes (leb 0) k ks (le-leb 0 k (omega arith))

ones-lower : (k n : ℕ) → ones (n % 2 ^ suc k) ≡ n % 2 + ones (n / 2 % 2 ^ k)
ones-lower k n = ones_step (n % 2 ^ suc k) ∙ ap₂ (λ (x y : ℕ). x + ones y) (omega (arith, e)) (omega (arith, e))
  where
    e : n % 2 ^ suc k ≡ (n / 2 % 2 ^ k) * 2 + n % 2
    e = ap (λ (x : ℕ). n % 2 ^ x) (sym (add-one k)) ∙ mod-pow-add n k 1

pub ones_below : (d k n : ℕ) → n < 2 ^ d → first (leb k) (keys_below d n) ≡ ones (n % 2 ^ k)
unfolding keys_below with_lowest
ones_below zero k n h =
    let e : n ≡ 0 * 2 ^ k + 0 = omega arith in
    let z : first (leb k) [] ≡ ones 0 = unfold first ones in refl in
    z ∙ sym (ap (λ (x : ℕ). ones (x % 2 ^ k)) e ∙ ap ones (digits_mod 0 (pow_pos k)))
ones_below (suc d) zero n h = let e : n % 1 ≡ 0 = omega arith in first-low _ ∙ sym (ap ones e ∙ (unfold ones in refl))
ones_below (suc d) (suc k) n h = go (n % 2) refl (ones_below d k (n / 2) half) ∙ sym (ones-lower k n)
  where
    half : n / 2 < 2 ^ d
    half = let a : n < 2 ^ suc d = h in omega arith

    go : (b : ℕ) → n % 2 ≡ b → first (leb k) (keys_below d (n / 2)) ≡ ones (n / 2 % 2 ^ k)
        → first (leb (suc k)) (with_lowest b (map suc (keys_below d (n / 2)))) ≡ n % 2 + ones (n / 2 % 2 ^ k)
    go zero e ih = omega (arith, e, ih, first-up k (keys_below d (n / 2)))
    go (suc zero) e ih =
        omega (arith, e, ih, first-up k (keys_below d (n / 2)), first-no (leb (suc k)) 0 (map suc (keys_below d (n / 2))) (lt-leb (suc k) 0 (omega arith)))
    go (suc (suc b)) e ih = absurd (omega (arith, e))

-- of one of them, its position
pub first-same : (lo hi k : ℕ) (ks : List ℕ) → ascending lo hi ks ≡ true → member k ks ≡ true → first (leb k) ks ≡ first (eqb k) ks
unfolding first
first-same lo hi k [] h m = refl
first-same lo hi k (j ∷ ks) h m = go (eqb k j) refl (first-same (suc j) hi k ks (ascending-tail lo hi j ks h))
  where
    go : (b : Bool) → eqb k j ≡ b → (member k ks ≡ true → first (leb k) ks ≡ first (eqb k) ks) → first (leb k) (j ∷ ks) ≡ first (eqb k) (j ∷ ks)
    go true e ih = first-yes (leb k) j ks (le-leb k j (omega (arith, eqb-true k j e))) ∙ sym (first-yes (eqb k) j ks e)
    go false e ih =
        let m' : member k ks ≡ true = sym (member-no k j ks e) ∙ m in
        let o = ascending-member (suc j) hi k ks (ascending-tail lo hi j ks h) m' in
        first-no (leb k) j ks (lt-leb k j o.0) ∙ (ap suc (ih m') ∙ sym (first-no (eqb k) j ks e))

-- ── the lowest key, and the rest ──
pub lowest-first : (d n : ℕ) → n < 2 ^ d → 0 < n
    → (keys_below d n ≡ count_trailing_zeros d n ∷ keys_below d (n - 2 ^ count_trailing_zeros d n)) × (2 ^ count_trailing_zeros d n ≤ n) × (count_trailing_zeros d n < d)
unfolding set_number
lowest-first d n h p = go (keys_below d n) refl
  where
    go : (ks : List ℕ) → keys_below d n ≡ ks
        → (keys_below d n ≡ count_trailing_zeros d n ∷ keys_below d (n - 2 ^ count_trailing_zeros d n)) × (2 ^ count_trailing_zeros d n ≤ n) × (count_trailing_zeros d n < d)
    go [] e = absurd (omega (arith, p, sym (ap set_number e) ∙ number-of-keys d n h))
    go (k ∷ ks) e =
        let low : k ≡ count_trailing_zeros d n = sym (ap (λ (x : List ℕ). get_or x 0 d) e) ∙ lowest-key d n in
        let whole : 2 ^ k + set_number ks ≡ n = sym (ap set_number e) ∙ number-of-keys d n h in
        let up : ascending 0 d (k ∷ ks) ≡ true = subst (λ (x : List ℕ). ascending 0 d x ≡ true) e (keys-ascend d n) in
        let rest : n - 2 ^ k ≡ set_number ks = omega (arith, whole) in
        let tail : ascending 0 d ks ≡ true = ascending-from (suc k) 0 d ks (omega arith) (ascending-tail 0 d k ks up) in
        subst (λ (k : ℕ). (keys_below d n ≡ k ∷ keys_below d (n - 2 ^ k)) × (2 ^ k ≤ n) × (k < d)) low
        (e ∙ ap (λ (x : List ℕ). k ∷ x) (sym (ap (keys_below d) rest ∙ keys-of-number d ks tail)), omega (arith, whole), (ascending-head 0 d k ks up).1)

-- ── two ascending lists with the same numbers ──
lower-none : (lo hi k : ℕ) (ks : List ℕ) → ascending lo hi ks ≡ true → k < lo → member k ks ≡ false
lower-none lo hi k ks h o = go (member k ks) refl
  where
    go : (b : Bool) → member k ks ≡ b → member k ks ≡ false
    go true e = absurd (omega (arith, o, (ascending-member lo hi k ks h e).0))
    go false e = e

same_from : (lo hi : ℕ) (xs ys : List ℕ) → ascending lo hi xs ≡ true → ascending lo hi ys ≡ true → ((k : ℕ) → member k xs ≡ member k ys) → xs ≡ ys
unfolding member any
same_from lo hi [] [] a b f = refl
same_from lo hi [] (y ∷ ys) a b f = absurd (false≢true (f y ∙ member-yes y y ys (eq-eqb y y refl)))
same_from lo hi (x ∷ xs) [] a b f = absurd (true≢false (sym (member-yes x x xs (eq-eqb x x refl)) ∙ f x))
same_from lo hi (x ∷ xs) (y ∷ ys) a b f = go (same_from (suc x) hi xs ys tx)
  where
    tx : ascending (suc x) hi xs ≡ true
    tx = ascending-tail lo hi x xs a

    ty : ascending (suc y) hi ys ≡ true
    ty = ascending-tail lo hi y ys b

    -- the first of each is in the other, so neither is less
    x-in : member x (y ∷ ys) ≡ true
    x-in = sym (f x) ∙ member-yes x x xs (eq-eqb x x refl)

    y-in : member y (x ∷ xs) ≡ true
    y-in = f y ∙ member-yes y y ys (eq-eqb y y refl)

    heads : x ≡ y
    heads =
        let p = ascending-member y hi x (y ∷ ys) (ascending-cons y hi y ys (omega arith) (ascending-head lo hi y ys b).1 ty) x-in in
        let q = ascending-member x hi y (x ∷ xs) (ascending-cons x hi x xs (omega arith) (ascending-head lo hi x xs a).1 tx) y-in in
        omega (arith, p.0, q.0)

    ty' : ascending (suc x) hi ys ≡ true
    ty' = subst (λ (n : ℕ). ascending (suc n) hi ys ≡ true) (sym heads) ty

    rest : (k : ℕ) → Dec (k ≡ x) → member k xs ≡ member k ys
    rest k (yes e) = lower-none (suc x) hi k xs tx (omega (arith, e)) ∙ sym (lower-none (suc x) hi k ys ty' (omega (arith, e)))
    rest k (no n) = sym (member-no k x xs (ne_eqb k x n)) ∙ (f k ∙ member-no k y ys (ne_eqb k y (λ e. n (e ∙ sym heads))))

    go : (ascending (suc x) hi ys ≡ true → ((k : ℕ) → member k xs ≡ member k ys) → xs ≡ ys) → x ∷ xs ≡ y ∷ ys
    go ih = ap₂ (λ (n : ℕ) (ns : List ℕ). n ∷ ns) heads (ih ty' (λ k. rest k (ℕ_discrete k x)))

pub ascending-same : (d : ℕ) (xs ys : List ℕ) → ascending 0 d xs ≡ true → ascending 0 d ys ≡ true → ((k : ℕ) → member k xs ≡ member k ys) → xs ≡ ys
ascending-same d xs ys a b f = same_from 0 d xs ys a b f

-- ── every key of one set is in another ──
pub covered : (d a b : ℕ) → a < 2 ^ d → b < 2 ^ d → eqb (bit_and a b) a ≡ all (λ k. member k (keys_below d b)) (keys_below d a)
covered d a b ha hb = same_test _ _ there back
  where
    there : eqb (bit_and a b) a ≡ true → all (λ k. member k (keys_below d b)) (keys_below d a) ≡ true
    there e = all_of (λ k. member k (keys_below d b)) (keys_below d a) 0 λ i o.
        let k : ℕ = get_or (keys_below d a) i 0 in
        and_right _ _ (sym (and-keys d a b k) ∙ (ap (λ (n : ℕ). member k (keys_below d n)) (eqb-true (bit_and a b) a e) ∙ member-at (keys_below d a) i o))

    back : all (λ k. member k (keys_below d b)) (keys_below d a) ≡ true → eqb (bit_and a b) a ≡ true
    back h = eq-eqb (bit_and a b) a (sym (number-of-keys d (bit_and a b) (omega (arith, ha, and_le_l a b))) ∙ (ap set_number same ∙ number-of-keys d a ha))
      where
        each : (k : ℕ) → member k (keys_below d a) ≡ true → member k (keys_below d b) ≡ true
        each k m =
            let r = member-finds k (keys_below d a) m in
            subst (λ (j : ℕ). member j (keys_below d b) ≡ true) r.1 (all-at (λ k. member k (keys_below d b)) (keys_below d a) 0 h (first (eqb k) (keys_below d a)) r.0)

        same : keys_below d (bit_and a b) ≡ keys_below d a
        same = ascending-same d (keys_below d (bit_and a b)) (keys_below d a) (keys-ascend d (bit_and a b)) (keys-ascend d a) λ k.
            and-keys d a b k ∙ same_test _ _ (λ m. and_left _ _ m) (λ m. and_intro _ _ m (each k m))

-- ── of 64 keys ──
pub set-and : (a b k : ℕ) → member k (key_set (bit_and a b)) ≡ (member k (key_set a) and member k (key_set b))
unfolding key_set
set-and a b k = and-keys 64 a b k

pub set-or : (a b k : ℕ) → member k (key_set (bit_or a b)) ≡ (member k (key_set a) or member k (key_set b))
unfolding key_set
set-or a b k = or-keys 64 a b k

pub set-none : key_set 0 ≡ []
unfolding key_set
set-none = keys_none 64

pub set-ascends : (n : ℕ) → ascending 0 keys (key_set n) ≡ true
unfolding key_set
set-ascends n = keys-ascend 64 n

pub set-position : (n k : ℕ) → member k (key_set n) ≡ true → first (leb k) (key_set n) ≡ first (eqb k) (key_set n)
set-position n k m = first-same 0 keys k (key_set n) (set-ascends n) m

pub set-number : (n : ℕ) → n < number_range → set_number (key_set n) ≡ n
unfolding key_set
set-number n h = number-of-keys 64 n h

pub number-set : (ks : List ℕ) → ascending 0 keys ks ≡ true → key_set (set_number ks) ≡ ks
unfolding key_set
number-set ks h = keys-of-number 64 ks h

pub set-ones : (n : ℕ) → n < number_range → length (key_set n) ≡ ones n
unfolding key_set
set-ones n h = keys-count 64 n h

-- at most as many keys as there are
keys-few : (d n : ℕ) → length (keys_below d n) ≤ d
unfolding keys_below with_lowest
keys-few zero n = omega arith
keys-few (suc d) n = go (n % 2) (keys-few d (n / 2))
  where
    go : (b : ℕ) → length (keys_below d (n / 2)) ≤ d → length (with_lowest b (map suc (keys_below d (n / 2)))) ≤ suc d
    go zero h = omega (arith, h, length-map (keys_below d (n / 2)) suc)
    go (suc b) h = omega (arith, h, length-map (keys_below d (n / 2)) suc)

pub set-few : (n : ℕ) → length (key_set n) ≤ keys
unfolding key_set
set-few n = keys-few keys n
