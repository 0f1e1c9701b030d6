-- What the bits of a set say of its keys.
use Prim.Native.Nat.{ℕ, suc, ◌+◌, ◌-◌, ◌*◌, ◌%◌, ◌^◌, ◌≤◌, ◌<◌}
use mathlib.Core.Path.{◌≡◌, refl, sym, ap, subst, ◌∙◌}
use mathlib.Core.Bool.{Bool, true, false, not, true≢false}
use mathlib.Core.List.{List, [], ◌∷◌}
use lib.Dec.{eqb, leb}
use lib.ListN.{length}
use lib.Pow.{pow_pos, pow-lt, shl_exact}
use lib.Bits.{bit_and, bit_or, and_le_l, and_le_r, and_mask}
use lib.Count.{ones, ones-le, count_trailing_zeros}
use native.Mathlib.Omega.{arith}
use borrow.Author.Tests.{eq-eqb, ne_eqb, eqb-true}
use Rattle.model.specs.Lists.{◌and◌, ◌or◌, any, first, member, ascending}
use Rattle.model.specs.Limits.{keys, number_range}
use Rattle.model.specs.KeySets.{key_set, set_number}
use Rattle.model.proofs.Tests.{and_intro, and-none-left, and-none-right, not_of_false, not-of-true}
use Rattle.model.proofs.ListLaws.{member-yes, member-no}
use Rattle.model.proofs.InsertLaws.{ascending-from, ascending-tail}
use Rattle.model.proofs.KeySetLaws.{key_below, key-beyond, one_key, ones_below, lowest-first, ascending-same, set-and, set-or, set-none, set-ascends, set-number, set-ones, number-set}
use Rattle.keysets.specs.Parts.{IsLowest, IsRest}

-- ── the number of one key ──
pub bit_is : (k : ℕ) → k < keys → 1 * 2 ^ k % number_range ≡ 2 ^ k
bit_is k h =
    let a : 1 < 2 ^ 1 = omega arith in
    let b : 1 + k ≤ 64 = omega arith in
    shl_exact 1 k 64 a b ∙ omega arith

member-one : (j k : ℕ) → member j (k ∷ []) ≡ eqb j k
unfolding member any
member-one j k = go (eqb j k) refl
  where
    go : (b : Bool) → eqb j k ≡ b → member j (k ∷ []) ≡ eqb j k
    go true e = member-yes j k [] e ∙ sym e
    go false e = member-no j k [] e ∙ sym e

bit-keys : (j k : ℕ) → k < keys → member j (key_set (2 ^ k)) ≡ eqb j k
unfolding key_set
bit-keys j k h = ap (member j) (one_key 64 k h) ∙ member-one j k

-- ── a key tested ──
none_has : (k : ℕ) → member k (key_set 0) ≡ false
unfolding member any
none_has k = ap (member k) set-none

bit-missed : (n k : ℕ) → k < keys → member k (key_set n) ≡ false → bit_and n (2 ^ k) ≡ 0
unfolding member any ascending set_number
bit-missed n k h e = sym (set-number (bit_and n (2 ^ k)) small) ∙ ap set_number (ascending-same 64 (key_set (bit_and n (2 ^ k))) [] (set-ascends (bit_and n (2 ^ k))) refl each)
  where
    small : bit_and n (2 ^ k) < number_range
    small = let o : 2 ^ k < 2 ^ 64 = pow-lt h in omega (arith, o, and_le_r n (2 ^ k))

    go : (j : ℕ) (b : Bool) → eqb j k ≡ b → (member j (key_set n) and member j (key_set (2 ^ k))) ≡ false
    go j true q = and-none-left _ _ (ap (λ (i : ℕ). member i (key_set n)) (eqb-true j k q) ∙ e)
    go j false q = and-none-right _ _ (bit-keys j k h ∙ q)

    each : (j : ℕ) → member j (key_set (bit_and n (2 ^ k))) ≡ member j []
    each j = set-and n (2 ^ k) j ∙ go j (eqb j k) refl

pub key-tested : (n k : ℕ) → k < keys → not (eqb (bit_and n (2 ^ k)) 0) ≡ member k (key_set n)
key-tested n k h = go (member k (key_set n)) refl
  where
    go : (b : Bool) → member k (key_set n) ≡ b → not (eqb (bit_and n (2 ^ k)) 0) ≡ member k (key_set n)
    go true e =
        let m : member k (key_set (bit_and n (2 ^ k))) ≡ true = set-and n (2 ^ k) k ∙ and_intro _ _ e (bit-keys k k h ∙ eq-eqb k k refl) in
        not_of_false _ (ne_eqb (bit_and n (2 ^ k)) 0 (λ z. true≢false (sym m ∙ (ap (λ (x : ℕ). member k (key_set x)) z ∙ none_has k)))) ∙ sym e
    go false e = not-of-true _ (eq-eqb (bit_and n (2 ^ k)) 0 (bit-missed n k h e)) ∙ sym e

pub key-far : (n k : ℕ) → keys ≤ k → member k (key_set n) ≡ false
unfolding key_set
key-far n k h = key-beyond 64 k n h

pub key-near : (n k : ℕ) → member k (key_set n) ≡ true → k < keys
unfolding key_set
key-near n k m = key_below 64 k n m

-- ── a key added ──
or_swap : (a b : Bool) → (a or b) ≡ (b or a)
unfolding ◌or◌
or_swap true true = refl
or_swap true false = refl
or_swap false true = refl
or_swap false false = refl

pub key-added : (n k : ℕ) → k < keys → (j : ℕ) → member j (key_set (bit_or n (2 ^ k))) ≡ (eqb j k or member j (key_set n))
key-added n k h j = set-or n (2 ^ k) j ∙ (or_swap _ _ ∙ ap (λ (b : Bool). b or member j (key_set n)) (bit-keys j k h))

-- ── keys counted ──
pub count-is : (n : ℕ) → n < number_range → ones n ≡ length (key_set n)
count-is n h = sym (set-ones n h)

pub count_most : (n mask : ℕ) → n < number_range → ones (bit_and n mask) ≤ 64
count_most n mask h = ones-le 64 (bit_and n mask) (omega (arith, h, and_le_l n mask))

pub below-is : (n k : ℕ) → n < number_range → ones (bit_and n (2 ^ k - 1)) ≡ first (leb k) (key_set n)
unfolding key_set
below-is n k h = ap ones (and_mask n k) ∙ sym (ones_below 64 k n h)

-- ── the lowest key, and the rest ──
pub lowest-is : (n : ℕ) → n < number_range → 0 < n → IsLowest n (count_trailing_zeros 64 n)
unfolding key_set
lowest-is n h p = let r = lowest-first 64 n h p in (r.2, (_, r.0))

pub rest-is : (n k : ℕ) → n < number_range → IsLowest n k → (2 ^ k ≤ n) × IsRest n (n - 2 ^ k)
unfolding set_number
rest-is n k h (o, (ks, e)) =
    let whole : 2 ^ k + set_number ks ≡ n = sym (ap set_number e) ∙ set-number n h in
    let up : ascending 0 keys (k ∷ ks) ≡ true = subst (λ (x : List ℕ). ascending 0 keys x ≡ true) e (set-ascends n) in
    let tail : ascending 0 keys ks ≡ true = ascending-from (suc k) 0 keys ks (omega arith) (ascending-tail 0 keys k ks up) in
    let rest : n - 2 ^ k ≡ set_number ks = omega (arith, whole) in
    (omega (arith, whole), (omega (arith, whole, pow_pos k), (k, e ∙ ap (λ (x : List ℕ). k ∷ x) (sym (ap key_set rest ∙ number-set ks tail)))))
