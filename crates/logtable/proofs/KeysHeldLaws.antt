-- A number with the keys of a list (`KeysHeld`): none, one more, one again; and the test of a full set.
use Prim.Native.Nat.{ℕ, suc, ◌<◌}
use mathlib.Core.Path.{◌≡◌, refl, sym, ap, ap₂, subst, ◌∙◌}
use mathlib.Core.Bool.{Bool, true, false, not, true≢false}
use mathlib.Core.List.{List, [], ◌∷◌, map}
use lib.Dec.{eqb, leb}
use lib.ListN.{length}
use native.Mathlib.Nat.{lt_irrefl, suc-ne-zero}
use native.Mathlib.Omega.{arith}
use borrow.Author.Tests.{eqb-true, eq-eqb, ne_eqb}
use Rattle.model.specs.Limits.{keys, number_range}
use Rattle.model.specs.Lists.{◌and◌, ◌or◌, any, member, insert, ascending}
use Rattle.model.specs.KeySets.{key_set, set_number}
use Rattle.model.proofs.Tests.{same_test}
use Rattle.model.proofs.ListLaws.{member-yes, member-no, member-cons}
use Rattle.model.proofs.InsertLaws.{insert-rule, insert-ascending, insert-member, insert-length-member}
use Rattle.model.proofs.KeySetLaws.{number-below, number-set, set-number, set-ascends, set-none}
use Rattle.shoplog.specs.Verdicts.{once, one_too_many}
use Rattle.logtable.specs.Tables.{with_key}
use Rattle.logtable.specs.Findings.{full_for}
use Rattle.logtable.specs.Holds.{KeysHeld}
use Rattle.shoplog.proofs.OnceLaws.{once-again, once-new, once-none}

-- ── a key put into a set ──
map_same : (ks : List ℕ) → map (λ (x : ℕ). x) ks ≡ ks
map_same [] = refl
map_same (k ∷ ks) = ap (λ (x : List ℕ). k ∷ x) (map_same ks)

-- a key that is not there makes the list longer
insert-new : (k : ℕ) (ks : List ℕ) → member k ks ≡ false → length (insert (λ (x : ℕ). x) k ks) ≡ suc (length ks)
unfolding insert
insert-new k [] h = refl
insert-new k (j ∷ ks) h = insert-rule (λ (x : ℕ). x) k (λ l. length l ≡ suc (suc (length ks))) j ks
    (λ o. ap suc (insert-new k ks (sym (member-no k j ks (ne_eqb k j (λ e. lt_irrefl j (omega (arith, e, o))))) ∙ h)))
    (λ e. absurd (true≢false (sym (member-yes k j ks (eq-eqb k j e)) ∙ h)))
    (λ o. refl)

module _ (n k : ℕ) (o : k < 64) where
  inserted-ascends : ascending 0 keys (insert (λ (x : ℕ). x) k (key_set n)) ≡ true
  inserted-ascends =
      subst (λ (x : List ℕ). ascending 0 keys x ≡ true) (map_same _)
      (insert-ascending (λ (x : ℕ). x) k 0 keys (key_set n) (subst (λ (x : List ℕ). ascending 0 keys x ≡ true) (sym (map_same (key_set n))) (set-ascends n)) (omega arith) o)

  with-key-set : key_set (with_key n k) ≡ insert (λ (x : ℕ). x) k (key_set n)
  unfolding with_key
  with-key-set = number-set (insert (λ (x : ℕ). x) k (key_set n)) inserted-ascends

  with-key-fits : with_key n k < number_range
  unfolding with_key
  with-key-fits = number-below 64 (insert (λ (x : ℕ). x) k (key_set n)) inserted-ascends

  with-key-has : (j : ℕ) → member j (key_set (with_key n k)) ≡ (eqb j k or member j (key_set n))
  with-key-has j =
      ap (member j) (with-key-set ∙ sym (map_same _))
      ∙ (insert-member (λ (x : ℕ). x) k j (key_set n) ∙ ap (λ (x : List ℕ). eqb j k or member j x) (map_same (key_set n)))

  pub with-key-new : member k (key_set n) ≡ false → length (key_set (with_key n k)) ≡ suc (length (key_set n))
  with-key-new h = ap length with-key-set ∙ insert-new k (key_set n) h

  with-key-again : member k (key_set n) ≡ true → length (key_set (with_key n k)) ≡ length (key_set n)
  with-key-again h =
      ap length with-key-set
      ∙ insert-length-member (λ (x : ℕ). x) k 0 keys (key_set n) (subst (λ (x : List ℕ). ascending 0 keys x ≡ true) (sym (map_same (key_set n))) (set-ascends n))
      (subst (λ (x : List ℕ). member k x ≡ true) (sym (map_same (key_set n))) h)

-- ── the keys of a list ──
pub keys_none : KeysHeld 0 []
unfolding once member any
keys_none = record { has = λ k o. ap (member k) set-none; size = ap length set-none; fits = omega arith }

pub keys-more : (n k : ℕ) (ks : List ℕ) → k < 64 → KeysHeld n ks → KeysHeld (with_key n k) (k ∷ ks)
keys-more n k ks o h = record {
  has = λ j q. with-key-has n k o j ∙ (ap (λ (b : Bool). eqb j k or b) (h.has j q) ∙ sym (member-cons j k ks));
  size = go (member k ks) refl;
  fits = with-key-fits n k o;
}
  where
    go : (b : Bool) → member k ks ≡ b → length (key_set (with_key n k)) ≡ length (once (k ∷ ks))
    go true e = with-key-again n k o (h.has k o ∙ e) ∙ (h.size ∙ sym (once-again k ks e))
    go false e = with-key-new n k o (h.has k o ∙ e) ∙ (ap suc h.size ∙ sym (once-new k ks e))

pub keys-again : (n k : ℕ) (ks : List ℕ) → member k ks ≡ true → KeysHeld n ks → KeysHeld n (k ∷ ks)
keys-again n k ks m h = record {
  has = λ j q. h.has j q ∙ sym (go j (eqb j k) refl);
  size = h.size ∙ sym (once-again k ks m);
  fits = h.fits;
}
  where
    go : (j : ℕ) (b : Bool) → eqb j k ≡ b → member j (k ∷ ks) ≡ member j ks
    go j true e = member-yes j k ks e ∙ sym (ap (λ (i : ℕ). member i ks) (eqb-true j k e) ∙ m)
    go j false e = member-no j k ks e

-- a set is full for a key as its list is
pub full-same : (most n k : ℕ) (ks : List ℕ) → k < 64 → KeysHeld n ks → full_for most n k ≡ one_too_many most k ks
unfolding full_for one_too_many
full-same most n k ks o h = ap₂ (λ (b : Bool) (x : ℕ). not b and leb most x) (h.has k o) h.size

-- no key: the number is 0
pub keys-empty : (n : ℕ) (ks : List ℕ) → KeysHeld n ks → eqb n 0 ≡ eqb (length ks) 0
unfolding once set_number
keys-empty n ks h = same_test _ _ there back
  where
    nil : (ks : List ℕ) → length ks ≡ 0 → ks ≡ []
    nil [] e = refl
    nil (k ∷ ks) e = absurd (suc-ne-zero _ e)

    there : eqb n 0 ≡ true → eqb (length ks) 0 ≡ true
    there e = eq-eqb _ 0 (ap length (once-none ks (sym h.size ∙ ap length (ap key_set (eqb-true n 0 e) ∙ set-none))))

    back : eqb (length ks) 0 ≡ true → eqb n 0 ≡ true
    back e =
        let k : length (key_set n) ≡ 0 = h.size ∙ ap (λ (x : List ℕ). length (once x)) (nil ks (eqb-true _ 0 e)) in
        eq-eqb n 0 (sym (set-number n h.fits) ∙ ap set_number (nil (key_set n) k))
