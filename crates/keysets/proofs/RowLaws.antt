-- Keys taken one after another from a set, and stored in a row of bytes.
use Prim.Native.Nat.{ℕ, zero, suc, ◌+◌, ◌-◌, ◌≤◌, ◌<◌}
use mathlib.Core.Path.{◌≡◌, refl, sym, ap, ◌∙◌}
use mathlib.Core.List.{List, [], ◌∷◌}
use lib.ListN.{length, get_or, drop, set, replicate}
use lib.Seq.{drop-cons}
use native.Mathlib.Nat.{not-suc-le-zero, suc-ne-zero}
use native.Mathlib.Numerals.{add-one}
use native.Mathlib.Omega.{arith}
use Rattle.model.specs.Lists.{padded}
use Rattle.model.specs.Limits.{keys_size}
use Rattle.model.specs.KeySets.{key_set}
use Rattle.model.proofs.KeySetLaws.{set-none}
use Rattle.keysets.specs.Parts.{IsLowest, IsRest}

-- the row with these keys stored from n on
unfoldable pub stored : List ℕ → ℕ → List ℕ → List ℕ
stored out n [] = out
stored out n (k ∷ ks) = stored (set out n k) (suc n) ks

stored-later : (x : ℕ) (out : List ℕ) (n : ℕ) (ks : List ℕ) → stored (x ∷ out) (suc n) ks ≡ x ∷ stored out n ks
unfolding stored
stored-later x out n [] = refl
stored-later x out n (k ∷ ks) = stored-later x (set out n k) (suc n) ks

stored-padded : (m : ℕ) (ks : List ℕ) → length ks ≤ m → stored (replicate m 0) 0 ks ≡ padded 0 m ks
unfolding stored padded
stored-padded m [] h = let e : m - 0 ≡ m = omega arith in rw e
stored-padded zero (k ∷ ks) h = absurd (not-suc-le-zero h)
stored-padded (suc m) (k ∷ ks) h =
    let e : suc m - suc (length ks) ≡ m - length ks = omega arith in
    stored-later k (replicate m 0) 0 ks ∙ (ap (λ (x : List ℕ). k ∷ x) (stored-padded m ks (omega arith)) ∙ rw e)

-- the loop: storing the keys that are left makes the whole, and they fit
pub record Storing (whole out left : List ℕ) (n : ℕ) : Type 0 where
  pub fits : n + length left ≤ keys_size
  pub makes : stored out n left ≡ padded 0 keys_size whole

pub storing-starts : (ks : List ℕ) → length ks ≤ keys_size → Storing ks (replicate keys_size 0) ks 0
storing-starts ks h = record { fits = omega (arith, h); makes = stored-padded keys_size ks h }

pub storing-next : (whole out left : List ℕ) (n k : ℕ) → Storing whole out (k ∷ left) n → Storing whole (set out n k) left (n + 1)
unfolding stored
storing-next whole out left n k s = record {
  fits = omega (arith, s.fits);
  makes = ap (λ (m : ℕ). stored (set out n k) m left) (add-one n) ∙ s.makes;
}

pub storing-ends : (whole out left : List ℕ) (n : ℕ) → Storing whole out left n → left ≡ [] → out ≡ padded 0 keys_size whole
unfolding stored
storing-ends whole out left n s e = sym (ap (stored out n) e) ∙ s.makes

-- the rest of a set: its keys from the ith on
module _ (ks : List ℕ) (rest i : ℕ) (left : key_set rest ≡ drop i ks) (o : i < length ks) where
  begins : key_set rest ≡ get_or ks i 0 ∷ drop (suc i) ks
  begins = left ∙ drop-cons ks i 0 o

  pub rest_some : 0 < rest
  rest_some = go rest refl
    where
      go : (n : ℕ) → rest ≡ n → 0 < rest
      go zero e = absurd (suc-ne-zero _ (ap length (sym (sym set-none ∙ (ap key_set (sym e) ∙ begins)))))
      go (suc n) e = omega (arith, e)

  pub rest-next : (rest' : ℕ) → IsRest rest rest' → key_set rest' ≡ drop (i + 1) ks
  rest-next rest' (p, (j, f)) = ap (drop 1) (sym f ∙ begins) ∙ ap (λ (n : ℕ). drop n ks) (sym (add-one i))

  pub rest-lowest : (k : ℕ) → IsLowest rest k → k ≡ get_or ks i 0
  rest-lowest k (p, (js, e)) = ap (λ (x : List ℕ). get_or x 0 0) (sym e ∙ begins)
