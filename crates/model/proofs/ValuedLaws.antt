-- Laws of keys with their values (specs/Listed): how many there are, their keys, their values, and back.
use Prim.Native.Nat.{ℕ, zero, suc, max, ◌≤◌}
use mathlib.Core.Path.{◌≡◌, refl, sym, ap, ap₂, ◌∙◌}
use mathlib.Core.List.{List, [], ◌∷◌, map}
use lib.ListN.{length, take, drop, get_or, length-map}
use lib.Seq.{take_all}
use native.Mathlib.Nat.{suc-ne-zero}
use native.Mathlib.Omega.{arith}
use Rattle.model.specs.Types.{Write}
use Rattle.model.specs.Lives.{no_write, write_key, write_value}
use Rattle.model.specs.Listed.{valued}
use Rattle.model.specs.Ranges.{Every}

pub valued-length : (ks vs : List ℕ) → length (valued ks vs) ≡ max (length ks) (length vs)
unfolding valued
valued-length [] [] = refl
valued-length [] (v ∷ vs) = omega (arith, valued-length [] vs)
valued-length (k ∷ ks) [] = omega (arith, valued-length ks [])
valued-length (k ∷ ks) (v ∷ vs) = omega (arith, valued-length ks vs)

-- the first of them have the keys
pub valued-keys : (ks vs : List ℕ) → map write_key (take (length ks) (valued ks vs)) ≡ ks
unfolding valued
valued-keys [] [] = refl
valued-keys [] (v ∷ vs) = refl
valued-keys (k ∷ ks) [] = ap (λ (xs : List ℕ). k ∷ xs) (valued-keys ks [])
valued-keys (k ∷ ks) (v ∷ vs) = ap (λ (xs : List ℕ). k ∷ xs) (valued-keys ks vs)

pub valued-unkeyed : (ks vs : List ℕ) → Every (λ (w : Write). w.key ≡ 0) (drop (length ks) (valued ks vs))
unfolding valued
valued-unkeyed [] [] = tt
valued-unkeyed [] (v ∷ vs) = (refl, valued-unkeyed [] vs)
valued-unkeyed (k ∷ ks) [] = valued-unkeyed ks []
valued-unkeyed (k ∷ ks) (v ∷ vs) = valued-unkeyed ks vs

-- and the values
pub valued-values : (ks vs : List ℕ) → take (length vs) (map write_value (valued ks vs)) ≡ vs
unfolding valued
valued-values [] [] = refl
valued-values [] (v ∷ vs) = ap (λ (xs : List ℕ). v ∷ xs) (valued-values [] vs)
valued-values (k ∷ ks) [] = refl
valued-values (k ∷ ks) (v ∷ vs) = ap (λ (xs : List ℕ). v ∷ xs) (valued-values ks vs)

pub valued-unvalued : (ks vs : List ℕ) → Every (λ (w : Write). w.value ≡ 0) (drop (length vs) (valued ks vs))
unfolding valued
valued-unvalued [] [] = tt
valued-unvalued [] (v ∷ vs) = valued-unvalued [] vs
valued-unvalued (k ∷ ks) [] = (refl, valued-unvalued ks [])
valued-unvalued (k ∷ ks) (v ∷ vs) = valued-unvalued ks vs

module _ (P : ℕ → Type 0) (z : P 0) where
  pub valued-every : (ks vs : List ℕ) → Every P vs → Every (λ (w : Write). P w.value) (valued ks vs)
  unfolding valued
  valued-every [] [] h = tt
  valued-every [] (v ∷ vs) h = (h.0, valued-every [] vs h.1)
  valued-every (k ∷ ks) [] h = (z, valued-every ks [] h)
  valued-every (k ∷ ks) (v ∷ vs) h = (h.0, valued-every ks vs h.1)

-- one of them
pub valued-value : (ks vs : List ℕ) (i : ℕ) → (get_or (valued ks vs) i no_write).value ≡ get_or vs i 0
unfolding valued
valued-value [] [] i = refl
valued-value [] (v ∷ vs) zero = refl
valued-value [] (v ∷ vs) (suc i) = valued-value [] vs i
valued-value (k ∷ ks) [] zero = refl
valued-value (k ∷ ks) [] (suc i) = valued-value ks [] i
valued-value (k ∷ ks) (v ∷ vs) zero = refl
valued-value (k ∷ ks) (v ∷ vs) (suc i) = valued-value ks vs i

pub valued-key : (ks vs : List ℕ) (i : ℕ) → (get_or (valued ks vs) i no_write).key ≡ get_or ks i 0
unfolding valued
valued-key [] [] i = refl
valued-key [] (v ∷ vs) zero = refl
valued-key [] (v ∷ vs) (suc i) = valued-key [] vs i
valued-key (k ∷ ks) [] zero = refl
valued-key (k ∷ ks) [] (suc i) = valued-key ks [] i
valued-key (k ∷ ks) (v ∷ vs) zero = refl
valued-key (k ∷ ks) (v ∷ vs) (suc i) = valued-key ks vs i

-- writes of which the first n have keys and the first m values, all of them one or the other, are their keys with their values
pub valued_back : (n m : ℕ) (ws : List Write) → length ws ≡ max m n → Every (λ (w : Write). w.key ≡ 0) (drop n ws) → Every (λ (w : Write). w.value ≡ 0) (drop m ws)
    → valued (map write_key (take n ws)) (take m (map write_value ws)) ≡ ws
unfolding valued
valued_back zero zero [] l hk hv = refl
valued_back zero (suc m) [] l hk hv = refl
valued_back (suc n) zero [] l hk hv = refl
valued_back (suc n) (suc m) [] l hk hv = refl
valued_back zero zero (w ∷ ws) l hk hv = absurd (suc-ne-zero _ l)
valued_back zero (suc m) (w ∷ ws) l hk hv = ap₂ (λ (x : Write) (xs : List Write). x ∷ xs) (λ i. record { key = sym hk.0 i; value = w.value }) (valued_back zero m ws (omega arith) hk.1 hv)
valued_back (suc n) zero (w ∷ ws) l hk hv = ap₂ (λ (x : Write) (xs : List Write). x ∷ xs) (λ i. record { key = w.key; value = sym hv.0 i }) (valued_back n zero ws (omega arith) hk hv.1)
valued_back (suc n) (suc m) (w ∷ ws) l hk hv = ap (λ (xs : List Write). w ∷ xs) (valued_back n m ws (omega arith) hk hv)

-- how many keys it writes
pub valued-count : (ks vs : List ℕ) → length (take (length ks) (valued ks vs)) ≡ length ks
valued-count ks vs = sym (length-map (take (length ks) (valued ks vs)) write_key) ∙ ap length (valued-keys ks vs)

-- all its values, where there are no more keys
pub valued-all : (ks vs : List ℕ) → length ks ≤ length vs → map write_value (valued ks vs) ≡ vs
valued-all ks vs o = sym (take_all (length vs) (map write_value (valued ks vs)) few) ∙ valued-values ks vs
  where
    few : length (map write_value (valued ks vs)) ≤ length vs
    few = omega (arith, length-map (valued ks vs) write_value, valued-length ks vs)
