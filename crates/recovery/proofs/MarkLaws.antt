-- Numbers told apart by their lowest byte: an unmarked one stands in no column.
use Prim.Native.Nat.{ℕ, zero, suc, ◌%◌, ◌<◌, ◌≤◌}
use mathlib.Core.Path.{◌≡◌, refl, sym, ap, ◌∙◌}
use mathlib.Core.Bool.{Bool, true, false, true≢false}
use mathlib.Core.List.{List, [], ◌∷◌}
use lib.Dec.{eqb}
use lib.ListN.{length, take, get_or, set, replicate}
use lib.Seq.{get_or-set_same, get_or-set_other, get_or-take}
use native.Mathlib.Decide.{ℕ_discrete}
use native.Mathlib.Omega.{arith}
use Rattle.model.specs.Limits.{entry_places, byte_range}
use Rattle.model.specs.Lists.{first, member}
use Rattle.model.proofs.ListLaws.{get_or-all, member-finds}
use Rattle.recovery.specs.Marks.{Marked}

take_short : (n : ℕ) (l : List ℕ) → length (take n l) ≤ n
take_short zero l = omega arith
take_short (suc n) [] = omega arith
take_short (suc n) (x ∷ xs) = let h = take_short n xs in omega (arith, h)

-- at first only 0's
pub marked-none : Marked (set (replicate byte_range false) 0 true) (replicate entry_places 0)
unfolding Marked
marked-none j = ap (λ (x : ℕ). get_or (set (replicate byte_range false) 0 true) (x % byte_range) false) (get_or-all entry_places j 0)

-- one number more
pub marked_more : (ms : List Bool) (ts : List ℕ) (d t : ℕ) → length ms ≡ byte_range → d < length ts → Marked ms ts → Marked (set ms (t % byte_range) true) (set ts d t)
unfolding Marked
marked_more ms ts d t l o m j = by_place (ℕ_discrete j d)
  where
    b : ℕ
    b = t % byte_range

    same : get_or (set ms b true) b false ≡ true
    same = get_or-set_same ms b true false (omega (arith, l))

    by_byte : (x : ℕ) → get_or ms (x % byte_range) false ≡ true → Dec (x % byte_range ≡ b) → get_or (set ms b true) (x % byte_range) false ≡ true
    by_byte x h (yes e) = ap (λ (y : ℕ). get_or (set ms b true) y false) e ∙ same
    by_byte x h (no n) = get_or-set_other ms b (x % byte_range) true false n ∙ h

    by_place : Dec (j ≡ d) → get_or (set ms b true) (get_or (set ts d t) j 0 % byte_range) false ≡ true
    by_place (yes e) = ap (λ (x : ℕ). get_or (set ms b true) (x % byte_range) false) (ap (λ (i : ℕ). get_or (set ts d t) i 0) e ∙ get_or-set_same ts d t 0 o) ∙ same
    by_place (no n) = ap (λ (x : ℕ). get_or (set ms b true) (x % byte_range) false) (get_or-set_other ts d j t 0 n) ∙ by_byte (get_or ts j 0) (m j) (ℕ_discrete (get_or ts j 0 % byte_range) b)

pub unmarked : (ms : List Bool) (ts : List ℕ) (n t : ℕ) → Marked ms ts → get_or ms (t % byte_range) false ≡ false → member t (take n ts) ≡ false
unfolding Marked
unmarked ms ts n t m h = go (member t (take n ts)) refl
  where
    go : (c : Bool) → member t (take n ts) ≡ c → member t (take n ts) ≡ false
    go false e = e
    go true e =
        let i : ℕ = first (eqb t) (take n ts) in
        let r = member-finds t (take n ts) e in
        let q : get_or ts i 0 ≡ t = sym (get_or-take n ts i 0 (omega (arith, r.0, take_short n ts))) ∙ r.1 in
        absurd (true≢false (sym (m i) ∙ (ap (λ (x : ℕ). get_or ms (x % byte_range) false) q ∙ h)))
