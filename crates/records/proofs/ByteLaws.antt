-- Numbers read and written byte by byte, and the parts of a record put together.
use Prim.Native.Nat.{ℕ, zero, suc, ◌+◌, ◌*◌, ◌^◌, ◌<◌, ◌≤◌}
use mathlib.Core.Path.{◌≡◌, refl, sym, ap, subst, ◌∙◌}
use mathlib.Core.List.{List, [], ◌∷◌, ◌++◌, append-nil, append_assoc}
use lib.Dec.{lit<}
use lib.ListN.{length, drop, get_or, set, length-set, length-append, drop_of_length-le}
use lib.Seq.{take_at, drop_at, get_or-append_seam}
use native.Mathlib.Nat.{suc-ne-zero, pow-succ', pow-le-pow_right}
use native.Mathlib.Omega.{arith}
use mir.Val.{Fits}
use mir.Syntax.{w8}
use borrow.Rule.Slice.PartMut.{mid_of, put_mid, mid_len, same_len_mid}
use Rattle.model.specs.declared.Id.{Id}
use Rattle.model.specs.Limits.{record_size, byte_range}
use Rattle.model.specs.Bytes.{bytes, number, head_bytes}
use Rattle.model.proofs.RecordLaws.{length-bytes}

-- ── numbers ──
pub grow : (x b n m : ℕ) → x < byte_range ^ n → b < byte_range → m ≡ suc n → x * byte_range + b < byte_range ^ m
grow x b n m p q e =
    let f : byte_range ^ m ≡ byte_range * byte_range ^ n = ap (λ (k : ℕ). byte_range ^ k) e ∙ pow-succ' byte_range n in
    omega arith

-- the loop: of the bytes s, the rest is to be read, and the sum is the number of those after it
pub record Summed (s rest : List ℕ) (sum : ℕ) : Type 0 where
  pub done : List ℕ
  pub parts : s ≡ rest ++ done
  pub is : sum ≡ number done
  pub low : sum < byte_range ^ length done

pub summed-starts : (s : List ℕ) → Summed s s 0
unfolding number
summed-starts s = record { done = []; parts = sym (append-nil s); is = refl; low = lit< tt }

module _ (s rest rest' : List ℕ) (sum x : ℕ) (h : Summed s rest sum) (e : rest ≡ rest' ++ (x ∷ [])) where
  pub summed-next : x < byte_range → Summed s rest' (sum * byte_range + x)
  unfolding number
  summed-next o = record {
    done = x ∷ h.done;
    parts = h.parts ∙ (ap (λ (l : List ℕ). l ++ h.done) e ∙ append_assoc rest' (x ∷ []) h.done);
    is = ap (λ (n : ℕ). n * byte_range + x) h.is ∙ omega arith;
    low = grow sum x (length h.done) (suc (length h.done)) h.low o refl;
  }

  -- the byte at hand is one of s
  pub summed-byte : ((i : ℕ) → Fits w8 (get_or s i 0)) → x < byte_range
  summed-byte b =
      let i = length rest' in
      let here : get_or s i 0 ≡ x = ap (λ (l : List ℕ). get_or l i 0) (h.parts ∙ (ap (λ (l : List ℕ). l ++ h.done) e ∙ append_assoc rest' (x ∷ []) h.done)) ∙ get_or-append_seam rest' x h.done 0 in
      omega (arith, here, b i)

  pub summed-room : length s ≤ 8 → sum < byte_range ^ 7
  summed-room l =
      let k : length h.done ≤ 7 = omega (arith, l, ap length h.parts, length-append rest h.done, ap length e, length-append rest' (x ∷ [])) in
      let p : byte_range ^ length h.done ≤ byte_range ^ 7 = pow-le-pow_right (lit< tt) {j = 7} k in
      omega (arith, h.low, p)

pub summed-ends : (s rest : List ℕ) (sum : ℕ) → Summed s rest sum → rest ≡ [] → (sum ≡ number s) × (sum < byte_range ^ length s)
summed-ends s rest sum h e =
    let same : h.done ≡ s = ap (λ (l : List ℕ). l ++ h.done) (sym e) ∙ sym h.parts in
    (h.is ∙ ap number same, subst (λ (l : List ℕ). sum < byte_range ^ length l) same h.low)

-- ── a record ──
-- its cells, one by one
abbrev spread : ℕ → List ℕ → List ℕ
spread zero s = []
spread (suc n) s = get_or s 0 0 ∷ spread n (drop 1 s)

spread-all : (n : ℕ) (s : List ℕ) → length s ≡ n → s ≡ spread n s
spread-all zero [] e = refl
spread-all zero (x ∷ xs) e = absurd (suc-ne-zero _ e)
spread-all (suc n) [] e = absurd (suc-ne-zero _ (sym e))
spread-all (suc n) (x ∷ xs) e = ap (λ (l : List ℕ). x ∷ l) (spread-all n xs (omega arith))

-- four bytes stored, and two numbers written after them
abbrev pub four : List ℕ → ℕ → ℕ → List ℕ
four s a b = set (set (set (set s 0 a) 1 b) 2 0) 3 0

module _ (s y₁ y₂ : List ℕ) (a b : ℕ) (i : Id) (h : length s ≡ record_size) (e₁ : y₁ ≡ bytes (length (mid_of 4 4 (four s a b))) i.txn) where
  len₁ : length (four s a b) ≡ record_size
  len₁ = simp length-set h

  is₁ : y₁ ≡ bytes 4 i.txn
  is₁ = e₁ ∙ ap (λ (n : ℕ). bytes n i.txn) (mid_len 4 8 (four s a b) (omega (arith, len₁)))

  pub head-length : length (put_mid 4 4 (four s a b) y₁) ≡ record_size
  head-length = same_len_mid 4 4 (four s a b) y₁ (ap length is₁ ∙ length-bytes 4 i.txn ∙ sym (mid_len 4 8 (four s a b) (omega (arith, len₁)))) ∙ len₁

  pub head-written : y₂ ≡ bytes (length (mid_of 8 8 (put_mid 4 4 (four s a b) y₁))) i.clock → put_mid 8 8 (put_mid 4 4 (four s a b) y₁) y₂ ≡ head_bytes a b i ++ drop 16 s
  unfolding bytes head_bytes
  head-written e₂ =
      let is₂ : y₂ ≡ bytes 8 i.clock = e₂ ∙ ap (λ (n : ℕ). bytes n i.clock) (mid_len 8 16 (put_mid 4 4 (four s a b) y₁) (omega (arith, head-length))) in
      rw (is₂, is₁, spread-all record_size s h)

-- the last k elements replaced
pub put-end : (w p r y z : List ℕ) (n k : ℕ) → w ≡ p ++ r → length p ≡ n → length r ≡ k → y ≡ z → put_mid n k w y ≡ p ++ z
put-end w p r y z n k e h l q =
    let m : length r ≤ k = omega arith in
    rw (e, take_at p r n h, drop_at p r n h, drop_of_length-le r m, append-nil, q)

pub length-head : (a b : ℕ) (i : Id) → length (head_bytes a b i) ≡ 16
unfolding head_bytes bytes
length-head a b i = refl
