-- Bytes written over others.
use Prim.Native.Nat.{ℕ, suc, ◌+◌, ◌<◌, ◌≤◌, zero-le}
use mathlib.Core.Path.{◌≡◌, sym, ap, ap₂, ◌∙◌}
use mathlib.Core.List.{List, [], ◌∷◌, ◌++◌, append_assoc}
use lib.ListN.{length, take, drop, set, length-append, length-take, length-drop}
use lib.Seq.{take-length, take-append_seam, drop-drop, paste, take_at, drop_at, set_split, take-set-le}
use native.Mathlib.Omega.{arith}
use native.Mathlib.Numerals.{add-one}
use Rattle.decimal.specs.Written.{written}

pub written-length : (s : List ℕ) (at : ℕ) (w : List ℕ) → at + length w ≤ length s → length (written s at w) ≡ length s
unfolding written
written-length s at w h = simp (length-append, length-take, length-drop) (omega arith)

pub written-taken : (s : List ℕ) (w : List ℕ) → take (length w) (written s 0 w) ≡ w
unfolding written
written-taken s w = take-append_seam w (drop (0 + length w) s)

pub written-dropped : (s : List ℕ) (at : ℕ) (w : List ℕ) → at ≤ length s → drop (at + length w) (written s at w) ≡ drop (at + length w) s
unfolding written
written-dropped s at w h = ap (drop (at + length w)) (sym (append_assoc (take at s) w (drop (at + length w) s)))
    ∙ drop_at (take at s ++ w) (drop (at + length w) s) (at + length w) (simp (length-append, length-take) (omega arith))

-- a list written after another
pub written-more : (s : List ℕ) (at : ℕ) (v w : List ℕ) → at + length v ≤ length s → written (written s at v) (at + length v) w ≡ written s at (v ++ w)
unfolding written
written-more s at v w h =
    let l : length (take at s ++ v) ≡ at + length v = simp (length-append, length-take) (omega arith) in
    let k : at + length v + length w ≡ at + length (v ++ w) = simp length-append (omega arith) in
    let t : take (at + length v) (take at s ++ (v ++ drop (at + length v) s)) ≡ take at s ++ v =
    ap (take (at + length v)) (sym (append_assoc (take at s) v (drop (at + length v) s))) ∙ take_at (take at s ++ v) (drop (at + length v) s) (at + length v) l in
    let d : drop (at + length v + length w) (take at s ++ (v ++ drop (at + length v) s)) ≡ drop (at + length (v ++ w)) s =
    sym (drop-drop (length w) (at + length v) _) ∙ ap (drop (length w)) (written-dropped s at v (omega arith)) ∙ drop-drop (length w) (at + length v) s ∙ ap (λ (i : ℕ). drop i s) k in
    ap₂ (λ (a b : List ℕ). a ++ (w ++ b)) t d ∙ (simp append_assoc)

-- a copy come to its end
pub pasted-all : (s : List ℕ) (at : ℕ) (w : List ℕ) (i : ℕ) → i ≡ length w → paste s at w i ≡ written s at w
unfolding written
pasted-all s at w i e = rw (e, take-length w) (append_assoc (take at s) w (drop (at + length w) s))

-- from the last byte to the first: one byte stored, and then those before it
pub written_last : (s : List ℕ) (base at a : ℕ) (w : List ℕ) → at ≡ base + length w → at < length s → written (set s at a) base w ≡ written s base (w ++ (a ∷ []))
unfolding written
written_last s base at a w e o =
    let l : base + length (w ++ (a ∷ [])) ≡ suc at = simp length-append (omega arith) in
    let d : drop (base + length w) (set s at a) ≡ a ∷ drop (base + length (w ++ (a ∷ []))) s =
    ap₂ drop (sym e) (set_split s at a o) ∙ drop_at (take at s) (a ∷ drop (suc at) s) at (simp length-take (omega arith)) ∙ ap (λ (n : ℕ). a ∷ drop n s) (sym l) in
    ap₂ (λ (x y : List ℕ). x ++ (w ++ y)) (take-set-le base s at a (omega arith)) d ∙ ap (λ (y : List ℕ). take base s ++ y) (sym (append_assoc w (a ∷ []) _))

-- one byte alone, and one after those written
pub written_one : (s : List ℕ) (at a : ℕ) → at < length s → set s at a ≡ written s at (a ∷ [])
unfolding written
written_one s at a o = set_split s at a o ∙ ap (λ (n : ℕ). take at s ++ (a ∷ drop n s)) (sym (add-one at))

pub written_then : (s : List ℕ) (base at a : ℕ) (w : List ℕ) → at ≡ base + length w → at < length s → set (written s base w) at a ≡ written s base (w ++ (a ∷ []))
written_then s base at a w e o =
    let l : length (written s base w) ≡ length s = written-length s base w (omega arith) in
    written_one (written s base w) at a (omega arith) ∙ ap (λ (n : ℕ). written (written s base w) n (a ∷ [])) e ∙ written-more s base w (a ∷ []) (omega arith)

-- w was written over s from a place up to another
pub record Wrote (s t : List ℕ) (base till : ℕ) (w : List ℕ) : Type 0 where
  pub till-is : till ≡ base + length w
  pub now-is : t ≡ written s base w

wrote-length : (s t : List ℕ) (at to : ℕ) (w : List ℕ) → Wrote s t at to w → to ≤ length s → length t ≡ length s
wrote-length s t at to w h o = ap length h.now-is ∙ written-length s at w (omega (arith, h.till-is))

pub wrote-more : (s t u : List ℕ) (at to end : ℕ) (v w : List ℕ) → Wrote s t at to v → Wrote t u to end w → to ≤ length s → Wrote s u at end (v ++ w)
wrote-more s t u at to end v w h k o =
    record {
      till-is = simp length-append (omega (arith, h.till-is, k.till-is));
      now-is = k.now-is ∙ ap₂ (λ (x : List ℕ) (n : ℕ). written x n w) h.now-is h.till-is ∙ written-more s at v w (omega (arith, h.till-is));
    }

-- all of a lent slice but its first n bytes is as it was
pub wrote-all : (s t : List ℕ) (n : ℕ) (w : List ℕ) → Wrote s t 0 n w → n ≤ length s → (take n t ≡ w) × (drop n t ≡ drop n s) × (length t ≡ length s)
wrote-all s t n w h o =
    let e : length w ≡ n = omega (arith, h.till-is) in (
      ap₂ take (sym e) h.now-is ∙ written-taken s w,
      ap₂ (λ (k : ℕ) (x : List ℕ). drop k x) h.till-is h.now-is ∙ written-dropped s 0 w zero-le ∙ ap (λ (k : ℕ). drop k s) (sym h.till-is),
      wrote-length s t 0 n w h o,
    )

-- what a call that writes a field and one byte after it ensures
abbrev pub Field : List ℕ → List ℕ → ℕ → ℕ → ℕ → List ℕ → ℕ → Type 0
Field s t base till most ds end = (till ≡ base + length ds + 1) × (till ≤ base + most) × (t ≡ written s base (ds ++ (end ∷ [])))

pub wrote-field : (s t : List ℕ) (base till most : ℕ) (ds : List ℕ) (end : ℕ) → Field s t base till most ds end → Wrote s t base till (ds ++ (end ∷ []))
wrote-field s t base till most ds end h = record { till-is = simp length-append (omega (arith, h.0)); now-is = h.2 }
