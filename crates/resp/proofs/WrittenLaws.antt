-- Texts written part by part, and by a loop.
use Prim.Native.Nat.{ℕ, ◌+◌, ◌-◌, ◌<◌, ◌≤◌}
use mathlib.Core.Path.{◌≡◌, refl, sym, ap, ap₂, ◌∙◌}
use mathlib.Core.List.{List, [], ◌∷◌, ◌++◌}
use lib.ListN.{length, take, set, length-append, take-append-drop}
use lib.Seq.{take_at, take-take}
use native.Mathlib.Omega.{arith}
use Rattle.decimal.specs.Written.{written}
use Rattle.decimal.proofs.WrittenLaws.{Wrote, wrote-all, written_one, written-more, written-length}

-- ── one part after another ──
-- what a call that writes bytes ensures
abbrev pub Bytes : List ℕ → List ℕ → ℕ → ℕ → List ℕ → Type 0
Bytes s t base till w = (till ≡ base + length w) × (t ≡ written s base w)

pub wrote-bytes : (s t : List ℕ) (base till : ℕ) (w : List ℕ) → Bytes s t base till w → Wrote s t base till w
wrote-bytes s t base till w h = record { till-is = h.0; now-is = h.1 }

pub bytes-wrote : (s t : List ℕ) (base till : ℕ) (v w : List ℕ) → Wrote s t base till v → v ≡ w → Bytes s t base till w
bytes-wrote s t base till v w h e = (h.till-is ∙ ap (λ (x : List ℕ). base + length x) e, h.now-is ∙ ap (written s base) e)

-- one byte stored
pub wrote-byte : (s : List ℕ) (at a : ℕ) → at < length s → Wrote s (set s at a) at (at + 1) (a ∷ [])
wrote-byte s at a o = record { till-is = omega arith; now-is = written_one s at a o }

-- the front of what was written, without the byte after it
pub wrote-front : (s t : List ℕ) (n : ℕ) (w : List ℕ) (end : ℕ) → Wrote s t 0 n (w ++ (end ∷ [])) → n ≤ length s → (n - 1 ≡ length w) × (take (n - 1) t ≡ w)
wrote-front s t n w end h o =
    let l : n ≡ length w + 1 = omega (arith, h.till-is, length-append w (end ∷ [])) in
    let m : length w ≡ n - 1 = omega arith in
    (omega arith, sym (take-take (n - 1) n t (omega arith)) ∙ ap (take (n - 1)) (wrote-all s t n _ h o).0 ∙ take_at w (end ∷ []) (n - 1) m)

-- a text at the front of an array of 64 bytes, as it is lent
pub record Front (t : List ℕ) (n : ℕ) (w : List ℕ) : Type 0 where
  pub is : take n t ≡ w
  pub long : n ≡ length (take n t)
  pub short : length (take n t) ≤ 64

pub short-front : (t : List ℕ) (n : ℕ) (w : List ℕ) → n ≡ length w → n ≤ 64 → take n t ≡ w → Front t n w
short-front t n w l o e =
    let k : length (take n t) ≡ n = ap length e ∙ sym l in
    record { is = e; long = sym k; short = omega arith }

pub all-front : (s t : List ℕ) (n : ℕ) (w : List ℕ) → length s ≡ 64 → Wrote s t 0 n w → n ≤ 64 → Front t n w
all-front s t n w l h o = short-front t n w (omega (arith, h.till-is)) o (wrote-all s t n w h (omega arith)).0

pub but-last-front : (s t : List ℕ) (n : ℕ) (w : List ℕ) (end : ℕ) → length s ≡ 64 → Wrote s t 0 n (w ++ (end ∷ [])) → n ≤ 64 → Front t (n - 1) w
but-last-front s t n w end l h o = let q = wrote-front s t n w end h (omega arith) in short-front t (n - 1) w q.0 (omega arith) q.1

-- ── a loop that writes: what is left to write makes the whole ──
pub record Writing (s : List ℕ) (base : ℕ) (whole t : List ℕ) (at : ℕ) (left : List ℕ) : Type 0 where
  pub long : length t ≡ length s
  pub ends : at + length left ≡ base + length whole
  pub makes : written t at left ≡ written s base whole

pub writing-starts : (s : List ℕ) (base : ℕ) (whole : List ℕ) → Writing s base whole s base whole
writing-starts s base whole = record { long = refl; ends = refl; makes = refl }

pub writing-next : (s : List ℕ) (base : ℕ) (whole t : List ℕ) (at : ℕ) (v left u : List ℕ) (till : ℕ)
    → Writing s base whole t at (v ++ left) → Wrote t u at till v → till ≤ length s → Writing s base whole u till left
writing-next s base whole t at v left u till h k o =
    let f : at + length v ≤ length t = omega (arith, k.till-is, h.long) in
    record {
      long = ap length k.now-is ∙ written-length t at v f ∙ h.long;
      ends = omega (arith, h.ends, k.till-is, length-append v left);
      makes = ap₂ (λ (x : List ℕ) (n : ℕ). written x n left) k.now-is k.till-is ∙ written-more t at v left f ∙ h.makes;
    }

written_none : (s : List ℕ) (at : ℕ) → written s at [] ≡ s
unfolding written
written_none s at = let e : at + 0 ≡ at = omega arith in rw e (take-append-drop at s)

pub writing-ends : (s : List ℕ) (base : ℕ) (whole t : List ℕ) (at : ℕ) → Writing s base whole t at [] → Wrote s t base at whole
writing-ends s base whole t at h = record { till-is = omega (arith, h.ends); now-is = sym (written_none t at) ∙ h.makes }
