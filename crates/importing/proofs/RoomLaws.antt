-- The room fills from the top, a slot at a time; of zeros it then is the store that the transactions fill.
use Prim.Native.Nat.{ℕ, zero, suc, ◌+◌, ◌*◌, ◌-◌, ◌≤◌, min}
use mathlib.Core.Path.{◌≡◌, sym, ap, ap₂, ◌∙◌}
use mathlib.Core.List.{List, [], ◌∷◌, ◌++◌, append_assoc, append-nil}
use lib.ListN.{length, take, drop, replicate, length-append, length-replicate}
use lib.Seq.{take-take, take-append-le, drop-append-le, drop_at, length-take-le}
use native.Mathlib.Omega.{arith}
use borrow.Rule.Slice.PartMut.{put_mid, Post-is}
use Rattle.model.specs.Kinds.{narrow_kind, slot_size, store_size}
use Rattle.resp.specs.Streams.{Transaction}
use Rattle.resp.specs.Imports.{slot_of, slots_down, filled}
use Rattle.importing.specs.Passes.{room_size}

-- one more goes below the others
slots-more : (xs : List Transaction) (x : Transaction) → slots_down (xs ++ (x ∷ [])) ≡ slot_of x ++ slots_down xs
unfolding slots_down
slots-more [] x = sym (append-nil (slot_of x))
slots-more (y ∷ xs) x = ap (λ (l : List ℕ). l ++ slot_of y) (slots-more xs x) ∙ append_assoc (slot_of x) (slots_down xs) (slot_of y)

-- the room w has xs in its last slots, and is as it was up to `e`; from `a` on the slot below them is written
pub room-more : (w₀ w y : List ℕ) (xs : List Transaction) (x : Transaction) (a e : ℕ) → a ≤ e → e ≤ length w₀ → w ≡ take e w₀ ++ slots_down xs → y ≡ slot_of x
    → put_mid a (e - a) w y ≡ take a w₀ ++ slots_down (xs ++ (x ∷ []))
room-more w₀ w y xs x a e h l q r =
    let long : length (take e w₀) ≡ e = length-take-le e w₀ l in
    ap₂ (λ (p t : List ℕ). p ++ (y ++ t))
    (ap (take a) q ∙ take-append-le a (take e w₀) (slots_down xs) (omega (arith, long)) ∙ take-take a e w₀ h)
    (Post-is a e w h ∙ ap (drop e) q ∙ drop_at (take e w₀) (slots_down xs) e long)
    ∙ ap (λ (l : List ℕ). take a w₀ ++ l) (ap (λ (l : List ℕ). l ++ slots_down xs) r ∙ sym (slots-more xs x))

-- ── of zeros ──
abbrev zeros : ℕ → List ℕ
zeros n = replicate n 0

take-zeros : (n m : ℕ) → take n (zeros m) ≡ zeros (min n m)
take-zeros zero m = let e : 0 ≡ min 0 m = omega arith in ap zeros e
take-zeros (suc n) zero = let e : 0 ≡ min (suc n) 0 = omega arith in ap zeros e
take-zeros (suc n) (suc m) = let e : suc (min n m) ≡ min (suc n) (suc m) = omega arith in ap (λ (l : List ℕ). 0 ∷ l) (take-zeros n m) ∙ ap zeros e

drop-zeros : (n m : ℕ) → drop n (zeros m) ≡ zeros (m - n)
drop-zeros zero m = let e : m ≡ m - 0 = omega arith in ap zeros e
drop-zeros (suc n) zero = let e : 0 ≡ 0 - suc n = omega arith in ap zeros e
drop-zeros (suc n) (suc m) = let e : m - n ≡ suc m - suc n = omega arith in drop-zeros n m ∙ ap zeros e

-- without the lowest slot
pub room-filled : (w : List ℕ) (xs : List Transaction) (n : ℕ) → n ≤ narrow_kind.slots → length w ≡ room_size
    → w ≡ take (slot_size narrow_kind * (narrow_kind.slots + 1 - n)) (replicate room_size 0) ++ slots_down xs → drop (slot_size narrow_kind) w ≡ filled xs
unfolding filled
room-filled w xs n h l q =
    let e : ℕ = slot_size narrow_kind * (narrow_kind.slots + 1 - n) in
    let front = take-zeros e room_size in
    let long : length (take e (zeros room_size)) ≡ e = ap length front ∙ length-replicate (min e room_size) 0 ∙ omega arith in
    let all : e + length (slots_down xs) ≡ room_size = omega (arith, sym (ap length q) ∙ l, length-append (take e (zeros room_size)) (slots_down xs), long) in
    let k : min e room_size - slot_size narrow_kind ≡ store_size narrow_kind - length (slots_down xs) = omega (arith, all) in
    ap (drop (slot_size narrow_kind)) q
    ∙ drop-append-le (slot_size narrow_kind) (take e (zeros room_size)) (slots_down xs) (omega (arith, long))
    ∙ ap (λ (l : List ℕ). l ++ slots_down xs) (ap (drop (slot_size narrow_kind)) front ∙ drop-zeros (slot_size narrow_kind) (min e room_size) ∙ ap zeros k)
