-- A set's keys written from the lowest on, a comma after each.
use Prim.Native.Nat.{ℕ, ◌+◌, ◌*◌, ◌-◌, ◌<◌, ◌≤◌}
use mathlib.Core.Path.{◌≡◌, refl, sym, ap, subst, ◌∙◌}
use mathlib.Core.List.{List, [], ◌∷◌, ◌++◌, append_assoc}
use lib.ListN.{length, take, length-append}
use native.Mathlib.Nat.{not-suc-le-zero}
use native.Mathlib.Omega.{arith}
use Rattle.model.specs.Lists.{ascending}
use Rattle.model.specs.Limits.{keys}
use Rattle.model.specs.KeySets.{key_set}
use Rattle.model.proofs.InsertLaws.{ascending-head}
use Rattle.model.proofs.KeySetLaws.{set-ascends}
use Rattle.decimal.specs.Digits.{digits}
use Rattle.decimal.proofs.WrittenLaws.{Field, wrote-field}
use Rattle.resp.specs.Streams.{keys_after, keys_text}
use Rattle.resp.proofs.LengthLaws.{key-digits}
use Rattle.resp.proofs.WrittenLaws.{wrote-front, Writing, writing-next, writing-ends}

-- the first key of a set
pub first-low : (set k : ℕ) (ks : List ℕ) → key_set set ≡ k ∷ ks → k < keys
first-low set k ks e = (ascending-head 0 keys k ks (sym (ap (ascending 0 keys) e) ∙ set-ascends set)).1

-- ── as the loop writes them ──
unfoldable pub keys_listed : List ℕ → List ℕ
keys_listed [] = []
keys_listed (k ∷ ks) = (digits k ++ (44 ∷ [])) ++ keys_listed ks

after-listed : (ks : List ℕ) → keys_after ks ++ (44 ∷ []) ≡ 44 ∷ keys_listed ks
unfolding keys_after keys_listed
after-listed [] = refl
after-listed (k ∷ ks) = ap (λ (x : List ℕ). 44 ∷ x) (
    append_assoc (digits k) (keys_after ks) (44 ∷ [])
    ∙ ap (λ (x : List ℕ). digits k ++ x) (after-listed ks)
    ∙ sym (append_assoc (digits k) (44 ∷ []) (keys_listed ks))
    )

-- the text, and the comma after its last key
listed-text : (ks : List ℕ) → 1 ≤ length ks → keys_listed ks ≡ keys_text ks ++ (44 ∷ [])
unfolding keys_text keys_listed
listed-text [] h = absurd (not-suc-le-zero h)
listed-text (k ∷ ks) h = append_assoc (digits k) (44 ∷ []) (keys_listed ks) ∙ sym (append_assoc (digits k) (keys_after ks) (44 ∷ []) ∙ ap (λ (x : List ℕ). digits k ++ x) (after-listed ks))

-- ── the loop: each key takes at most three bytes ──
pub record Listing (s whole t left : List ℕ) (at : ℕ) : Type 0 where
  pub writing : Writing s 0 (keys_listed whole) t at (keys_listed left)
  pub room : at + 3 * length left ≤ 24

module _ {s whole t left : List ℕ} {at : ℕ} (o : 64 ≤ length s) (h : Listing s whole t left at) where
  -- a key more
  module _ {k : ℕ} {ks : List ℕ} (e : left ≡ k ∷ ks) where
    pub listing-next : (u : List ℕ) (till : ℕ) → k < keys → Field t u at till 21 (digits k) 44 → Listing s whole u ks till
    unfolding keys_listed
    listing-next u till low f =
        let w : Writing s 0 (keys_listed whole) t at ((digits k ++ (44 ∷ [])) ++ keys_listed ks) = subst (λ (l : List ℕ). Writing s 0 (keys_listed whole) t at (keys_listed l)) e h.writing in
        let inside : till ≤ length s = omega (arith, h.room, ap length e, f.1) in
        record {
          writing = writing-next s 0 (keys_listed whole) t at (digits k ++ (44 ∷ [])) (keys_listed ks) u till w (wrote-field t u at till 21 (digits k) 44 f) inside;
          room = omega (arith, h.room, ap length e, f.0, key-digits k low);
        }

  module _ (l : 1 ≤ length whole) (e : left ≡ []) where
    pub listing-ends : (at - 1 ≡ length (keys_text whole)) × (at - 1 ≤ 31) × (take (at - 1) t ≡ keys_text whole) × (length t ≡ length s)
    unfolding keys_listed
    listing-ends =
        let w : Writing s 0 (keys_listed whole) t at [] = subst (λ (ks : List ℕ). Writing s 0 (keys_listed whole) t at (keys_listed ks)) e h.writing in
        let d = writing-ends s 0 (keys_listed whole) t at w in
        let q = wrote-front s t at (keys_text whole) 44 (rw (listed-text whole l) at d) (omega (arith, h.room)) in
        (q.0, omega (arith, h.room), q.1, h.writing.long)

    -- some key has been written
    pub listing-some : 1 ≤ at
    unfolding keys_listed
    listing-some = omega (arith, h.writing.ends, ap length (ap keys_listed e), ap length (listed-text whole l), length-append (keys_text whole) (44 ∷ []))
