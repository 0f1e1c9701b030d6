-- Ids, bulk strings and commands, written part by part.
use Prim.Native.Nat.{ℕ, ◌+◌, ◌-◌, ◌<◌, ◌≤◌}
use mathlib.Core.Path.{◌≡◌, ap₂, subst}
use mathlib.Core.List.{List, [], ◌∷◌, ◌++◌, append_assoc}
use lib.ListN.{length, take, set, length-set}
use native.Mathlib.Omega.{arith}
use Rattle.model.specs.declared.Id.{Id}
use Rattle.model.specs.Limits.{txn_range}
use Rattle.decimal.specs.Digits.{digits}
use Rattle.decimal.proofs.WrittenLaws.{Wrote, Field, wrote-field, wrote-more, wrote-all}
use Rattle.resp.specs.Streams.{line_end, bulk, set_command, id_text}
use Rattle.resp.proofs.LengthLaws.{txn-digits, bulk-long, set-begins}
use Rattle.resp.proofs.WrittenLaws.{Bytes, wrote-bytes, bytes-wrote, wrote-byte, wrote-front, Front}

-- ── an id ──
pub id-written : (s t₁ t₂ : List ℕ) (p₁ p₂ : ℕ) (i : Id) → 48 ≤ length s → i.txn < txn_range
    → Field s t₁ 0 p₁ 21 (digits i.clock) 47 → Field t₁ t₂ p₁ p₂ 21 (digits i.txn) 13
    → (p₂ - 1 ≡ length (id_text i)) × (p₂ - 1 ≤ 31) × (take (p₂ - 1) t₂ ≡ id_text i) × (length t₂ ≡ length s)
unfolding id_text
id-written s t₁ t₂ p₁ p₂ i o r h₁ h₂ =
    let m = wrote-more s t₁ t₂ 0 p₁ p₂ _ _ (wrote-field s t₁ 0 p₁ 21 (digits i.clock) 47 h₁) (wrote-field t₁ t₂ p₁ p₂ 21 (digits i.txn) 13 h₂) (omega arith) in
    let e : (digits i.clock ++ (47 ∷ [])) ++ (digits i.txn ++ (13 ∷ [])) ≡ (digits i.clock ++ (47 ∷ digits i.txn)) ++ (13 ∷ []) = simp append_assoc in
    let n : Wrote s t₂ 0 p₂ ((digits i.clock ++ (47 ∷ digits i.txn)) ++ (13 ∷ [])) = rw e at m in
    let q = wrote-front s t₂ p₂ (digits i.clock ++ (47 ∷ digits i.txn)) 13 n (omega arith) in
    (q.0, omega (arith, h₁.0, h₁.1, h₂.0, txn-digits i.txn r), q.1, (wrote-all s t₂ p₂ _ n (omega arith)).2)

-- ── commands ──
bulk-parts : (w : List ℕ) → ((((36 ∷ []) ++ (digits (length w) ++ (13 ∷ []))) ++ (10 ∷ [])) ++ w) ++ (13 ∷ 10 ∷ []) ≡ bulk w
unfolding bulk line_end
bulk-parts w = simp append_assoc

pub bulk-written : (s t₁ t₂ t₃ : List ℕ) (base feed p₂ p₃ : ℕ) (w : List ℕ) → length w ≤ 64 → base + 90 ≤ length s → length t₁ ≡ length s
    → Field (set s base 36) t₁ (base + 1) feed 21 (digits (length w)) 13 → Bytes (set t₁ feed 10) t₂ (feed + 1) p₂ w → Bytes t₂ t₃ p₂ p₃ (13 ∷ 10 ∷ [])
    → Bytes s t₃ base p₃ (bulk w)
bulk-written s t₁ t₂ t₃ base feed p₂ p₃ w o r l h₁ h₂ h₃ =
    let m₁ = wrote-more s (set s base 36) t₁ base (base + 1) feed _ _ (wrote-byte s base 36 (omega arith)) (wrote-field _ t₁ (base + 1) feed 21 (digits (length w)) 13 h₁) (omega arith) in
    let m₂ = wrote-more s t₁ (set t₁ feed 10) base feed (feed + 1) _ _ m₁ (wrote-byte t₁ feed 10 (omega arith)) (omega arith) in
    let m₃ = wrote-more s (set t₁ feed 10) t₂ base (feed + 1) p₂ _ _ m₂ (wrote-bytes _ t₂ (feed + 1) p₂ w h₂) (omega arith) in
    let m₄ = wrote-more s t₂ t₃ base p₂ p₃ _ _ m₃ (wrote-bytes t₂ t₃ p₂ p₃ _ h₃) (omega arith) in
    bytes-wrote s t₃ base p₃ _ (bulk w) m₄ (bulk-parts w)

set-parts : (name value : List ℕ) → ((42 ∷ 51 ∷ 13 ∷ 10 ∷ 36 ∷ 51 ∷ 13 ∷ 10 ∷ 83 ∷ 69 ∷ 84 ∷ 13 ∷ 10 ∷ []) ++ bulk name) ++ bulk value ≡ set_command name value
unfolding set_command
set-parts name value = rw set-begins

pub set-written : (s t₁ t₂ t₃ : List ℕ) (base p₁ p₂ p₃ : ℕ) (name value : List ℕ) → length name ≤ 64 → base + 256 ≤ length s
    → Bytes s t₁ base p₁ (42 ∷ 51 ∷ 13 ∷ 10 ∷ 36 ∷ 51 ∷ 13 ∷ 10 ∷ 83 ∷ 69 ∷ 84 ∷ 13 ∷ 10 ∷ []) → Bytes t₁ t₂ p₁ p₂ (bulk name) → Bytes t₂ t₃ p₂ p₃ (bulk value)
    → Bytes s t₃ base p₃ (set_command name value)
set-written s t₁ t₂ t₃ base p₁ p₂ p₃ name value o r h₁ h₂ h₃ =
    let m₂ = wrote-more s t₁ t₂ base p₁ p₂ _ _ (wrote-bytes s t₁ base p₁ _ h₁) (wrote-bytes t₁ t₂ p₁ p₂ _ h₂) (omega arith) in
    let m₃ = wrote-more s t₂ t₃ base p₂ p₃ _ _ m₂ (wrote-bytes t₂ t₃ p₂ p₃ _ h₃) (omega (arith, bulk-long name o)) in
    bytes-wrote s t₃ base p₃ _ _ m₃ (set-parts name value)

-- ── a version's name and value ──
-- two bytes of a kind, and what comes after
pub headed : (s : List ℕ) (a b : ℕ) → 2 ≤ length s → Wrote s (set (set s 0 a) 1 b) 0 2 (a ∷ b ∷ [])
headed s a b o =
    let second = wrote-byte (set s 0 a) 1 b (omega (arith, length-set s 0 a)) in
    wrote-more s (set s 0 a) (set (set s 0 a) 1 b) 0 1 2 (a ∷ []) (b ∷ []) (wrote-byte s 0 a (omega arith)) second (omega arith)

pub name-written : (s t₁ t₂ : List ℕ) (a p₁ p₂ k : ℕ) (id : List ℕ) → length s ≡ 64 → length id ≤ 31
    → Field (set (set s 0 a) 1 47) t₁ 2 p₁ 21 (digits k) 47 → Bytes t₁ t₂ p₁ p₂ id → Wrote s t₂ 0 p₂ (a ∷ 47 ∷ digits k ++ (47 ∷ id))
name-written s t₁ t₂ a p₁ p₂ k id o r h₁ h₂ =
    let m₁ = wrote-more s (set (set s 0 a) 1 47) t₁ 0 2 p₁ _ _ (headed s a 47 (omega arith)) (wrote-field _ t₁ 2 p₁ 21 (digits k) 47 h₁) (omega arith) in
    let m₂ = wrote-more s t₁ t₂ 0 p₁ p₂ _ _ m₁ (wrote-bytes t₁ t₂ p₁ p₂ id h₂) (omega arith) in
    let e : (a ∷ 47 ∷ digits k ++ (47 ∷ [])) ++ id ≡ a ∷ 47 ∷ digits k ++ (47 ∷ id) = simp append_assoc in
    subst (λ (w : List ℕ). Wrote s t₂ 0 p₂ w) e m₂

pub commit-name-written : (s t : List ℕ) (a n : ℕ) (id : List ℕ) → length s ≡ 64 → length id ≤ 31 → Bytes (set (set s 0 a) 1 47) t 2 n id → Wrote s t 0 n (a ∷ 47 ∷ id)
commit-name-written s t a n id o r h = wrote-more s (set (set s 0 a) 1 47) t 0 2 n _ _ (headed s a 47 (omega arith)) (wrote-bytes _ t 2 n id h) (omega arith)

-- a command whose name and value are lent
pub command-written : (s t : List ℕ) (base till : ℕ) (name value : List ℕ) (m n : ℕ) (x y : List ℕ) → Front x m name → Front y n value
    → Bytes s t base till (set_command (take m x) (take n y)) → Bytes s t base till (set_command name value)
command-written s t base till name value m n x y e f h = subst (λ (w : List ℕ). Bytes s t base till w) (ap₂ set_command e.is f.is) h
