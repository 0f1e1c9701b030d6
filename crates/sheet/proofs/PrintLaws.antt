-- A line of output, written part by part.
use Prim.Native.Nat.{ℕ, ◌≤◌}
use mathlib.Core.Path.{◌≡◌, ◌∙◌}
use mathlib.Core.List.{List, [], ◌∷◌, ◌++◌, append_assoc}
use lib.ListN.{length, take, drop}
use native.Mathlib.Omega.{arith}
use Rattle.model.specs.declared.Answer.{Answer}
use Rattle.model.specs.Answers.{values_of}
use Rattle.decimal.specs.Digits.{digits}
use Rattle.decimal.proofs.WrittenLaws.{Field, wrote-field, wrote-more, wrote-all}
use Rattle.sheet.specs.Words.{word_of}
use Rattle.sheet.specs.Sheets.{printed}

-- the parts of a line
line-parts : (n : ℕ) (x : Answer) → (digits n ++ (44 ∷ [])) ++ (word_of x ++ (44 ∷ [])) ++ (digits (values_of x).a ++ (44 ∷ [])) ++ (digits (values_of x).b ++ (44 ∷ [])) ++ (digits (values_of x).c ++ (10 ∷ [])) ≡ printed n x
unfolding printed
line-parts n x = simp append_assoc

-- the five fields of a line
pub line-written : (s t₁ t₂ t₃ t₄ t₅ : List ℕ) (p₁ p₂ p₃ p₄ p₅ n : ℕ) (x : Answer) (a b c : ℕ) → 96 ≤ length s
    → (a ≡ (values_of x).a) × (b ≡ (values_of x).b) × (c ≡ (values_of x).c)
    → Field s t₁ 0 p₁ 21 (digits n) 44 → Field t₁ t₂ p₁ p₂ 10 (word_of x) 44
    → Field t₂ t₃ p₂ p₃ 21 (digits a) 44 → Field t₃ t₄ p₃ p₄ 21 (digits b) 44 → Field t₄ t₅ p₄ p₅ 21 (digits c) 10
    → (p₅ ≤ 96) × (take p₅ t₅ ≡ printed n x) × (drop p₅ t₅ ≡ drop p₅ s) × (length t₅ ≡ length s)
line-written s t₁ t₂ t₃ t₄ t₅ p₁ p₂ p₃ p₄ p₅ n x a b c o v h₁ h₂ h₃ h₄ h₅ =
    let w₂ = wrote-more s t₁ t₂ 0 p₁ p₂ _ _ (wrote-field s t₁ 0 p₁ 21 (digits n) 44 h₁) (wrote-field t₁ t₂ p₁ p₂ 10 (word_of x) 44 h₂) (omega arith) in
    let w₃ = wrote-more s t₂ t₃ 0 p₂ p₃ _ _ w₂ (wrote-field t₂ t₃ p₂ p₃ 21 (digits a) 44 h₃) (omega arith) in
    let w₄ = wrote-more s t₃ t₄ 0 p₃ p₄ _ _ w₃ (wrote-field t₃ t₄ p₃ p₄ 21 (digits b) 44 h₄) (omega arith) in
    let w₅ = wrote-more s t₄ t₅ 0 p₄ p₅ _ _ w₄ (wrote-field t₄ t₅ p₄ p₅ 21 (digits c) 10 h₅) (omega arith) in
    let r = wrote-all s t₅ p₅ _ w₅ (omega arith) in
    (omega arith, r.0 ∙ (rw (v.0, v.1, v.2) (line-parts n x)), r.1, r.2)
