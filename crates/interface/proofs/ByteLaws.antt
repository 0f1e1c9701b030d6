-- The bytes of a request and of an answer.
use Prim.Native.Nat.{ℕ, zero, suc}
use mathlib.Core.Path.{◌≡◌, refl, sym, ap, ◌∙◌}
use mathlib.Core.Logic.{◌≢◌}
use mathlib.Core.Bool.{false}
use mathlib.Core.List.{List, ◌++◌}
use mathlib.Core.Option.{Option, some, none}
use lib.Dec.{eqb}
use lib.ListN.{length, get_or}
use native.Mathlib.Omega.{arith}
use borrow.Author.Tests.{eq-eqb, ne_eqb}
use borrow.Rule.Slice.PartMut.{mid_of, put_mid, same_len_mid}
use Rattle.model.specs.declared.Id.{Id}
use Rattle.model.specs.Lists.{◌and◌}
use Rattle.model.specs.Bytes.{bytes, id_in}
use Rattle.model.specs.Calls.{Sweep}
use Rattle.sheet.specs.Words.{Verb}
use Rattle.sheet.specs.Lines.{if_unused, of_fields}
use Rattle.image.proofs.RowLaws.{spread-all}
use Rattle.image.proofs.PartLaws.{number-written}
use Rattle.interface.specs.Exchange.{answer_size, verb_numbered, sweep_verb, asked, request_call}

-- ── a request ──
pub verb-unknown : (n : ℕ) → n ≢ 1 → n ≢ 2 → n ≢ 3 → n ≢ 4 → n ≢ 5 → n ≢ 6 → n ≢ 7 → n ≢ 8 → none ≡ verb_numbered n
unfolding verb_numbered
verb-unknown zero a b c d e f g h = refl
verb-unknown (suc zero) a b c d e f g h = absurd (a refl)
verb-unknown (suc (suc zero)) a b c d e f g h = absurd (b refl)
verb-unknown (suc (suc (suc zero))) a b c d e f g h = absurd (c refl)
verb-unknown (suc (suc (suc (suc zero)))) a b c d e f g h = absurd (d refl)
verb-unknown (suc (suc (suc (suc (suc zero))))) a b c d e f g h = absurd (e refl)
verb-unknown (suc (suc (suc (suc (suc (suc zero)))))) a b c d e f g h = absurd (f refl)
verb-unknown (suc (suc (suc (suc (suc (suc (suc zero))))))) a b c d e f g h = absurd (g refl)
verb-unknown (suc (suc (suc (suc (suc (suc (suc (suc zero)))))))) a b c d e f g h = absurd (h refl)
verb-unknown (suc (suc (suc (suc (suc (suc (suc (suc (suc n))))))))) a b c d e f g h = refl

module _ (q : List ℕ) where
  pub no_zero : (eqb (get_or q 2 0) 0 and eqb (get_or q 3 0) 0) ≡ false → request_call q ≡ none
  unfolding request_call
  no_zero h = rw h

  module _ (a : get_or q 2 0 ≡ 0) (b : get_or q 3 0 ≡ 0) (i : Id) (e : i ≡ id_in q) where
    both_zero : request_call q ≡ asked (get_or q 0 0) i.txn (get_or q 1 0) i.clock
    unfolding request_call ◌and◌
    both_zero = rw (eq-eqb (get_or q 2 0) 0 a, eq-eqb (get_or q 3 0) 0 b) (ap (λ (j : Id). asked (get_or q 0 0) j.txn (get_or q 1 0) j.clock) (sym e))

    -- a sweep, and a verb of a sheet
    pub asks-sweep : get_or q 0 0 ≡ sweep_verb → if_unused (eqb i.txn 0 and eqb (get_or q 1 0) 0) (Sweep i.clock) ≡ request_call q
    unfolding asked
    asks-sweep f = sym (both_zero ∙ (rw (eq-eqb (get_or q 0 0) sweep_verb f)))

    pub asks-verb : get_or q 0 0 ≢ sweep_verb → (v : Option Verb) → v ≡ verb_numbered (get_or q 0 0) → of_fields v (some i.txn) (some (get_or q 1 0)) (some i.clock) ≡ request_call q
    unfolding asked
    asks-verb f v g = sym (both_zero ∙ ((rw (ne_eqb (get_or q 0 0) sweep_verb f)) ∙ ap (λ (w : Option Verb). of_fields w (some i.txn) (some (get_or q 1 0)) (some i.clock)) (sym g)))

-- ── an answer ──
-- four numbers written one after the other are all that there is
module _ (w y₀ y₁ y₂ y₃ : List ℕ) (k a b c : ℕ) (l : length w ≡ answer_size)
    (k₀ : length y₀ ≡ length (mid_of 0 8 w)) (k₁ : length y₁ ≡ length (mid_of 8 8 (put_mid 0 8 w y₀))) (k₂ : length y₂ ≡ length (mid_of 16 8 (put_mid 8 8 (put_mid 0 8 w y₀) y₁))) where
  l₁ : length (put_mid 0 8 w y₀) ≡ answer_size
  l₁ = same_len_mid 0 8 w y₀ k₀ ∙ l

  l₂ : length (put_mid 8 8 (put_mid 0 8 w y₀) y₁) ≡ answer_size
  l₂ = same_len_mid 8 8 (put_mid 0 8 w y₀) y₁ k₁ ∙ l₁

  pub l₃ : length (put_mid 16 8 (put_mid 8 8 (put_mid 0 8 w y₀) y₁) y₂) ≡ answer_size
  l₃ = same_len_mid 16 8 (put_mid 8 8 (put_mid 0 8 w y₀) y₁) y₂ k₂ ∙ l₂

  pub four-written : y₀ ≡ bytes (length (mid_of 0 8 w)) k → y₁ ≡ bytes (length (mid_of 8 8 (put_mid 0 8 w y₀))) a → y₂ ≡ bytes (length (mid_of 16 8 (put_mid 8 8 (put_mid 0 8 w y₀) y₁))) b
      → y₃ ≡ bytes (length (mid_of 24 8 (put_mid 16 8 (put_mid 8 8 (put_mid 0 8 w y₀) y₁) y₂))) c
      → put_mid 24 8 (put_mid 16 8 (put_mid 8 8 (put_mid 0 8 w y₀) y₁) y₂) y₃ ≡ bytes 8 k ++ (bytes 8 a ++ (bytes 8 b ++ bytes 8 c))
  unfolding bytes
  four-written e₀ e₁ e₂ e₃ =
      let i₀ : y₀ ≡ bytes 8 k = number-written w y₀ 0 8 k (omega (arith, l)) e₀ in
      let i₁ : y₁ ≡ bytes 8 a = number-written (put_mid 0 8 w y₀) y₁ 8 8 a (omega (arith, l₁)) e₁ in
      let i₂ : y₂ ≡ bytes 8 b = number-written (put_mid 8 8 (put_mid 0 8 w y₀) y₁) y₂ 16 8 b (omega (arith, l₂)) e₂ in
      let i₃ : y₃ ≡ bytes 8 c = number-written (put_mid 16 8 (put_mid 8 8 (put_mid 0 8 w y₀) y₁) y₂) y₃ 24 8 c (omega (arith, l₃)) e₃ in
      rw (i₃, i₂, i₁, i₀, spread-all answer_size w l)
