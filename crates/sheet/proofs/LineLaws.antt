-- A line's fields one after the other.
use Prim.Native.Nat.{ℕ, ◌+◌, ◌<◌, ◌≤◌}
use mathlib.Core.Path.{◌≡◌, refl, sym, ap, ◌∙◌}
use mathlib.Core.Logic.{◌⊎◌, inl, inr}
use mathlib.Core.List.{List}
use mathlib.Core.Option.{Option, some, none}
use lib.ListN.{length, drop}
use native.Mathlib.Decide.{dec_lt}
use native.Mathlib.Omega.{arith}
use borrow.Author.Tests.{le-leb, lt-leb}
use Rattle.model.specs.Lists.{◌and◌}
use Rattle.model.specs.Limits.{txn_range, number_range, byte_range}
use Rattle.model.specs.Calls.{Call}
use Rattle.decimal.specs.Digits.{is_digit, number_below}
use Rattle.decimal.specs.Fields.{field, after_field}
use Rattle.decimal.proofs.FieldLaws.{field-whole, after_none, after-some}
use Rattle.decimal.proofs.ReadLaws.{read-ended}
use Rattle.sheet.specs.declared.Command.TheVariants as C
use Rattle.lines.specs.Lines.{comma, line_limit}
use Rattle.sheet.specs.Words.{Verb}
use Rattle.sheet.specs.Lines.{verb_in, of_fields, fourth, third, second, line_call}
use Rattle.sheet.specs.Commands.{command_of}

-- ── a field that cannot be read ──
no_number : (v : Option Verb) (t k : Option ℕ) → of_fields v t k none ≡ none
unfolding of_fields
no_number none t k = refl
no_number (some v) none k = refl
no_number (some v) (some t) none = refl
no_number (some v) (some t) (some k) = refl

no_key : (v : Option Verb) (t : Option ℕ) (r : Option (List ℕ)) → fourth v t none r ≡ none
unfolding fourth of_fields
no_key v t none = refl
no_key none t (some bs) = refl
no_key (some v) none (some bs) = refl
no_key (some v) (some t) (some bs) = refl

no-txn : (v : Option Verb) (k : Option ℕ) (r : Option (List ℕ)) → fourth v none k r ≡ none
unfolding fourth of_fields
no-txn v k none = refl
no-txn none k (some bs) = refl
no-txn (some v) k (some bs) = refl

no-txn-third : (v : Option Verb) (r : Option (List ℕ)) → third v none r ≡ none
unfolding third
no-txn-third v none = refl
no-txn-third v (some bs) = no-txn v (number_below byte_range (field comma bs)) (after_field comma bs)

-- ── the last field ──
module _ (v : Option Verb) (t k : ℕ) (bs : List ℕ) where
  without : number_below number_range bs ≡ none → fourth v (some t) (some k) (some bs) ≡ none
  unfolding fourth
  without h = rw h (no_number v (some t) (some k))

  pub fourth-comma : length (field comma bs) < length bs → fourth v (some t) (some k) (some bs) ≡ none
  unfolding is_digit ◌and◌
  fourth-comma o = without (read-ended comma refl number_range bs o)

  pub fourth-none : number_below number_range (field comma bs) ≡ none → fourth v (some t) (some k) (some bs) ≡ none
  fourth-none h = go (dec_lt (length (field comma bs)) (length bs))
    where
      go : Dec (length (field comma bs) < length bs) → fourth v (some t) (some k) (some bs) ≡ none
      go (yes o) = fourth-comma o
      go (no o) = without (sym (ap (number_below number_range) (field-whole comma bs (omega arith))) ∙ h)

  pub fourth-more : (n : ℕ) → length bs ≤ length (field comma bs) → number_below number_range (field comma bs) ≡ some n → fourth v (some t) (some k) (some bs) ≡ of_fields v (some t) (some k) (some n)
  unfolding fourth
  fourth-more n o h = rw (sym (ap (number_below number_range) (field-whole comma bs o)) ∙ h)

-- ── a field before a comma ──
module _ (bs : List ℕ) (at : ℕ) (e : at ≡ length (field comma bs)) where
  pub is_last : length bs ≤ at → after_field comma bs ≡ none
  is_last o = after_none comma bs (omega arith)

  pub is-more : at < length bs → after_field comma bs ≡ some (drop (at + 1) bs)
  is-more o = after-some comma bs (omega arith) ∙ ap (λ (n : ℕ). some (drop (n + 1) bs)) (sym e)

module _ (v : Option Verb) (bs : List ℕ) where
  pub second-is : (t : ℕ) (rest : List ℕ) → number_below txn_range (field comma bs) ≡ some t → after_field comma bs ≡ some rest → second v (some bs) ≡ third v (some t) (some rest)
  unfolding second
  second-is t rest h q = rw (h, q)

  pub second_none : (number_below txn_range (field comma bs) ≡ none) ⊎ (after_field comma bs ≡ none) → second v (some bs) ≡ none
  unfolding second third
  second_none (inl h) = rw h (no-txn-third v (after_field comma bs))
  second_none (inr q) = rw q

  pub third-is : (t : Option ℕ) (k : ℕ) (rest : List ℕ) → number_below byte_range (field comma bs) ≡ some k → after_field comma bs ≡ some rest → third v t (some bs) ≡ fourth v t (some k) (some rest)
  unfolding third
  third-is t k rest h q = rw (h, q)

  pub third_none : (t : Option ℕ) → (number_below byte_range (field comma bs) ≡ none) ⊎ (after_field comma bs ≡ none) → third v t (some bs) ≡ none
  unfolding third fourth
  third_none t (inl h) = rw h (no_key v t (after_field comma bs))
  third_none t (inr q) = rw q

-- ── the whole line ──
pub line-is : (bs rest : List ℕ) → length bs ≤ line_limit → after_field comma bs ≡ some rest → line_call bs ≡ second (verb_in (field comma bs)) (some rest)
unfolding line_call
line-is bs rest h q = rw (le-leb (length bs) line_limit h, q)

pub line-last : (bs : List ℕ) → length bs ≤ line_limit → after_field comma bs ≡ none → line_call bs ≡ none
unfolding line_call second
line-last bs h q = rw (le-leb (length bs) line_limit h, q)

pub line-long : (bs : List ℕ) → line_limit < length bs → line_call bs ≡ none
unfolding line_call
line-long bs h = rw (lt-leb (length bs) line_limit h)

-- ── the command ──
pub malformed : (c : Option Call) → c ≡ none → C.Malformed ≡ command_of c
unfolding command_of
malformed c h = rw h
