-- 02 §2: "The sheet gets no verb for this or any later call.": whatever its bytes are, no line asks for a sweep.
use Prim.Native.Nat.{ℕ}
use mathlib.Core.Path.{◌≡◌, refl, sym, ap, ◌∙◌}
use mathlib.Core.Bool.{Bool, true, false, true≢false}
use mathlib.Core.List.{List}
use mathlib.Core.Option.{Option, some, none}
use lib.Dec.{leb}
use lib.ListN.{length}
use Rattle.model.specs.Limits.{txn_range, number_range, byte_range}
use Rattle.model.specs.Calls.{Call, Start, Get, Commit, Step, Abort, Collect, Scan, Sweep, is_sweep}
use Rattle.model.proofs.RefusalLaws.{cond-rule}
use Rattle.decimal.specs.Digits.{number_below}
use Rattle.decimal.specs.Fields.{field, after_field}
use Rattle.lines.specs.Lines.{comma, line_limit}
use Rattle.sheet.specs.Words.{Verb, is_start, is_put, is_get, is_commit, is_step, is_abort, is_collect, is_cut}
use Rattle.sheet.specs.Lines.{verb_in, if_unused, call_in, of_fields, fourth, third, second, line_call}

asks : Option Call → Bool
asks none = false
asks (some c) = is_sweep c

record Unswept (c : Option Call) : Type 0 where
  no-sweep : asks c ≡ false

no_call : Unswept none
no_call = unfold asks in record { no-sweep = refl }

if-unused : (b : Bool) (c : Call) → is_sweep c ≡ false → Unswept (if_unused b c)
unfolding if_unused asks
if-unused true c h = record { no-sweep = h }
if-unused false c h = record { no-sweep = refl }

verb-unswept : (v : Verb) (t k n : ℕ) → Unswept (call_in v t k n)
unfolding call_in is_sweep
verb-unswept is_start t k n = if-unused _ (Start t) refl
verb-unswept is_put t k n = unfold asks in record { no-sweep = refl }
verb-unswept is_get t k n = if-unused _ (Get t k) refl
verb-unswept is_commit t k n = if-unused _ (Commit t n) refl
verb-unswept is_step t k n = if-unused _ (Step t) refl
verb-unswept is_abort t k n = if-unused _ (Abort t) refl
verb-unswept is_collect t k n = if-unused _ (Collect k) refl
verb-unswept is_cut t k n = if-unused _ Scan refl

fields-unswept : (v : Option Verb) (t k n : Option ℕ) → Unswept (of_fields v t k n)
unfolding of_fields
fields-unswept (some v) (some t) (some k) (some n) = verb-unswept v t k n
fields-unswept (some v) (some t) (some k) none = no_call
fields-unswept (some v) (some t) none n = no_call
fields-unswept (some v) none k n = no_call
fields-unswept none t k n = no_call

fourth-unswept : (v : Option Verb) (t k : Option ℕ) (r : Option (List ℕ)) → Unswept (fourth v t k r)
unfolding fourth
fourth-unswept v t k none = no_call
fourth-unswept v t k (some bs) = fields-unswept v t k (number_below number_range bs)

third-unswept : (v : Option Verb) (t : Option ℕ) (r : Option (List ℕ)) → Unswept (third v t r)
unfolding third
third-unswept v t none = no_call
third-unswept v t (some bs) = fourth-unswept v t (number_below byte_range (field comma bs)) (after_field comma bs)

second-unswept : (v : Option Verb) (r : Option (List ℕ)) → Unswept (second v r)
unfolding second
second-unswept v none = no_call
second-unswept v (some bs) = third-unswept v (number_below txn_range (field comma bs)) (after_field comma bs)

pub line-no-sweep : (bs : List ℕ) (n : ℕ) → line_call bs ≡ some (Sweep n) → ⊥
unfolding line_call asks is_sweep
line-no-sweep bs n h = true≢false (sym (ap asks h) ∙ line.no-sweep)
  where
    line : Unswept (line_call bs)
    line = cond-rule Unswept (leb (length bs) line_limit) (second (verb_in (field comma bs)) (after_field comma bs)) none (λ _. second-unswept (verb_in (field comma bs)) (after_field comma bs)) (λ _. no_call)
