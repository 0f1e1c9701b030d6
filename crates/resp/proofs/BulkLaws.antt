-- A bulk string read: `$`, its length, the end of the line, its bytes, the end of their line.
use Prim.Native.Nat.{ℕ, ◌<◌, ◌≤◌}
use mathlib.Core.Path.{◌≡◌, ◌∙◌}
use mathlib.Core.List.{List, [], ◌∷◌}
use mathlib.Core.Option.{some, none}
use lib.ListN.{length, take, drop, drop_of_length-le}
use native.Mathlib.Omega.{arith}
use Rattle.model.specs.Limits.{number_range}
use Rattle.lines.specs.Lines.{newline}
use Rattle.resp.specs.Streams.{carriage, line_end}
use Rattle.resp.specs.Inverse.{◌then◌, after, bulk_of, bulk_in}
use Rattle.resp.specs.Parts.{number_ended}
use Rattle.resp.proofs.ThenLaws.{then_some, then-none, then-both}
use Rattle.resp.proofs.NumberLaws.{number-then}

-- n bytes that are not there
bulk-over : (n : ℕ) (bs : List ℕ) → length bs < n → bulk_of n bs ≡ none
unfolding bulk_of line_end after ◌then◌
bulk-over n bs h =
    let o : length bs ≤ n = omega arith in
    rw (drop_of_length-le bs o)

-- its length and what comes after it, in one
bulk-steps : (s : List ℕ)
    → bulk_in s ≡ (after (36 ∷ []) s then λ a. number_ended number_range carriage a then λ p. after (newline ∷ []) p.rest then λ c. bulk_of p.number c)
unfolding bulk_in
bulk-steps s = then-both _ _ _ (λ a e. number-then carriage number_range a (λ n b. after (newline ∷ []) b then λ c. bulk_of n c))

pub no-bulk : (s : List ℕ) → after (36 ∷ []) s ≡ none → bulk_in s ≡ none
no-bulk s h = bulk-steps s ∙ then-none _ _ h

module _ (s : List ℕ) {a : List ℕ} (h : after (36 ∷ []) s ≡ some a) where
  pub bulk-sizeless : number_ended number_range carriage a ≡ none → bulk_in s ≡ none
  bulk-sizeless e = bulk-steps s ∙ then_some _ _ a h ∙ then-none _ _ e

  module _ {n : ℕ} {l : List ℕ} (k : number_ended number_range carriage a ≡ some (record { number = n; rest = l })) where
    lined : bulk_in s ≡ (after (newline ∷ []) l then λ c. bulk_of n c)
    lined = bulk-steps s ∙ then_some _ _ a h ∙ then_some _ _ (record { number = n; rest = l }) k

    pub bulk-lineless : after (newline ∷ []) l ≡ none → bulk_in s ≡ none
    bulk-lineless e = lined ∙ then-none _ _ e

    module _ {b : List ℕ} (m : after (newline ∷ []) l ≡ some b) where
      begun : bulk_in s ≡ bulk_of n b
      begun = lined ∙ then_some _ _ b m

      pub bulk-short : length b < n → bulk_in s ≡ none
      bulk-short o = begun ∙ bulk-over n b o

      pub bulk-open : after line_end (drop n b) ≡ none → bulk_in s ≡ none
      unfolding bulk_of
      bulk-open e = begun ∙ then-none _ _ e

      pub bulk-whole : (r : List ℕ) → after line_end (drop n b) ≡ some r → bulk_in s ≡ some (record { content = take n b; rest = r })
      unfolding bulk_of
      bulk-whole r e = begun ∙ then_some _ _ r e
