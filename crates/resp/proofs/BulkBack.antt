-- A bulk string is read back from its bytes, and from no others.
use Prim.Native.Nat.{ℕ, ◌<◌, ◌≤◌}
use mathlib.Core.Path.{◌≡◌, refl, sym, ap, ap₂, ◌∙◌}
use mathlib.Core.Bool.{false}
use mathlib.Core.List.{List, [], ◌∷◌, ◌++◌, append_assoc}
use mathlib.Core.Option.{some, some-injective}
use lib.ListN.{length, take, drop, length-drop, take-append-drop}
use lib.Seq.{take-append_seam, drop-append_seam, length-take-le}
use native.Mathlib.Omega.{arith}
use Rattle.model.specs.Lists.{◌and◌}
use Rattle.model.specs.Limits.{number_range}
use Rattle.decimal.specs.Digits.{digits, is_digit, number_below}
use Rattle.decimal.proofs.ReadLaws.{read_below}
use Rattle.decimal.proofs.RoundTrip.{read-digits, field-digits}
use Rattle.lines.specs.Lines.{newline}
use Rattle.resp.specs.Streams.{carriage, line_end, bulk}
use Rattle.resp.specs.Inverse.{after, Bulk, bulk_of, bulk_in}
use Rattle.resp.proofs.ThenLaws.{then_some, then-read}
use Rattle.resp.proofs.RestLaws.{after-own, after_is, after-digits, number-rest}

-- its bytes and those after it, one part after the other
bulk-parts : (w r : List ℕ) → bulk w ++ r ≡ 36 ∷ digits (length w) ++ (carriage ∷ newline ∷ w ++ (line_end ++ r))
unfolding bulk line_end
bulk-parts w r =
    ap (λ (l : List ℕ). 36 ∷ l) (append_assoc (digits (length w)) (carriage ∷ newline ∷ w ++ line_end) r
    ∙ ap (λ (l : List ℕ). digits (length w) ++ (carriage ∷ newline ∷ l)) (append_assoc w line_end r))

pub carriage-no-digit : is_digit carriage ≡ false
unfolding is_digit ◌and◌
carriage-no-digit = refl

-- ── written, then read ──
of-back : (w r : List ℕ) → bulk_of (length w) (w ++ (line_end ++ r)) ≡ some (record { content = w; rest = r })
unfolding bulk_of
of-back w r =
    then_some _ _ r (ap (after line_end) (drop-append_seam w (line_end ++ r)) ∙ after-own line_end r)
    ∙ ap (λ (l : List ℕ). some (record { content = l; rest = r })) (take-append_seam w (line_end ++ r))

pub bulk-back : (w r : List ℕ) → length w < number_range → bulk_in (bulk w ++ r) ≡ some (record { content = w; rest = r })
unfolding bulk_in
bulk-back w r o =
    let left : List ℕ = newline ∷ w ++ (line_end ++ r) in
    ap bulk_in (bulk-parts w r)
    ∙ then_some _ _ (digits (length w) ++ (carriage ∷ left)) (after-own (36 ∷ []) _)
    ∙ then_some _ _ (length w) (ap (number_below number_range) (field-digits carriage carriage-no-digit (length w) left) ∙ read-digits number_range (length w) o)
    ∙ then_some _ _ left (after-digits carriage carriage-no-digit (length w) left)
    ∙ then_some _ _ (w ++ (line_end ++ r)) (after-own (newline ∷ []) _)
    ∙ of-back w r

-- ── read: so it was written ──
pub record BulkBytes (bs : List ℕ) (b : Bulk) : Type 0 where
  pub bytes-are : bs ≡ bulk b.content ++ b.rest
  pub size_fits : length b.content < number_range

of_is : (n : ℕ) (bs : List ℕ) (b : Bulk) → bulk_of n bs ≡ some b → (bs ≡ b.content ++ (line_end ++ b.rest)) × (length b.content ≡ n)
unfolding bulk_of line_end
of_is n bs b h = then-read _ _ b h λ r e k. found r (after_is line_end (drop n bs) r e) (some-injective _ b k)
  where
    found : (r : List ℕ) → drop n bs ≡ line_end ++ r → record { content = take n bs; rest = r } ≡ b → (bs ≡ b.content ++ (line_end ++ b.rest)) × (length b.content ≡ n)
    found r d e =
        let o : n ≤ length bs = omega (arith, length-drop n bs, ap length d) in (
          sym (take-append-drop n bs) ∙ ap (λ (l : List ℕ). take n bs ++ l) d ∙ ap (λ (x : Bulk). x.content ++ (line_end ++ x.rest)) e,
          ap (λ (x : Bulk). length x.content) (sym e) ∙ length-take-le n bs o,
        )

pub bulk-is : (bs : List ℕ) (b : Bulk) → bulk_in bs ≡ some b → BulkBytes bs b
unfolding bulk_in
bulk-is bs b h =
    then-read _ _ b h λ a ea h₁. then-read _ _ b h₁ λ n en h₂. then-read _ _ b h₂ λ c ec h₃. then-read _ _ b h₃ λ d ed h₄.
    found a n c d (after_is (36 ∷ []) bs a ea) (number-rest carriage number_range a n c en ec) (after_is (newline ∷ []) c d ed) (read_below number_range _ n en) (of_is n d b h₄)
  where
    found : (a : List ℕ) (n : ℕ) (c d : List ℕ) → bs ≡ 36 ∷ a → a ≡ digits n ++ (carriage ∷ c) → c ≡ newline ∷ d → n < number_range
        → (d ≡ b.content ++ (line_end ++ b.rest)) × (length b.content ≡ n) → BulkBytes bs b
    found a n c d e₁ e₂ e₃ o p =
        record {
          bytes-are =
              e₁ ∙ ap (λ (l : List ℕ). 36 ∷ l) (e₂ ∙ ap₂ (λ (m : ℕ) (l : List ℕ). digits m ++ (carriage ∷ l)) (sym p.1) (e₃ ∙ ap (λ (l : List ℕ). newline ∷ l) p.0))
              ∙ sym (bulk-parts b.content b.rest);
          size_fits = omega (arith, p.1, o);
        }
