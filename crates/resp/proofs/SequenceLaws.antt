-- A stream read transaction by transaction: as many as there are bytes are always enough, so that what is left is a stream by itself.
use Prim.Native.Nat.{ℕ, zero, suc, ◌<◌, ◌≤◌}
use mathlib.Core.Path.{◌≡◌, refl, sym, ap, ◌∙◌}
use mathlib.Core.Bool.{Bool, true, false, cond}
use mathlib.Core.List.{List, [], ◌∷◌, ◌++◌}
use mathlib.Core.Option.{Option, some, none}
use lib.ListN.{length, length-append}
use native.Mathlib.Nat.{not-suc-le-zero}
use native.Mathlib.Omega.{arith}
use Rattle.model.specs.Lists.{◌and◌}
use Rattle.model.proofs.Tests.{and_intro}
use Rattle.resp.specs.Streams.{Transaction, transaction_text, oldest_first, none_twice}
use Rattle.resp.specs.Inverse.{◌then◌, Taken, transaction_in, sequence_from, sequence_in, transactions_in}
use Rattle.resp.proofs.ThenLaws.{then_some, then-none, then-both}
use Rattle.resp.proofs.TransactionBack.{transaction-is}
use Rattle.resp.proofs.ReadExactly.{text-some}

-- transactions, and those after them
abbrev pub followed : List Transaction → Option (List Transaction) → Option (List Transaction)
followed xs r = r then λ ys. some (xs ++ ys)

rest-shorter : (bs : List ℕ) (t : Taken) → transaction_in bs ≡ some t → length t.rest < length bs
rest-shorter bs t h =
    let p = transaction-is bs t h in
    omega (arith, ap length p.bytes-are, length-append (transaction_text t.transaction) t.rest, text-some t.transaction)

no_byte : (k : ℕ) → sequence_from k [] ≡ some []
unfolding sequence_from
no_byte zero = refl
no_byte (suc k) = refl

-- more makes no difference
enough : (k m : ℕ) (bs : List ℕ) → length bs ≤ k → length bs ≤ m → sequence_from k bs ≡ sequence_from m bs
unfolding sequence_from
enough zero m [] h g = sym (no_byte m)
enough zero m (b ∷ bs) h g = absurd (not-suc-le-zero h)
enough (suc k) m [] h g = sym (no_byte m)
enough (suc k) zero (b ∷ bs) h g = absurd (not-suc-le-zero g)
enough (suc k) (suc m) (b ∷ bs) h g =
    then-both (transaction_in (b ∷ bs)) _ _
    (λ t e. let l = rest-shorter (b ∷ bs) t e in ap (followed (t.transaction ∷ [])) (enough k m t.rest (omega (arith, l)) (omega (arith, l))))

-- ── one transaction, and what is left ──
pub sequence-step : (bs : List ℕ) (t : Taken) → transaction_in bs ≡ some t → sequence_in bs ≡ followed (t.transaction ∷ []) (sequence_in t.rest)
unfolding sequence_in sequence_from
sequence-step [] t h = absurd (not-suc-le-zero (rest-shorter [] t h))
sequence-step (b ∷ bs) t h =
    let l = rest-shorter (b ∷ bs) t h in
    then_some _ _ t h ∙ ap (followed (t.transaction ∷ [])) (enough (length bs) (length t.rest) t.rest (omega (arith, l)) (omega arith))

pub sequence-stop : (bs : List ℕ) → 0 < length bs → transaction_in bs ≡ none → sequence_in bs ≡ none
unfolding sequence_in sequence_from
sequence-stop [] o h = absurd (not-suc-le-zero o)
sequence-stop (b ∷ bs) o h = then-none _ _ h

pub sequence-none : sequence_in [] ≡ some []
unfolding sequence_in
sequence-none = no_byte 0

-- ── what a sequence comes to ──
pub stream-none : (bs : List ℕ) → sequence_in bs ≡ none → transactions_in bs ≡ none
unfolding transactions_in
stream-none bs h = then-none _ _ h

module _ (bs : List ℕ) (xs : List Transaction) (h : sequence_in bs ≡ some xs) where
  by_tests : (b : Bool) → (oldest_first xs and none_twice xs) ≡ b → transactions_in bs ≡ cond b (some xs) none
  unfolding transactions_in
  by_tests b e = then_some _ _ xs h ∙ ap (λ (c : Bool). cond c (some xs) none) e

  pub stream-some : oldest_first xs ≡ true → none_twice xs ≡ true → transactions_in bs ≡ some xs
  stream-some o d = by_tests true (and_intro _ _ o d)

  pub stream-refused : (oldest_first xs and none_twice xs) ≡ false → transactions_in bs ≡ none
  stream-refused f = by_tests false f
