-- "Import takes only such a stream": a committed set is read from its stream, and from no other bytes.
use Prim.Native.Nat.{ℕ, zero, suc, ◌≤◌, ◌<◌, zero-le}
use mathlib.Core.Path.{◌≡◌, refl, ap, subst, ◌∙◌}
use mathlib.Core.Bool.{Bool, true, false, cond}
use mathlib.Core.List.{List, [], ◌∷◌, ◌++◌}
use mathlib.Core.Option.{Option, some, none, none-ne-some, some-injective}
use lib.ListN.{length, length-append}
use native.Mathlib.Nat.{le_of_suc-le-suc, not-suc-le-zero}
use native.Mathlib.Omega.{arith}
use Rattle.model.specs.Lists.{◌and◌}
use Rattle.model.specs.Ranges.{Every}
use Rattle.model.proofs.Tests.{and_left, and_right, and_intro}
use Rattle.resp.specs.Streams.{Transaction, set_begins, set_command, commit_command, transaction_text, stream_of, TransactionFits, oldest_first, none_twice, CommittedSet}
use Rattle.resp.specs.Inverse.{◌then◌, Taken, transaction_in, sequence_from, sequence_in, transactions_in}
use Rattle.resp.specs.Claims.{IsStream, ReadExactly}
use Rattle.resp.proofs.ThenLaws.{then_some, then-read}
use Rattle.resp.proofs.TransactionBack.{TransactionBytes, transaction-back, transaction-is}

-- ── no transaction is without bytes, so there are at most as many as bytes ──
pub text-some : (x : Transaction) → 0 < length (transaction_text x)
unfolding transaction_text commit_command set_command set_begins
text-some x = simp length-append (omega arith)

text-before : (x : Transaction) (r : List ℕ) → 0 < length (transaction_text x ++ r)
text-before x r = omega (arith, length-append (transaction_text x) r, text-some x)

stream-long : (xs : List Transaction) → length xs ≤ length (stream_of xs)
unfolding stream_of
stream-long [] = zero-le
stream-long (x ∷ xs) = omega (arith, length-append (transaction_text x) (stream_of xs), text-some x, stream-long xs)

-- ── the sequence of them ──
abbrev step : ℕ → List ℕ → Option (List Transaction)
step more bs = transaction_in bs then λ t. sequence_from more t.rest then λ xs. some (t.transaction ∷ xs)

sequence-step : (more : ℕ) (bs : List ℕ) → 0 < length bs → sequence_from (suc more) bs ≡ step more bs
unfolding sequence_from
sequence-step more [] o = absurd (not-suc-le-zero o)
sequence-step more (b ∷ bs) o = refl

sequence-back : (more : ℕ) (xs : List Transaction) → length xs ≤ more → Every TransactionFits xs → sequence_from more (stream_of xs) ≡ some xs
unfolding sequence_from stream_of
sequence-back zero [] o h = refl
sequence-back zero (x ∷ xs) o h = absurd (not-suc-le-zero o)
sequence-back (suc more) [] o h = refl
sequence-back (suc more) (x ∷ xs) o h =
    sequence-step more (transaction_text x ++ stream_of xs) (text-before x (stream_of xs))
    ∙ then_some _ _ (record { transaction = x; rest = stream_of xs }) (transaction-back x (stream_of xs) h.0)
    ∙ then_some _ _ xs (sequence-back more xs (le_of_suc-le-suc o) h.1)

abbrev Sequence : List ℕ → List Transaction → Type 0
Sequence bs xs = (bs ≡ stream_of xs) × Every TransactionFits xs

sequence-none : (xs : List Transaction) → some [] ≡ some xs → Sequence [] xs
unfolding stream_of
sequence-none xs h = subst (Sequence []) (some-injective [] xs h) (refl, tt)

sequence-is : (more : ℕ) (bs : List ℕ) (xs : List Transaction) → sequence_from more bs ≡ some xs → Sequence bs xs
unfolding sequence_from stream_of
sequence-is zero [] xs h = sequence-none xs h
sequence-is zero (b ∷ bs) xs h = absurd (none-ne-some xs h)
sequence-is (suc more) [] xs h = sequence-none xs h
sequence-is (suc more) (b ∷ bs) xs h =
    then-read _ _ xs h λ t e h₁. then-read _ _ xs h₁ λ ys q h₂.
    subst (Sequence (b ∷ bs)) (some-injective (t.transaction ∷ ys) xs h₂) (found t ys (transaction-is (b ∷ bs) t e) (sequence-is more t.rest ys q))
  where
    found : (t : Taken) (ys : List Transaction) → TransactionBytes (b ∷ bs) t → Sequence t.rest ys → Sequence (b ∷ bs) (t.transaction ∷ ys)
    found t ys p s = (p.bytes-are ∙ ap (λ (l : List ℕ). transaction_text t.transaction ++ l) s.0, (p.fits, s.1))

-- ── its order, and no ticket twice ──
ordered-is : (ys xs : List Transaction) → cond (oldest_first ys and none_twice ys) (some ys) none ≡ some xs → (ys ≡ xs) × ((oldest_first xs and none_twice xs) ≡ true)
ordered-is ys xs h = go (oldest_first ys and none_twice ys) refl
  where
    go : (t : Bool) → (oldest_first ys and none_twice ys) ≡ t → (ys ≡ xs) × ((oldest_first xs and none_twice xs) ≡ true)
    go true e =
        let q : ys ≡ xs = some-injective ys xs (rw e at h) in
        (q, subst (λ (zs : List Transaction). (oldest_first zs and none_twice zs) ≡ true) q e)
    go false e = absurd (none-ne-some xs (rw e at h))

stream-is : (bs : List ℕ) (xs : List Transaction) → transactions_in bs ≡ some xs → IsStream bs xs
unfolding transactions_in sequence_in
stream-is bs xs h = then-read _ _ xs h λ ys e k. found ys (sequence-is (length bs) bs ys e) (ordered-is ys xs k)
  where
    found : (ys : List Transaction) → Sequence bs ys → (ys ≡ xs) × ((oldest_first xs and none_twice xs) ≡ true) → IsStream bs xs
    found ys s o =
        let r : Sequence bs xs = subst (Sequence bs) o.0 s in
        (r.0, record { fit = r.1; ordered = and_left _ _ o.1; once = and_right _ _ o.1 })

pub stream-back : (xs : List Transaction) → CommittedSet xs → transactions_in (stream_of xs) ≡ some xs
unfolding transactions_in sequence_in
stream-back xs h = then_some _ _ xs (sequence-back (length (stream_of xs)) xs (stream-long xs) h.fit) ∙ (rw (and_intro _ _ h.ordered h.once))

pub read-exactly : ReadExactly
read-exactly bs xs = (stream-is bs xs, λ h. ap transactions_in h.0 ∙ stream-back xs h.1)
