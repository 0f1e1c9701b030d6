-- A version's name, and the id in it, are read back from their bytes, and from no others.
use Prim.Native.Nat.{ℕ, ◌<◌, ◌≤◌}
use mathlib.Core.Path.{◌≡◌, refl, ap, subst, ◌∙◌}
use mathlib.Core.Bool.{Bool, true, false}
use mathlib.Core.List.{List, [], ◌∷◌, ◌++◌}
use mathlib.Core.Option.{some, none, none-ne-some, some-injective}
use lib.Dec.{leb}
use lib.ListN.{length, length-append}
use native.Mathlib.Omega.{arith}
use borrow.Author.Tests.{leb-true, le-leb}
use Rattle.model.specs.declared.Id.{Id}
use Rattle.model.specs.Lists.{◌and◌}
use Rattle.model.specs.Limits.{keys, txn_range, number_range}
use Rattle.model.proofs.Tests.{and_left, and_right}
use Rattle.decimal.specs.Digits.{digits, is_digit, number_below}
use Rattle.decimal.specs.Fields.{field}
use Rattle.decimal.proofs.ReadLaws.{read_below}
use Rattle.decimal.proofs.DigitLaws.{count-below}
use Rattle.decimal.proofs.RoundTrip.{read-digits, field-digits}
use Rattle.resp.specs.Streams.{slash, id_text, version_name, commit_name}
use Rattle.resp.specs.Inverse.{after, id_from, id_text_in, Name, name_in}
use Rattle.resp.proofs.ThenLaws.{then_some, then-none, then-read}
use Rattle.resp.proofs.RestLaws.{after-own, after_is, after-digits, number_is, number-rest}

-- an id of a stream: clock and ticket in their ranges, and not 0
pub record IdNamed (i : Id) : Type 0 where
  pub clock-from : 1 ≤ i.clock
  pub clock64 : i.clock < number_range
  pub txn-from : 1 ≤ i.txn
  pub txn32 : i.txn < txn_range

pub slash-no-digit : is_digit slash ≡ false
unfolding is_digit ◌and◌
slash-no-digit = refl

-- ── written, then read ──
-- a number and the slash after it
slashed : (bound n : ℕ) (r : List ℕ) → n < bound → number_below bound (field slash (digits n ++ (slash ∷ r))) ≡ some n
slashed bound n r o = ap (number_below bound) (field-digits slash slash-no-digit n r) ∙ read-digits bound n o

from_back : (i : Id) → IdNamed i → id_from i.clock i.txn ≡ some i
unfolding id_from ◌and◌
from_back i h = rw (le-leb 1 i.clock h.clock-from, le-leb 1 i.txn h.txn-from)

pub id-back : (i : Id) → IdNamed i → id_text_in (id_text i) ≡ some i
unfolding id_text_in id_text
id-back i h =
    then_some _ _ i.clock (slashed number_range i.clock _ h.clock64)
    ∙ then_some _ _ (digits i.txn) (after-digits slash slash-no-digit i.clock _)
    ∙ then_some _ _ i.txn (read-digits txn_range i.txn h.txn32)
    ∙ from_back i h

pub name_back : (k : ℕ) (i : Id) → k < keys → IdNamed i → name_in (version_name k i) ≡ some (record { key = k; id = i })
unfolding name_in version_name
name_back k i o h =
    then_some _ _ (digits k ++ (slash ∷ id_text i)) (after-own (118 ∷ slash ∷ []) _)
    ∙ then_some _ _ k (slashed keys k _ o)
    ∙ then_some _ _ (id_text i) (after-digits slash slash-no-digit k _)
    ∙ then_some _ _ i (id-back i h)

-- a commit's name begins with another letter
pub name-other : (i : Id) → name_in (commit_name i) ≡ none
unfolding name_in commit_name after
name-other i = then-none _ _ refl

-- ── how long they are ──
pub id-short : (i : Id) → IdNamed i → length (id_text i) ≤ 31
unfolding id_text
id-short i h = simp length-append (omega (arith, count-below 19 i.clock (omega (arith, h.clock64)), count-below 9 i.txn (omega (arith, h.txn32))))

pub version-short : (k : ℕ) (i : Id) → k < keys → IdNamed i → length (version_name k i) ≤ 36
unfolding version_name
version-short k i o h = simp length-append (omega (arith, count-below 1 k (omega arith), id-short i h))

pub commit-short : (i : Id) → IdNamed i → length (commit_name i) ≤ 33
unfolding commit_name
commit-short i h = omega (arith, id-short i h)

-- ── read: so it was written ──
pub record IdBytes (bs : List ℕ) (i : Id) : Type 0 where
  pub bytes-are : bs ≡ id_text i
  pub named : IdNamed i

from_is : (c t : ℕ) (i : Id) → id_from c t ≡ some i → (1 ≤ c) × (1 ≤ t) × (record { clock = c; txn = t } ≡ i)
unfolding id_from
from_is c t i h = go (leb 1 c and leb 1 t) refl
  where
    go : (b : Bool) → (leb 1 c and leb 1 t) ≡ b → (1 ≤ c) × (1 ≤ t) × (record { clock = c; txn = t } ≡ i)
    go true e = (leb-true 1 c (and_left _ _ e), leb-true 1 t (and_right _ _ e), some-injective _ i (rw e at h))
    go false e = absurd (none-ne-some i (rw e at h))

pub id-is : (bs : List ℕ) (i : Id) → id_text_in bs ≡ some i → IdBytes bs i
unfolding id_text_in id_text
id-is bs i h =
    then-read _ _ i h λ c ec h₁. then-read _ _ i h₁ λ a ea h₂. then-read _ _ i h₂ λ t et h₃.
    found c a t (number-rest slash number_range bs c a ec ea) (number_is txn_range a t et) (read_below number_range _ c ec) (read_below txn_range a t et) (from_is c t i h₃)
  where
    found : (c : ℕ) (a : List ℕ) (t : ℕ) → bs ≡ digits c ++ (slash ∷ a) → a ≡ digits t → c < number_range → t < txn_range → (1 ≤ c) × (1 ≤ t) × (record { clock = c; txn = t } ≡ i)
        → IdBytes bs i
    found c a t e₁ e₂ oc ot p =
        subst (IdBytes bs) p.2
        (record {
          bytes-are = e₁ ∙ ap (λ (l : List ℕ). digits c ++ (slash ∷ l)) e₂;
          named = record { clock-from = p.0; clock64 = oc; txn-from = p.1; txn32 = ot };
        })

pub record NameBytes (bs : List ℕ) (n : Name) : Type 0 where
  pub bytes-are : bs ≡ version_name n.key n.id
  pub key-low : n.key < keys
  pub named : IdNamed n.id

pub name-is : (bs : List ℕ) (n : Name) → name_in bs ≡ some n → NameBytes bs n
unfolding name_in version_name
name-is bs n h =
    then-read _ _ n h λ a ea h₁. then-read _ _ n h₁ λ k ek h₂. then-read _ _ n h₂ λ b eb h₃. then-read _ _ n h₃ λ i ei h₄.
    found a k b i (after_is (118 ∷ slash ∷ []) bs a ea) (number-rest slash keys a k b ek eb) (read_below keys _ k ek) (id-is b i ei) (some-injective _ n h₄)
  where
    found : (a : List ℕ) (k : ℕ) (b : List ℕ) (i : Id) → bs ≡ 118 ∷ slash ∷ a → a ≡ digits k ++ (slash ∷ b) → k < keys → IdBytes b i → record { key = k; id = i } ≡ n → NameBytes bs n
    found a k b i e₁ e₂ o p q =
        subst (NameBytes bs) q
        (record {
          bytes-are = e₁ ∙ ap (λ (l : List ℕ). 118 ∷ slash ∷ l) (e₂ ∙ ap (λ (l : List ℕ). digits k ++ (slash ∷ l)) p.bytes-are);
          key-low = o;
          named = p.named;
        })
