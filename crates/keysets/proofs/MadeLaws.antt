-- A set made key by key.
use Prim.Native.Nat.{ℕ, ◌+◌, ◌<◌, ◌≤◌}
use mathlib.Core.Path.{◌≡◌, refl, sym, ap, ◌∙◌}
use mathlib.Core.Bool.{Bool, true, false}
use mathlib.Core.List.{List, [], ◌∷◌, ◌++◌}
use lib.Dec.{eqb}
use lib.ListN.{length, take, get_or}
use lib.Seq.{take-suc, take_all}
use native.Mathlib.Numerals.{add-one}
use Rattle.model.specs.Lists.{◌or◌, any, member, ascending}
use Rattle.model.specs.Limits.{keys}
use Rattle.model.specs.KeySets.{key_set}
use borrow.Author.Tests.{eq-eqb}
use Rattle.model.proofs.ListLaws.{member-yes, member-no, any_at}
use Rattle.model.proofs.InsertLaws.{ascending-member}
use Rattle.model.proofs.KeySetLaws.{set-none, set-ascends, ascending-same}
use Rattle.keysets.specs.Parts.{AlsoHas}

-- the set has the first i of these keys
abbrev pub Made : List ℕ → ℕ → ℕ → Type 0
Made ks i set = (k : ℕ) → member k (key_set set) ≡ member k (take i ks)

-- with one key more at the end
member-more : (k j : ℕ) (ks : List ℕ) → member k (ks ++ (j ∷ [])) ≡ (eqb k j or member k ks)
unfolding ◌or◌ member any
member-more k j [] = go (eqb k j) refl
  where
    go : (b : Bool) → eqb k j ≡ b → member k (j ∷ []) ≡ (b or member k [])
    go true e = member-yes k j [] e
    go false e = member-no k j [] e
member-more k j (i ∷ ks) = go (eqb k i) refl (member-more k j ks)
  where
    last : (a : Bool) → true ≡ (a or true)
    last true = refl
    last false = refl

    go : (b : Bool) → eqb k i ≡ b → member k (ks ++ (j ∷ [])) ≡ (eqb k j or member k ks) → member k (i ∷ (ks ++ (j ∷ []))) ≡ (eqb k j or member k (i ∷ ks))
    go true e ih = member-yes k i (ks ++ (j ∷ [])) e ∙ (last (eqb k j) ∙ ap (λ (b : Bool). eqb k j or b) (sym (member-yes k i ks e)))
    go false e ih = member-no k i (ks ++ (j ∷ [])) e ∙ (ih ∙ ap (λ (b : Bool). eqb k j or b) (sym (member-no k i ks e)))

pub made_none : (ks : List ℕ) → Made ks 0 0
unfolding member any
made_none ks k = ap (member k) set-none

pub made_more : (ks : List ℕ) (i set r x : ℕ) → i < length ks → x ≡ get_or ks i 0 → Made ks i set → AlsoHas set x r → Made ks (i + 1) r
made_more ks i set r x o q m h k =
    h k ∙ (ap (λ (b : Bool). eqb k x or b) (m k) ∙ (sym (member-more k x (take i ks)) ∙ ap (member k) (ap (λ (y : ℕ). take i ks ++ (y ∷ [])) q ∙ (sym (take-suc ks i 0 o) ∙ ap (λ (n : ℕ). take n ks) (sym (add-one i))))))

pub made_all : (ks : List ℕ) (i set : ℕ) → length ks ≤ i → ascending 0 keys ks ≡ true → Made ks i set → key_set set ≡ ks
made_all ks i set o a m = ascending-same keys (key_set set) ks (set-ascends set) a (λ k. m k ∙ ap (member k) (take_all i ks o))

-- each of ascending keys is one
pub key-low : (ks : List ℕ) (i : ℕ) → ascending 0 keys ks ≡ true → i < length ks → get_or ks i 0 < keys
unfolding member
key-low ks i a o = (ascending-member 0 keys (get_or ks i 0) ks a (any_at (eqb (get_or ks i 0)) ks 0 i o (eq-eqb (get_or ks i 0) (get_or ks i 0) refl))).1
