-- A commit record's rules by its fields are those by its entry.
use Prim.Native.Nat.{ℕ, zero, suc, ◌-◌, ◌≤◌}
use mathlib.Core.Path.{◌≡◌, refl, sym, ap, ap₂, subst, ◌∙◌}
use mathlib.Core.Bool.{true, not}
use mathlib.Core.List.{List, [], ◌∷◌, ◌++◌}
use lib.Dec.{eqb, leb}
use lib.ListN.{length, take, drop, replicate, length-take, length-drop, take-append-drop}
use lib.Seq.{length-take-le}
use native.Mathlib.Nat.{suc-ne-zero}
use native.Mathlib.Omega.{arith}
use borrow.Author.Tests.{leb-true, eqb-true, eq-eqb, ne_eqb, le-leb}
use Rattle.model.specs.Lists.{◌and◌, all, ascending, padded, same}
use Rattle.model.specs.Limits.{keys, keys_size, record_size}
use Rattle.model.specs.Kinds.{narrow_kind}
use Rattle.model.specs.Entries.{keys_of, count_in, key_bytes, entry_in, carries_keys, entry_rules}
use Rattle.model.proofs.Tests.{and_left, and_right, and_intro, same_test}
use Rattle.model.proofs.ListLaws.{all_of, all_head, all_tail, get_or-all}
use Rattle.model.proofs.InsertLaws.{padded-drop}
use Rattle.model.proofs.RecordLaws.{same_refl, same_true}
use Rattle.records.specs.declared.Fields.{Fields}
use Rattle.records.specs.Fields.{fields_in, first_keys, field_rules}

-- ── the rules of the fields ──
module _ (f : Fields) (h : field_rules f ≡ true) where
  pub fields-few : f.count ≤ keys_size
  unfolding field_rules
  fields-few = leb-true f.count keys_size (and_right _ _ (and_left _ _ (and_left _ _ (and_left _ _ (and_left _ _ h)))))

  pub fields-ascend : ascending 0 keys (take f.count f.keys) ≡ true
  unfolding field_rules first_keys
  fields-ascend = and_right _ _ (and_left _ _ h)

-- ── zeros after the keys ──
zeros-pass : (n : ℕ) → all (eqb 0) (replicate n 0) ≡ true
zeros-pass n = all_of (eqb 0) (replicate n 0) 0 (λ i o. eq-eqb 0 _ (sym (get_or-all n i 0)))

pass-zeros : (l : List ℕ) → all (eqb 0) l ≡ true → l ≡ replicate (length l) 0
pass-zeros [] h = refl
pass-zeros (x ∷ xs) h = ap₂ (λ (y : ℕ) (ys : List ℕ). y ∷ ys) (sym (eqb-true 0 x (all_head (eqb 0) x xs h))) (pass-zeros xs (all_tail (eqb 0) x xs h))

module _ (n : ℕ) (bs : List ℕ) (l : length bs ≡ keys_size) where
  padded-zeros : bs ≡ padded 0 keys_size (take n bs) → length (take n bs) ≡ n → all (eqb 0) (drop n bs) ≡ true
  padded-zeros h k =
      subst (λ (m : ℕ). all (eqb 0) (drop m bs) ≡ true) k
      (ap (λ (x : List ℕ). all (eqb 0) (drop (length (take n bs)) x)) h ∙ ap (all (eqb 0)) (padded-drop 0 keys_size (take n bs)) ∙ zeros-pass (keys_size - length (take n bs)))

  zeros-padded : n ≤ keys_size → all (eqb 0) (drop n bs) ≡ true → bs ≡ padded 0 keys_size (take n bs)
  unfolding padded
  zeros-padded o h =
      let k : length (drop n bs) ≡ keys_size - length (take n bs) = omega (arith, length-drop n bs, length-take n bs) in
      sym (take-append-drop n bs) ∙ ap (λ (x : List ℕ). take n bs ++ x) (pass-zeros (drop n bs) h ∙ ap (λ (m : ℕ). replicate m 0) k)

-- ── the entry by the fields ──
pub entry-fields : (r : List ℕ) → entry_in narrow_kind r ≡ record { id = (fields_in r).id; keys = first_keys (fields_in r) }
unfolding entry_in fields_in first_keys
entry-fields r = refl

module _ (r : List ℕ) (l : length r ≡ record_size) where
  eight : length (key_bytes r) ≡ keys_size
  eight = length-take-le keys_size (drop 16 r) (omega (arith, l, length-drop 16 r))

  abbrev ks : List ℕ
  ks = take (count_in r) (key_bytes r)

  there : (carries_keys narrow_kind r (keys_of (entry_in narrow_kind r)) and entry_rules narrow_kind (entry_in narrow_kind r)) ≡ true → field_rules (fields_in r) ≡ true
  unfolding carries_keys entry_in entry_rules fields_in first_keys field_rules
  there h =
      let c : (eqb (count_in r) (length ks) and same (key_bytes r) (padded 0 keys_size ks)) ≡ true = and_left _ _ h in
      let n : count_in r ≡ length ks = eqb-true (count_in r) (length ks) (and_left _ _ c) in
      let e = and_right _ _ h in
      let ids = and_left _ _ e in
      let counts = and_left _ _ (and_left _ _ ids) in
      and_intro _ _ (and_intro _ _ (and_intro _ _ (and_intro _ _
      (subst (λ (m : ℕ). (leb 1 m and leb m keys_size) ≡ true) (sym n) counts)
      (and_right _ _ (and_left _ _ ids))) (and_right _ _ ids)) (and_right _ _ e))
      (padded-zeros (count_in r) (key_bytes r) eight (same_true _ _ (and_right _ _ c)) (sym n))

  back : field_rules (fields_in r) ≡ true → (carries_keys narrow_kind r (keys_of (entry_in narrow_kind r)) and entry_rules narrow_kind (entry_in narrow_kind r)) ≡ true
  unfolding carries_keys entry_in entry_rules fields_in first_keys field_rules
  back h =
      let e = and_left _ _ h in
      let ids = and_left _ _ e in
      let counts : (leb 1 (count_in r) and leb (count_in r) keys_size) ≡ true = and_left _ _ (and_left _ _ ids) in
      let few : count_in r ≤ keys_size = leb-true (count_in r) keys_size (and_right _ _ counts) in
      let n : count_in r ≡ length ks = sym (length-take-le (count_in r) (key_bytes r) (omega (arith, few, eight))) in
      let p : key_bytes r ≡ padded 0 keys_size ks = zeros-padded (count_in r) (key_bytes r) eight few (and_right _ _ h) in
      and_intro _ _ (and_intro _ _ (eq-eqb (count_in r) (length ks) n) (subst (λ (x : List ℕ). same (key_bytes r) x ≡ true) p (same_refl (key_bytes r))))
      (and_intro _ _ (and_intro _ _ (and_intro _ _
      (subst (λ (m : ℕ). (leb 1 m and leb m keys_size) ≡ true) n counts)
      (and_right _ _ (and_left _ _ ids))) (and_right _ _ ids)) (and_right _ _ e))

  pub rules-fields : (carries_keys narrow_kind r (keys_of (entry_in narrow_kind r)) and entry_rules narrow_kind (entry_in narrow_kind r)) ≡ field_rules (fields_in r)
  rules-fields = same_test _ _ there back

-- a number that is not 0 is at least 1
pub some_number : (n : ℕ) → not (eqb n 0) ≡ leb 1 n
some_number zero = refl
some_number (suc n) = rw (ne_eqb (suc n) 0 (suc-ne-zero n), le-leb 1 (suc n) (omega arith))
