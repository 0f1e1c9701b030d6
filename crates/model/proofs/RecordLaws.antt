-- Laws of a record's bytes (specs/Records): numbers and their bytes, the fields of a record as it is written, what a record carries,
-- and that a record written into a store changes only itself.
use Prim.Native.Nat.{ℕ, zero, suc, ◌+◌, ◌*◌, ◌-◌, ◌/◌, ◌%◌, ◌^◌, ◌<◌, ◌≤◌, suc-le-suc}
use mathlib.Core.Path.{◌≡◌, refl, sym, ap, ap₂, ◌∙◌}
use mathlib.Core.Logic.{◌≢◌}
use mathlib.Core.Bool.{Bool, true, false, false≢true}
use mathlib.Core.List.{List, [], ◌∷◌, ◌++◌, append_assoc}
use lib.Dec.{eqb}
use lib.ListN.{length, take, drop, get_or, length-append, take-append-drop, length-take, length-drop}
use lib.Seq.{take_all, take-append-le, drop-append-le, drop-append-add, get_or-take, get_or-drop, drop-drop, take_at, drop_at, length-take-le}
use native.Mathlib.Nat.{zero-lt-suc, suc-ne-zero, mul-le-mul_left}
use native.Mathlib.Decide.{dec_lt}
use native.Mathlib.Omega.{arith}
use borrow.Author.Tests.{eqb-true, eq-eqb, leb-true}
use borrow.Rule.Slice.PartMut.{put_mid}
use Rattle.model.specs.declared.Id.{Id}
use Rattle.model.specs.Types.{Entry}
use Rattle.model.specs.Lists.{◌and◌, same}
use Rattle.model.specs.Limits.{record_size, keys_size, txn_range, number_range, byte_range}
use Rattle.model.specs.Kinds.{Kind, width, slot_size, slot_start, store_size, WriteSet, KindFits}
use Rattle.model.specs.Bytes.{bytes, number, id_in, head_bytes}
use Rattle.model.specs.Entries.{keys_of, mark_in, count_in, key_bytes, entry_in, free_mark, commit_record, entry_rules, carries_keys, commit_rules, carries_entry}
use Rattle.model.specs.Ranges.{Every, IsByte}
use Rattle.model.specs.Records.{value_in, version_record, zero_record, carries_version, record_place, record_at, with_record}
use Rattle.model.proofs.Tests.{and_left, and_right, and_intro}
use Rattle.model.proofs.IdLaws.{same_id_lem, id_same}

-- ── numbers and their bytes ──
pub length-bytes : (n x : ℕ) → length (bytes n x) ≡ n
unfolding bytes
length-bytes zero x = refl
length-bytes (suc n) x = ap suc (length-bytes n (x / byte_range))

pub number-bytes : (n x : ℕ) → x < byte_range ^ n → number (bytes n x) ≡ x
unfolding bytes number
number-bytes zero x h = omega arith
number-bytes (suc n) x h =
    let a : x < 256 ^ suc n = h in
    let b : x / 256 < 256 ^ n = omega arith in
    rw (number-bytes n (x / byte_range) b) (omega arith)

pub bytes-are : (n x : ℕ) → Every IsByte (bytes n x)
unfolding bytes
bytes-are zero x = tt
bytes-are (suc n) x = (omega arith, bytes-are n (x / byte_range))

-- all numbers of a list are bytes
abbrev pub Bytes : List ℕ → Type 0
Bytes bs = (i : ℕ) → i < length bs → get_or bs i 0 < byte_range

pub bytes_take : (n : ℕ) (bs : List ℕ) → Bytes bs → Bytes (take n bs)
bytes_take n bs h i o = rw (get_or-take n bs i 0 (omega (arith, length-take n bs))) (h i (omega (arith, length-take n bs)))

pub bytes_drop : (n : ℕ) (bs : List ℕ) → Bytes bs → Bytes (drop n bs)
bytes_drop n bs h i o = rw (get_or-drop n bs i 0) (h (n + i) (omega (arith, length-drop n bs)))

pub bytes-number : (n : ℕ) (bs : List ℕ) → length bs ≡ n → Bytes bs → bytes n (number bs) ≡ bs
unfolding bytes number
bytes-number zero [] l h = refl
bytes-number zero (b ∷ bs) l h = absurd (suc-ne-zero _ l)
bytes-number (suc n) [] l h = absurd (suc-ne-zero _ (sym l))
bytes-number (suc n) (b ∷ bs) l h = rw (low, rest) (ap (λ (xs : List ℕ). b ∷ xs) (bytes-number n bs (omega arith) (λ i o. h (suc i) (suc-le-suc o))))
  where
    ob : b < byte_range
    ob = h 0 (zero-lt-suc _)

    low : (b + byte_range * number bs) % byte_range ≡ b
    low = omega (arith, ob)

    rest : (b + byte_range * number bs) / byte_range ≡ number bs
    rest = omega (arith, ob)

-- ── equality of lists and of ids ──
pub same_refl : (l : List ℕ) → same l l ≡ true
unfolding same
same_refl [] = refl
same_refl (x ∷ xs) = rw (eq-eqb x x refl, same) (same_refl xs)

pub same_true : (l m : List ℕ) → same l m ≡ true → l ≡ m
unfolding same
same_true [] [] h = refl
same_true [] (y ∷ ys) h = absurd (false≢true h)
same_true (x ∷ xs) [] h = absurd (false≢true h)
same_true (x ∷ xs) (y ∷ ys) h = go (eqb x y) refl (same_true xs ys)
  where
    go : (b : Bool) → eqb x y ≡ b → (same xs ys ≡ true → xs ≡ ys) → (x ∷ xs) ≡ (y ∷ ys)
    go true e ih = cc (eqb-true x y e, ih (rw (e, same) at h))
    go false e ih = absurd (false≢true (rw (e, same) at h))

-- ── a record as it is written ──
-- the numbers of an entry fit a record of the kind
pub record Fits (κ : Kind) (e : Entry) : Type 0 where
  pub kind : KindFits κ
  pub txn32 : e.id.txn < txn_range
  pub clock64 : e.id.clock < number_range
  pub set : WriteSet κ (keys_of e)

pub length-commit : (κ : Kind) (e : Entry) → KindFits κ → WriteSet κ (keys_of e) → length (commit_record κ e) ≡ record_size
unfolding commit_record head_bytes bytes
length-commit κ e φ w = let p = φ.eight (keys_of e) w in simp p

pub length-version : (k : ℕ) (i : Id) (v : ℕ) → length (version_record k i v) ≡ record_size
unfolding version_record head_bytes bytes
length-version k i v = refl

pub length-zero : length zero_record ≡ record_size
unfolding zero_record
length-zero = refl

pub zero-mark : mark_in zero_record ≡ free_mark
unfolding mark_in zero_record
zero-mark = refl

pub commit-mark : (κ : Kind) (e : Entry) → mark_in (commit_record κ e) ≡ κ.mark
unfolding mark_in commit_record head_bytes
commit-mark κ e = refl

commit-zeros : (κ : Kind) (e : Entry) → (get_or (commit_record κ e) 2 0 ≡ 0) × (get_or (commit_record κ e) 3 0 ≡ 0)
unfolding commit_record head_bytes
commit-zeros κ e = (refl, refl)

commit-encoded : (κ : Kind) (e : Entry) → Fits κ e → key_bytes (commit_record κ e) ≡ κ.encode (keys_of e)
unfolding commit_record head_bytes bytes
commit-encoded κ e f = take_all keys_size (κ.encode (keys_of e)) (omega (arith, f.kind.eight (keys_of e) f.set))

commit-counted : (κ : Kind) (e : Entry) → count_in (commit_record κ e) ≡ length (keys_of e)
unfolding commit_record head_bytes
commit-counted κ e = refl

commit-keys : (κ : Kind) (e : Entry) → Fits κ e → carries_keys κ (commit_record κ e) (keys_of e) ≡ true
unfolding carries_keys
commit-keys κ e f = and_intro _ _ (eq-eqb _ _ (commit-counted κ e)) (rw (commit-encoded κ e f) (same_refl (κ.encode (keys_of e))))

pub entry-round : (κ : Kind) (e : Entry) → Fits κ e → entry_in κ (commit_record κ e) ≡ e
unfolding entry_in
entry-round κ e f = λ z. record { id = commit-id z; keys = (ap₂ κ.decode (commit-counted κ e) (commit-encoded κ e f) ∙ f.kind.round (keys_of e) f.set) z }
  where
    commit-id : id_in (commit_record κ e) ≡ e.id
    commit-id = unfold id_in commit_record head_bytes bytes in λ z. record { clock = number-bytes 8 e.id.clock f.clock64 z; txn = number-bytes 4 e.id.txn f.txn32 z }

pub commit-rules : (κ : Kind) (e : Entry) → Fits κ e → commit_rules κ (commit_record κ e) ≡ entry_rules κ e
unfolding commit_rules ◌and◌
commit-rules κ e f = rw (commit-mark κ e, (commit-zeros κ e).0, (commit-zeros κ e).1, entry-round κ e f, commit-keys κ e f, eq-eqb κ.mark κ.mark refl)

pub version-id : (k : ℕ) (i : Id) (v : ℕ) → i.txn < txn_range → i.clock < number_range → id_in (version_record k i v) ≡ i
unfolding id_in version_record head_bytes bytes
version-id k i v ht hc = λ z. record { clock = number-bytes 8 i.clock hc z; txn = number-bytes 4 i.txn ht z }

pub version-value : (k : ℕ) (i : Id) (v : ℕ) → v < number_range → value_in (version_record k i v) ≡ v
unfolding value_in version_record head_bytes bytes
version-value k i v h = number-bytes 8 v h

version-head : (k : ℕ) (i : Id) (v : ℕ) → (get_or (version_record k i v) 0 0 ≡ k) × (get_or (version_record k i v) 1 0 ≡ 0) × (get_or (version_record k i v) 2 0 ≡ 0) × (get_or (version_record k i v) 3 0 ≡ 0)
unfolding version_record head_bytes
version-head k i v = (refl, refl, refl, refl)

-- ── what a commit record carries ──
pub carries-mark : (κ : Kind) (r : List ℕ) (e : Entry) → carries_entry κ r e ≡ true → mark_in r ≡ κ.mark
unfolding carries_entry
carries-mark κ r e h = eqb-true (mark_in r) κ.mark (and_left _ _ (and_left _ _ (and_left _ _ (and_left _ _ h))))

pub carries-zeros : (κ : Kind) (r : List ℕ) (e : Entry) → carries_entry κ r e ≡ true → (get_or r 2 0 ≡ 0) × (get_or r 3 0 ≡ 0)
unfolding carries_entry
carries-zeros κ r e h =
    let c : (eqb (mark_in r) κ.mark and eqb (get_or r 2 0) 0 and eqb (get_or r 3 0) 0) ≡ true = and_left _ _ (and_left _ _ h) in
    (eqb-true (get_or r 2 0) 0 (and_right _ _ (and_left _ _ c)), eqb-true (get_or r 3 0) 0 (and_right _ _ c))

-- a write set's count and key bytes
module _ (κ : Kind) (r ks : List ℕ) (h : carries_keys κ r ks ≡ true) where
  pub keys-counted : count_in r ≡ length ks
  unfolding carries_keys
  keys-counted = eqb-true (count_in r) (length ks) (and_left _ _ h)

  keys-encoded : key_bytes r ≡ κ.encode ks
  unfolding carries_keys
  keys-encoded = same_true (key_bytes r) (κ.encode ks) (and_right _ _ h)

  -- are those of its keys alone
  keys-carried : KindFits κ → WriteSet κ ks → keys_of (entry_in κ r) ≡ ks
  unfolding entry_in
  keys-carried φ w = ap₂ κ.decode keys-counted keys-encoded ∙ φ.round ks w

pub carries-keys : (κ : Kind) (r : List ℕ) (e : Entry) → carries_entry κ r e ≡ true → carries_keys κ r (keys_of e) ≡ true
unfolding carries_entry
carries-keys κ r e h = and_right _ _ h

pub carries-id-of : (κ : Kind) (r : List ℕ) (e : Entry) → carries_entry κ r e ≡ true → id_in r ≡ e.id
unfolding carries_entry
carries-id-of κ r e h = same_id_lem (id_in r) e.id (and_right _ _ (and_left _ _ h))

pub carries-entry : (κ : Kind) (r : List ℕ) (e : Entry) → KindFits κ → WriteSet κ (keys_of e) → carries_entry κ r e ≡ true → entry_in κ r ≡ e
unfolding entry_in
carries-entry κ r e φ w h = λ z. record { id = carries-id-of κ r e h z; keys = keys-carried κ r (keys_of e) (carries-keys κ r e h) φ w z }

pub carries-intro : (κ : Kind) (r : List ℕ) (e : Entry) → mark_in r ≡ κ.mark → get_or r 2 0 ≡ 0 → get_or r 3 0 ≡ 0 → id_in r ≡ e.id → carries_keys κ r (keys_of e) ≡ true → carries_entry κ r e ≡ true
unfolding carries_entry
carries-intro κ r e hm h2 h3 hi hk =
    and_intro _ _ (and_intro _ _ (and_intro _ _ (and_intro _ _ (eq-eqb (mark_in r) κ.mark hm) (eq-eqb (get_or r 2 0) 0 h2)) (eq-eqb (get_or r 3 0) 0 h3)) (id_same (id_in r) e.id hi)) hk

pub carries-commit : (κ : Kind) (e : Entry) → Fits κ e → carries_entry κ (commit_record κ e) e ≡ true
carries-commit κ e f = carries-intro κ (commit_record κ e) e (commit-mark κ e) (commit-zeros κ e).0 (commit-zeros κ e).1 (unfold entry_in in ap (λ (x : Entry). x.id) (entry-round κ e f)) (commit-keys κ e f)

module _ (κ : Kind) (r : List ℕ) (h : commit_rules κ r ≡ true) where
  pub rules-mark : mark_in r ≡ κ.mark
  unfolding commit_rules
  rules-mark = eqb-true (mark_in r) κ.mark (and_left _ _ (and_left _ _ (and_left _ _ (and_left _ _ h))))

  pub rules-keys : carries_keys κ r (keys_of (entry_in κ r)) ≡ true
  unfolding commit_rules
  rules-keys = and_right _ _ (and_left _ _ h)

  pub rules-entry : entry_rules κ (entry_in κ r) ≡ true
  unfolding commit_rules
  rules-entry = and_right _ _ h

  pub rules-carries : carries_entry κ r (entry_in κ r) ≡ true
  unfolding commit_rules
  rules-carries =
      let z : (eqb (mark_in r) κ.mark and eqb (get_or r 2 0) 0 and eqb (get_or r 3 0) 0) ≡ true = and_left _ _ (and_left _ _ h) in
      carries-intro κ r (entry_in κ r) rules-mark (eqb-true (get_or r 2 0) 0 (and_right _ _ (and_left _ _ z))) (eqb-true (get_or r 3 0) 0 (and_right _ _ z)) (unfold entry_in in refl) rules-keys

-- the keys of an entry that keeps the rules are a write set
pub rules-set : (κ : Kind) (e : Entry) → entry_rules κ e ≡ true → WriteSet κ (keys_of e)
unfolding entry_rules
rules-set κ e h = (and_right _ _ h, leb-true _ _ (and_right _ _ (and_left _ _ (and_left _ _ (and_left _ _ h)))))

-- a record that carries an entry that keeps the rules keeps them
pub carries-rules : (κ : Kind) (r : List ℕ) (e : Entry) → KindFits κ → carries_entry κ r e ≡ true → entry_rules κ e ≡ true → commit_rules κ r ≡ true
unfolding commit_rules
carries-rules κ r e φ h k =
    let z = carries-zeros κ r e h in
    let q = carries-entry κ r e φ (rules-set κ e k) h in
    and_intro _ _ (and_intro _ _ (and_intro _ _ (and_intro _ _ (eq-eqb (mark_in r) κ.mark (carries-mark κ r e h)) (eq-eqb (get_or r 2 0) 0 z.0)) (eq-eqb (get_or r 3 0) 0 z.1))
    (rw q (carries-keys κ r e h))) (rw q k)

-- the cells of a list, one by one
unfoldable pub spread : ℕ → List ℕ → List ℕ
spread zero l = []
spread (suc n) l = get_or l 0 0 ∷ spread n (drop 1 l)

pub spread-all : (n : ℕ) (l : List ℕ) → length l ≡ n → l ≡ spread n l
unfolding spread
spread-all zero [] h = refl
spread-all zero (x ∷ xs) h = absurd (suc-ne-zero _ h)
spread-all (suc n) [] h = absurd (suc-ne-zero _ (sym h))
spread-all (suc n) (x ∷ xs) h = ap (λ (ys : List ℕ). x ∷ ys) (spread-all n xs (omega arith))

abbrev parts : List ℕ → List ℕ → List ℕ → List ℕ → List ℕ
parts r t c x = (get_or r 0 0 ∷ get_or r 1 0 ∷ get_or r 2 0 ∷ get_or r 3 0 ∷ t ++ c) ++ x

in_parts : (r : List ℕ) → length r ≡ record_size → r ≡ parts r (take 4 (drop 4 r)) (take 8 (drop 8 r)) (take 8 (drop 16 r))
unfolding spread
in_parts r h = rw (spread-all record_size r h)

module _ (r : List ℕ) (l : length r ≡ record_size) (b : Bytes r) where
  txn-bytes : bytes 4 (id_in r).txn ≡ take 4 (drop 4 r)
  unfolding id_in
  txn-bytes = bytes-number 4 (take 4 (drop 4 r)) (length-take-le 4 (drop 4 r) (omega (arith, length-drop 4 r))) (bytes_take 4 (drop 4 r) (bytes_drop 4 r b))

  clock-bytes : bytes 8 (id_in r).clock ≡ take 8 (drop 8 r)
  unfolding id_in
  clock-bytes = bytes-number 8 (take 8 (drop 8 r)) (length-take-le 8 (drop 8 r) (omega (arith, length-drop 8 r))) (bytes_take 8 (drop 8 r) (bytes_drop 8 r b))

  value-bytes : bytes 8 (value_in r) ≡ take 8 (drop 16 r)
  unfolding value_in
  value-bytes = bytes-number 8 (take 8 (drop 16 r)) (length-take-le 8 (drop 16 r) (omega (arith, length-drop 16 r))) (bytes_take 8 (drop 16 r) (bytes_drop 16 r b))

  version-parts : get_or r 1 0 ≡ 0 → get_or r 2 0 ≡ 0 → get_or r 3 0 ≡ 0 → r ≡ version_record (get_or r 0 0) (id_in r) (value_in r)
  unfolding version_record head_bytes
  version-parts h1 h2 h3 = in_parts r l ∙ (rw (h1, h2, h3, txn-bytes, clock-bytes, value-bytes))

  -- 24 bytes that carry a key and an id are a version record of them
  pub version-only : (k : ℕ) (i : Id) → carries_version r k i ≡ true → r ≡ version_record k i (value_in r)
  unfolding carries_version
  version-only k i h =
      let c : (eqb (get_or r 0 0) k and eqb (get_or r 1 0) 0 and eqb (get_or r 2 0) 0 and eqb (get_or r 3 0) 0) ≡ true = and_left _ _ h in
      version-parts (eqb-true (get_or r 1 0) 0 (and_right _ _ (and_left _ _ (and_left _ _ c)))) (eqb-true (get_or r 2 0) 0 (and_right _ _ (and_left _ _ c))) (eqb-true (get_or r 3 0) 0 (and_right _ _ c))
      ∙ ap₂ (λ (x : ℕ) (y : Id). version_record x y (value_in r)) (eqb-true (get_or r 0 0) k (and_left _ _ (and_left _ _ (and_left _ _ c)))) (same_id_lem (id_in r) i (and_right _ _ h))

module _ (κ : Kind) (r : List ℕ) (l : length r ≡ record_size) (b : Bytes r) where
  commit-parts : (ks : List ℕ) → mark_in r ≡ κ.mark → get_or r 2 0 ≡ 0 → get_or r 3 0 ≡ 0 → carries_keys κ r ks ≡ true → r ≡ commit_record κ (record { id = id_in r; keys = ks })
  unfolding commit_record head_bytes mark_in
  commit-parts ks h0 h2 h3 hk =
      in_parts r l ∙ (ap₂ (λ (n : ℕ) (bs : List ℕ). (get_or r 0 0 ∷ n ∷ get_or r 2 0 ∷ get_or r 3 0 ∷ take 4 (drop 4 r) ++ take 8 (drop 8 r)) ++ bs) (keys-counted κ r ks hk) (keys-encoded κ r ks hk) ∙ (rw (h0, h2, h3, txn-bytes r l b, clock-bytes r l b)))

  -- and 24 bytes that carry an entry are its commit record
  pub commit-only : (e : Entry) → carries_entry κ r e ≡ true → r ≡ commit_record κ e
  commit-only e h =
      let z = carries-zeros κ r e h in
      commit-parts (keys_of e) (carries-mark κ r e h) z.0 z.1 (carries-keys κ r e h) ∙ ap (λ (i : Id). commit_record κ (record { id = i; keys = keys_of e })) (carries-id-of κ r e h)

-- ── what a version record carries ──
pub carries-id : (r : List ℕ) (k : ℕ) (i : Id) → carries_version r k i ≡ true → id_in r ≡ i
unfolding carries_version
carries-id r k i h = same_id_lem (id_in r) i (and_right _ _ h)

pub carries-key : (r : List ℕ) (k : ℕ) (i : Id) → carries_version r k i ≡ true → get_or r 0 0 ≡ k
unfolding carries_version
carries-key r k i h = eqb-true (get_or r 0 0) k (and_left _ _ (and_left _ _ (and_left _ _ (and_left _ _ h))))

pub version-round : (k : ℕ) (i : Id) (v : ℕ) → i.txn < txn_range → i.clock < number_range → carries_version (version_record k i v) k i ≡ true
unfolding carries_version
version-round k i v ht hc =
    let z = version-head k i v in
    and_intro _ _ (and_intro _ _ (and_intro _ _ (and_intro _ _ (eq-eqb _ k z.0) (eq-eqb _ 0 z.1)) (eq-eqb _ 0 z.2)) (eq-eqb _ 0 z.3)) (rw (version-id k i v ht hc) (id_same i i refl))

-- ── a part of a list written over ──
module _ (s r : List ℕ) (at : ℕ) (l : length r ≡ record_size) (o : at + record_size ≤ length s) where
  front : length (take at s) ≡ at
  front = length-take-le at s (omega arith)

  write-length : length (take at s ++ (r ++ drop (at + record_size) s)) ≡ length s
  write-length = simp (length-append, front, length-drop, l) (omega arith)

  write_same : take record_size (drop at (take at s ++ (r ++ drop (at + record_size) s))) ≡ r
  write_same = rw (drop_at (take at s) (r ++ drop (at + record_size) s) at front) (take_at r (drop (at + record_size) s) record_size l)

  below : (x : List ℕ) (k : ℕ) → k + record_size ≤ at → take record_size (drop k (take at s ++ x)) ≡ take record_size (drop k (take at s))
  below x k h = rw (drop-append-le k (take at s) x (omega (arith, front))) (take-append-le record_size (drop k (take at s)) x (omega (arith, length-drop k (take at s), front)))

  write-below : (k : ℕ) → k + record_size ≤ at → take record_size (drop k (take at s ++ (r ++ drop (at + record_size) s))) ≡ take record_size (drop k s)
  write-below k h = below (r ++ drop (at + record_size) s) k h ∙ (sym (below (drop at s) k h) ∙ ap (λ (x : List ℕ). take record_size (drop k x)) (take-append-drop at s))

  write-above : (k : ℕ) → at + record_size ≤ k → take record_size (drop k (take at s ++ (r ++ drop (at + record_size) s))) ≡ take record_size (drop k s)
  write-above k h = ap (take record_size) (ap (λ (x : List ℕ). drop k x) (sym (append_assoc (take at s) r (drop (at + record_size) s))) ∙ (ap (λ (n : ℕ). drop n ((take at s ++ r) ++ drop (at + record_size) s)) e
      ∙ (drop-append-add (take at s ++ r) (drop (at + record_size) s) (k - (at + record_size)) ∙ (drop-drop (k - (at + record_size)) (at + record_size) s ∙ ap (λ (n : ℕ). drop n s) e'))))
    where
      e : k ≡ length (take at s ++ r) + (k - (at + record_size))
      e = omega (arith, length-append (take at s) r, front, l)

      e' : (at + record_size) + (k - (at + record_size)) ≡ k
      e' = omega arith

-- ── places: the only laws that are not linear ──
module _ (κ : Kind) where
  pub slots_apart : (c d : ℕ) → c < d → slot_start κ c + slot_size κ ≤ slot_start κ d
  unfolding slot_start
  slots_apart c d h = omega (arith, mul-le-mul_left (slot_size κ) h)

  pub slot-inside : (d : ℕ) → d < κ.slots → slot_start κ d + slot_size κ ≤ store_size κ
  unfolding slot_start
  slot-inside d h = omega (arith, mul-le-mul_left (slot_size κ) h)

  pub slot-start : (d : ℕ) → slot_start κ d ≡ slot_size κ * d
  unfolding slot_start
  slot-start d = refl

  -- and what follows by omega alone
  pub place_inside : (d n : ℕ) → d < κ.slots → n < width κ → record_place κ d n + record_size ≤ store_size κ
  place_inside d n od on = omega (arith, slot-inside d od)

  pub places-apart : (c d m n : ℕ) → c < d → m < width κ → record_place κ c m + record_size ≤ record_place κ d n
  places-apart c d m n h om = omega (arith, slots_apart c d h)

-- ── one record written into a store ──
module _ (κ : Kind) (s : List ℕ) (d n : ℕ) (r : List ℕ) (z : length s ≡ store_size κ) (od : d < κ.slots) (on : n < width κ) (l : length r ≡ record_size) where
  inside : record_place κ d n + record_size ≤ length s
  inside = omega (arith, z, place_inside κ d n od on)

  pub with-length : length (with_record κ s d n r) ≡ length s
  unfolding with_record
  with-length = write-length s r (record_place κ d n) l inside

  pub record_same : record_at κ (with_record κ s d n r) d n ≡ r
  unfolding with_record record_at
  record_same = write_same s r (record_place κ d n) l inside

  -- another record of the slot
  pub record-other : (m : ℕ) → m ≢ n → record_at κ (with_record κ s d n r) d m ≡ record_at κ s d m
  unfolding with_record record_at
  record-other m h = go (dec_lt m n)
    where
      go : Dec (m < n) → record_at κ (with_record κ s d n r) d m ≡ record_at κ s d m
      go (yes y) = write-below s r (record_place κ d n) l inside (record_place κ d m) (omega arith)
      go (no y) = write-above s r (record_place κ d n) l inside (record_place κ d m) (omega arith)

  -- any record of another slot
  pub record-elsewhere : (c m : ℕ) → c ≢ d → m < width κ → record_at κ (with_record κ s d n r) c m ≡ record_at κ s c m
  unfolding with_record record_at
  record-elsewhere c m h om = go (dec_lt c d)
    where
      go : Dec (c < d) → record_at κ (with_record κ s d n r) c m ≡ record_at κ s c m
      go (yes y) = write-below s r (record_place κ d n) l inside (record_place κ c m) (places-apart κ c d m n y om)
      go (no y) = write-above s r (record_place κ d n) l inside (record_place κ c m) (places-apart κ d c n m (omega arith) on)

-- ── a record as a part of a store, lent for it ──
pub record-written : (κ : Kind) (s y r : List ℕ) (d n at : ℕ) → at ≡ slot_start κ d + record_size * n → y ≡ r → put_mid at (at + record_size - at) s y ≡ with_record κ s d n r
unfolding with_record
record-written κ s y r d n at q e =
    let k : at + record_size - at ≡ record_size = omega arith in
    let p : at ≡ record_place κ d n = omega arith in
    ap (λ (x : ℕ). take at s ++ (y ++ drop x (drop at s))) k
    ∙ (ap (λ (x : List ℕ). take at s ++ (y ++ x)) (drop-drop record_size at s)
    ∙ ap₂ (λ (a : ℕ) (x : List ℕ). take a s ++ (x ++ drop (a + record_size) s)) p e)

pub record-part : (κ : Kind) (s : List ℕ) (d n at : ℕ) → at ≡ slot_start κ d + record_size * n → take (at + record_size - at) (drop at s) ≡ record_at κ s d n
unfolding record_at
record-part κ s d n at q =
    let k : at + record_size - at ≡ record_size = omega arith in
    let p : at ≡ record_place κ d n = omega arith in
    ap₂ (λ (x a : ℕ). take x (drop a s)) k p
