-- Laws of what is read of a slot (specs/Slots), and of the rules of an entry.
use Prim.Native.Nat.{ℕ, zero, suc, ◌+◌, ◌<◌, ◌≤◌, suc-le-suc}
use mathlib.Core.Path.{◌≡◌, refl, sym, ap, subst, ◌∙◌}
use mathlib.Core.Logic.{◌≢◌}
use mathlib.Core.Bool.{Bool, true, false}
use mathlib.Core.List.{List, [], ◌∷◌}
use lib.Dec.{eqb, lit<}
use lib.ListN.{length, take, drop, get_or, replicate}
use lib.Seq.{take-take, drop-drop, get_or-take, get_or-drop}
use native.Mathlib.Nat.{le_of_suc-le-suc, not-suc-le-zero, zero-lt-suc, lt_irrefl}
use native.Mathlib.Omega.{arith}
use borrow.Author.Tests.{leb-true, eqb-true, eq-eqb, ne_eqb}
use Rattle.model.specs.declared.Id.{Id}
use Rattle.model.specs.Types.{Entry}
use Rattle.model.specs.Lists.{◌and◌, first, ascending}
use Rattle.model.specs.Limits.{keys, record_size}
use Rattle.model.specs.Kinds.{Kind, width, slot_size, slot_start, store_size, KindFits}
use Rattle.model.specs.Entries.{keys_of, wrote, mark_in, entry_in, free_mark, entry_rules, commit_rules, carries_entry, record_of}
use Rattle.model.specs.Records.{zero_record, carries_version, record_place, record_at, with_record}
use Rattle.model.specs.Slots.{free, committed, damaged, versions_carry, judged, seen, slot_bytes}
use Rattle.model.proofs.Tests.{and_left, and_right, and_intro}
use Rattle.model.proofs.ListLaws.{member-finds, get_or-all}
use Rattle.model.proofs.RecordLaws.{length-zero, zero-mark, rules-mark, rules-entry, rules-carries, record_same, record-other, record-elsewhere}

-- ── the rules of an entry ──
module _ (κ : Kind) (e : Entry) (h : entry_rules κ e ≡ true) where
  pub rules-some : 1 ≤ length (keys_of e)
  unfolding entry_rules
  rules-some = leb-true 1 (length (keys_of e)) (and_left _ _ (and_left _ _ (and_left _ _ (and_left _ _ h))))

  pub rules-count : length (keys_of e) ≤ κ.write_limit
  unfolding entry_rules
  rules-count = leb-true (length (keys_of e)) κ.write_limit (and_right _ _ (and_left _ _ (and_left _ _ (and_left _ _ h))))

  pub rules-txn : e.id.txn ≢ 0
  unfolding entry_rules
  rules-txn z = lt_irrefl 0 (omega (arith, z, leb-true 1 e.id.txn (and_right _ _ (and_left _ _ (and_left _ _ h)))))

  pub rules-clock : 1 ≤ e.id.clock
  unfolding entry_rules
  rules-clock = leb-true 1 e.id.clock (and_right _ _ (and_left _ _ h))

  pub rules-ascending : ascending 0 keys (keys_of e) ≡ true
  unfolding entry_rules
  rules-ascending = and_right _ _ h

-- a written key's version record
pub record_of_lem : (e : Entry) (k : ℕ) → wrote e k ≡ true → (j : ℕ) × (j < length (keys_of e)) × (record_of e k ≡ suc j) × (get_or (keys_of e) j 0 ≡ k)
unfolding record_of wrote
record_of_lem e k h = let r = member-finds k (keys_of e) h in (first (eqb k) (keys_of e), r.0, refl, r.1)

pub record-of-low : (e : Entry) (k : ℕ) → wrote e k ≡ true → record_of e k ≤ length (keys_of e)
record-of-low e k h = let r = record_of_lem e k h in omega (arith, r.1, r.2)

-- it is one of a slot's records
pub rules-record : (κ : Kind) (e : Entry) → entry_rules κ e ≡ true → (k : ℕ) → wrote e k ≡ true → record_of e k < width κ
rules-record κ e h k w = omega (arith, record-of-low e k w, rules-count κ e h)

-- ── the three things that may be seen ──
pub committed-injective : (e e' : Entry) → committed e ≡ committed e' → e ≡ e'
committed-injective e e' h = cc

pub committed≢free : (e : Entry) → committed e ≢ free
committed≢free e h = let z : ◌≡◌ {A = ℕ} 0 1 = cc in omega arith

pub committed≢damaged : (e : Entry) → committed e ≢ damaged
committed≢damaged e h = let z : ◌≡◌ {A = ℕ} 0 1 = cc in omega arith

pub free≢damaged : free ≢ damaged
free≢damaged h = let z : ◌≡◌ {A = ℕ} 0 1 = cc in omega arith

judged-committed : (a b : Bool) (e e' : Entry) → judged a b e ≡ committed e' → (b ≡ true) × (e ≡ e')
unfolding judged
judged-committed true b e e' h = absurd (committed≢free e' (sym h))
judged-committed false true e e' h = (refl, committed-injective e e' h)
judged-committed false false e e' h = absurd (committed≢damaged e' (sym h))

judged-free : (a b : Bool) (e : Entry) → judged a b e ≡ free → a ≡ true
unfolding judged
judged-free true b e h = refl
judged-free false true e h = absurd (committed≢free e h)
judged-free false false e h = absurd (free≢damaged (sym h))

-- ── version records ──
pub versions-frame : (r r' : ℕ → List ℕ) (i : Id) (n : ℕ) (ks : List ℕ) → ((m : ℕ) → n ≤ m → m < n + length ks → r m ≡ r' m) → versions_carry r i n ks ≡ versions_carry r' i n ks
unfolding versions_carry
versions-frame r r' i n [] f = refl
versions-frame r r' i n (k ∷ ks) f = rw (f n (omega arith) (omega arith), versions-frame r r' i (suc n) ks (λ m a b. f m (omega arith) (omega arith)))

pub versions-true : (r : ℕ → List ℕ) (i : Id) (n : ℕ) (ks : List ℕ) → ((j : ℕ) → j < length ks → carries_version (r (n + j)) (get_or ks j 0) i ≡ true) → versions_carry r i n ks ≡ true
unfolding versions_carry
versions-true r i n [] f = refl
versions-true r i n (k ∷ ks) f = and_intro _ _ (subst (λ (m : ℕ). carries_version (r m) k i ≡ true) e (f 0 (zero-lt-suc _)))
    (versions-true r i (suc n) ks (λ j o. subst (λ (m : ℕ). carries_version (r m) (get_or ks j 0) i ≡ true) (e' j) (f (suc j) (suc-le-suc o))))
  where
    e : n + 0 ≡ n
    e = omega arith

    e' : (j : ℕ) → n + suc j ≡ suc n + j
    e' j = omega arith

pub versions-at : (r : ℕ → List ℕ) (i : Id) (n : ℕ) (ks : List ℕ) → versions_carry r i n ks ≡ true → (j : ℕ) → j < length ks → carries_version (r (n + j)) (get_or ks j 0) i ≡ true
unfolding versions_carry
versions-at r i n [] h j o = absurd (not-suc-le-zero o)
versions-at r i n (k ∷ ks) h zero o = subst (λ (m : ℕ). carries_version (r m) k i ≡ true) e (and_left _ _ h)
  where
    e : n ≡ n + 0
    e = omega arith
versions-at r i n (k ∷ ks) h (suc j) o = subst (λ (m : ℕ). carries_version (r m) (get_or ks j 0) i ≡ true) e (versions-at r i (suc n) ks (and_right _ _ h) j (le_of_suc-le-suc o))
  where
    e : suc n + j ≡ n + suc j
    e = omega arith

-- ── what is seen of a slot ──
and-frame : (a b b' : Bool) → (a ≡ true → b ≡ b') → (a and b) ≡ (a and b')
unfolding ◌and◌
and-frame true b b' f = f refl
and-frame false b b' f = refl

-- slots of the same records look the same
pub seen-frame : (κ : Kind) (s s' : List ℕ) (d d' : ℕ) → ((n : ℕ) → n < width κ → record_at κ s d n ≡ record_at κ s' d' n) → seen κ s d ≡ seen κ s' d'
unfolding seen
seen-frame κ s s' d d' f = rw (f 0 (omega arith), and-frame (commit_rules κ c) (versions_carry (record_at κ s d) e.id 1 (keys_of e)) (versions_carry (record_at κ s' d') e.id 1 (keys_of e)) versions)
  where
    c : List ℕ
    c = record_at κ s' d' 0

    e : Entry
    e = entry_in κ c

    versions : commit_rules κ c ≡ true → versions_carry (record_at κ s d) e.id 1 (keys_of e) ≡ versions_carry (record_at κ s' d') e.id 1 (keys_of e)
    versions h = versions-frame (record_at κ s d) (record_at κ s' d') e.id 1 (keys_of e) (λ m a b. f m (omega (arith, rules-count κ e (rules-entry κ c h))))

module _ (κ : Kind) (s : List ℕ) (d : ℕ) where
  pub seen-free : mark_in (record_at κ s d 0) ≡ free_mark → seen κ s d ≡ free
  unfolding seen judged
  seen-free h = rw (eq-eqb (mark_in (record_at κ s d 0)) free_mark h)

  pub seen-free-mark : seen κ s d ≡ free → mark_in (record_at κ s d 0) ≡ free_mark
  unfolding seen
  seen-free-mark h = eqb-true (mark_in (record_at κ s d 0)) free_mark (judged-free _ _ _ h)

  pub seen-committed : (e : Entry) → KindFits κ → commit_rules κ (record_at κ s d 0) ≡ true → entry_in κ (record_at κ s d 0) ≡ e
      → ((j : ℕ) → j < length (keys_of e) → carries_version (record_at κ s d (suc j)) (get_or (keys_of e) j 0) e.id ≡ true) → seen κ s d ≡ committed e
  unfolding seen
  seen-committed e φ h q f = rw (mark, h, q, versions-true (record_at κ s d) e.id 1 (keys_of e) f') (unfold judged ◌and◌ in refl)
    where
      mark : eqb (mark_in (record_at κ s d 0)) free_mark ≡ false
      mark = ne_eqb (mark_in (record_at κ s d 0)) free_mark (λ z. φ.marked (sym (rules-mark κ (record_at κ s d 0) h) ∙ z))

      e' : (j : ℕ) → suc j ≡ 1 + j
      e' j = omega arith

      f' : (j : ℕ) → j < length (keys_of e) → carries_version (record_at κ s d (1 + j)) (get_or (keys_of e) j 0) e.id ≡ true
      f' j o = subst (λ (m : ℕ). carries_version (record_at κ s d m) (get_or (keys_of e) j 0) e.id ≡ true) (e' j) (f j o)

  -- a slot that is seen as committed
  module _ (e : Entry) (h : seen κ s d ≡ committed e) where
    judgement : ((commit_rules κ (record_at κ s d 0) and versions_carry (record_at κ s d) (entry_in κ (record_at κ s d 0)).id 1 (keys_of (entry_in κ (record_at κ s d 0)))) ≡ true) × (entry_in κ (record_at κ s d 0) ≡ e)
    unfolding seen
    judgement = judged-committed _ _ _ e h

    pub committed-entry : entry_in κ (record_at κ s d 0) ≡ e
    committed-entry = judgement.1

    pub committed-rules : entry_rules κ e ≡ true
    committed-rules = subst (λ (x : Entry). entry_rules κ x ≡ true) committed-entry (rules-entry κ (record_at κ s d 0) (and_left _ _ judgement.0))

    pub committed-carries : carries_entry κ (record_at κ s d 0) e ≡ true
    committed-carries = subst (λ (x : Entry). carries_entry κ (record_at κ s d 0) x ≡ true) committed-entry (rules-carries κ (record_at κ s d 0) (and_left _ _ judgement.0))

    committed-versions : versions_carry (record_at κ s d) e.id 1 (keys_of e) ≡ true
    committed-versions = subst (λ (x : Entry). versions_carry (record_at κ s d) x.id 1 (keys_of x) ≡ true) committed-entry (and_right _ _ judgement.0)

    -- its nth version record, and that of a key it wrote
    pub committed-nth : (j : ℕ) → j < length (keys_of e) → carries_version (record_at κ s d (suc j)) (get_or (keys_of e) j 0) e.id ≡ true
    committed-nth j o = subst (λ (m : ℕ). carries_version (record_at κ s d m) (get_or (keys_of e) j 0) e.id ≡ true) q (versions-at (record_at κ s d) e.id 1 (keys_of e) committed-versions j o)
      where
        q : 1 + j ≡ suc j
        q = omega arith

    pub committed-version : (k : ℕ) → wrote e k ≡ true → carries_version (record_at κ s d (record_of e k)) k e.id ≡ true
    committed-version k w =
        let r = record_of_lem e k w in
        subst (λ (x : ℕ). carries_version (record_at κ s d (record_of e k)) x e.id ≡ true) r.3 (subst (λ (m : ℕ). carries_version (record_at κ s d m) (get_or (keys_of e) r.0 0) e.id ≡ true) (sym r.2) (committed-nth r.0 r.1))

-- ── a slot handed on as its bytes ──
pub take-inside : (k m n : ℕ) (l : List ℕ) → k + m ≤ n → take m (drop k (take n l)) ≡ take m (drop k l)
take-inside zero m n l o = take-take m n l (omega arith)
take-inside (suc k) m zero l o = absurd (not-suc-le-zero {n = k + m} (omega arith))
take-inside (suc k) m (suc n) [] o = refl
take-inside (suc k) m (suc n) (x ∷ xs) o = take-inside k m n xs (omega arith)

pub first_slot : (κ : Kind) → slot_start κ 0 ≡ 0
unfolding slot_start
first_slot κ = omega arith

pub slot-record : (κ : Kind) (s : List ℕ) (d n : ℕ) → n < width κ → record_at κ (slot_bytes κ s d) 0 n ≡ record_at κ s d n
unfolding record_at slot_bytes
slot-record κ s d n o = take-inside (record_place κ 0 n) record_size (slot_size κ) (drop (slot_start κ d) s) (omega (arith, first_slot κ))
    ∙ ap (take record_size) (drop-drop (record_place κ 0 n) (slot_start κ d) s ∙ ap (λ (m : ℕ). drop m s) e)
  where
    e : slot_start κ d + record_place κ 0 n ≡ record_place κ d n
    e = omega (arith, first_slot κ)

pub slot-bytes : (κ : Kind) (s : List ℕ) (d : ℕ) → seen κ (slot_bytes κ s d) 0 ≡ seen κ s d
slot-bytes κ s d = seen-frame κ (slot_bytes κ s d) s 0 d (λ n o. slot-record κ s d n o)

-- they are a part of the store
pub slot-part : (κ : Kind) (s : List ℕ) (d : ℕ) → seen κ (take (slot_size κ) (drop (slot_start κ d) s)) 0 ≡ seen κ s d
unfolding slot_bytes
slot-part κ s d = slot-bytes κ s d

-- ── a record written into a store ──
-- other slots look as they did
pub seen-elsewhere : (κ : Kind) (s : List ℕ) (d n : ℕ) (r : List ℕ) → length s ≡ store_size κ → d < κ.slots → n < width κ → length r ≡ record_size → (c : ℕ) → c ≢ d → seen κ (with_record κ s d n r) c ≡ seen κ s c
seen-elsewhere κ s d n r z od on l c h = seen-frame κ (with_record κ s d n r) s c c (λ m o. record-elsewhere κ s d n r z od on l c m h o)

-- a version record written into a free slot leaves it free
pub seen-unmarked : (κ : Kind) (s : List ℕ) (d n : ℕ) (r : List ℕ) → length s ≡ store_size κ → d < κ.slots → suc n < width κ → length r ≡ record_size → seen κ s d ≡ free → seen κ (with_record κ s d (suc n) r) d ≡ free
seen-unmarked κ s d n r z od on l h = seen-free κ (with_record κ s d (suc n) r) d (ap mark_in (record-other κ s d (suc n) r z od on l 0 (omega arith)) ∙ seen-free-mark κ s d h)

-- a zeroed commit record frees a slot
pub seen-cleared : (κ : Kind) (s : List ℕ) (d : ℕ) → length s ≡ store_size κ → d < κ.slots → seen κ (with_record κ s d 0 zero_record) d ≡ free
seen-cleared κ s d z od = seen-free κ (with_record κ s d 0 zero_record) d (ap mark_in (record_same κ s d 0 zero_record z od (omega arith) length-zero) ∙ zero-mark)

-- ── a store of zeros ──
zeros-mark : (κ : Kind) (n d : ℕ) → mark_in (record_at κ (replicate n 0) d 0) ≡ free_mark
unfolding mark_in record_at
zeros-mark κ n d = get_or-take record_size (drop (record_place κ d 0) (replicate n 0)) 0 0 (lit< tt) ∙ (get_or-drop (record_place κ d 0) (replicate n 0) 0 0 ∙ get_or-all n (record_place κ d 0 + 0) 0)

pub zeros-free : (κ : Kind) (n d : ℕ) → seen κ (replicate n 0) d ≡ free
zeros-free κ n d = seen-free κ (replicate n 0) d (zeros-mark κ n d)
