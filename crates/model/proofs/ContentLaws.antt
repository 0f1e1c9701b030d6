-- What a committed slot holds, whatever the store's kind (02 §6): its entry, the bytes of its commit record that are the same in every kind, and its
-- version records.
use Prim.Native.Nat.{ℕ, suc, ◌+◌, ◌*◌, ◌<◌, ◌≤◌}
use mathlib.Core.Path.{◌≡◌, refl, ap, ◌∙◌}
use mathlib.Core.Bool.{true}
use mathlib.Core.List.{List, [], ◌∷◌, ◌++◌}
use lib.ListN.{length, take, drop, get_or, length-drop}
use lib.Seq.{drop-drop, length-take-le}
use native.Mathlib.Omega.{arith}
use borrow.Author.Tests.{le-leb}
use Rattle.model.specs.Types.{Entry}
use Rattle.model.specs.Lists.{padded}
use Rattle.model.specs.Limits.{record_size}
use Rattle.model.specs.Kinds.{Kind, slot_size, store_size}
use Rattle.model.specs.Bytes.{id_in}
use Rattle.model.specs.Entries.{no_entry, keys_of, count_in, entry_rules, carries_entry}
use Rattle.model.specs.Records.{carries_version, record_place, record_at}
use Rattle.model.specs.Slots.{Seen, free, committed, damaged, seen}
use Rattle.model.specs.Moves.{recast, moved_slot, moved_slots}
use Rattle.model.proofs.Tests.{and_left, and_right, and_intro}
use Rattle.model.proofs.RecordLaws.{spread, spread-all, carries-zeros, carries-keys, carries-id-of, keys-counted, place_inside}
use Rattle.model.proofs.SlotLaws.{rules-count, committed-rules, committed-carries, committed-nth, take-inside}

pub record Content : Type 0 where
  pub entry : Entry
  -- count, zeros, ticket and clock: the commit record between its mark and its key bytes
  pub head : List ℕ
  -- the version records of its keys
  pub versions : List ℕ

abbrev pub no_content : Content
no_content = record { entry = no_entry; head = []; versions = [] }

abbrev pub keys_in : Content → List ℕ
keys_in c = keys_of c.entry

abbrev pub txn_in : Content → ℕ
txn_in c = c.entry.id.txn

abbrev pub seen_as : Content → Seen
seen_as c = committed c.entry

-- ── what a slot holds ──
-- slot d, seen as committed with entry e
unfoldable pub content_of : Kind → List ℕ → ℕ → Entry → Content
content_of κ s d e = record { entry = e; head = take 15 (drop 1 (record_at κ s d 0)); versions = take (record_size * length (keys_of e)) (drop (record_place κ d 1) s) }

-- the committed ones of the slots seen, counted from d
unfoldable pub contents : Kind → List ℕ → ℕ → List Seen → List Content
contents κ s d [] = []
contents κ s d (free ∷ xs) = contents κ s (suc d) xs
contents κ s d (committed e ∷ xs) = content_of κ s d e ∷ contents κ s (suc d) xs
contents κ s d (damaged ∷ xs) = contents κ s (suc d) xs

-- ── slots for it ──
unfoldable pub commit_for : Kind → Content → List ℕ
commit_for κ c = κ.mark ∷ c.head ++ κ.encode (keys_in c)

unfoldable pub slot_for : Kind → Content → List ℕ
slot_for κ c = padded 0 (slot_size κ) (commit_for κ c ++ c.versions)

unfoldable pub slots_for : Kind → List Content → List ℕ
slots_for κ [] = []
slots_for κ (c ∷ cs) = slot_for κ c ++ slots_for κ cs

-- what a move writes is that
pub moved-slots : (κ κ' : Kind) (s : List ℕ) (d : ℕ) (xs : List Seen) → moved_slots κ κ' s d xs ≡ slots_for κ' (contents κ s d xs)
unfolding moved_slots slots_for contents moved_slot recast slot_for commit_for content_of
moved-slots κ κ' s d [] = refl
moved-slots κ κ' s d (free ∷ xs) = moved-slots κ κ' s (suc d) xs
moved-slots κ κ' s d (committed e ∷ xs) = ap (λ (l : List ℕ). moved_slot κ κ' s d e ++ l) (moved-slots κ κ' s (suc d) xs)
moved-slots κ κ' s d (damaged ∷ xs) = moved-slots κ κ' s (suc d) xs

-- ── what it has to be ──
pub record Whole (c : Content) : Type 0 where
  pub long : length c.head ≡ 15
  pub counted : get_or c.head 0 0 ≡ length (keys_in c)
  pub zeros : (get_or c.head 1 0 ≡ 0) × (get_or c.head 2 0 ≡ 0)
  pub id : id_in (0 ∷ c.head) ≡ c.entry.id
  pub room : length c.versions ≡ record_size * length (keys_in c)
  pub carried : (j : ℕ) → j < length (keys_in c) → carries_version (take record_size (drop (record_size * j) c.versions)) (get_or (keys_in c) j 0) c.entry.id ≡ true

-- a kind takes it
pub record Fit (κ : Kind) (c : Content) : Type 0 where
  pub whole : Whole c
  pub rules : entry_rules κ c.entry ≡ true

-- the bytes of a commit record between mark and key bytes
record Head (r h : List ℕ) : Type 0 where
  long : length h ≡ 15
  counted : get_or h 0 0 ≡ count_in r
  zero₁ : get_or h 1 0 ≡ get_or r 2 0
  zero₂ : get_or h 2 0 ≡ get_or r 3 0
  id : id_in (0 ∷ h) ≡ id_in r

head_of : (r : List ℕ) → length r ≡ record_size → Head r (take 15 (drop 1 r))
unfolding spread id_in
head_of r l = rw (spread-all record_size r l) (record { long = refl; counted = refl; zero₁ = refl; zero₂ = refl; id = refl })

-- a version record among them
pub nth-version : (κ : Kind) (s : List ℕ) (d : ℕ) (e : Entry) (j : ℕ) → j < length (keys_of e) → take record_size (drop (record_size * j) (content_of κ s d e).versions) ≡ record_at κ s d (suc j)
unfolding content_of record_at
nth-version κ s d e j o = take-inside (record_size * j) record_size (record_size * length (keys_of e)) (drop (record_place κ d 1) s) (omega arith)
    ∙ ap (take record_size) (drop-drop (record_size * j) (record_place κ d 1) s ∙ ap (λ (m : ℕ). drop m s) q)
  where
    q : record_place κ d 1 + record_size * j ≡ record_place κ d (suc j)
    q = omega arith

-- a committed slot's
module _ (κ : Kind) (s : List ℕ) (l : length s ≡ store_size κ) (d : ℕ) (o : d < κ.slots) (e : Entry) (h : seen κ s d ≡ committed e) where
  head : Head (record_at κ s d 0) (content_of κ s d e).head
  unfolding content_of
  head = head_of (record_at κ s d 0) (unfold record_at in length-take-le record_size (drop (record_place κ d 0) s) (omega (arith, length-drop (record_place κ d 0) s, place_inside κ d 0 o (omega arith))))

  pub content-fits : Fit κ (content_of κ s d e)
  unfolding content_of
  content-fits = record {
    whole = record {
      long = head.long;
      counted = head.counted ∙ keys-counted κ (record_at κ s d 0) (keys_of e) (carries-keys κ (record_at κ s d 0) e carries);
      zeros = (head.zero₁ ∙ z.0, head.zero₂ ∙ z.1);
      id = head.id ∙ carries-id-of κ (record_at κ s d 0) e carries;
      room = length-take-le (record_size * length (keys_of e)) (drop (record_place κ d 1) s) (omega (arith, length-drop (record_place κ d 1) s, place_inside κ d (length (keys_of e)) o (omega (arith, rules-count κ e (committed-rules κ s d e h)))));
      carried = λ j oj. rw (nth-version κ s d e j oj) (committed-nth κ s d e h j oj);
    };
    rules = committed-rules κ s d e h;
  }
    where
      carries : carries_entry κ (record_at κ s d 0) e ≡ true
      carries = committed-carries κ s d e h

      z : (get_or (record_at κ s d 0) 2 0 ≡ 0) × (get_or (record_at κ s d 0) 3 0 ≡ 0)
      z = carries-zeros κ (record_at κ s d 0) e carries

-- an entry that keeps one kind's rules keeps another's, where it takes as many keys
pub rules-within : (κ κ' : Kind) (e : Entry) → entry_rules κ e ≡ true → length (keys_of e) ≤ κ'.write_limit → entry_rules κ' e ≡ true
unfolding entry_rules
rules-within κ κ' e h o =
    let a = and_left _ _ h in
    let b = and_left _ _ a in
    let c = and_left _ _ b in
    and_intro _ _ (and_intro _ _ (and_intro _ _ (and_intro _ _ (and_left _ _ c) (le-leb (length (keys_of e)) κ'.write_limit o)) (and_right _ _ b)) (and_right _ _ a)) (and_right _ _ h)
