-- What committed slots hold (ContentLaws), laid into slots of any kind that takes it, is read back: slot by slot, from 0, and free slots after.
use Prim.Native.Nat.{ℕ, zero, suc, ◌+◌, ◌*◌, ◌-◌, ◌<◌, ◌≤◌, suc-le-suc}
use mathlib.Core.Path.{◌≡◌, refl, sym, ap, ap₂, ◌∙◌}
use mathlib.Core.Logic.{◌≢◌}
use mathlib.Core.Bool.{true, false}
use mathlib.Core.List.{List, [], ◌∷◌, ◌++◌, map, append_assoc}
use lib.ListN.{length, take, drop, get_or, replicate, length-append, length-drop}
use lib.Seq.{take-append-le, drop-append-le, drop-append-add, take_at}
use native.Mathlib.Nat.{mul-suc, mul-zero, not-suc-le-zero, le_of_suc-le-suc, zero-lt-suc}
use native.Mathlib.Omega.{arith}
use borrow.Author.Tests.{eq-eqb, le-ltb}
use Rattle.model.specs.Types.{Entry}
use Rattle.model.specs.Lists.{any, count, from, padded}
use Rattle.model.specs.Limits.{record_size, keys_size}
use Rattle.model.specs.Kinds.{Kind, slot_size, KindFits}
use Rattle.model.specs.Bytes.{id_in}
use Rattle.model.specs.Ranges.{Every}
use Rattle.model.specs.Entries.{keys_of, mark_in, count_in, key_bytes, carries_keys, carries_entry}
use Rattle.model.specs.Records.{record_place, record_at}
use Rattle.model.specs.Slots.{Seen, free, committed, damaged, seen}
use Rattle.model.specs.Scan.{is_committed}
use Rattle.model.specs.Moves.{too_wide}
use Rattle.model.proofs.ListLaws.{any-no, get_or-all}
use Rattle.model.proofs.ScanLaws.{count-free}
use Rattle.model.proofs.ContentLaws.{Content, no_content, keys_in, txn_in, seen_as, content_of, contents, commit_for, slot_for, slots_for, Fit}
use Rattle.model.proofs.Tests.{and_intro}
use Rattle.model.proofs.InsertLaws.{padded-length}
use Rattle.model.proofs.RecordLaws.{spread, spread-all, same_refl, carries-intro, carries-entry, carries-rules, rules-set, slot-start}
use Rattle.model.proofs.SlotLaws.{rules-count, seen-frame, seen-committed, first_slot, zeros-free, committed-injective, committed≢free, committed≢damaged, free≢damaged}

-- ── read back from its slot, at the front of a store ──
-- the commit record of 15 bytes h and the key bytes b
record Made (m : ℕ) (h b : List ℕ) : Type 0 where
  long : length (m ∷ h ++ b) ≡ record_size
  mark : mark_in (m ∷ h ++ b) ≡ m
  counted : count_in (m ∷ h ++ b) ≡ get_or h 0 0
  zero₁ : get_or (m ∷ h ++ b) 2 0 ≡ get_or h 1 0
  zero₂ : get_or (m ∷ h ++ b) 3 0 ≡ get_or h 2 0
  id : id_in (m ∷ h ++ b) ≡ id_in (0 ∷ h)
  keys : key_bytes (m ∷ h ++ b) ≡ b
  head : take 15 (drop 1 (m ∷ h ++ b)) ≡ h

made : (m : ℕ) (h b : List ℕ) → length h ≡ 15 → length b ≡ keys_size → Made m h b
unfolding spread id_in mark_in
made m h b lh lb = rw (spread-all 15 h lh, spread-all keys_size b lb) (record { long = refl; mark = refl; counted = refl; zero₁ = refl; zero₂ = refl; id = refl; keys = refl; head = refl })

module _ (κ : Kind) (φ : KindFits κ) (c : Content) (f : Fit κ c) where
  parts : Made κ.mark c.head (κ.encode (keys_in c))
  parts = made κ.mark c.head (κ.encode (keys_in c)) f.whole.long (φ.eight (keys_in c) (rules-set κ c.entry f.rules))

  commit-long : length (commit_for κ c) ≡ record_size
  unfolding commit_for
  commit-long = parts.long

  commit-carries : carries_entry κ (commit_for κ c) c.entry ≡ true
  unfolding commit_for
  commit-carries = carries-intro κ (commit_for κ c) c.entry parts.mark (parts.zero₁ ∙ f.whole.zeros.0) (parts.zero₂ ∙ f.whole.zeros.1) (parts.id ∙ f.whole.id)
      (unfold carries_keys in and_intro _ _ (eq-eqb _ _ (parts.counted ∙ f.whole.counted)) (rw parts.keys (same_refl (κ.encode (keys_in c)))))

  -- it fills the slot
  pub slot-long : length (slot_for κ c) ≡ slot_size κ
  unfolding slot_for
  slot-long = padded-length 0 (slot_size κ) (commit_for κ c ++ c.versions) (omega (arith, length-append (commit_for κ c) c.versions, commit-long, f.whole.room, rules-count κ c.entry f.rules))

  module _ (t : List ℕ) where
    store : List ℕ
    store = slot_for κ c ++ t

    after : List ℕ
    after = replicate (slot_size κ - length (commit_for κ c ++ c.versions)) 0 ++ t

    laid : store ≡ commit_for κ c ++ (c.versions ++ after)
    unfolding store after slot_for padded
    laid = append_assoc (commit_for κ c ++ c.versions) _ t ∙ append_assoc (commit_for κ c) c.versions _

    first-record : record_at κ store 0 0 ≡ commit_for κ c
    unfolding record_at
    first-record = ap₂ (λ (m : ℕ) (x : List ℕ). take record_size (drop m x)) q laid ∙ take_at (commit_for κ c) (c.versions ++ after) record_size commit-long
      where
        q : record_place κ 0 0 ≡ 0
        q = omega (arith, first_slot κ)

    past-commit : (j : ℕ) → drop (record_place κ 0 (suc j)) store ≡ drop (record_size * j) (c.versions ++ after)
    past-commit j = ap₂ (λ (m : ℕ) (x : List ℕ). drop m x) q laid ∙ drop-append-add (commit_for κ c) (c.versions ++ after) (record_size * j)
      where
        q : record_place κ 0 (suc j) ≡ length (commit_for κ c) + record_size * j
        q = omega (arith, first_slot κ, commit-long)

    nth-record : (j : ℕ) → j < length (keys_in c) → record_at κ store 0 (suc j) ≡ take record_size (drop (record_size * j) c.versions)
    unfolding record_at
    nth-record j o = ap (take record_size) (past-commit j ∙ drop-append-le (record_size * j) c.versions after (omega (arith, f.whole.room)))
        ∙ take-append-le record_size (drop (record_size * j) c.versions) after (omega (arith, length-drop (record_size * j) c.versions, f.whole.room))

    pub first-seen : seen κ (slot_for κ c ++ t) 0 ≡ committed c.entry
    unfolding store
    first-seen = seen-committed κ store 0 c.entry φ (rw first-record (carries-rules κ (commit_for κ c) c.entry φ commit-carries f.rules))
        (rw first-record (carries-entry κ (commit_for κ c) c.entry φ (rules-set κ c.entry f.rules) commit-carries)) (λ j o. rw (nth-record j o) (f.whole.carried j o))

    pub first-content : content_of κ (slot_for κ c ++ t) 0 c.entry ≡ c
    unfolding content_of store
    first-content = λ z. record { entry = c.entry; head = heads z; versions = versions z }
      where
        heads : take 15 (drop 1 (record_at κ store 0 0)) ≡ c.head
        heads = rw first-record (unfold commit_for in parts.head)

        versions : take (record_size * length (keys_in c)) (drop (record_place κ 0 1) store) ≡ c.versions
        versions = ap (take (record_size * length (keys_in c))) (past-commit 0) ∙ take_at c.versions after (record_size * length (keys_in c)) f.whole.room

-- ── after another slot ──
module _ (κ : Kind) (p t : List ℕ) (l : length p ≡ slot_size κ) where
  next-drop : (d n : ℕ) → drop (record_place κ (suc d) n) (p ++ t) ≡ drop (record_place κ d n) t
  next-drop d n = ap (λ (m : ℕ). drop m (p ++ t)) q ∙ drop-append-add p t (record_place κ d n)
    where
      q : record_place κ (suc d) n ≡ length p + record_place κ d n
      q = omega (arith, slot-start κ (suc d), slot-start κ d, mul-suc (slot_size κ) d, l)

  next-record : (d n : ℕ) → record_at κ (p ++ t) (suc d) n ≡ record_at κ t d n
  unfolding record_at
  next-record d n = ap (take record_size) (next-drop d n)

  next-seen : (d : ℕ) → seen κ (p ++ t) (suc d) ≡ seen κ t d
  next-seen d = seen-frame κ (p ++ t) t (suc d) d (λ n o. next-record d n)

  next-content : (d : ℕ) (e : Entry) → content_of κ (p ++ t) (suc d) e ≡ content_of κ t d e
  unfolding content_of
  next-content d e = ap₂ (λ (r v : List ℕ). record { entry = e; head = take 15 (drop 1 r); versions = take (record_size * length (keys_of e)) v }) (next-record d 0) (next-drop d 1)

  pub next-contents : (d : ℕ) (xs : List Seen) → contents κ (p ++ t) (suc d) xs ≡ contents κ t d xs
  unfolding contents
  next-contents d [] = refl
  next-contents d (free ∷ xs) = next-contents (suc d) xs
  next-contents d (committed e ∷ xs) = ap₂ (λ (c : Content) (cs : List Content). c ∷ cs) (next-content d e) (next-contents (suc d) xs)
  next-contents d (damaged ∷ xs) = next-contents (suc d) xs

  pub next-slots : (n d : ℕ) → from n (suc d) (seen κ (p ++ t)) ≡ from n d (seen κ t)
  unfolding from
  next-slots zero d = refl
  next-slots (suc n) d = ap₂ (λ (x : Seen) (xs : List Seen). x ∷ xs) (next-seen d) (next-slots n (suc d))

-- ── slots laid one after the other, and zeros ──
zeros-seen : (κ : Kind) (z n i : ℕ) → from n i (seen κ (replicate z 0)) ≡ replicate n free
unfolding from
zeros-seen κ z zero i = refl
zeros-seen κ z (suc n) i = ap₂ (λ (x : Seen) (xs : List Seen). x ∷ xs) (zeros-free κ z i) (zeros-seen κ z n (suc i))

module _ (κ : Kind) (φ : KindFits κ) where
  pub slots-long : (cs : List Content) → Every (Fit κ) cs → length (slots_for κ cs) ≡ slot_size κ * length cs
  unfolding slots_for
  slots-long [] f = sym (mul-zero (slot_size κ))
  slots-long (c ∷ cs) f = length-append (slot_for κ c) (slots_for κ cs) ∙ omega (arith, slot-long κ φ c f.0, slots-long cs f.1, mul-suc (slot_size κ) (length cs))

  pub slots-seen : (cs : List Content) → Every (Fit κ) cs → (m z : ℕ) → from (length cs + m) 0 (seen κ (slots_for κ cs ++ replicate z 0)) ≡ map seen_as cs ++ replicate m free
  unfolding slots_for from
  slots-seen [] f m z = let q : 0 + m ≡ m = omega arith in rw q (zeros-seen κ z m 0)
  slots-seen (c ∷ cs) f m z =
      let q : suc (length cs) + m ≡ suc (length cs + m) = omega arith in
      rw (q, append_assoc (slot_for κ c) (slots_for κ cs) (replicate z 0))
      (ap₂ (λ (x : Seen) (xs : List Seen). x ∷ xs) (first-seen κ φ c f.0 _) (next-slots κ (slot_for κ c) _ (slot-long κ φ c f.0) (length cs + m) 0 ∙ slots-seen cs f.1 m z))

  none_free : (s : List ℕ) (m d : ℕ) → contents κ s d (replicate m free) ≡ []
  unfolding contents
  none_free s zero d = refl
  none_free s (suc m) d = none_free s m (suc d)

  pub slots-contents : (cs : List Content) → Every (Fit κ) cs → (m z : ℕ) → contents κ (slots_for κ cs ++ replicate z 0) 0 (map seen_as cs ++ replicate m free) ≡ cs
  unfolding slots_for contents
  slots-contents [] f m z = none_free (replicate z 0) m 0
  slots-contents (c ∷ cs) f m z = ap (λ (s : List ℕ). contents κ s 0 (map seen_as (c ∷ cs) ++ replicate m free)) (append_assoc (slot_for κ c) (slots_for κ cs) (replicate z 0))
      ∙ (ap₂ (λ (x : Content) (xs : List Content). x ∷ xs) (first-content κ φ c f.0 _) (next-contents κ (slot_for κ c) _ (slot-long κ φ c f.0) 0 (map seen_as cs ++ replicate m free) ∙ slots-contents cs f.1 m z))

-- ── slots seen as committed one after the other, and free ones after them ──
module _ (m : ℕ) where
  pub laid-undamaged : (cs : List Content) (i : ℕ) → get_or (map seen_as cs ++ replicate m free) i free ≢ damaged
  laid-undamaged [] i h = free≢damaged (sym (get_or-all m i free) ∙ h)
  laid-undamaged (c ∷ cs) zero h = committed≢damaged c.entry h
  laid-undamaged (c ∷ cs) (suc i) h = laid-undamaged cs i h

  pub laid-at : (cs : List Content) (i : ℕ) (e : Entry) → get_or (map seen_as cs ++ replicate m free) i free ≡ committed e → (i < length (map txn_in cs)) × (get_or (map txn_in cs) i 0 ≡ e.id.txn)
  laid-at [] i e h = absurd (committed≢free e (sym h ∙ get_or-all m i free))
  laid-at (c ∷ cs) zero e h = (zero-lt-suc _, ap (λ (x : Entry). x.id.txn) (committed-injective c.entry e h))
  laid-at (c ∷ cs) (suc i) e h = let r = laid-at cs i e h in (suc-le-suc r.0, r.1)

  pub laid-beyond : (cs : List Content) (i : ℕ) → length cs ≤ i → get_or (map seen_as cs ++ replicate m free) i free ≡ free
  laid-beyond [] i o = get_or-all m i free
  laid-beyond (c ∷ cs) zero o = absurd (not-suc-le-zero o)
  laid-beyond (c ∷ cs) (suc i) o = laid-beyond cs i (le_of_suc-le-suc o)

  pub laid-nth : (cs : List Content) (i : ℕ) → i < length cs → get_or (map seen_as cs ++ replicate m free) i free ≡ seen_as (get_or cs i no_content)
  laid-nth [] i o = absurd (not-suc-le-zero o)
  laid-nth (c ∷ cs) zero o = refl
  laid-nth (c ∷ cs) (suc i) o = laid-nth cs i (le_of_suc-le-suc o)

  pub laid-below : (cs : List Content) (i : ℕ) → i ≤ length cs → count is_committed (take i (map seen_as cs ++ replicate m free)) ≡ i
  unfolding count is_committed
  laid-below cs zero o = refl
  laid-below [] (suc i) o = absurd (not-suc-le-zero o)
  laid-below (c ∷ cs) (suc i) o = ap suc (laid-below cs i (le_of_suc-le-suc o))

  pub laid-count : (cs : List Content) → count is_committed (map seen_as cs ++ replicate m free) ≡ length cs
  unfolding count is_committed
  laid-count [] = count-free m
  laid-count (c ∷ cs) = ap suc (laid-count cs)

  pub laid-narrow : (κ : Kind) (cs : List Content) → Every (Fit κ) cs → any (too_wide κ) (map seen_as cs ++ replicate m free) ≡ false
  unfolding any too_wide
  laid-narrow κ [] f = none_free m
    where
      none_free : (n : ℕ) → any (too_wide κ) (replicate n free) ≡ false
      none_free zero = refl
      none_free (suc n) = none_free n
  laid-narrow κ (c ∷ cs) f = any-no (too_wide κ) (seen_as c) (map seen_as cs ++ replicate m free) (le-ltb κ.write_limit (length (keys_in c)) (rules-count κ c.entry f.0.rules)) ∙ laid-narrow κ cs f.1
