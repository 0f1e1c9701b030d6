-- One slot moved: its bytes up to the last version record of its keys are copied, the rest of the part lent is zeros, and the commit record is
-- written over the first record.
use Prim.Native.Nat.{ℕ, ◌+◌, ◌*◌, ◌-◌, ◌<◌, ◌≤◌}
use mathlib.Core.Path.{◌≡◌, refl, sym, ap, ap₂, ◌∙◌}
use mathlib.Core.List.{List, ◌++◌, append_assoc}
use lib.ListN.{length, take, drop, replicate, length-append, length-drop}
use lib.Seq.{drop-drop, take-add, drop_at, length-take-le}
use native.Mathlib.Omega.{arith}
use borrow.Rule.Slice.PartMut.{put_mid, mid_len}
use Rattle.model.specs.Types.{Entry}
use Rattle.model.specs.Lists.{padded}
use Rattle.model.specs.Limits.{record_size}
use Rattle.model.specs.Kinds.{Kind, slot_size, store_size, KindFits}
use Rattle.model.specs.Bytes.{bytes, head_bytes}
use Rattle.model.specs.Entries.{keys_of, commit_record}
use Rattle.model.specs.Records.{record_place, record_at}
use Rattle.model.specs.Slots.{seen, committed}
use Rattle.model.specs.Moves.{recast, moved_slot}
use Rattle.model.proofs.RecordLaws.{Bytes, bytes_take, bytes_drop, length-commit, commit-only, place_inside, slot-start}
use Rattle.model.proofs.SlotLaws.{rules-count, rules-ascending, committed-rules, committed-carries}
use Rattle.recovery.proofs.ScanSteps.{slot-ends}

-- a commit record of another kind is the entry's
recast-commit : (κ κ' : Kind) (e : Entry) → recast κ' (keys_of e) (commit_record κ e) ≡ commit_record κ' e
unfolding recast commit_record head_bytes bytes
recast-commit κ κ' e = refl

module _ (κ κ' : Kind) (s : List ℕ) (d : ℕ) (e : Entry) (l : length s ≡ store_size κ) (o : d < κ.slots) (h : seen κ s d ≡ committed e) where
  commit-recast : Bytes s → recast κ' (keys_of e) (record_at κ s d 0) ≡ commit_record κ' e
  commit-recast b = ap (recast κ' (keys_of e)) (commit-only κ (record_at κ s d 0) long are e (committed-carries κ s d e h)) ∙ recast-commit κ κ' e
    where
      long : length (record_at κ s d 0) ≡ record_size
      long = unfold record_at in length-take-le record_size (drop (record_place κ d 0) s) (omega (arith, length-drop (record_place κ d 0) s, place_inside κ d 0 o (omega arith)))

      are : Bytes (record_at κ s d 0)
      are = unfold record_at in bytes_take record_size (drop (record_place κ d 0) s) (bytes_drop (record_place κ d 0) s b)

  -- z bytes are a slot, and n of them are copied
  module _ (z n : ℕ) (q : z ≡ slot_size κ) (k : n ≡ record_size * (length (keys_of e) + 1)) where
    abbrev copied : List ℕ
    copied = take (z * d + n - z * d) (drop (z * d) s)

    pub copied-ends : z * d + n ≤ store_size κ
    copied-ends = omega (arith, slot-ends κ s z d q o, q, k, rules-count κ e (committed-rules κ s d e h))

    copied-length : length copied ≡ n
    copied-length = mid_len (z * d) (z * d + n) s (omega (arith, l, copied-ends, k)) ∙ omega arith

    -- the first record, and the version records
    abbrev versions : List ℕ
    versions = take (record_size * length (keys_of e)) (drop (record_place κ d 1) s)

    copied-parts : copied ≡ take record_size (drop (z * d) s) ++ versions
    copied-parts =
        let a : z * d + n - z * d ≡ record_size + record_size * length (keys_of e) = omega (arith, k) in
        let p : z * d + record_size ≡ record_place κ d 1 = ap (λ (x : ℕ). x * d + record_size) q ∙ omega (arith, slot-start κ d) in
        ap (λ (x : ℕ). take x (drop (z * d) s)) a
        ∙ (take-add record_size (record_size * length (keys_of e)) (drop (z * d) s)
        ∙ ap (λ (x : List ℕ). take record_size (drop (z * d) s) ++ take (record_size * length (keys_of e)) x) (drop-drop record_size (z * d) s ∙ ap (λ (x : ℕ). drop x s) p))

    -- copied over a part p, which is cleared past them, and the commit record y over the first
    pub slot-made : (φ : KindFits κ') → Bytes s → length (keys_of e) ≤ κ'.write_limit → (p c y : List ℕ) → length p ≡ slot_size κ' → take (length copied) p ≡ copied
        → c ≡ take n p ++ replicate (length p - n) 0 → y ≡ commit_record κ' e → put_mid 0 record_size c y ≡ moved_slot κ κ' s d e
    unfolding moved_slot padded
    slot-made φ b few p c y m t f g =
        ap₂ (λ (a r : List ℕ). a ++ drop record_size r) g cleared
        ∙ (ap (λ (r : List ℕ). commit_record κ' e ++ r) (drop_at first (versions ++ zeros) record_size first-length)
        ∙ (sym (append_assoc (commit_record κ' e) versions zeros)
        ∙ (ap (λ (x : ℕ). (commit_record κ' e ++ versions) ++ replicate x 0) counted
        ∙ ap (λ (r : List ℕ). (r ++ versions) ++ replicate (slot_size κ' - length (r ++ versions)) 0) (sym (commit-recast b)))))
      where
        first : List ℕ
        first = take record_size (drop (z * d) s)

        zeros : List ℕ
        zeros = replicate (length p - n) 0

        first-length : length first ≡ record_size
        first-length = length-take-le record_size (drop (z * d) s) (omega (arith, length-drop (z * d) s, l, copied-ends, k))

        cleared : c ≡ first ++ (versions ++ zeros)
        cleared = f ∙ (ap (λ (x : ℕ). take x p ++ zeros) (sym copied-length) ∙ (ap (λ (x : List ℕ). x ++ zeros) (t ∙ copied-parts) ∙ append_assoc first versions zeros))

        counted : length p - n ≡ slot_size κ' - length (commit_record κ' e ++ versions)
        counted =
            let x : length (first ++ versions) ≡ n = ap length (sym copied-parts) ∙ copied-length in
            omega (arith, m, x, first-length, length-append first versions, length-append (commit_record κ' e) versions, length-commit κ' e φ (rules-ascending κ e (committed-rules κ s d e h), few))
