-- 02 §6: the moves. "A move copies a narrow store into a lent wide one: committed drawers in order fill wide drawers from 0, all else zero. A move
-- back does the reverse." From a store of one kind into a lent one of another: what is answered, and what the target is afterwards. The source is
-- lent to be read, and is not among what a move hands back.
use Rattle.std.specs.Prelude.{ℕ, suc, ◌*◌, Bool, false, cond, List, [], ◌∷◌, ◌++◌, ltb, length, take, drop}
use Rattle.model.specs.Types.{Entry}
use Rattle.model.specs.declared.Answer.{Answer}
use Rattle.model.specs.declared.Answer.TheVariants as A
use Rattle.model.specs.Lists.{◌or◌, any, count, padded}
use Rattle.model.specs.Limits.{record_size}
use Rattle.model.specs.Kinds.{Kind, narrow_kind, wide_kind, slot_size, store_size}
use Rattle.model.specs.Entries.{keys_of}
use Rattle.model.specs.Records.{record_place, record_at}
use Rattle.model.specs.Slots.{Seen, free, committed, damaged}
use Rattle.model.specs.Effects.{wrong_length}
use Rattle.model.specs.Scan.{slots_seen, is_committed, lowest_broken}

-- ── the target's bytes ──
-- a commit record of another kind: its mark and its key bytes are the kind's; count, zeros, ticket and clock are copied
unfoldable pub recast : Kind → List ℕ → List ℕ → List ℕ
recast κ ks r = κ.mark ∷ take 15 (drop 1 r) ++ κ.encode ks

-- the slot of kind κ' for the committed slot d: the commit record, the version records of its keys, zeros
unfoldable pub moved_slot : Kind → Kind → List ℕ → ℕ → Entry → List ℕ
moved_slot κ κ' s d e =
    padded 0 (slot_size κ') (recast κ' (keys_of e) (record_at κ s d 0) ++ take (record_size * length (keys_of e)) (drop (record_place κ d 1) s))

-- "committed drawers in order": those of the slots seen, counted from d
unfoldable pub moved_slots : Kind → Kind → List ℕ → ℕ → List Seen → List ℕ
moved_slots κ κ' s d [] = []
moved_slots κ κ' s d (free ∷ xs) = moved_slots κ κ' s (suc d) xs
moved_slots κ κ' s d (committed e ∷ xs) = moved_slot κ κ' s d e ++ moved_slots κ κ' s (suc d) xs
moved_slots κ κ' s d (damaged ∷ xs) = moved_slots κ κ' s (suc d) xs

-- "fill wide drawers from 0, all else zero", whatever the target held
unfoldable pub moved : Kind → Kind → List ℕ → List ℕ
moved κ κ' s = padded 0 (store_size κ') (moved_slots κ κ' s 0 (slots_seen κ s))

-- ── a move ──
pub record Move : Type 0 where
  pub answer : Answer
  pub target : List ℕ

-- a refusal alters no byte
abbrev pub unmoved : ℕ → ℕ → List ℕ → Move
unmoved n d t = record { answer = A.Refused n d; target = t }

-- row 23: a write set with more keys than the kind takes
unfoldable pub too_wide : Kind → Seen → Bool
too_wide κ free = false
too_wide κ (committed e) = ltb κ.write_limit (length (keys_of e))
too_wide κ damaged = false

-- "Both scan their source first, so damage is 18 .. (22: more than 32 committed drawers, after 18. 23: on the way back a write set above 8,
-- after 18. A target of wrong length is 1.)": more than the target has slots; more keys than it takes
unfoldable pub move : Kind → Kind → List ℕ → List ℕ → Move
move κ κ' s t =
    let xs : List Seen = slots_seen κ s in
    cond (wrong_length κ s or wrong_length κ' t) (unmoved 1 0 t)
    (cond (ltb (lowest_broken xs) (length xs)) (unmoved 18 (lowest_broken xs) t)
    (cond (ltb κ'.slots (count is_committed xs)) (unmoved 22 0 t)
    (cond (any (too_wide κ') xs) (unmoved 23 0 t)
    (record { answer = A.Moved (count is_committed xs); target = moved κ κ' s }))))

abbrev pub move_out : List ℕ → List ℕ → Move
move_out = move narrow_kind wide_kind

abbrev pub move_back : List ℕ → List ℕ → Move
move_back = move wide_kind narrow_kind
