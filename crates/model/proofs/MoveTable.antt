-- 02 §6, computed: moves between two small kinds, one with more slots and one with larger write sets, as narrow and wide are. What each answers, and the
-- target's bytes. Rows that a careless reading of the request fails.
use Prim.Native.Nat.{ℕ}
use mathlib.Core.Path.{◌≡◌, refl}
use mathlib.Core.List.{List, [], ◌∷◌, ◌++◌, map}
use lib.ListN.{take, replicate}
use Rattle.model.specs.declared.Id.{Id}
use Rattle.model.specs.declared.Answer.{Answer}
use Rattle.model.specs.declared.Answer.TheVariants as A
use Rattle.model.specs.Lists.{◌and◌, ◌or◌, any, first, count, padded, from, member, ascending, same}
use Rattle.model.specs.Ids.{same_id}
use Rattle.model.specs.Bytes.{bytes, number, head_bytes, id_in}
use Rattle.model.specs.KeySets.{with_lowest, keys_below, key_set, set_number}
use Rattle.model.specs.Kinds.{Kind, slot_start}
use Rattle.model.specs.Entries.{mark_in, entry_in, entry_rules, carries_keys, commit_rules}
use Rattle.model.specs.Records.{version_record, carries_version, record_at}
use Rattle.model.specs.Slots.{versions_carry, judged, seen}
use Rattle.model.specs.Effects.{wrong_length}
use Rattle.model.specs.Scan.{slots_seen, entry_seen, is_committed, breaks, lowest_broken}
use Rattle.model.specs.Moves.{recast, moved_slot, moved_slots, moved, too_wide, move}

-- four slots of three records, 288 bytes; two slots of five, 240 bytes
abbrev many : Kind
many = record { slots = 4; write_limit = 2; mark = 1; encode = padded 0 8; decode = λ n bs. take n bs }

abbrev large : Kind
large = record { slots = 2; write_limit = 4; mark = 2; encode = λ ks. bytes 8 (set_number ks); decode = λ n bs. key_set (number bs) }

abbrev id : ℕ → Id
id t = record { clock = 100; txn = t }

-- a commit record of a transaction, by its mark, its count and its key bytes; its version record of a key
pub commit : ℕ → ℕ → ℕ → List ℕ → List ℕ
commit m t n ks = head_bytes m n (id t) ++ ks

pub version : ℕ → ℕ → List ℕ
version t k = version_record k (id t) 7

-- slots of `many`: transaction t with key 4; with keys 3 and 9
pub one : ℕ → List ℕ
one t = commit 1 t 1 (4 ∷ replicate 7 0) ++ version t 4 ++ replicate 24 0

pub two : ℕ → List ℕ
two t = commit 1 t 2 (3 ∷ 9 ∷ replicate 6 0) ++ version t 3 ++ version t 9

-- and of `large`: keys 3 and 9 are the number 8 + 512, key 4 is 16
pub one_large : ℕ → List ℕ
one_large t = commit 2 t 1 (16 ∷ replicate 7 0) ++ version t 4 ++ replicate 72 0

pub two_large : ℕ → List ℕ
two_large t = commit 2 t 2 (8 ∷ 2 ∷ replicate 6 0) ++ version t 3 ++ version t 9 ++ replicate 48 0

pub three_large : ℕ → List ℕ
three_large t = commit 2 t 3 (24 ∷ 2 ∷ replicate 6 0) ++ version t 3 ++ version t 4 ++ version t 9 ++ replicate 24 0

-- a slot never used; one that is free with an earlier transaction's records in it; one committed with a leftover above its count; damaged: the other
-- kind's mark
abbrev unused : List ℕ
unused = replicate 72 0

pub left : List ℕ
left = replicate 24 0 ++ version 8 1 ++ version 8 2

pub one_over : ℕ → List ℕ
one_over t = commit 1 t 1 (4 ∷ replicate 7 0) ++ version t 4 ++ version 8 2

pub marked : ℕ → List ℕ
marked t = commit 2 t 1 (4 ∷ replicate 7 0) ++ version t 4 ++ replicate 24 0

pub record Row : Type 0 where
  pub source : Kind
  pub target : Kind
  pub read : List ℕ
  pub lent : List ℕ
  pub answers : Answer
  pub after : List ℕ

abbrev row : Kind → Kind → List ℕ → List ℕ → Answer → List ℕ → Row
row κ κ' s t a r = record { source = κ; target = κ'; read = s; lent = t; answers = a; after = r }

-- whatever the target held
abbrev full : ℕ → List ℕ
full n = replicate n 255

pub rows : List Row
rows =
    -- "committed drawers in order fill wide drawers from 0, all else zero": past a gap, and without leftovers. Exactly as many as there are slots
    row many large (two 5 ++ left ++ one_over 6 ++ unused) (full 240) (A.Moved 2) (two_large 5 ++ one_large 6)
    -- in the order of slots, not of tickets; and again from what a move cut short left
    ∷ row many large (unused ++ one 6 ++ left ++ two 5) (full 240) (A.Moved 2) (one_large 6 ++ two_large 5)
    ∷ row many large (unused ++ one 6 ++ left ++ two 5) (one_large 6 ++ full 120) (A.Moved 2) (one_large 6 ++ two_large 5)
    -- nothing committed: all zero
    ∷ row many large (left ++ unused ++ left ++ unused) (full 240) (A.Moved 0) (replicate 240 0)
    -- back: from slot 0, not from the top nor where they were; a write set as large as is taken
    ∷ row large many (two_large 5 ++ one_large 6) (full 288) (A.Moved 2) (two 5 ++ one 6 ++ unused ++ unused)
    -- 22: one committed slot more than there are slots
    ∷ row many large (one 5 ++ one 6 ++ unused ++ one 7) (full 240) (A.Refused 22 0) (full 240)
    -- 23: one key more than is taken
    ∷ row large many (one_large 5 ++ three_large 6) (full 288) (A.Refused 23 0) (full 288)
    -- "so damage is 18": with its slot, before 22 and before 23; the other kind's mark; a ticket twice
    ∷ row many large (one 5 ++ one 6 ++ one 7 ++ marked 8) (full 240) (A.Refused 18 3) (full 240)
    ∷ row many large (one 5 ++ one 6 ++ one 7 ++ one 6) (full 240) (A.Refused 18 3) (full 240)
    ∷ row large many (three_large 5 ++ one_large 5) (full 288) (A.Refused 18 1) (full 288)
    -- "A target of wrong length is 1.", as is a source of wrong length; before 18
    ∷ row many large (marked 5 ++ unused ++ unused ++ unused) (full 241) (A.Refused 1 0) (full 241)
    ∷ row many large (one 5 ++ unused ++ unused ++ replicate 71 0) (full 240) (A.Refused 1 0) (full 240)
    ∷ row many large (one 5 ++ unused ++ unused ++ unused) (full 288) (A.Refused 1 0) (full 288)
    ∷ []

-- The claim: every move answers, and leaves its target, as its row says.
pub moves-hold : map (λ (r : Row). move r.source r.target r.read r.lent) rows ≡ map (λ (r : Row). record { answer = r.answers; target = r.after }) rows
unfolding commit version one two one_large two_large three_large left one_over marked rows ◌and◌ ◌or◌ any first count padded from member ascending same same_id bytes number head_bytes id_in with_lowest keys_below key_set set_number slot_start mark_in entry_in entry_rules carries_keys commit_rules version_record carries_version record_at versions_carry judged seen wrong_length slots_seen entry_seen is_committed breaks lowest_broken recast moved_slot moved_slots moved too_wide move
moves-hold = refl
