-- Requests and answers, computed; bytes that ask for nothing.
use Prim.Native.Nat.{ℕ}
use mathlib.Core.Path.{◌≡◌, refl}
use mathlib.Core.List.{List, ◌∷◌, ◌++◌}
use mathlib.Core.Option.{some, none}
use lib.ListN.{replicate}
use Rattle.model.specs.declared.Answer.TheVariants as A
use Rattle.model.specs.Lists.{◌and◌}
use Rattle.model.specs.Bytes.{bytes, number, id_in}
use Rattle.model.specs.Calls.{Put, Commit, Collect, Scan, Sweep}
use Rattle.model.specs.Answers.{values_of}
use Rattle.sheet.specs.Lines.{if_unused, call_in, of_fields}
use Rattle.interface.specs.Exchange.{verb_numbered, asked, request_call, answer_kind, four_bytes, answer_bytes}

-- verb, key, two zeros, transaction, number: both of them of two bytes
abbrev pub request : ℕ → ℕ → ℕ → ℕ → List ℕ
request v k z t = v ∷ k ∷ 0 ∷ z ∷ t ∷ 1 ∷ 0 ∷ 0 ∷ 44 ∷ 1 ∷ replicate 6 0

pub put-asked : request_call (request 2 5 0 2) ≡ some (Put 258 5 300)
unfolding request_call asked verb_numbered of_fields call_in id_in number ◌and◌
put-asked = refl

pub commit-asked : request_call (request 4 0 0 2) ≡ some (Commit 258 300)
unfolding request_call asked verb_numbered of_fields call_in if_unused id_in number ◌and◌
commit-asked = refl

pub scan-asked : request_call (8 ∷ replicate 15 0) ≡ some Scan
unfolding request_call asked verb_numbered of_fields call_in if_unused id_in number ◌and◌
scan-asked = refl

pub collect-asked : request_call (7 ∷ 63 ∷ replicate 14 0) ≡ some (Collect 63)
unfolding request_call asked verb_numbered of_fields call_in if_unused id_in number ◌and◌
collect-asked = refl

-- a sweep's limit is its number; its transaction and its key are 0
pub sweep-asked : request_call (9 ∷ replicate 7 0 ++ (64 ∷ replicate 7 0)) ≡ some (Sweep 64)
unfolding request_call asked if_unused id_in number ◌and◌
sweep-asked = refl

pub sweep-unused : request_call (request 9 0 0 2) ≡ none
unfolding request_call asked if_unused id_in number ◌and◌
sweep-unused = refl

-- a verb that is none; a zero that is not 0; a key that commit does not use
pub verb-ten : request_call (request 10 0 0 2) ≡ none
unfolding request_call asked verb_numbered of_fields call_in if_unused id_in number ◌and◌
verb-ten = refl

pub zero-not : request_call (request 2 5 1 2) ≡ none
unfolding request_call ◌and◌
zero-not = refl

pub key-unused : request_call (request 4 5 0 2) ≡ none
unfolding request_call asked verb_numbered of_fields call_in if_unused id_in number ◌and◌
key-unused = refl

-- a version: kind 4, its value, its clock and its transaction; a damaged slot: kind 15, 18 and the slot
pub version-answered : answer_bytes (A.Version 300 (record { clock = 3; txn = 258 })) ≡ (4 ∷ replicate 7 0) ++ ((44 ∷ 1 ∷ replicate 6 0) ++ ((3 ∷ replicate 7 0) ++ (2 ∷ 1 ∷ replicate 6 0)))
unfolding answer_bytes four_bytes answer_kind values_of bytes
version-answered = refl

pub slot-answered : answer_bytes (A.Refused 18 63) ≡ (15 ∷ replicate 7 0) ++ ((18 ∷ replicate 7 0) ++ ((63 ∷ replicate 7 0) ++ replicate 8 0))
unfolding answer_bytes four_bytes answer_kind values_of bytes
slot-answered = refl

-- a sweep of 40: kind 16 and the count
pub sweep-answered : answer_bytes (A.Swept 40) ≡ (16 ∷ replicate 7 0) ++ ((40 ∷ replicate 7 0) ++ (replicate 8 0 ++ replicate 8 0))
unfolding answer_bytes four_bytes answer_kind values_of bytes
sweep-answered = refl
