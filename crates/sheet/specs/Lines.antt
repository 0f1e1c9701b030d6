-- 01 'The run sheet': what a line of input asks. "Fields are in a fixed order parted by commas, no quoting. Input: verb,ticket,key,number."
use Rattle.std.specs.Prelude.{ℕ, Bool, true, false, cond, List, eqb, leb, length}
use Rattle.std.proofs.Math.Option.{Option, some, none}
use Rattle.model.specs.Lists.{◌and◌, same}
use Rattle.model.specs.Limits.{txn_range, number_range, byte_range}
use Rattle.model.specs.Calls.{Call, Start, Put, Get, Commit, Step, Abort, Collect, Scan}
use Rattle.decimal.specs.Digits.{number_below}
use Rattle.decimal.specs.Fields.{field, after_field}
use Rattle.lines.specs.Lines.{comma, line_limit}
use Rattle.sheet.specs.Words.{Verb, is_start, is_put, is_get, is_commit, is_step, is_abort, is_collect, is_cut, verb_bytes}

-- the verb whose name the bytes are
unfoldable pub verb_in : List ℕ → Option Verb
verb_in bs =
    cond (same bs (verb_bytes is_start)) (some is_start)
    (cond (same bs (verb_bytes is_put)) (some is_put)
    (cond (same bs (verb_bytes is_get)) (some is_get)
    (cond (same bs (verb_bytes is_commit)) (some is_commit)
    (cond (same bs (verb_bytes is_step)) (some is_step)
    (cond (same bs (verb_bytes is_abort)) (some is_abort)
    (cond (same bs (verb_bytes is_collect)) (some is_collect)
    (cond (same bs (verb_bytes is_cut)) (some is_cut) none)))))))

-- a call, if the fields that it does not use are 0
unfoldable pub if_unused : Bool → Call → Option Call
if_unused true c = some c
if_unused false c = none

-- "Number is the value in put and the clock in commit; key is the drawer in collect; unused fields are 0. `cut` drops the station and scans."
unfoldable pub call_in : Verb → ℕ → ℕ → ℕ → Option Call
call_in is_start t k n = if_unused (eqb k 0 and eqb n 0) (Start t)
call_in is_put t k n = some (Put t k n)
call_in is_get t k n = if_unused (eqb n 0) (Get t k)
call_in is_commit t k n = if_unused (eqb k 0) (Commit t n)
call_in is_step t k n = if_unused (eqb k 0 and eqb n 0) (Step t)
call_in is_abort t k n = if_unused (eqb k 0 and eqb n 0) (Abort t)
call_in is_collect t k n = if_unused (eqb t 0 and eqb n 0) (Collect k)
call_in is_cut t k n = if_unused (eqb t 0 and eqb k 0 and eqb n 0) Scan

-- all four fields are there and of their form: "ticket below 2^32, key below 256, number below 2^64"
unfoldable pub of_fields : Option Verb → Option ℕ → Option ℕ → Option ℕ → Option Call
of_fields (some v) (some t) (some k) (some n) = call_in v t k n
of_fields (some v) (some t) (some k) none = none
of_fields (some v) (some t) none n = none
of_fields (some v) none k n = none
of_fields none t k n = none

-- what is left after three commas is the last field, with no comma in it: a comma is no digit
unfoldable pub fourth : Option Verb → Option ℕ → Option ℕ → Option (List ℕ) → Option Call
fourth v t k none = none
fourth v t k (some bs) = of_fields v t k (number_below number_range bs)

unfoldable pub third : Option Verb → Option ℕ → Option (List ℕ) → Option Call
third v t none = none
third v t (some bs) = fourth v t (number_below byte_range (field comma bs)) (after_field comma bs)

unfoldable pub second : Option Verb → Option (List ℕ) → Option Call
second v none = none
second v (some bs) = third v (number_below txn_range (field comma bs)) (after_field comma bs)

-- the call that a line asks for; none where it is "longer or otherwise formed": row 19
unfoldable pub line_call : List ℕ → Option Call
line_call bs = cond (leb (length bs) line_limit) (second (verb_in (field comma bs)) (after_field comma bs)) none
