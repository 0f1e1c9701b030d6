-- 01 'The run sheet', output: the number and the values a, b, c of each answer.
use Rattle.std.specs.Prelude.{ℕ}
use Rattle.model.specs.declared.Answer.{Answer}
use Rattle.model.specs.declared.Answer.TheVariants as A

-- the number of a refusal; 0 of any other answer
unfoldable pub refused_with : Answer → ℕ
refused_with (A.Refused n d) = n
refused_with A.Started = 0
refused_with A.Kept = 0
refused_with (A.Own v) = 0
refused_with (A.Version v i) = 0
refused_with A.None = 0
refused_with (A.Nofit k) = 0
refused_with (A.Closing d) = 0
refused_with A.Empty = 0
refused_with (A.Done i) = 0
refused_with (A.Stored k) = 0
refused_with (A.Slipped d) = 0
refused_with A.Dropped = 0
refused_with (A.Collected i) = 0
refused_with (A.Found n) = 0
refused_with (A.Swept n) = 0
refused_with (A.Moved n) = 0

-- the count of a sweep's answer; 0 of any other
unfoldable pub swept_in : Answer → ℕ
swept_in (A.Swept n) = n
swept_in A.Started = 0
swept_in A.Kept = 0
swept_in (A.Own v) = 0
swept_in (A.Version v i) = 0
swept_in A.None = 0
swept_in (A.Nofit k) = 0
swept_in (A.Closing d) = 0
swept_in A.Empty = 0
swept_in (A.Done i) = 0
swept_in (A.Stored k) = 0
swept_in (A.Slipped d) = 0
swept_in A.Dropped = 0
swept_in (A.Collected i) = 0
swept_in (A.Found n) = 0
swept_in (A.Refused n d) = 0
swept_in (A.Moved n) = 0

pub record Values : Type 0 where
  pub a : ℕ
  pub b : ℕ
  pub c : ℕ

abbrev pub values : ℕ → ℕ → ℕ → Values
values x y z = record { a = x; b = y; c = z }

-- "Value is a for own and version; b and c are clock and ticket for version, done and collected; a is the key for stored, the drawer
-- for closing and slipped, the number of entries for found, the number for refused (b the drawer with 18). The rest are 0." 02 §1: "field
-- a of nofit" is the key in the way. §2, §6: a is the count for swept and moved, which no line of a sheet is answered.
unfoldable pub values_of : Answer → Values
values_of A.Started = values 0 0 0
values_of A.Kept = values 0 0 0
values_of (A.Own v) = values v 0 0
values_of (A.Version v i) = values v i.clock i.txn
values_of A.None = values 0 0 0
values_of (A.Nofit k) = values k 0 0
values_of (A.Closing d) = values d 0 0
values_of A.Empty = values 0 0 0
values_of (A.Done i) = values 0 i.clock i.txn
values_of (A.Stored k) = values k 0 0
values_of (A.Slipped d) = values d 0 0
values_of A.Dropped = values 0 0 0
values_of (A.Collected i) = values 0 i.clock i.txn
values_of (A.Found n) = values n 0 0
values_of (A.Refused n d) = values n d 0
values_of (A.Swept n) = values n 0 0
values_of (A.Moved n) = values n 0 0
