-- 01 'What a refused call says': the numbers of its table; 20 to 28 are 02's.
use Rattle.std.specs.Prelude.{ℕ}
use Rattle.model.specs.declared.refusal.Refusal.{Refusal}
use Rattle.model.specs.declared.refusal.Refusal.TheVariants.{StoreLength, Unsound, TransactionZero, KeyRange, ClockZero, Taken, LiveFull, NotLive, IsClosing, NotClosing, WritesFull, ReadsFull, SlotsFull, NotHeld, Newest, IsRead, RecordChanged, Damaged, Malformed, LimitRange, NoClock, TooManySlots, TooManyKeys, NotAStream, LogLimits}

abbrev pub number_of : Refusal → ℕ
number_of StoreLength = 1
number_of Unsound = 2
number_of TransactionZero = 3
number_of KeyRange = 4
number_of ClockZero = 5
number_of Taken = 6
number_of LiveFull = 7
number_of NotLive = 8
number_of IsClosing = 9
number_of NotClosing = 10
number_of WritesFull = 11
number_of ReadsFull = 12
number_of SlotsFull = 13
number_of NotHeld = 14
number_of Newest = 15
number_of IsRead = 16
number_of RecordChanged = 17
number_of Damaged = 18
number_of Malformed = 19
number_of LimitRange = 20
number_of NoClock = 21
number_of TooManySlots = 22
number_of TooManyKeys = 23
number_of NotAStream = 27
number_of LogLimits = 28
