-- The calls as one type, and what each does: 01's column 'By' and its section 'Calls'; and 02's.
use Rattle.std.specs.Prelude.{ℕ, ◌<◌, Bool, true, false, List, [], ◌∷◌}
use Rattle.model.specs.Types.{Station}
use Rattle.model.specs.declared.Answer.{Answer}
use Rattle.model.specs.Limits.{txn_range, number_range}
use Rattle.model.specs.Ranges.{IsByte}
use Rattle.model.specs.Effects.{Effect, stored}
use Rattle.model.specs.Start.{start}
use Rattle.model.specs.Put.{put}
use Rattle.model.specs.Get.{get}
use Rattle.model.specs.Commit.{commit}
use Rattle.model.specs.Step.{step}
use Rattle.model.specs.Abort.{abort}
use Rattle.model.specs.Collect.{collect}
use Rattle.model.specs.Scan.{scan}
use Rattle.model.specs.Sweep.{sweep}

pub data Call : Type 0 where
  Start : ℕ → Call
  Put : ℕ → ℕ → ℕ → Call
  Get : ℕ → ℕ → Call
  Commit : ℕ → ℕ → Call
  Step : ℕ → Call
  Abort : ℕ → Call
  Collect : ℕ → Call
  Scan : Call
  Sweep : ℕ → Call

unfoldable pub does : Call → Station → List ℕ → Effect
does (Start t) st s = start st t
does (Put t k v) st s = put st t k v
does (Get t k) st s = get st s t k
does (Commit t c) st s = commit st t c
does (Step t) st s = step st s t
does (Abort t) st s = abort st t
does (Collect d) st s = collect st s d
does Scan st s = scan st.kind s
does (Sweep n) st s = sweep st s n

-- the call that needs no station
unfoldable pub is_scan : Call → Bool
is_scan (Start t) = false
is_scan (Put t k v) = false
is_scan (Get t k) = false
is_scan (Commit t c) = false
is_scan (Step t) = false
is_scan (Abort t) = false
is_scan (Collect d) = false
is_scan Scan = true
is_scan (Sweep n) = false

-- the call that is several collects
unfoldable pub is_sweep : Call → Bool
is_sweep (Start t) = false
is_sweep (Put t k v) = false
is_sweep (Get t k) = false
is_sweep (Commit t c) = false
is_sweep (Step t) = false
is_sweep (Abort t) = false
is_sweep (Collect d) = false
is_sweep Scan = false
is_sweep (Sweep n) = true

-- what a call was handed: transaction, key (or slot), number (value, clock or limit); 0 where it takes none
unfoldable pub txn_of : Call → ℕ
txn_of (Start t) = t
txn_of (Put t k v) = t
txn_of (Get t k) = t
txn_of (Commit t c) = t
txn_of (Step t) = t
txn_of (Abort t) = t
txn_of (Collect d) = 0
txn_of Scan = 0
txn_of (Sweep n) = 0

unfoldable pub key_of : Call → ℕ
key_of (Start t) = 0
key_of (Put t k v) = k
key_of (Get t k) = k
key_of (Commit t c) = 0
key_of (Step t) = 0
key_of (Abort t) = 0
key_of (Collect d) = d
key_of Scan = 0
key_of (Sweep n) = 0

unfoldable pub number_of : Call → ℕ
number_of (Start t) = 0
number_of (Put t k v) = v
number_of (Get t k) = 0
number_of (Commit t c) = c
number_of (Step t) = 0
number_of (Abort t) = 0
number_of (Collect d) = 0
number_of Scan = 0
number_of (Sweep n) = n

-- transaction and number are in 01's ranges (a key or slot may be any number: what is too great is refused); all three in their types'
abbrev pub InRange : Call → Type 0
InRange c = (txn_of c < txn_range) × (number_of c < number_range)

abbrev pub IsTyped : Call → Type 0
IsTyped c = InRange c × IsByte (key_of c)

-- the answers to calls made one after the other
unfoldable pub answers : List Call → Station → List ℕ → List Answer
answers [] st s = []
answers (c ∷ cs) st s = let e : Effect = does c st s in e.answer ∷ answers cs e.station (stored e.stores s)
