-- What a call comes to: its answer, the station handed back, and the records that it stores, in order.
use Rattle.std.specs.Prelude.{ℕ, Bool, not, cond, List, [], ◌∷◌, eqb, length}
use Rattle.model.specs.Types.{Station, Outcome}
use Rattle.model.specs.declared.Answer.{Answer}
use Rattle.model.specs.declared.Answer.TheVariants as A
use Rattle.model.specs.Kinds.{Kind, store_size}
use Rattle.model.specs.Records.{with_record}
use Rattle.model.specs.Sound.{sound}

-- one store call: record n of a slot, of a store of this kind
pub record RecordWrite : Type 0 where
  pub kind : Kind
  pub slot : ℕ
  pub index : ℕ
  pub content : List ℕ

pub record Effect : Type 0 where
  pub answer : Answer
  pub station : Station
  pub stores : List RecordWrite

-- the store after some record writes
unfoldable pub stored : List RecordWrite → List ℕ → List ℕ
stored [] s = s
stored (w ∷ ws) s = stored ws (with_record w.kind s w.slot w.index w.content)

-- what the call hands back beside the store
unfoldable pub outcome_of : Effect → Outcome
outcome_of e = record { answer = e.answer; station = e.station }

-- an answer with some records stored; with none; with one
abbrev pub says_storing_all : Answer → Station → List RecordWrite → Effect
says_storing_all a st ws = record { answer = a; station = st; stores = ws }

unfoldable pub says : Answer → Station → Effect
says a st = says_storing_all a st []

unfoldable pub says_storing : Answer → Station → ℕ → ℕ → List ℕ → Effect
says_storing a st d n r = says_storing_all a st (record { kind = st.kind; slot = d; index = n; content = r } ∷ [])

-- ── 01 'What a refused call says' ──
-- a row: the number returned, and when
pub record Row : Type 0 where
  pub returned : ℕ
  pub applies : Bool

infix 70 ◌when◌
abbrev pub ◌when◌ : ℕ → Bool → Row
◌when◌ n b = record { returned = n; applies = b }

-- "Where several apply, the lowest number is returned. Station and store are handed back unaltered":
-- the first row that applies, else the effect
unfoldable pub refusals : List Row → Station → Effect → Effect
refusals [] st e = e
refusals (r ∷ rs) st e = cond r.applies (says (A.Refused r.returned 0) st) (refusals rs st e)

-- ── tests that several calls share ──
-- row 1
unfoldable pub wrong_length : Kind → List ℕ → Bool
wrong_length κ s = not (eqb (length s) (store_size κ))

-- row 2
unfoldable pub unsound : Station → Bool
unsound st = not (sound st)
