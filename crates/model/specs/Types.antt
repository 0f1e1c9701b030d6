-- What the definitions speak of: 01's entry and station, and what a call hands back beside the store. The machine keeps them in a form of its own
-- (src/lib.rt), which Listed translates.
use Rattle.std.specs.Prelude.{ℕ, List}
use Rattle.model.specs.declared.Id.{Id}
use Rattle.model.specs.declared.Read.{Read}
use Rattle.model.specs.declared.Phase.{Phase}
use Rattle.model.specs.declared.Answer.{Answer}
use Rattle.model.specs.Kinds.{Kind}

-- 01 'Words': "An entry (a held drawer) is a committed transaction: its id and write set.": the keys ascend
pub record Entry : Type 0 where
  pub id : Id
  pub keys : List ℕ

-- 01 'Words': "a write list (at most 8 keys, ascending, last value of each)": a key with its last value
pub record Write : Type 0 where
  pub key : ℕ
  pub value : ℕ

-- a live place: "It has a write list .. and a read list (at most 16 keys, ascending, each with the id read)", each the first so many of a list
pub record Live : Type 0 where
  pub txn : ℕ
  pub phase : Phase
  pub write_count : ℕ
  pub writes : List Write
  pub read_count : ℕ
  pub reads : List Read

-- 01 'Words': "A station holds eight live places and 64 drawer entries."; and "the limits above are constants of the station's kind" (02 §6)
pub record Station : Type 0 where
  pub kind : Kind
  pub live : List Live
  pub entries : List Entry

pub record Outcome : Type 0 where
  pub answer : Answer
  pub station : Station
