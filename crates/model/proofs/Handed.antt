-- A station that a function is handed: what owning it gives is that its numbers are in their ranges and its arrays have their lengths.
use Prim.Native.Nat.{◌<◌}
use mathlib.Core.List.{List, [], ◌∷◌}
use native.Mathlib.Omega.{arith}
use mir.Val.{Val}
use denote.Shadow.{shadow}
use denote.Array.{each}
use denote.Builtin.{u64}
use denote.RattleType.{RattleType}
use Rattle.model.specs.declared.Id.{Id}
use Rattle.model.specs.declared.Read.{Read}
use Rattle.model.specs.declared.Live.{Live}
use Rattle.model.specs.declared.Entry.{Entry}
use Rattle.model.specs.declared.Station.{Station}
use Rattle.model.specs.declared.Phase.{Phase}
use Rattle.model.specs.declared.Phase.TheVariants.{Unused, Open, Closing}
use Rattle.model.specs.Limits.{number_range}
use Rattle.model.specs.Lives.{closing_slot, closing_clock, records_stored}
use Rattle.model.specs.Ranges.{Every, IdFits, ReadFits, PhaseFits, LiveFits, EntryFits, StationFits}
use Rattle.model.specs.contracts.Id as IdType
use Rattle.model.specs.contracts.Read as ReadType
use Rattle.model.specs.contracts.Phase as PhaseType
use Rattle.model.specs.contracts.Live as LiveType
use Rattle.model.specs.contracts.Entry as EntryType
use Rattle.model.specs.contracts.Station as StationType

-- each element of an array is handed
each-handed : (R : RattleType) (P : R.Denot → Type 0) → ((x : R.Denot) (vs : List Val) → shadow (R.own_val x vs) → P x)
    → (xs : List R.Denot) (us : List Val) → shadow (each R.Denot R.own_val xs us) → Every P xs
each-handed R P h [] us s = tt
each-handed R P h (x ∷ xs) [] s = absurd s
each-handed R P h (x ∷ xs) (u ∷ us) s = (h x (u ∷ []) s.0, each-handed R P h xs us s.1)

id-handed : (i : Id) (vs : List Val) → shadow ((IdType.the_row).own_val i vs) → IdFits i
id-handed i vs s = record { clock64 = s.1.1.0.1; txn32 = s.1.1.1.0.1 }

read-handed : (r : Read) (vs : List Val) → shadow ((ReadType.the_row).own_val r vs) → ReadFits r
read-handed r vs s = record { key8 = s.1.1.0.1; id = id-handed r.id _ s.1.1.1.0 }

phase-handed : (p : Phase) (vs : List Val) → shadow ((PhaseType.the_row).own_val p vs) → PhaseFits p
unfolding closing_slot closing_clock records_stored
phase-handed Unused vs s = record { slot8 = omega arith; clock64 = omega arith; stored8 = omega arith }
phase-handed Open vs s = record { slot8 = omega arith; clock64 = omega arith; stored8 = omega arith }
phase-handed (Closing d c n) vs s = record { slot8 = s.1.1.1.1.0.1; clock64 = s.1.1.1.1.1.0.1; stored8 = s.1.1.1.1.1.1.0.1 }

entry-handed : (e : Entry) (vs : List Val) → shadow ((EntryType.the_row).own_val e vs) → EntryFits e
entry-handed e vs s = record { id = id-handed e.id _ s.1.1.0; keys64 = s.1.1.1.0.1 }

live-handed : (l : Live) (vs : List Val) → shadow ((LiveType.the_row).own_val l vs) → LiveFits l
live-handed l vs s =
    let txn = s.1.1 in
    let phase = txn.1 in
    let keys = phase.1 in
    let values = keys.1 in
    let read_count = values.1 in
    let reads = read_count.1 in
    record {
      txn32 = txn.0.1;
      phase = phase-handed l.phase _ phase.0;
      keys64 = keys.0.1;
      value-places = values.0.1.0.1;
      values = each-handed u64 (λ v. v < number_range) (λ v vs h. h.1) l.values values.0.0 values.0.1.1;
      reads8 = read_count.0.1;
      read-places = reads.0.1.0.1;
      reads = each-handed ReadType.the_row ReadFits read-handed l.reads reads.0.0 reads.0.1.1;
    }

pub station-handed : (st : Station) (vs : List Val) → shadow ((StationType.the_row).own_val st vs) → StationFits st
station-handed st vs s = record {
  live-places = s.1.1.0.1.0.1;
  live = each-handed LiveType.the_row LiveFits live-handed st.live s.1.1.0.0 s.1.1.0.1.1;
  entry-places = s.1.1.1.0.1.0.1;
  entries = each-handed EntryType.the_row EntryFits entry-handed st.entries s.1.1.1.0.0 s.1.1.1.0.1.1;
}
