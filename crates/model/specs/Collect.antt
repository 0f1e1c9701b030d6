-- 01 'Calls': "collect drawer: stores 24 zero bytes over the commit slip and drops the entry. Allowed when every key it wrote has
-- a newer entry (Algorithm 2) and no live ticket's read list has its id."
use Rattle.std.specs.Prelude.{ℕ, not, List, [], ◌∷◌, leb}
use Rattle.model.specs.Types.{Entry, Station}
use Rattle.model.specs.declared.Answer.TheVariants as A
use Rattle.model.specs.Lists.{◌or◌}
use Rattle.model.specs.Entries.{no_entry, carries_entry}
use Rattle.model.specs.Stations.{entry_at, set_entry, holds}
use Rattle.model.specs.Records.{zero_record, record_at}
use Rattle.model.specs.Supersedence.{superseded, is_read}
use Rattle.model.specs.Effects.{Effect, says_storing, ◌when◌, refusals, wrong_length, unsound}

unfoldable pub collect : Station → List ℕ → ℕ → Effect
collect st s d =
    let e : Entry = entry_at st d in
    refusals (
    1 when wrong_length st.kind s
    ∷ 2 when unsound st
    ∷ 14 when (leb st.kind.slots d or not (holds st d))
    ∷ 15 when not (superseded st.entries e)
    ∷ 16 when is_read st e
    ∷ 17 when not (carries_entry st.kind (record_at st.kind s d 0) e)
    ∷ []
    ) st
    (says_storing (A.Collected e.id) (set_entry st d no_entry) d 0 zero_record)
