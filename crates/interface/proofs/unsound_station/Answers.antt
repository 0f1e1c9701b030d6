-- `interface::unsound_station` meets its contract.
use mathlib.Core.Path.{◌≡◌, sym, ap, ap₂, ◌∙◌}
use mathlib.Core.List.{[], ◌∷◌}
use lib.ListN.{get_or, set}
use Rattle.model.specs.Kinds.{narrow_kind}
use Rattle.model.specs.declared as machine
use Rattle.model.specs.Types.{Entry, Station}
use Rattle.model.specs.KeySets.{key_set, keys_below, with_lowest}
use Rattle.model.specs.Listed.{kind_of, listed_entry, listed}
use Rattle.model.specs.Ids.{no_id}
use Rattle.model.specs.Entries.{no_entry}
use Rattle.model.proofs.ListedLaws.{zero_entry, listed-any, listed-set}
use Rattle.model.specs.Stations.{empty_station, set_entry}
use Rattle.interface.specs.Exchange.{unsound_station}
use Rattle.interface.proofs.unsound_station.Goals as goal

-- the empty station, and key 0 in its first entry
made : (st : machine.Station.Station) → listed st ≡ (empty_station narrow_kind)
    → listed (record { kind = st.kind; live = st.live; entries = set st.entries 0 (record { id = (get_or st.entries 0 zero_entry).id; keys = 1 }) }) ≡ set_entry (empty_station narrow_kind) 0 (record { id = no_id; keys = 0 ∷ [] })
unfolding set_entry key_set keys_below with_lowest
made st e =
    let i : listed_entry (get_or st.entries 0 zero_entry) ≡ no_entry = sym (listed-any st.entries 0) ∙ (unfold empty_station in ap (λ (x : Station). get_or x.entries 0 no_entry) e) in
    λ z. record { kind = (e z).kind; live = (e z).live; entries = (listed-set st.entries 0 (record { id = (get_or st.entries 0 zero_entry).id; keys = 1 }) ∙ ap₂ (λ (x : Station) (y : Entry). set x.entries 0 (record { id = y.id; keys = 0 ∷ [] })) e i) z }

pub returns : goal.returns
unfolding set_entry unsound_station kind_of
returns c =
    let r = c.empty-station in
    made r.result r.ensures
