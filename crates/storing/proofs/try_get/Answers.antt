-- `storing::try_get` meets its contract.
use Prim.Native.Nat.{ℕ, ◌<◌, ◌≤◌}
use mathlib.Core.Path.{◌≡◌, refl, sym, ap, subst, ◌∙◌}
use mathlib.Core.Logic.{◌≢◌}
use mathlib.Core.Bool.{true, false}
use mathlib.Core.List.{List}
use lib.ListN.{length, get_or}
use native.Mathlib.Omega.{arith}
use Rattle.model.specs.declared.Entry as machine
use Rattle.model.specs.declared.Answer.TheVariants as A
use Rattle.model.specs.Types.{Entry, Live, Station}
use Rattle.model.specs.Listed.{kind_of, listed_live, listed_entry, listed}
use Rattle.model.specs.Limits.{entry_places, write_places}
use Rattle.model.specs.Kinds.{Kind, KindFits, store_size}
use Rattle.model.specs.Lives.{reads_of}
use Rattle.model.specs.Entries.{keys_of, wrote, record_of}
use Rattle.model.specs.Stations.{live_at, entry_at, set_live}
use Rattle.model.specs.Records.{value_in, carries_version, record_at}
use Rattle.model.specs.Reading.{Choice, version, choose}
use Rattle.model.specs.Effects.{says}
use Rattle.model.specs.Get.{get, choice_of, with_read, version_at, no_room}
use Rattle.model.proofs.ListedLaws.{kind_fits, zero_live, lives-found, zero_entry, listed-any, listed-length}
use Rattle.model.proofs.GetLaws.{version-entry}
use Rattle.model.proofs.SoundFacts.{wrote-held, held_below}
use Rattle.model.proofs.SoundLaws.{Used, write-limit, read-limit, reads-ascending}
use Rattle.reading.specs.Choosing.{chosen_as, IsReader}
use Rattle.stations.proofs.Callers.{entry-count}
use Rattle.storing.proofs.GetRows.{chosen-version, chosen-nofit, chosen_none, choice-own, choice-read, get-rest, get-1, get_refused, get-open, get-own, get_none, get-nofit, get-12, get-17, get-version}
use Rattle.std.proofs.lemmas.Result.{err_from_is_err_and}
use Rattle.stations.proofs.Changes.{as-effect}
use Rattle.stations.proofs.RowLaws.{Placed, open-found, place-numbered, place-used}
use Rattle.storing.proofs.try_get.Goals.{After-choose_version-chosen, After-from-slot, In_ok-place, Else-has_written, Else-no_read_room, Start}
use Rattle.storing.proofs.try_get.Goals as goal

-- past rows 1, 2, 3, 4, 8 and 9: the transaction is live and open at place i
abbrev start : In_ok-place → Start
start c = (goal.at.In_ok-place c).Start

abbrev κ : In_ok-place → Kind
κ c = kind_of (start c).args.station.kind

size : (c : In_ok-place) → length (start c).args.store.now ≡ store_size (κ c)
size c = let e = c in e.if-store-store_size.false ∙ e.store_size.ensures

abbrev st : In_ok-place → Station
st c = listed (start c).args.station

abbrev s : In_ok-place → List ℕ
s c = (start c).args.store.now

abbrev t : In_ok-place → ℕ
t c = (start c).args.txn

abbrev k : In_ok-place → ℕ
k c = (start c).args.key

abbrev i : In_ok-place → ℕ
i c = c.in_ok-place.place

found : (c : In_ok-place) → Placed (st c) (t c) (k c) (i c)
found c =
    let a = c.in_ok-place.ensures.ok in
    open-found _ _ _ _ a.1 a.2 _ (start c).requires a.0

-- the transaction, as read from its place
abbrev l : In_ok-place → Live
l c = listed_live (get_or (start c).args.station.live (i c) zero_live)

here : (c : In_ok-place) → l c ≡ live_at (st c) (i c)
unfolding live_at
here c =
    let z : length (start c).args.station.live ≡ 8 = (start c).well_formed.0.1.1.0.1.0.1 in
    sym (lives-found (start c).args.station.live (i c) (omega (arith, z, (found c).low)))

comes : (c : In_ok-place) → get (st c) (s c) (t c) (k c) ≡ get-rest (st c) (s c) (t c) (k c) (i c) (l c)
comes c =
    let e = c in
    let a = e.in_ok-place.ensures.ok in
    get-open _ _ _ _ (size e) _ (start e).requires a.0 _ a.1 _ (here c)

used : (c : In_ok-place) → Used (κ c) (st c).entries (l c)
used c = subst (Used _ _) (sym (here c)) (place-used _ _ _ _ (found c))

fits : (c : In_ok-place) → KindFits (κ c)
fits c = kind_fits (start c).args.station.kind

writes : (c : In_ok-place) → (l c).write_count ≤ write_places
writes c = let f = fits c in omega (arith, write-limit (κ c) (l c) (used c).sets, f.writes-fit)

numbered : (c : In_ok-place) → (l c).txn ≢ 0
numbered c = subst (λ (x : Live). x.txn ≢ 0) (sym (here c)) (place-numbered _ _ _ _ (found c))

-- past an own value: Algorithm 1 is asked
abbrev h₃ : Else-has_written → In_ok-place
h₃ c = (goal.at.Else-has_written c).In_ok-place

abbrev chosen : Else-has_written → Choice
chosen c = choose (st (h₃ c)).entries (reads_of (l (h₃ c))) (k (h₃ c))

asked : (c : Else-has_written) → choice_of (st (h₃ c)) (l (h₃ c)) (k (h₃ c)) ≡ chosen c
asked c = choice-read (st (h₃ c)) (l (h₃ c)) (k (h₃ c)) (sym c.has_written.ensures ∙ c.if-has_written.false)

told : (c : After-choose_version-chosen) → chosen_as (chosen (goal.at.After-choose_version-chosen c).Else-has_written) ≡ c.choose_version-chosen.result
told c = sym c.choose_version-chosen.ensures

-- it chose the version in slot d: its entry wrote the key
abbrev g₃ : After-from-slot → Else-has_written
g₃ c = (goal.at.After-from-slot c).Else-has_written

abbrev hᵥ : After-from-slot → In_ok-place
hᵥ c = h₃ (g₃ c)

abbrev d : After-from-slot → ℕ
d c = c.from-slot.result

choice : (c : After-from-slot) → choice_of (st (hᵥ c)) (l (hᵥ c)) (k (hᵥ c)) ≡ version (d c)
choice c = asked (g₃ c) ∙ (chosen-version (chosen (g₃ c)) _ (told (goal.at.After-from-slot c).After-choose_version-chosen ∙ c.in-Version.is) ∙ ap version (sym c.from-slot.ensures))

entry : (c : After-from-slot) → (d c < entry_places) × (wrote (entry_at (st (hᵥ c)) (d c)) (k (hᵥ c)) ≡ true)
entry c =
    let e = (hᵥ c) in
    let z : length (start e).args.station.entries ≡ 64 = (start e).well_formed.0.1.1.1.0.1.0.1 in
    let f = version-entry (st e) (l (hᵥ c)) (k e) (d c) (choice c) in
    (omega (arith, f.0, z, listed-length (start e).args.station.entries), f.1)

-- it is held, so it is in a slot of the kind
below : (c : After-from-slot) → d c < (κ (hᵥ c)).slots
below c = let e = (hᵥ c) in held_below (st e) (found e).right (d c) (wrote-held (st e) (found e).right (d c) (k e) (entry c).1)

-- that entry, as the machine has it
abbrev found-entry : After-from-slot → machine.Entry
found-entry c = get_or (start (hᵥ c)).args.station.entries (d c) zero_entry

entry-is : (c : After-from-slot) → entry_at (st (hᵥ c)) (d c) ≡ listed_entry (found-entry c)
unfolding entry_at
entry-is c = listed-any (start (hᵥ c)).args.station.entries (d c)

-- past row 12: its read set has room
abbrev v₄ : Else-no_read_room → After-from-slot
v₄ c = (goal.at.Else-no_read_room c).After-from-slot

room : (c : Else-no_read_room) → no_room (l (hᵥ (v₄ c))) (k (hᵥ (v₄ c))) (version (d (v₄ c))) ≡ false
unfolding no_room
room c = sym c.no_read_room.ensures ∙ c.if-no_read_room.false

-- the record of its version, by the entry as the definitions have it
carried : (c : After-from-slot) → let e = (hᵥ c) in let f = found-entry c in
    carries_version (version_at (st e) (s e) (k e) (d c)) (k e) (entry_at (st e) (d c)).id ≡ carries_version (record_at (κ e) (s e) (d c) (record_of (listed_entry f) (k e))) (k e) f.id
unfolding version_at
carried c =
    let e = (hᵥ c) in
    ap (λ (x : Entry). carries_version (record_at (κ e) (s e) (d c) (record_of x (k e))) (k e) x.id) (entry-is c)

value_read : (c : After-from-slot) → let e = (hᵥ c) in value_in (record_at (κ e) (s e) (d c) (record_of (listed_entry (found-entry c)) (k e))) ≡ value_in (version_at (st e) (s e) (k e) (d c))
unfolding version_at
value_read c =
    let e = (hᵥ c) in
    sym (ap (λ (x : Entry). value_in (record_at (κ e) (s e) (d c) (record_of x (k e)))) (entry-is c))

pub returns-then-store-store_size-clause-err : goal.returns-then-store-store_size-clause-err
returns-then-store-store_size-clause-err c =
    let a = c.args in
    get-1 (listed a.station) a.store.now a.txn a.key (λ q. c.if-store-store_size.true (q ∙ sym c.store_size.ensures))

pub returns-in_err-place-clause-err : goal.returns-in_err-place-clause-err
returns-in_err-place-clause-err c =
    let a = c.args in
    let p = err_from_is_err_and c.from_residual.result c.from_residual.ensures.1 in
    rw (p.1, p.2) (get_refused (listed a.station) a.store.now a.txn a.key (c.if-store-store_size.false ∙ c.store_size.ensures) a.tested c.requires _ c.in_err-place.ensures.err.0)

pub value_under-requires : goal.value_under-requires
value_under-requires c = record { keys_len_bound = omega (arith, writes (goal.at.value_under-requires c).In_ok-place); l_value = sym c.has_written.ensures ∙ c.if-has_written.true }

pub returns-then-has_written-clause-ok : goal.returns-then-has_written-clause-ok
returns-then-has_written-clause-ok c =
    let h = (goal.at.returns-then-has_written-clause-ok c).In_ok-place in
    let e = h in
    let v = c.value_under in
    as-effect _ _ _ _ (get-own _ _ _ _ _ _ (comes h) v.result (choice-own (st e) (l h) (k e) v.result v.ensures (sym c.has_written.ensures ∙ c.if-has_written.true))) c.unchanged.ensures

pub choose_version-chosen-requires : goal.choose_version-chosen-requires
unfolding IsReader
choose_version-chosen-requires c =
    let h = h₃ (goal.at.choose_version-chosen-requires c).Else-has_written in
    let e = h in
    (st e, i e, (found e).right, refl, (found e).low, sym (here h), numbered h)

pub returns-in-None-clause-ok : goal.returns-in-None-clause-ok
returns-in-None-clause-ok c =
    let g = (goal.at.returns-in-None-clause-ok c).Else-has_written in
    let h = h₃ g in
    as-effect _ _ _ _ (get_none _ _ _ _ _ _ (comes h) (asked g ∙ chosen_none _ _ _ (told (goal.at.returns-in-None-clause-ok c).After-choose_version-chosen ∙ c.in-None.is))) c.unchanged-in-None.ensures

pub returns-in-Nofit-clause-ok : goal.returns-in-Nofit-clause-ok
returns-in-Nofit-clause-ok c =
    let f = c in
    let h = h₃ (goal.at.returns-in-Nofit-clause-ok c).Else-has_written in
    as-effect _ _ _ _ (get-nofit _ _ _ _ _ _ (comes h) _ (asked (goal.at.returns-in-Nofit-clause-ok c).Else-has_written ∙ chosen-nofit (chosen (goal.at.returns-in-Nofit-clause-ok c).Else-has_written) _ (told (goal.at.returns-in-Nofit-clause-ok c).After-choose_version-chosen ∙ f.in-Nofit.is))) c.unchanged-in-Nofit.ensures

pub no_read_room-requires : goal.no_read_room-requires
no_read_room-requires c =
    let h = hᵥ (goal.at.no_read_room-requires c).After-from-slot in
    read-limit (κ h) (l h) (used h).sets

pub returns-then-no_read_room-clause-err : goal.returns-then-no_read_room-clause-err
unfolding no_room
returns-then-no_read_room-clause-err c =
    let f = (goal.at.returns-then-no_read_room-clause-err c).After-from-slot in
    let h = hᵥ f in
    get-12 _ _ _ _ _ _ (comes h) (d f) (choice f) (sym c.no_read_room.ensures ∙ c.if-no_read_room.true)

pub bounds-station-slot : goal.bounds-station-slot
bounds-station-slot c = (entry (goal.at.bounds-station-slot c).After-from-slot).0

pub read_version-requires : goal.read_version-requires
read_version-requires c =
    let f = (goal.at.read_version-requires c).After-from-slot in
    let e = (hᵥ f) in
    record { store_len = size e; slot_bound = below f; keys_len_bound = (subst (λ (x : Entry). length (keys_of x) ≤ (κ e).write_limit) (entry-is f) (entry-count (st e) (found e).right (d f)), subst (λ (x : Entry). wrote x (k e) ≡ true) (entry-is f) (entry f).1) }

pub returns-in_default-clause-err : goal.returns-in_default-clause-err
returns-in_default-clause-err c =
    let g = (goal.at.returns-in_default-clause-err c).Else-no_read_room in
    let f = v₄ g in
    get-17 _ _ _ _ _ _ (comes (hᵥ f)) (d f) (choice f) (room g) (carried f ∙ c.in_default.ensures)

pub with_read-joined-requires : goal.with_read-joined-requires
unfolding no_room
with_read-joined-requires c =
    let g = (goal.at.with_read-joined-requires c).Else-no_read_room in
    let u = used (hᵥ (v₄ g)) in
    record { reads_fit = (read-limit _ _ u.sets, reads-ascending _ _ u.sets); l_value = u.zeros; read_count_value = room g }

pub returns-clause-ok : goal.returns-clause-ok
returns-clause-ok c =
    let g = (goal.at.returns-clause-ok c).Else-no_read_room in
    let f = v₄ g in
    let h = hᵥ f in
    let e = h in
    let v = c.in-Some.ensures in
    as-effect _ _ _ _
    (get-version _ _ _ _ _ _ (comes h) (d f) (choice f) (room g) (here h) c.in-Some.value (listed_live c.with_read-joined.result) (carried f ∙ v.0) (v.1 ∙ value_read f)
    (c.with_read-joined.ensures ∙ sym (ap (λ (x : Entry). with_read (k e) x.id (l h)) (entry-is f)))
    ∙ ap (λ (x : Entry). says (A.Version c.in-Some.value x.id) (set_live (st e) (i e) (listed_live c.with_read-joined.result))) (entry-is f))
    c.live_changed.ensures
