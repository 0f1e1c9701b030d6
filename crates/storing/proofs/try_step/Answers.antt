-- `storing::try_step` meets its contract.
use Prim.Native.Nat.{ℕ, ◌<◌, ◌≤◌}
use mathlib.Core.Path.{◌≡◌, sym, ap, ◌∙◌}
use mathlib.Core.List.{List}
use lib.ListN.{length, get_or, length-map}
use native.Mathlib.Omega.{arith}
use Rattle.model.specs.Kinds.{Kind, store_size}
use Rattle.model.specs.Types.{Entry, Live, Station}
use Rattle.model.specs.Limits.{entry_places}
use Rattle.model.specs.KeySets.{key_set}
use Rattle.model.specs.Listed.{kind_of, listed_live, listed_entry, listed}
use Rattle.model.specs.Lives.{writes_of, write_count, write_key, is_closing, with_phase}
use Rattle.model.specs.Entries.{keys_of, entry_for}
use Rattle.model.specs.declared.Phase.TheVariants.{Closing}
use Rattle.model.specs.Step.{step}
use Rattle.model.specs.Stations.{live_at}
use Rattle.model.proofs.ListedLaws.{kind_fits, zero_live, lives-found}
use Rattle.model.proofs.SoundFacts.{IsClosing, closing-facts}
use Rattle.model.proofs.SoundLaws.{write-limit, writes-length}
use Rattle.stations.proofs.Changes.{as-outcome}
use Rattle.stations.proofs.RowLaws.{Placed, named-found}
use Rattle.storing.specs.Parts.{record_answer, record_stored}
use Rattle.std.proofs.lemmas.Result.{err_from_is_err_and}
use Rattle.storing.proofs.Parts.{handed, refused-stores}
use Rattle.storing.proofs.StepRows.{not-closing, step-rest, step-1, step-refused, step-open, step-10, step-record, step-done, is-done}
use Rattle.storing.proofs.try_step.Goals.{After-write_count, In_ok-place, In-Closing, Start}
use Rattle.storing.proofs.try_step.Goals as goal

-- past rows 1, 2, 3 and 8: the transaction is live at place i
abbrev start : In_ok-place → Start
start c = (goal.at.In_ok-place c).Start

abbrev κ : In_ok-place → Kind
κ c = kind_of (start c).args.station.kind

size : (c : In_ok-place) → length (start c).args.store.now ≡ store_size (κ c)
size c = let e = c in e.if-store-store_size.false ∙ e.store_size.ensures

abbrev st : In_ok-place → Station
st c = listed (start c).args.station

abbrev s : In_ok-place → List ℕ
s c = (start c).args.store.now

abbrev t : In_ok-place → ℕ
t c = (start c).args.txn

abbrev i : In_ok-place → ℕ
i c = c.in_ok-place.place

found : (c : In_ok-place) → Placed (st c) (t c) 0 (i c)
found c =
    let a = c.in_ok-place.ensures.ok in
    named-found _ _ _ _ a.1 a.2 _ (start c).requires a.0

comes : (c : In_ok-place) → step (st c) (s c) (t c) ≡ step-rest (st c) (s c) (t c) (i c)
comes c =
    let a = c.in_ok-place.ensures.ok in
    step-open _ _ _ (size c) _ (start c).requires a.0 _ a.1

-- past row 10: the transaction is closing, with slot d, its clock and n records stored
abbrev e₂ : In-Closing → In_ok-place
e₂ c = (goal.at.In-Closing c).In_ok-place

abbrev d : In-Closing → ℕ
d c = c.in-Closing.slot

abbrev clock : In-Closing → ℕ
clock c = c.in-Closing.clock

abbrev n : In-Closing → ℕ
n c = c.in-Closing.n

-- the transaction, as read from its place
abbrev l : In_ok-place → Live
l c = listed_live (get_or (start c).args.station.live (i c) zero_live)

here : (c : In_ok-place) → live_at (st c) (i c) ≡ l c
unfolding live_at
here c =
    let z : length (start c).args.station.live ≡ 8 = (start c).well_formed.0.1.1.0.1.0.1 in
    lives-found (start c).args.station.live (i c) (omega (arith, z, (found c).low))

closing : (c : In-Closing) → (live_at (st (e₂ c)) (i (e₂ c))).phase ≡ Closing (d c) (clock c) (n c)
closing c = ap (λ (x : Live). x.phase) (here (e₂ c)) ∙ c.in-Closing.is

facts : (c : In-Closing) → IsClosing (st (e₂ c)) (live_at (st (e₂ c)) (i (e₂ c))) (d c) (clock c) (n c)
facts c = closing-facts (st (e₂ c)) (found (e₂ c)).right (i (e₂ c)) (d c) (clock c) (n c) (closing c)

slot-there : (c : In-Closing) → d c < entry_places
slot-there c = let f = kind_fits (start (e₂ c)).args.station.kind in omega (arith, (facts c).low, f.slots-fit)

-- at the test for the last step
abbrev p : After-write_count → In-Closing
p c = (goal.at.After-write_count c).In-Closing

-- how many keys it writes, as counted
counted : (c : After-write_count) → c.write_count.result ≡ write_count (live_at (st (e₂ (p c))) (i (e₂ (p c))))
counted c = c.write_count.ensures ∙ sym (ap write_count (here (e₂ (p c))))

limit : (c : In-Closing) → write_count (live_at (st (e₂ c)) (i (e₂ c))) ≤ (κ (e₂ c)).write_limit
limit c = let l = live_at (st (e₂ c)) (i (e₂ c)) in omega (arith, write-limit (κ (e₂ c)) l (facts c).used.sets, writes-length l)

-- its entry has as many
few : (c : After-write_count) → length (key_set c.entry_for-e.result.keys) ≤ (κ (e₂ (p c))).write_limit
unfolding entry_for
few c =
    let x = l (e₂ (p c)) in
    omega (arith, ap (λ (e : Entry). length (keys_of e)) c.entry_for-e.ensures, length-map (writes_of x) write_key, ap write_count (here (e₂ (p c))), limit (p c))

pub returns-then-store-store_size : goal.returns-then-store-store_size
returns-then-store-store_size c =
    let a = c.args in
    let q = step-1 (listed a.station) a.store.now a.txn (λ z. c.if-store-store_size.true (z ∙ sym c.store_size.ensures)) in
    record { ok = tt; err = q; store = refused-stores _ _ _ a.store.now q }

pub returns-in_err-place : goal.returns-in_err-place
returns-in_err-place c =
    let a = c.args in
    let q = step-refused (listed a.station) a.store.now a.txn (c.if-store-store_size.false ∙ c.store_size.ensures) a.tested c.requires _ c.in_err-place.ensures.err.0 in
    let p = err_from_is_err_and c.from_residual.result c.from_residual.ensures.1 in
    record { ok = rw p.1 tt; err = rw (p.1, p.2) q; store = refused-stores _ _ _ a.store.now q }

pub offset_bounds-station-place : goal.offset_bounds-station-place
offset_bounds-station-place c = omega (arith, (found (goal.at.offset_bounds-station-place c).In_ok-place).low)

pub bounds-station-place : goal.bounds-station-place
bounds-station-place c = (found (goal.at.bounds-station-place c).In_ok-place).low

pub returns-in_default : goal.returns-in_default
returns-in_default c =
    let e = (goal.at.returns-in_default c).In_ok-place in
    let q = step-10 (st e) (s e) (t e) (i e) (comes e) (ap (λ (x : Live). is_closing x.phase) (here e) ∙ not-closing _ c.in_default.not-Closing) in
    record { ok = tt; err = q; store = refused-stores _ _ _ (s e) q }

pub returns-then-n-write_count : goal.returns-then-n-write_count
returns-then-n-write_count c =
    let k = (goal.at.returns-then-n-write_count c).After-write_count in
    let f = p k in
    let e = e₂ f in
    let m = k.entry_for-e in
    let q = step-done (st e) (s e) (t e) (i e) (comes e) (d f) (clock f) (n f) (closing f) (listed_live c.no_live-unused.result) (listed_entry m.result) (omega (arith, c.if-n-write_count.true, counted k)) (m.ensures ∙ sym (ap entry_for (here e))) c.no_live-unused.ensures in
    let h = handed _ _ _ _ _ (s e) q (is-done (start e).args.station _ _ _ _ m.result (found e).low (slot-there f)) in
    record { ok = rw c.from-d.ensures h.0; err = tt; store = h.1 }

pub overflow_add-n : goal.overflow_add-n
overflow_add-n c = let f = kind_fits (start (e₂ (p (goal.at.overflow_add-n c).After-write_count))).args.station.kind in omega (arith, c.if-n-write_count.false, counted (goal.at.overflow_add-n c).After-write_count, limit (p (goal.at.overflow_add-n c).After-write_count), f.writes-fit)

pub store_record-answer-requires : goal.store_record-answer-requires
store_record-answer-requires c =
    let k = (goal.at.store_record-answer-requires c).After-write_count in
    let f = p k in
    record { store_len = size (e₂ f); slot_bound = (facts f).low; n_bound = (omega (arith, c.if-n-write_count.false, counted k, ap write_count (here (e₂ f))), omega (arith, limit f, ap write_count (here (e₂ f))), few k) }

pub live_changed-requires : goal.live_changed-requires
live_changed-requires c = (found (e₂ (p (goal.at.live_changed-requires c).After-write_count))).low

pub returns : goal.returns
returns c =
    let o = c in
    let h = o in
    let k = h in
    let f = p (goal.at.returns c).After-write_count in
    let e = e₂ f in
    let m = k.entry_for-e in
    let w = c.store_record-answer in
    let q = step-record (st e) (s e) (t e) (i e) (comes e) (d f) (clock f) (n f) (closing f) w.result (listed_live o.with_phase-on.result) (listed_entry m.result) w.new.store (omega (arith, h.if-n-write_count.false, counted (goal.at.returns c).After-write_count)) (m.ensures ∙ sym (ap entry_for (here e))) (o.with_phase-on.ensures ∙ sym (ap (with_phase _) (here e)))
    (w.ensures.0 ∙ sym (ap (λ (x : Live). record_answer x (d f) (n f)) (here e))) (w.ensures.1 ∙ sym (ap (λ (x : Live). record_stored (κ e) x (listed_entry m.result) (d f) (n f) (s e)) (here e))) in
    record { ok = as-outcome _ _ _ _ q.0 c.live_changed.ensures; err = tt; store = q.1 }
