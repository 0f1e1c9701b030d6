-- `storing::try_collect` meets its contract.
use Prim.Native.Nat.{ℕ, ◌<◌, ◌≤◌}
use mathlib.Core.Path.{◌≡◌, sym, ap, ap₂, subst, ◌∙◌}
use mathlib.Core.Logic.{◌≢◌}
use mathlib.Core.Bool.{true, false}
use mathlib.Core.List.{List}
use lib.ListN.{length, get_or}
use native.Mathlib.Omega.{arith}
use borrow.Author.Rules.{rules}
use Rattle.model.specs.declared.Entry as machine
use Rattle.model.specs.declared.Answer.TheVariants as A
use Rattle.model.specs.Types.{Entry, Station}
use Rattle.model.specs.KeySets.{key_set}
use Rattle.model.specs.Listed.{kind_of, listed_entry, listed}
use Rattle.model.specs.Limits.{entry_places}
use Rattle.model.specs.Kinds.{Kind, store_size}
use Rattle.model.specs.Entries.{keys_of, carries_entry}
use Rattle.model.specs.Stations.{entry_at, set_entry}
use Rattle.model.specs.Records.{zero_record, record_at}
use Rattle.model.specs.Sound.{sound}
use Rattle.model.specs.Supersedence.{superseded, is_read_by, is_read}
use Rattle.model.specs.Effects.{says_storing}
use Rattle.model.proofs.ListedLaws.{kind_fits, zero_entry, listed-any}
use Rattle.stations.proofs.Callers.{entry-count}
use Rattle.storing.proofs.CollectRows.{collect-1, collect-2, collect-out, collect-unheld, collect-15, collect-16, collect-17, collect-on}
use Rattle.model.proofs.RecordLaws.{record-part}
use Rattle.model.specs.Collect.{collect}
use Rattle.storing.proofs.Parts.{handed-storing, refused-stores}
use Rattle.storing.proofs.try_collect.Goals.{After-carries_entry, After-from-d, Else-station-d-eq0, Else-is_read, Else-not-carries_entry, Else-not-is_superseded, Start, then-d-slots-via-then-d-slots, then-d-slots-via-else-d-slots+then-station-d-eq0}
use Rattle.storing.proofs.try_collect.Goals as goal

-- past rows 1 and 2
abbrev start : After-from-d → Start
start c = (goal.at.After-from-d c).Start

abbrev st : After-from-d → Station
st c = listed (start c).args.station

abbrev s : After-from-d → List ℕ
s c = (start c).args.store.now

abbrev d : After-from-d → ℕ
d c = c.from-d.result

-- the slot's entry
abbrev entry : After-from-d → machine.Entry
entry c = get_or (start c).args.station.entries (d c) zero_entry

entry-is : (c : After-from-d) → entry_at (st c) (d c) ≡ listed_entry (entry c)
unfolding entry_at
entry-is c = listed-any (start c).args.station.entries (d c)

abbrev κ : After-from-d → Kind
κ c = kind_of (start c).args.station.kind

size : (c : After-from-d) → length (s c) ≡ store_size (κ c)
size c = c.if-store-store_size.false ∙ c.store_size.ensures

-- the slot that the call names is the one that is looked at
named : (c : After-from-d) → collect (st c) (s c) (start c).args.slot ≡ collect (st c) (s c) (d c)
named c = ap (collect (st c) (s c)) (sym c.from-d.ensures)

right : (c : After-from-d) → sound (st c) ≡ true
right c = sym (start c).requires ∙ c.if-not-tested.false

-- past row 14: the slot has an entry
abbrev e₄ : Else-station-d-eq0 → After-from-d
e₄ c = (goal.at.Else-station-d-eq0 c).After-from-d

low : (c : Else-station-d-eq0) → d (e₄ c) < (κ (e₄ c)).slots
low c = omega (arith, c.if-d-slots.false, c.slots.ensures)

there : (c : Else-station-d-eq0) → d (e₄ c) < entry_places
there c = let f = kind_fits (start (e₄ c)).args.station.kind in omega (arith, low c, f.slots-fit)

held : (c : Else-station-d-eq0) → (entry_at (st (e₄ c)) (d (e₄ c))).id.txn ≢ 0
held c z = c.if-station-d-eq0.false (sym (ap (λ (e : Entry). e.id.txn) (entry-is (e₄ c))) ∙ z)

-- past row 15
abbrev e₅ : Else-not-is_superseded → After-from-d
e₅ c = e₄ (goal.at.Else-not-is_superseded c).Else-station-d-eq0

-- past row 16
abbrev e₆ : Else-is_read → After-from-d
e₆ c = e₅ (goal.at.Else-is_read c).Else-not-is_superseded

-- whether its commit record carries it
abbrev e₇ : After-carries_entry → After-from-d
e₇ c = e₆ (goal.at.After-carries_entry c).Else-is_read

carried : (c : After-carries_entry) → carries_entry (κ (e₇ c)) (record_at (κ (e₇ c)) (s (e₇ c)) (d (e₇ c)) 0) (entry_at (st (e₇ c)) (d (e₇ c))) ≡ c.carries_entry.result
carried c =
    let e = e₇ c in
    let r = c.record_place-at in
    ap₂ (carries_entry (κ e)) (sym (record-part (κ e) (s e) (d e) 0 r.result r.ensures.0)) (entry-is e) ∙ sym c.carries_entry.ensures

-- past row 17
abbrev f₇ : Else-not-carries_entry → Else-station-d-eq0
f₇ c = (goal.at.Else-not-carries_entry c).Else-station-d-eq0

pub returns-then-store-store_size : goal.returns-then-store-store_size
returns-then-store-store_size c =
    let a = c.args in
    let q = collect-1 (listed a.station) a.store.now a.slot (λ z. c.if-store-store_size.true (z ∙ sym c.store_size.ensures)) in
    record { ok = tt; err = q; store = refused-stores _ _ _ a.store.now q }

pub returns-then-not-tested : goal.returns-then-not-tested
returns-then-not-tested c =
    let a = c.args in
    let q = collect-2 (listed a.station) a.store.now a.slot (c.if-store-store_size.false ∙ c.store_size.ensures) (sym c.requires ∙ c.if-not-tested.true) in
    record { ok = tt; err = q; store = refused-stores _ _ _ a.store.now q }

pub bounds-station-d : goal.bounds-station-d
bounds-station-d c = let f = kind_fits c.args.station.kind in omega (arith, c.if-d-slots.false, c.slots.ensures, f.slots-fit)

pub returns-then-d-slots : goal.returns-then-d-slots
returns-then-d-slots c =
    let e = (goal.at.returns-then-d-slots c).After-from-d in
    let q = named e ∙ elim c.then-d-slots.branch [
      | then-d-slots-via-then-d-slots w ↦ collect-out (st e) (s e) (d e) (size e) (right e) (omega (arith, w.if-d-slots.true, c.slots.ensures))
      | then-d-slots-via-else-d-slots+then-station-d-eq0 w ↦ collect-unheld (st e) (s e) (d e) (size e) (right e) (ap (λ (x : Entry). x.id.txn) (entry-is e) ∙ w.if-station-d-eq0.true)
    ] in
    record { ok = tt; err = q; store = refused-stores _ _ _ (s e) q }

pub is_superseded-requires : goal.is_superseded-requires
is_superseded-requires c = there (goal.at.is_superseded-requires c).Else-station-d-eq0

pub returns-then-not-is_superseded : goal.returns-then-not-is_superseded
unfolding entry_at
returns-then-not-is_superseded c =
    let f = (goal.at.returns-then-not-is_superseded c).Else-station-d-eq0 in
    let e = e₄ f in
    let q = named e ∙ (collect-15 (st e) (s e) (d e) (size e) (right e) (low f) (held f) (sym c.is_superseded.ensures ∙ c.if-not-is_superseded.true)) in
    record { ok = tt; err = q; store = refused-stores _ _ _ (s e) q }

-- it is superseded
old : (c : Else-not-is_superseded) → superseded (st (e₅ c)).entries (entry_at (st (e₅ c)) (d (e₅ c))) ≡ true
unfolding entry_at
old c = sym c.is_superseded.ensures ∙ c.if-not-is_superseded.false

pub returns-then-is_read : goal.returns-then-is_read
unfolding is_read is_read_by
returns-then-is_read c =
    let g = (goal.at.returns-then-is_read c).Else-not-is_superseded in
    let f = (goal.at.Else-not-is_superseded g).Else-station-d-eq0 in
    let e = e₄ f in
    let q = named e ∙ (collect-16 (st e) (s e) (d e) (size e) (right e) (low f) (held f) (old g) (ap (λ (x : Entry). is_read (st e) x) (entry-is e) ∙ (sym c.is_read.ensures ∙ c.if-is_read.true))) in
    record { ok = tt; err = q; store = refused-stores _ _ _ (s e) q }

held_in : (c : Else-is_read) → d (e₆ c) < (κ (e₆ c)).slots
held_in c = low (goal.at.Else-is_read c).Else-station-d-eq0

-- nobody read it
unread : (c : Else-is_read) → is_read (st (e₆ c)) (entry_at (st (e₆ c)) (d (e₆ c))) ≡ false
unfolding is_read is_read_by
unread c = ap (λ (x : Entry). is_read (st (e₆ c)) x) (entry-is (e₆ c)) ∙ (sym c.is_read.ensures ∙ c.if-is_read.false)

pub record_place-at-requires : goal.record_place-at-requires
record_place-at-requires c = let e = e₆ (goal.at.record_place-at-requires c).Else-is_read in record { slot_bound = held_in (goal.at.record_place-at-requires c).Else-is_read; n_bound = omega arith }

pub carries_entry-requires : goal.carries_entry-requires
carries_entry-requires c =
    let e = e₆ (goal.at.carries_entry-requires c).Else-is_read in
    let p : length (key_set (entry e).keys) ≤ (κ e).write_limit = subst (λ (x : Entry). length (keys_of x) ≤ (κ e).write_limit) (entry-is e) (entry-count (st e) (right e) (d e)) in
    record { r_len = search rules; keys_len_bound = p }

pub returns-then-not-carries_entry : goal.returns-then-not-carries_entry
returns-then-not-carries_entry c =
    let h = (goal.at.returns-then-not-carries_entry c).Else-is_read in
    let g = (goal.at.Else-is_read h).Else-not-is_superseded in
    let f = (goal.at.Else-not-is_superseded g).Else-station-d-eq0 in
    let e = e₄ f in
    let q = named e ∙ (collect-17 (st e) (s e) (d e) (size e) (right e) (low f) (held f) (old g) (unread h) (carried (goal.at.returns-then-not-carries_entry c).After-carries_entry ∙ c.if-not-carries_entry.true)) in
    record { ok = tt; err = q; store = refused-stores _ _ _ (s e) q }

pub entry_changed-requires : goal.entry_changed-requires
entry_changed-requires c = there (f₇ (goal.at.entry_changed-requires c).Else-not-carries_entry)

pub returns : goal.returns
unfolding entry_at set_entry
returns c =
    let k = (goal.at.returns c).Else-not-carries_entry in
    let h = (goal.at.Else-not-carries_entry k).Else-is_read in
    let g = (goal.at.Else-is_read h).Else-not-is_superseded in
    let f = f₇ k in
    let e = e₄ f in
    let w = c.store_zero in
    let x = c.no_entry-free in
    let q = handed-storing _ _ _ _ _ (d e) 0 zero_record (s e) w.new.store
    (named e ∙ (collect-on (st e) (s e) (d e) (size e) (right e) (low f) (held f) (old g) (unread h) (listed_entry x.result) x.ensures (carried (goal.at.Else-not-carries_entry k).After-carries_entry ∙ k.if-not-carries_entry.false)
    ∙ ap (λ (y : Entry). says_storing (A.Collected y.id) (set_entry (st e) (d e) (listed_entry x.result)) (d e) 0 zero_record) (entry-is e)))
    c.entry_changed.ensures
    w.ensures in
    record { ok = q.0; err = tt; store = q.1 }
