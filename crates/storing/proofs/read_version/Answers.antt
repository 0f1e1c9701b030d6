-- `storing::read_version` meets its contract.
use Prim.Native.Nat.{ℕ, ◌+◌, ◌-◌, ◌<◌}
use lib.ListN.{take, drop}
use mathlib.Core.Path.{◌≡◌, sym, ap, ◌∙◌}
use mathlib.Core.List.{List}
use native.Mathlib.Omega.{arith}
use Rattle.model.specs.Kinds.{width}
use Rattle.model.specs.Listed.{kind_of, listed_entry}
use Rattle.model.specs.declared.Kind.{Kind}
use Rattle.model.specs.Types.{Entry}
use Rattle.model.specs.Entries.{record_of}
use Rattle.model.specs.Records.{value_in, carries_version, record_place, record_at}
use Rattle.model.proofs.SlotLaws.{record-of-low}
use Rattle.model.proofs.RecordLaws.{record-part}
use Rattle.storing.proofs.read_version.Goals.{After-record_of}
use Rattle.storing.proofs.read_version.Goals as goal

-- the record that is read
record-is : (k : Kind) (s : List ℕ) (slot : ℕ) (e : Entry) (key at n : ℕ) → at ≡ record_place (kind_of k) slot n → n ≡ record_of e key → take (at + 24 - at) (drop at s) ≡ record_at (kind_of k) s slot (record_of e key)
record-is k s slot e key at n p q = record-part (kind_of k) s slot n at p ∙ ap (record_at (kind_of k) s slot) q

-- the record is one of the slot's
record-number : (c : After-record_of) → c.record_of.result < width (kind_of c.args.kind)
record-number c =
    let a = c.args in
    let p = c.requires in
    omega (arith, c.record_of.ensures, record-of-low (listed_entry a.e) a.key p.keys_len_bound.1, p.keys_len_bound.0)

pub record_place-at-requires : goal.record_place-at-requires
record_place-at-requires c = let p = c.requires in record { slot_bound = p.slot_bound; n_bound = record-number (goal.at.record_place-at-requires c).After-record_of }

pub returns-then-carries_version : goal.returns-then-carries_version
returns-then-carries_version c =
    let a = c.args in
    let q = record-is a.kind a.store.now a.slot (listed_entry a.e) a.key _ _ c.record_place-at.ensures.0 c.record_of.ensures in
    (sym (ap (λ (x : List ℕ). carries_version x a.key a.e.id) q) ∙ (sym c.carries_version.ensures ∙ c.if-carries_version.true), c.value_in.ensures ∙ ap value_in q)

pub returns-else-carries_version : goal.returns-else-carries_version
returns-else-carries_version c =
    let a = c.args in
    let q = record-is a.kind a.store.now a.slot (listed_entry a.e) a.key _ _ c.record_place-at.ensures.0 c.record_of.ensures in
    sym (ap (λ (x : List ℕ). carries_version x a.key a.e.id) q) ∙ (sym c.carries_version.ensures ∙ c.if-carries_version.false)
