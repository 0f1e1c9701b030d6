use Prim.Native.Nat.{ℕ, ◌-◌, suc}
use mathlib.Core.Path.{◌≡◌, refl, sym, ap, ◌∙◌}
use mathlib.Core.Bool.{cond}
use mathlib.Core.List.{map}
use native.Mathlib.Omega.{arith}
use Rattle.model.specs.Types as L
use Rattle.model.specs.Listed.{kind_of, listed_lives, listed_entries}
use Rattle.model.specs.Lists.{any_below}
use Rattle.model.specs.Limits.{entry_places}
use Rattle.model.specs.Stations.{is_free}
use Rattle.model.specs.Commit.{highest_free}
use Rattle.model.proofs.ListedLaws.{kind_fits}
use Rattle.stations.specs.Found.{station_of, live_mark}
use Rattle.stations.proofs.Free.{highest, highest-none, highest-hit, highest-miss, free, free-held, free-closing, free-neither, highest-free}
use Rattle.stations.proofs.highest_free.Invariants.{held-as}
use Rattle.stations.proofs.highest_free.Goals.{else-entries-slot-eq0-via-then-entries-slot-eq0+else-not-is_marked, else-entries-slot-eq0-via-else-entries-slot-eq0}
use Rattle.stations.proofs.highest_free.Goals as goal

-- what the highest below n comes to
highest-is : (st : L.Station) (k n : ℕ) → let f = free st.entries (map live_mark st.live) in
    highest f k ≡ highest f n → k ≡ st.kind.slots → highest f n ≡ cond (any_below (is_free st) st.kind.slots) (highest_free st) entry_places
highest-is st k n i e = sym i ∙ (ap (highest (free st.entries (map live_mark st.live))) e ∙ highest-free st (map live_mark st.live) refl)

pub loop-slot-init : goal.loop-slot-init
loop-slot-init c = (omega (arith, c.slots-slot.ensures, (kind_fits c.args.kind).slots-fit), refl)

pub returns-then-not-is_marked : goal.returns-then-not-is_marked
returns-then-not-is_marked c =
    let a = c.args in
    let es = listed_entries a.entries in
    let ms = map live_mark (listed_lives a.live) in
    let e : c.loop-slot.slot ≡ suc (c.loop-slot.slot - 1) = omega arith in
    sym (highest-hit (free es ms) c.loop-slot.slot _ e (free-neither es ms _ (held-as a.entries _ ∙ c.if-entries-slot-eq0.true) (sym c.is_marked.ensures ∙ c.if-not-is_marked.true)))
    ∙ highest-is (station_of (kind_of a.kind) (listed_lives a.live) es) _ _ c.loop-slot.invariant.1 c.slots-slot.ensures

pub loop-slot-preserved : goal.loop-slot-preserved
loop-slot-preserved c =
    let a = c.args in
    let es = listed_entries a.entries in
    let ms = map live_mark (listed_lives a.live) in
    let e : c.loop-slot.slot ≡ suc (c.loop-slot.slot - 1) = omega arith in
    (omega arith, c.loop-slot.invariant.1 ∙ highest-miss (free es ms) c.loop-slot.slot _ e (elim c.else-entries-slot-eq0.branch [ else-entries-slot-eq0-via-then-entries-slot-eq0+else-not-is_marked w ↦ free-closing es ms _ (sym w.is_marked.ensures ∙ w.if-not-is_marked.false) | else-entries-slot-eq0-via-else-entries-slot-eq0 w ↦ free-held es ms _ (λ z. w.if-entries-slot-eq0.false (sym (held-as a.entries _) ∙ z)) ]))

pub returns : goal.returns
returns c =
    let a = c.args in
    let es = listed_entries a.entries in
    let f = free es (map live_mark (listed_lives a.live)) in
    let q : c.loop-slot.slot ≡ 0 = omega arith in
    sym (highest-none f) ∙ (sym (ap (highest f) q) ∙ highest-is (station_of (kind_of a.kind) (listed_lives a.live) es) _ _ c.loop-slot.invariant.1 c.slots-slot.ensures)
