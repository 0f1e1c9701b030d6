use Prim.Native.Nat.{ℕ, ◌+◌, ◌<◌}
use mathlib.Core.Path.{◌≡◌, refl, sym, ap, subst, ◌∙◌}
use mathlib.Core.Bool.{false, not}
use mathlib.Core.List.{List}
use lib.Bits.{bit_or}
use lib.ListN.{length, take, get_or, length-set, length-take}
use lib.Seq.{get_or-take}
use native.Mathlib.Omega.{arith}
use Rattle.model.specs.Types.{Entry}
use Rattle.model.specs.Lists.{all}
use Rattle.model.specs.KeySets.{key_set}
use Rattle.model.specs.Listed.{listed_entries}
use Rattle.model.specs.Entries.{keys_of}
use Rattle.model.proofs.Tests.{and_intro, and-none-left, and-none-right}
use Rattle.model.proofs.ListedLaws.{zero_entry, listed-any}
use Rattle.reading.specs.Columns.{nth_entry}
use Rattle.reading.proofs.KeyLoop.{Collecting, collecting-start}
use Rattle.sweeping.specs.Sifted.{wrote_before, keeps, AreSifted}
use Rattle.sweeping.proofs.SiftLaws.{row_wrote, seen_more, seen-before, sifted-start, sifted-skip, sifted-keep}
use Rattle.sweeping.proofs.sifted.Goals.{After-is_within, then-is_within+then-not-read-d, else-is_within, else-is_within-via-then-is_within+else-not-read-d, else-is_within-via-else-is_within}
use Rattle.sweeping.proofs.sifted.Goals as goal

pub loop-s-init : goal.loop-s-init
loop-s-init c = (refl, collecting-start _ _, sifted-start _ _ _ _)

abbrev es : After-is_within → List Entry
es c = listed_entries c.args.entries.now

abbrev xs : After-is_within → List ℕ
xs c = c.args.order.now.slots

-- the order has it
inside : (c : After-is_within) → (c.loop-s.s-index < c.args.order.now.n) × (c.loop-s.s-index < length (xs c))
inside c =
    let e = c.slots-s-items.ensures in
    let l : length (take c.args.order.now.n (xs c)) ≡ c.args.order.now.n = ap (length {A = ℕ}) (sym e.first) ∙ e.long in
    (omega (arith, c.loop-s-test.true, e.long), omega (arith, c.loop-s-test.true, e.long, l, length-take c.args.order.now.n (xs c)))

-- the row at hand, as an index
row : (c : After-is_within) → c.from-d.result ≡ get_or (xs c) c.loop-s.s-index 0
row c = c.from-d.ensures ∙ (ap (λ (ys : List ℕ). get_or ys c.loop-s.s-index 0) c.slots-s-items.ensures.first ∙ get_or-take c.args.order.now.n (xs c) c.loop-s.s-index 0 (inside c).0)

-- the keys of its entry
abbrev set : After-is_within → ℕ
set c = (get_or c.args.entries.now c.from-d.result zero_entry).keys

row-keys : (c : After-is_within) → key_set (set c) ≡ keys_of (nth_entry (es c) (get_or (xs c) c.loop-s.s-index 0))
row-keys c = sym (ap (λ (e : Entry). keys_of e) (listed-any c.args.entries.now c.from-d.result)) ∙ ap (λ (x : ℕ). keys_of (nth_entry (es c) x)) (row c)

-- whether it is superseded by the rows before
old : (c : After-is_within) → all (wrote_before (es c) (xs c) c.loop-s.s-index) (keys_of (nth_entry (es c) (get_or (xs c) c.loop-s.s-index 0))) ≡ c.is_within.result
old c = sym (c.is_within.ensures ∙ (seen-before (es c) (xs c) c.loop-s.s-index c.loop-s.seen c.loop-s.invariant.1 (key_set (set c)) ∙ ap (all (wrote_before (es c) (xs c) c.loop-s.s-index)) (row-keys c)))

read : (c : After-is_within) → get_or c.args.read.now (get_or (xs c) c.loop-s.s-index 0) false ≡ get_or c.args.read.now c.from-d.result false
read c = ap (λ (x : ℕ). get_or c.args.read.now x false) (sym (row c))

-- the keys of one row more
more : (c : After-is_within) → Collecting (row_wrote (es c) (xs c)) (xs c) (c.loop-s.s-index + 1) (bit_or c.loop-s.seen (set c))
more c = seen_more (es c) (xs c) c.loop-s.s-index c.loop-s.seen c.loop-s.invariant.1 (inside c).1 (set c) (row-keys c)

pub loop-s-preserved : goal.loop-s-preserved
unfolding keeps
loop-s-preserved c =
    let a = (goal.at.loop-s-preserved c).After-is_within in
    let h = c.loop-s.invariant in
    let o = (inside a).0 in
    elim c.if-is_within.branch [
      | then-is_within+then-not-read-d w ↦ rw (w.slots-is, w.n-is) (
        length-set c.loop-s.slots c.loop-s.n _ ∙ h.0,
        more a,
        sifted-keep _ _ _ _ _ _ h.2 (and_intro _ _ (old a ∙ w.if-is_within.true) (ap not (read a ∙ w.if-not-read-d.true))) (omega (arith, h.0, h.2.fits, c.requires.0)) _ (sym c.from-d.ensures ∙ row a),
      )
      | else-is_within w ↦ rw (w.slots-is, w.n-is) (
        h.0,
        more a,
        sifted-skip _ _ _ _ _ _ h.2 (elim w.else-is_within.branch [
          | else-is_within-via-then-is_within+else-not-read-d v ↦ and-none-right _ _ (ap not (read a ∙ v.if-not-read-d.false))
          | else-is_within-via-else-is_within v ↦ and-none-left _ _ (old a ∙ v.if-is_within.false)
        ]),
      )
    ]

pub returns : goal.returns
returns c =
    let q : c.loop-s.s-index ≡ c.args.order.now.n = omega (arith, c.loop-s-test.false, c.slots-s-items.ensures.long) in
    subst (λ (x : ℕ). AreSifted (listed_entries c.args.entries.now) c.args.order.now.slots c.args.read.now x c.loop-s.n c.loop-s.slots) q c.loop-s.invariant.2
