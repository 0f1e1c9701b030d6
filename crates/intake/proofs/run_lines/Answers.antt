use Prim.Native.Nat.{◌+◌, ◌-◌, ◌≤◌}
use mathlib.Core.Path.{◌≡◌, refl, ◌∙◌}
use lib.ListN.{length, drop, length-take, length-drop}
use borrow.Rule.Slice.PartMut.{same_len_mid}
use native.Mathlib.Omega.{arith}
use Rattle.lines.proofs.JoinLaws.{line-within}
use Rattle.lines.proofs.StopLaws.{stops}
use Rattle.intake.proofs.BlockLaws.{passed_none, passed-all, passed-fill, passed-line, first-fill}
use Rattle.intake.proofs.run_lines.Goals as goal

pub loop-end-init : goal.loop-end-init
loop-end-init c =
    let f = c.fill-first in
    let o : f.result.end ≤ length c.args.input.now = omega (arith, f.ensures.1, line-within c.args.input.now) in
    (o, f.ensures.0, omega arith, omega arith, f.auto.part ∙ c.requires.0, refl, refl, passed_none c.args.input.now c.args.out.now _ f.result.end, stops c.args.input.now 0 f.result.end f.ensures.1 (omega arith), c.requires.4)

pub overflow_add-used : goal.overflow_add-used
overflow_add-used c =
    let r = c.run_line-ran in
    let l = c.loop-end in
    record { fits = omega (arith, r.ensures.1, l.invariant.2, c.requires.3, c.well_formed.1.1.1.1.1.1.1.0, c.loop-end-test.true) }

pub loop-end-preserved : goal.loop-end-preserved
loop-end-preserved c =
    let f = c.fill-line in
    let r = c.run_line-ran in
    let l = c.loop-end in
    let o = c.loop-end-test.true in
    let i = c.args.input.now in
    let g : f.result.end ≤ length i = omega (arith, o, f.ensures.1, line-within (drop (l.end + 1) i), length-drop (l.end + 1) i) in
    let m : length r.new.out ≡ length l.out - l.used = r.auto.out ∙ (simp (length-take, length-drop) (omega arith)) in
    let u : l.used ≤ length l.out = omega (arith, l.invariant.0, l.invariant.2, l.invariant.5, c.requires.3) in
    let v : r.result.used ≤ length r.new.out = omega (arith, m, o, r.ensures.1, l.invariant.2, l.invariant.5, c.requires.3) in (
      g,
      f.ensures.0,
      omega (arith, r.ensures.1, f.ensures.1, l.invariant.2),
      omega (arith, f.ensures.1, l.invariant.3),
      f.auto.part ∙ l.invariant.4,
      same_len_mid l.used (length l.out - l.used) l.out r.new.out r.auto.out ∙ l.invariant.5,
      r.auto.store ∙ l.invariant.6,
      passed-fill i _ _ c.args.out.now r.result.station r.new.store (l.next + 1) l.part 0 (l.end + 1) (l.used + r.result.used) _
          (passed-line i _ _ c.args.out.now l.s l.store l.next l.part l.n l.end l.used l.out l.invariant.7 (l.invariant.8 o)
          r.result.station r.new.store r.new.out r.result.used u v m r.ensures.0 r.ensures.2 r.ensures.3)
          f.new.part f.result.len f.result.end f.ensures.1 f.ensures.2,
      stops i (l.end + 1) f.result.end f.ensures.1 (omega (arith, o)),
      r.ensures.4,
    )

pub returns : goal.returns
returns c =
    let l = c.loop-end in
    let f = c.fill-first in
    let d = passed-all c.args.input.now _ _ c.args.out.now l.s l.store l.next l.part l.n l.end l.used l.out l.invariant.7 (omega arith) in
    let w = first-fill c.args.input.now c.args.station c.args.store.now c.args.number c.args.part.now c.args.len f.new.part f.result.len f.result.end f.ensures.1 f.ensures.2 in
    (d.0 ∙ w.0, d.1 ∙ w.1, l.invariant.7.rest-is, omega (arith, l.invariant.0, l.invariant.2), l.invariant.1, omega (arith, l.invariant.0, l.invariant.3))
