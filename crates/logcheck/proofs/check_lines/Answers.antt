use Prim.Native.Nat.{◌+◌, ◌-◌, ◌≤◌}
use mathlib.Core.Path.{◌≡◌, refl, sym, ap, ◌∙◌}
use mathlib.Core.List.{[]}
use lib.ListN.{length, take, drop, length-drop}
use native.Mathlib.Omega.{arith}
use Rattle.lines.proofs.JoinLaws.{line-within}
use Rattle.logcheck.specs.Checking.{line_checked, after_bytes}
use Rattle.logcheck.specs.Parts.{checking_of}
use Rattle.logcheck.proofs.BlockLaws.{at, line-begun, line-whole}
use Rattle.logcheck.proofs.CheckedLaws.{line-stops, line-goes}
use Rattle.lines.proofs.KeptLaws.{kept-within}
use Rattle.logcheck.proofs.check_lines.Goals.{In-loop-end}
use Rattle.logcheck.proofs.check_lines.Goals as goal

pub loop-end-init : goal.loop-end-init
loop-end-init c =
    let i = c.args.input.now in
    let e = c.line_end-end.ensures in
    (c.requires.2, omega (arith, e, c.requires.2, line-within (drop c.args.start i), length-drop c.args.start i), c.requires.0, omega arith, e, refl)

-- the line at hand, ended by a newline
taken-line : (c : In-loop-end)
    → (let l = c.loop-end in let i = c.args.input.now in
    after_bytes (drop l.from i) (at l.table l.n []) ≡ after_bytes (drop (l.end + 1) i) (line_checked (take (l.end - l.from) (drop l.from i)) l.table l.n))
taken-line c =
    let l = c.loop-end in
    line-whole c.args.input.now l.from l.end l.invariant.4 l.table l.n l.invariant.0 c.loop-end-test.true

pub returns-in_default : goal.returns-in_default
unfolding checking_of
returns-in_default c =
    let j = c.judge_line-verdict in
    let l = c.loop-end in
    let i = c.args.input.now in (
      line-stops _ l.table j.new.table l.n j.result j.ensures.0 j.ensures.1 (drop (l.end + 1) i) c.in_default.not-Clean ∙ sym (l.invariant.5 ∙ taken-line (goal.at.returns-in_default c).In-loop-end),
      omega arith,
      omega (arith, l.invariant.0, l.invariant.3),
    )

pub loop-end-preserved : goal.loop-end-preserved
loop-end-preserved c =
    let j = c.judge_line-verdict in
    let t = (goal.at.loop-end-preserved c).In-loop-end in
    let l = t.loop-end in
    let i = c.args.input.now in
    let e = c.line_end-end-in-loop-end.ensures in
    let o : l.end + 1 ≤ length i = omega (arith, t.loop-end-test.true) in (
      o,
      omega (arith, o, e, line-within (drop (l.end + 1) i), length-drop (l.end + 1) i),
      j.auto.table ∙ l.invariant.2,
      omega (arith, l.invariant.3, l.invariant.4),
      e,
      l.invariant.5 ∙ taken-line t ∙ ap (after_bytes (drop (l.end + 1) i)) (line-goes _ l.table j.new.table l.n j.result j.ensures.0 j.ensures.1 c.in-Clean.is),
    )

pub returns : goal.returns
unfolding checking_of
returns c =
    let f = c.fill-last in
    let l = c.loop-end in
    let i = c.args.input.now in
    let k = kept-within c.args.part.now f.new.part 0 f.result.len _ c.requires.1 (omega arith) (f.auto.part ∙ c.requires.1) f.ensures.0 f.ensures.2 in (
      ap (at l.table l.n) f.ensures.2 ∙ sym (l.invariant.5 ∙ line-begun i l.from l.end l.invariant.4 l.table l.n [] c.loop-end-test.false),
      f.ensures.0,
      omega (arith, k, l.invariant.1, l.invariant.3, l.invariant.4),
    )
