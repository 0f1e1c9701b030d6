-- `logcheck::check_block` meets its contract.
use Prim.Native.Nat.{ℕ, ◌+◌, ◌≤◌}
use mathlib.Core.Path.{◌≡◌, sym, ap, ◌∙◌}
use mathlib.Core.List.{List}
use lib.ListN.{length, take, drop}
use lib.Seq.{length-take-le}
use native.Mathlib.Omega.{arith}
use Rattle.shoplog.specs.declared.Verdict.TheVariants.{Clean}
use Rattle.lines.specs.Lines.{first_line}
use Rattle.lines.proofs.JoinLaws.{line-within}
use Rattle.logcheck.specs.Checking.{line_checked, after_bytes}
use Rattle.logcheck.specs.Parts.{checking_of}
use Rattle.logcheck.proofs.BlockLaws.{at, line-begun, line-ended}
use Rattle.logcheck.proofs.CheckedLaws.{line-stops, line-goes}
use Rattle.lines.proofs.KeptLaws.{kept-within}
use Rattle.logcheck.proofs.check_block.Goals.{After-fill-first, After-judge_line-verdict}
use Rattle.logcheck.proofs.check_block.Goals as goal

-- no line has begun
pub returns-then-len-eq0 : goal.returns-then-len-eq0
returns-then-len-eq0 c =
    let a = c.args in
    let z = c.if-len-eq0.true in
    let r = c.check_lines.ensures in
    (r.0 ∙ ap (λ (n : ℕ). after_bytes a.input.now (checking_of Clean a.table.now a.above a.part.now n)) (sym z), r.1, omega (arith, r.2, z))

-- ── the first bytes joined the line ──
filled : (c : After-fill-first) → c.fill-first.result.len ≤ c.args.len + length (first_line c.args.input.now)
filled c =
    let f = c.fill-first in
    kept-within c.args.part.now f.new.part c.args.len f.result.len _ c.requires.1 c.requires.2 (f.auto.part ∙ c.requires.1) f.ensures.0 f.ensures.2

pub returns-then-first-input : goal.returns-then-first-input
unfolding checking_of
returns-then-first-input c =
    let f = (goal.at.returns-then-first-input c).After-fill-first in
    let a = f.args in (
      ap (at a.table.now a.above) f.fill-first.ensures.2 ∙ sym (line-begun a.input.now 0 f.fill-first.result.end f.fill-first.ensures.1 a.table.now a.above (take a.len a.part.now) c.if-first-input.true),
      f.fill-first.ensures.0,
      omega (arith, filled f, line-within a.input.now),
    )

pub slice_bounds-judge_line-end-2 : goal.slice_bounds-judge_line-end-2
slice_bounds-judge_line-end-2 c =
    let f = (goal.at.slice_bounds-judge_line-end-2 c).After-fill-first in
    sym (length-take-le f.fill-first.result.len f.fill-first.new.part (omega (arith, f.fill-first.ensures.0, f.fill-first.auto.part, f.requires.1)))

-- ── a newline ended it, and it was judged ──
ended : (c : After-judge_line-verdict)
    → (let f = c in let a = f.args in
    after_bytes (drop (f.fill-first.result.end + 1) a.input.now) (line_checked (take f.fill-first.result.len f.fill-first.new.part) a.table.now a.above)
    ≡ after_bytes a.input.now (at a.table.now a.above (take a.len a.part.now)))
ended c =
    let f = c in
    let a = f.args in
    ap (λ (l : List ℕ). after_bytes (drop (f.fill-first.result.end + 1) a.input.now) (line_checked l a.table.now a.above)) f.fill-first.ensures.2
    ∙ sym (line-ended a.input.now 0 f.fill-first.result.end f.fill-first.ensures.1 a.table.now a.above (take a.len a.part.now) (omega arith) c.if-first-input.false)

pub returns-in_default : goal.returns-in_default
unfolding checking_of
returns-in_default c =
    let e = (goal.at.returns-in_default c).After-judge_line-verdict in
    let j = e.judge_line-verdict in
    let a = e.args in (
      line-stops (take e.fill-first.result.len e.fill-first.new.part) a.table.now j.new.table a.above j.result j.ensures.0 j.ensures.1 _ c.in_default.not-Clean ∙ ended e,
      omega arith,
      omega arith,
    )

pub returns : goal.returns
unfolding checking_of
returns c =
    let e = (goal.at.returns c).After-judge_line-verdict in
    let j = e.judge_line-verdict in
    let a = e.args in
    let r = c.check_lines-2.ensures in (
      r.0
          ∙ ap (after_bytes (drop (e.fill-first.result.end + 1) a.input.now))
          (sym (line-goes (take e.fill-first.result.len e.fill-first.new.part) a.table.now j.new.table a.above j.result j.ensures.0 j.ensures.1 c.in-Clean.is))
          ∙ ended e,
      r.1,
      omega (arith, r.2),
    )
