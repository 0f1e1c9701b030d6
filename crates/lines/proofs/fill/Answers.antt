-- `lines::fill` meets its contract.
use Prim.Native.Nat.{ℕ, ◌+◌, ◌-◌, min}
use mathlib.Core.Path.{◌≡◌, refl, ap, ◌∙◌}
use lib.ListN.{length, take, drop, length-drop}
use lib.Seq.{length-take-le}
use native.Mathlib.Omega.{arith}
use Rattle.lines.specs.Lines.{first_line}
use Rattle.lines.proofs.JoinLaws.{line-within}
use Rattle.lines.proofs.KeptLaws.{filled}
use Rattle.lines.proofs.fill.Goals as goal

pub slice_bounds-bytes-end : goal.slice_bounds-bytes-end
slice_bounds-bytes-end c =
    let bs = drop c.args.start c.args.input.now in
    omega (arith, line-within bs, length-drop c.args.start c.args.input.now)

pub returns : goal.returns
returns c =
    let a = c.args in
    let bs = drop a.start a.input.now in
    let m = c.min-more in
    let j : a.start + m.result - a.start ≡ m.result = omega arith in
    let now = c.copy_from_slice.ensures.after ∙ ap (λ (n : ℕ). take n bs) j in
    let long : length c.copy_from_slice.new.self ≡ m.result = omega (arith, line-within bs, length-drop a.start a.input.now, length-take-le m.result bs, ap length now) in
    let room : m.result ≡ min (65 - a.len) (length (first_line bs)) = omega (arith, m.ensures, c.line_end-end.ensures) in (
      omega arith,
      c.line_end-end.ensures,
      filled a.part.now bs c.copy_from_slice.new.self a.len m.result _ _ c.requires.0 c.requires.1 room now long refl,
    )
