-- `decimal::write_bytes` meets its contract.
use Prim.Native.Nat.{ℕ, ◌+◌}
use mathlib.Core.Path.{refl, sym, ap, ◌∙◌}
use mathlib.Core.List.{List}
use lib.ListN.{get_or, set, length-set}
use lib.Seq.{paste, paste-zero, paste-suc}
use native.Mathlib.Omega.{arith}
use native.Mathlib.Numerals.{add-one}
use Rattle.decimal.proofs.WrittenLaws.{pasted-all}
use Rattle.decimal.proofs.write_bytes.Goals as goal

pub loop-i-init : goal.loop-i-init
loop-i-init c =
    let a = c.args in
    record { long = refl; pasted = paste-zero a.out.now a.start a.w.now }

pub loop-i-preserved : goal.loop-i-preserved
loop-i-preserved c =
    let a = c.args in
    let l = c.loop-i in
    record {
      long = length-set l.out (a.start + l.i) _ ∙ l.invariant.long;
      pasted = ap (λ (s : List ℕ). set s (a.start + l.i) (get_or a.w.now l.i 0)) l.invariant.pasted ∙ paste-suc a.out.now a.start a.w.now l.i 0 (omega arith) (omega arith) ∙ ap (paste a.out.now a.start a.w.now) (sym (add-one l.i));
    }

pub returns : goal.returns
returns c =
    let a = c.args in
    (refl, c.loop-i.invariant.pasted ∙ pasted-all a.out.now a.start a.w.now c.loop-i.i (omega arith))
